-- The elements of a frame that is made of its planes, or of the rows of its planes.
use Rattle.std.proofs.Common.{◌≡◌, ℕ, zero, suc, ◌+◌, ◌-◌, ◌*◌, ◌<◌, ◌≤◌, ⊎_elim, true, List, [], ◌∷◌, ◌++◌, length, take, drop}
use Rattle.std.proofs.Common.{slice_index, refl, sym, ap, ◌∙◌, arith}
use Rattle.std.specs.Prelude.{sum, nat_eq, nat_le, ◌&&◌}
use Rattle.std.specs.List.{list_all}
use Rattle.std.proofs.lemmas.Bool.{cases_lt, and_parts, eqb-true, leb-true}
use Rattle.std.proofs.lemmas.List.{get_or-append-add, get_or-take, get_or-drop}
use Rattle.std.proofs.Math.ListN.{get_or-append}
use Rattle.std.proofs.Math.Nat.{mul-le-mul_right}
use Rattle.op_list.specs.declared.types.PixType.{PixType}
use Rattle.op_list.specs.declared.position.PixelPosition.{PixelPosition}
use Rattle.op_list.specs.Types.{bytes}
use Rattle.op_list.specs.Typing.{are_counts, are_in_front}
use Rattle.op_list.specs.Pixel.{number_at, element, element_in, element_of, pixel_count, pixel_number}
use Rattle.op_list.proofs.Elements.{sum-cons, in_first, in_rest}
use Rattle.op_list.proofs.Stored.{element_of-is, element_of-past, number_below}
use Rattle.kernel_planes.specs.Planes.{row_at, row_element, row_frame, row_list}
use Rattle.kernel_planes.proofs.PlaneRows.{element_here, element_later, element_past, row_later}

-- ---- the number of some bytes of a part
number_front : (count : ℕ) (a b : List ℕ) (at : ℕ) → at + count ≤ length a → number_at count (a ++ b) at ≡ number_at count a at
number_front zero a b at room = refl
number_front (suc count) a b at room =
    let first : slice_index (a ++ b) at ≡ slice_index a at = get_or-append a b 0 at (omega (arith, room)) in
    let rest : number_at count (a ++ b) (at + 1) ≡ number_at count a (at + 1) = number_front count a b (at + 1) (omega (arith, room)) in
    omega (arith, first, rest)

number_behind : (count : ℕ) (a b : List ℕ) (at : ℕ) → number_at count (a ++ b) (length a + at) ≡ number_at count b at
number_behind zero a b at = refl
number_behind (suc count) a b at =
    let first : slice_index (a ++ b) (length a + at) ≡ slice_index b at = get_or-append-add a b at 0 in
    let next : length a + at + 1 ≡ length a + (at + 1) = omega arith in
    let rest : number_at count (a ++ b) (length a + at + 1) ≡ number_at count b (at + 1) =
    ap (number_at count (a ++ b)) next ∙ number_behind count a b (at + 1) in
    omega (arith, first, rest)

number_part : (count : ℕ) (f : List ℕ) (start size at : ℕ) → at + count ≤ size
    → number_at count (take size (drop start f)) at ≡ number_at count f (start + at)
number_part zero f start size at room = refl
number_part (suc count) f start size at room =
    let first : slice_index (take size (drop start f)) at ≡ slice_index f (start + at) =
    get_or-take size (drop start f) at 0 (omega (arith, room)) ∙ get_or-drop start f at 0 in
    let next : start + (at + 1) ≡ start + at + 1 = omega arith in
    let rest : number_at count (take size (drop start f)) (at + 1) ≡ number_at count f (start + at + 1) =
    number_part count f start size (at + 1) (omega (arith, room)) ∙ ap (number_at count f) next in
    omega (arith, first, rest)

-- ---- an element of a part
pub element_front : (elem : PixType) (a b : List ℕ) (k : ℕ) → (k + 1) * bytes elem ≤ length a
    → element elem (a ++ b) k ≡ element elem a k
element_front elem a b k room = number_front (bytes elem) a b (k * bytes elem) (omega (arith, room))

pub element_behind : (elem : PixType) (a b : List ℕ) (m k : ℕ) → length a ≡ m * bytes elem
    → element elem (a ++ b) (m + k) ≡ element elem b k
element_behind elem a b m k size =
    let place : (m + k) * bytes elem ≡ length a + k * bytes elem = omega (arith, size) in
    ap (number_at (bytes elem) (a ++ b)) place ∙ number_behind (bytes elem) a b (k * bytes elem)

pub element_part : (elem : PixType) (f : List ℕ) (m count k : ℕ) → k < count
    → element elem (take (count * bytes elem) (drop (m * bytes elem) f)) k ≡ element elem f (m + k)
element_part elem f m count k inside =
    let rows : (k + 1) * bytes elem ≤ count * bytes elem = mul-le-mul_right (bytes elem) (omega (arith, inside)) in
    let place : m * bytes elem + k * bytes elem ≡ (m + k) * bytes elem = omega arith in
    number_part (bytes elem) f (m * bytes elem) (count * bytes elem) (k * bytes elem) (omega (arith, rows))
    ∙ ap (number_at (bytes elem) f) place

-- ---- element v of a pixel
index_later : (pixels pixel before n : ℕ) (planes : List ℕ) (i : ℕ) → i < sum planes
    → element_in pixels pixel (before + n) planes i ≡ pixels * n + element_in pixels pixel before planes i
index_later pixels pixel before n [] i within = absurd (omega (arith, within))
index_later pixels pixel before n (m ∷ planes) i within =
    ⊎_elim
    (λ (here : i < m). omega (arith, in_first pixels pixel (before + n) m i planes here, in_first pixels pixel before m i planes here))
    (λ (later : m ≤ i).
    let swap : before + n + m ≡ before + m + n = omega arith in
    let rest : element_in pixels pixel (before + m + n) planes (i - m) ≡ pixels * n + element_in pixels pixel (before + m) planes (i - m) =
    index_later pixels pixel (before + m) n planes (i - m) (omega (arith, within, later, sum-cons m planes)) in
    in_rest pixels pixel (before + n) m i planes later ∙ ap (λ t. element_in pixels pixel t planes (i - m)) swap ∙ rest
    ∙ ap (λ t. pixels * n + t) (sym (in_rest pixels pixel before m i planes later)))
    (cases_lt i m)

frame_parts : (rows : List (List ℕ)) (behind : List ℕ) → row_frame rows behind ≡ row_at rows 0 ++ row_frame (drop 1 rows) behind
frame_parts [] behind = refl
frame_parts (row ∷ rows) behind = refl

frame_element : (elem : PixType) (planes : List ℕ) (rows : List (List ℕ)) (behind : List ℕ) (pixels pixel v : ℕ)
    → ((p : ℕ) → length (row_at rows p) ≡ pixels * slice_index planes p * bytes elem) → pixel < pixels → v < sum planes
    → element elem (row_frame rows behind) (element_in pixels pixel 0 planes v) ≡ row_element elem planes rows pixel v
frame_element elem [] rows behind pixels pixel v sizes inside within = absurd (omega (arith, within))
frame_element elem (n ∷ planes) rows behind pixels pixel v sizes inside within =
    let first = row_at rows 0 in
    let rest = row_frame (drop 1 rows) behind in
    let size : length first ≡ pixels * n * bytes elem = sizes 0 in
    ⊎_elim
    (λ (here : v < n).
    let place : element_in pixels pixel 0 (n ∷ planes) v ≡ pixel * n + v = omega (arith, in_first pixels pixel 0 n v planes here) in
    let row : (pixel + 1) * n ≤ pixels * n = mul-le-mul_right n (omega (arith, inside)) in
    let ends : (pixel * n + v + 1) * bytes elem ≤ pixels * n * bytes elem = mul-le-mul_right (bytes elem) (omega (arith, row, here)) in
    ap (λ f. element elem f (element_in pixels pixel 0 (n ∷ planes) v)) (frame_parts rows behind)
    ∙ ap (element elem (first ++ rest)) place
    ∙ element_front elem first rest (pixel * n + v) (omega (arith, ends, size))
    ∙ sym (element_here elem n planes rows pixel v here))
    (λ (later : n ≤ v).
    let less : v - n < sum planes = omega (arith, within, later, sum-cons n planes) in
    let place : element_in pixels pixel 0 (n ∷ planes) v ≡ pixels * n + element_in pixels pixel 0 planes (v - n) =
    in_rest pixels pixel 0 n v planes later ∙ index_later pixels pixel 0 n planes (v - n) less in
    ap (λ f. element elem f (element_in pixels pixel 0 (n ∷ planes) v)) (frame_parts rows behind)
    ∙ ap (element elem (first ++ rest)) place
    ∙ element_behind elem first rest (pixels * n) (element_in pixels pixel 0 planes (v - n)) size
    ∙ frame_element elem planes (drop 1 rows) behind pixels pixel (v - n)
    (λ p. ap length (row_later rows p) ∙ sizes (suc p)) inside less
    ∙ sym (element_later elem n planes rows pixel v later))
    (cases_lt v n)

-- element v of a pixel of the frame that parts make is the one of its part
pub frame_of_parts : (elem : PixType) (planes : List ℕ) (rows : List (List ℕ)) (behind : List ℕ) (position : PixelPosition) (v : ℕ)
    → ((p : ℕ) → length (row_at rows p) ≡ pixel_count position * slice_index planes p * bytes elem)
    → position.x < position.width → position.row < position.rows
    → element_of elem planes (row_frame rows behind) position v ≡ row_element elem planes rows (pixel_number position) v
frame_of_parts elem planes rows behind position v sizes column row =
    ⊎_elim
    (λ (here : v < sum planes).
    element_of-is elem planes (row_frame rows behind) position v here
    ∙ frame_element elem planes rows behind (pixel_count position) (pixel_number position) v sizes (number_below position column row) here)
    (λ (past : sum planes ≤ v).
    element_of-past elem planes (row_frame rows behind) position v past
    ∙ sym (element_past elem planes rows (pixel_number position) v past))
    (cases_lt v (sum planes))

-- ---- there are at most four planes
none_behind : (ns : List ℕ) (p : ℕ) → list_all (λ n. nat_eq n 0) ns ≡ true → slice_index ns p ≡ 0
none_behind [] p h = refl
none_behind (zero ∷ ns) zero h = refl
none_behind (zero ∷ ns) (suc p) h = none_behind ns p (and_parts true (list_all (λ n. nat_eq n 0) ns) h).1
none_behind (suc n ∷ ns) p h =
    let same : suc n ≡ 0 = eqb-true (suc n) 0 (and_parts (nat_eq (suc n) 0) (list_all (λ n. nat_eq n 0) ns) h).0
    in absurd (omega (arith, same))

in_front_below : (ns : List ℕ) (p : ℕ) → are_in_front ns ≡ true → 0 < slice_index ns p → p < sum ns
in_front_below [] p h some = absurd (omega (arith, some))
in_front_below (zero ∷ ns) zero h some = absurd (omega (arith, some))
in_front_below (zero ∷ ns) (suc p) h some = absurd (omega (arith, some, none_behind ns p h))
in_front_below (suc n ∷ ns) zero h some = omega (arith, sum-cons (suc n) ns)
in_front_below (suc n ∷ ns) (suc p) h some = omega (arith, sum-cons (suc n) ns, in_front_below ns p h some)

pub no_fifth : (planes : List ℕ) (p : ℕ) → are_counts 4 planes ≡ true → 4 ≤ p → slice_index planes p ≡ 0
no_fifth planes p good past =
    let q = and_parts (are_in_front planes && nat_le 1 (sum planes)) (nat_le (sum planes) 4) good in
    let front = (and_parts (are_in_front planes) (nat_le 1 (sum planes)) q.0).0 in
    let few : sum planes ≤ 4 = leb-true _ _ q.1 in
    ⊎_elim
    (λ (none : slice_index planes p < 1). omega (arith, none))
    (λ (some : 1 ≤ slice_index planes p). absurd (omega (arith, few, past, in_front_below planes p front some)))
    (cases_lt (slice_index planes p) 1)

pub all_sizes : (elem : PixType) (planes : List ℕ) (pixels : ℕ) (a b c d : List ℕ) → are_counts 4 planes ≡ true
    → ((p : ℕ) → p < 4 → length (row_at (row_list a b c d) p) ≡ pixels * slice_index planes p * bytes elem)
    → (p : ℕ) → length (row_at (row_list a b c d) p) ≡ pixels * slice_index planes p * bytes elem
all_sizes elem planes pixels a b c d good sizes zero = sizes 0 (omega arith)
all_sizes elem planes pixels a b c d good sizes (suc zero) = sizes 1 (omega arith)
all_sizes elem planes pixels a b c d good sizes (suc (suc zero)) = sizes 2 (omega arith)
all_sizes elem planes pixels a b c d good sizes (suc (suc (suc zero))) = sizes 3 (omega arith)
all_sizes elem planes pixels a b c d good sizes (suc (suc (suc (suc p)))) =
    let none : slice_index planes (suc (suc (suc (suc p)))) ≡ 0 = no_fifth planes (suc (suc (suc (suc p)))) good (omega arith) in
    rw none (let zero_is : 0 ≡ pixels * 0 * bytes elem = omega arith in zero_is)

-- element v of a pixel of a frame of one row
pub row_of_frame : (elem : PixType) (planes : List ℕ) (rows : List (List ℕ)) (behind : List ℕ) (position : PixelPosition) (v : ℕ)
    → ((p : ℕ) → length (row_at rows p) ≡ position.width * slice_index planes p * bytes elem)
    → position.rows ≡ 1 → position.row ≡ 0 → position.x < position.width
    → element_of elem planes (row_frame rows behind) position v ≡ row_element elem planes rows position.x v
row_of_frame elem planes rows behind position v sizes one none column =
    let count : position.width ≡ pixel_count position =
    (let same : position.width ≡ position.width * 1 = omega arith in same) ∙ ap (λ t. position.width * t) (sym one) in
    let place : pixel_number position ≡ position.x =
    ap (λ t. t * position.width + position.x) none ∙ (let same : 0 * position.width + position.x ≡ position.x = omega arith in same) in
    frame_of_parts elem planes rows behind position v
    (λ p. sizes p ∙ ap (λ t. t * slice_index planes p * bytes elem) count) column (omega (arith, one, none))
    ∙ ap (λ t. row_element elem planes rows t v) place

-- other rows of the same lengths
pub same_sizes : (a b c d i j k l : List ℕ) (size : ℕ → ℕ) → length i ≡ length a → length j ≡ length b → length k ≡ length c
    → length l ≡ length d → ((p : ℕ) → p < 4 → length (row_at (row_list a b c d) p) ≡ size p)
    → (p : ℕ) → p < 4 → length (row_at (row_list i j k l) p) ≡ size p
same_sizes a b c d i j k l size first second third fourth sizes zero below = first ∙ sizes 0 below
same_sizes a b c d i j k l size first second third fourth sizes (suc zero) below = second ∙ sizes 1 below
same_sizes a b c d i j k l size first second third fourth sizes (suc (suc zero)) below = third ∙ sizes 2 below
same_sizes a b c d i j k l size first second third fourth sizes (suc (suc (suc zero))) below = fourth ∙ sizes 3 below
same_sizes a b c d i j k l size first second third fourth sizes (suc (suc (suc (suc p)))) below = absurd (omega (arith, below))
