-- The elements of the pixels of a block in the rows of planes.
use Rattle.std.proofs.Common.{◌≡◌, ◌≢◌, ℕ, zero, suc, ◌+◌, ◌-◌, ◌*◌, ◌<◌, ◌≤◌, ◌⊎◌, inl, inr, ⊎_elim, List, [], ◌∷◌, take, drop}
use Rattle.std.proofs.Common.{slice_index, refl, sym, ap, ◌∙◌, arith}
use Rattle.std.specs.Prelude.{sum}
use Rattle.std.proofs.lemmas.Bool.{cases_lt, cond_below, cond_above}
use Rattle.std.proofs.lemmas.Grind.{get_or_after_one}
use Rattle.std.proofs.lemmas.Nat.{same_from_place}
use Rattle.std.proofs.Math.Nat.{mul-le-mul_right}
use Rattle.op_list.specs.declared.types.PixType.{PixType}
use Rattle.op_list.specs.Pixel.{element}
use Rattle.op_list.proofs.Elements.{sum-cons}
use Rattle.kernel_planes.specs.Planes.{row_at, row_element, row_list}

-- ---- the elements of a plane
-- each of the first n pixels from x on has its elements in the row
pub lane_end : (x i n count e size all : ℕ) → e < count → i < n → (x + n) * count * size ≤ all
    → (x * count + e + i * count + 1) * size ≤ all
lane_end x i n count e size all here within room =
    let rows : (x + i + 1) * count ≤ (x + n) * count = mul-le-mul_right count (omega (arith, within)) in
    let last : x * count + e + i * count + 1 ≤ (x + n) * count = omega (arith, rows, here) in
    let sized : (x * count + e + i * count + 1) * size ≤ (x + n) * count * size = mul-le-mul_right size last in
    omega (arith, sized, room)

-- n pixels from x on lie in a row
pub row_room : (x n width count size all : ℕ) → x + n ≤ width → all ≡ width * count * size → (x + n) * count * size ≤ all
row_room x n width count size all within is =
    let pixels : (x + n) * count ≤ width * count = mul-le-mul_right count within in
    let sized : (x + n) * count * size ≤ width * count * size = mul-le-mul_right size pixels in
    omega (arith, sized, is)

pub lane_place : (x i count e : ℕ) → x * count + e + i * count ≡ (x + i) * count + e
lane_place x i count e = omega arith

-- elements of one place of a pixel are none of another
pub place_apart : (x y count e t : ℕ) → e < count → t < count → t ≢ e → x * count + t ≢ y * count + e
place_apart x y count e t here there differs same =
    let both : (x ≡ y) × (t ≡ e) = same_from_place x t y e count there here same in
    differs both.1

pub lane_apart : (x i k count e t : ℕ) → e < count → t < count → t ≢ e → (x + i) * count + t ≢ x * count + e + k * count
lane_apart x i k count e t here there differs same =
    place_apart (x + i) (x + k) count e t here there differs (omega (arith, same))

-- an element of another pixel is none of those of the n pixels from x on
pub pixel_apart : (x n k count e i : ℕ) → e < count → i < n → (k < x * count) ⊎ ((x + n) * count ≤ k) → k ≢ x * count + e + i * count
pixel_apart x n k count e i here within outside same =
    let rows : (x + i + 1) * count ≤ (x + n) * count = mul-le-mul_right count (omega (arith, within)) in
    ⊎_elim
    (λ (before : k < x * count). omega (arith, before, same))
    (λ (after : (x + n) * count ≤ k). omega (arith, after, same, rows, here))
    outside

pub other_outside : (x n other count e : ℕ) → e < count → (other < x) ⊎ (x + n ≤ other)
    → (other * count + e < x * count) ⊎ ((x + n) * count ≤ other * count + e)
other_outside x n other count e here outside =
    ⊎_elim
    (λ (before : other < x).
    let rows : (other + 1) * count ≤ x * count = mul-le-mul_right count (omega (arith, before)) in
    inl (omega (arith, rows, here)))
    (λ (after : x + n ≤ other).
    let rows : (x + n) * count ≤ other * count = mul-le-mul_right count after in
    inr (omega (arith, rows)))
    outside

-- ---- the values of the planes, one plane after the other
pub plane_within : (planes : List ℕ) (q p : ℕ) → q < p → sum (take q planes) + slice_index planes q ≤ sum (take p planes)
plane_within planes q zero less = absurd (omega (arith, less))
plane_within [] zero (suc p) less = omega arith
plane_within [] (suc q) (suc p) less = omega arith
plane_within (n ∷ planes) zero (suc p) less = omega (arith, sum-cons n (take p planes))
plane_within (n ∷ planes) (suc q) (suc p) less =
    let rest : sum (take q planes) + slice_index planes q ≤ sum (take p planes) = plane_within planes q p (omega (arith, less)) in
    omega (arith, rest, sum-cons n (take q planes), sum-cons n (take p planes))

pub plane_in_sum : (planes : List ℕ) (q : ℕ) → sum (take q planes) + slice_index planes q ≤ sum planes
plane_in_sum [] zero = omega arith
plane_in_sum [] (suc q) = omega arith
plane_in_sum (n ∷ planes) zero = omega (arith, sum-cons n planes)
plane_in_sum (n ∷ planes) (suc q) =
    let rest : sum (take q planes) + slice_index planes q ≤ sum planes = plane_in_sum planes q in
    omega (arith, rest, sum-cons n (take q planes), sum-cons n planes)

pub plane_more : (planes : List ℕ) (p : ℕ) → sum (take (p + 1) planes) ≡ sum (take p planes) + slice_index planes p
plane_more planes p = rw add_one (more planes p)
  where
    add_one : p + 1 ≡ suc p
    add_one = omega arith

    more : (planes : List ℕ) (p : ℕ) → sum (take (suc p) planes) ≡ sum (take p planes) + slice_index planes p
    more [] zero = refl
    more [] (suc p) = refl
    more (n ∷ planes) zero = omega (arith, sum-cons n [])
    more (n ∷ planes) (suc p) =
        let rest : sum (take (suc p) planes) ≡ sum (take p planes) + slice_index planes p = more planes p in
        omega (arith, rest, sum-cons n (take (suc p) planes), sum-cons n (take p planes))

-- ---- element i of a pixel, by its plane
pub element_here : (elem : PixType) (n : ℕ) (planes : List ℕ) (rows : List (List ℕ)) (x i : ℕ) → i < n
    → row_element elem (n ∷ planes) rows x i ≡ element elem (row_at rows 0) (x * n + i)
element_here elem n planes rows x i here =
    sym (cond_below i n (element elem (row_at rows 0) (x * n + i)) (row_element elem planes (drop 1 rows) x (i - n)) here)

pub element_later : (elem : PixType) (n : ℕ) (planes : List ℕ) (rows : List (List ℕ)) (x i : ℕ) → n ≤ i
    → row_element elem (n ∷ planes) rows x i ≡ row_element elem planes (drop 1 rows) x (i - n)
element_later elem n planes rows x i later =
    let rest = row_element elem planes (drop 1 rows) x (i - n) in
    sym (cond_above i n (element elem (row_at rows 0) (x * n + i)) rest rest later refl)

pub row_later : (rows : List (List ℕ)) (p : ℕ) → row_at (drop 1 rows) p ≡ row_at rows (suc p)
row_later rows p = let one : 1 + p ≡ suc p = omega arith in get_or_after_one rows p [] ∙ ap (row_at rows) one

pub element_past : (elem : PixType) (planes : List ℕ) (rows : List (List ℕ)) (x v : ℕ) → sum planes ≤ v
    → row_element elem planes rows x v ≡ 0
element_past elem [] rows x v past = refl
element_past elem (n ∷ planes) rows x v past =
    element_later elem n planes rows x v (omega (arith, past, sum-cons n planes))
    ∙ element_past elem planes (drop 1 rows) x (v - n) (omega (arith, past, sum-cons n planes))

-- element e of plane p is that value of the pixel which has so many before it
pub element_at : (elem : PixType) (planes : List ℕ) (rows : List (List ℕ)) (x p e : ℕ) → e < slice_index planes p
    → row_element elem planes rows x (sum (take p planes) + e) ≡ element elem (row_at rows p) (x * slice_index planes p + e)
element_at elem [] rows x zero e inside = absurd (omega (arith, inside))
element_at elem [] rows x (suc p) e inside = absurd (omega (arith, inside))
element_at elem (n ∷ planes) rows x zero e inside =
    let first : sum (take 0 (n ∷ planes)) + e ≡ e = omega arith in
    ap (row_element elem (n ∷ planes) rows x) first ∙ element_here elem n planes rows x e inside
element_at elem (n ∷ planes) rows x (suc p) e inside =
    let v = sum (take (suc p) (n ∷ planes)) + e in
    let before : sum (take (suc p) (n ∷ planes)) ≡ n + sum (take p planes) = sum-cons n (take p planes) in
    let rest : v - n ≡ sum (take p planes) + e = omega (arith, before) in
    element_later elem n planes rows x v (omega (arith, before))
    ∙ ap (row_element elem planes (drop 1 rows) x) rest
    ∙ element_at elem planes (drop 1 rows) x p e inside
    ∙ ap (λ r. element elem r (x * slice_index planes p + e)) (row_later rows p)

-- what is said of each element of each plane is so of element v of the pixel
pub by_plane : (elem : PixType) (planes : List ℕ) (rows : List (List ℕ)) (x v m : ℕ) → v < sum planes
    → ((p e : ℕ) → e < slice_index planes p → v ≡ sum (take p planes) + e → m ≡ element elem (row_at rows p) (x * slice_index planes p + e))
    → m ≡ row_element elem planes rows x v
by_plane elem [] rows x v m within each = absurd (omega (arith, within))
by_plane elem (n ∷ planes) rows x v m within each =
    ⊎_elim
    (λ (here : v < n). each 0 v here (omega arith) ∙ sym (element_here elem n planes rows x v here))
    (λ (later : n ≤ v).
    by_plane elem planes (drop 1 rows) x (v - n) m (omega (arith, within, later, sum-cons n planes))
    (λ p e below is.
    let place : v ≡ sum (take (suc p) (n ∷ planes)) + e = omega (arith, is, later, sum-cons n (take p planes)) in
    each (suc p) e below place ∙ ap (λ r. element elem r (x * slice_index planes p + e)) (sym (row_later rows p)))
    ∙ sym (element_later elem n planes rows x v later))
    (cases_lt v n)

-- rows that have the same elements at two pixels
pub same_by_plane : (elem : PixType) (planes : List ℕ) (a b : List (List ℕ)) (x y v : ℕ)
    → ((p e : ℕ) → e < slice_index planes p
    → element elem (row_at a p) (x * slice_index planes p + e) ≡ element elem (row_at b p) (y * slice_index planes p + e))
    → row_element elem planes a x v ≡ row_element elem planes b y v
same_by_plane elem [] a b x y v each = refl
same_by_plane elem (n ∷ planes) a b x y v each =
    ⊎_elim
    (λ (here : v < n).
    element_here elem n planes a x v here ∙ each 0 v here ∙ sym (element_here elem n planes b y v here))
    (λ (later : n ≤ v).
    element_later elem n planes a x v later
    ∙ same_by_plane elem planes (drop 1 a) (drop 1 b) x y (v - n)
    (λ p e below. ap (λ r. element elem r (x * slice_index planes p + e)) (row_later a p) ∙ each (suc p) e below
    ∙ ap (λ r. element elem r (y * slice_index planes p + e)) (sym (row_later b p)))
    ∙ sym (element_later elem n planes b y v later))
    (cases_lt v n)

-- ---- four planes
none_past : (planes : List ℕ) (p e : ℕ) → ((p : ℕ) → 4 ≤ p → slice_index planes p ≡ 0)
    → e < slice_index planes (suc (suc (suc (suc p)))) → ⊥
none_past planes p e none inside = omega (arith, none (suc (suc (suc (suc p)))) (omega arith), inside)

pub by_four : (elem : PixType) (planes a b c d : List ℕ) (x v m : ℕ) → ((p : ℕ) → 4 ≤ p → slice_index planes p ≡ 0) → v < sum planes
    → ((e : ℕ) → e < slice_index planes 0 → v ≡ e → m ≡ element elem a (x * slice_index planes 0 + e))
    → ((e : ℕ) → e < slice_index planes 1 → v ≡ slice_index planes 0 + e → m ≡ element elem b (x * slice_index planes 1 + e))
    → ((e : ℕ) → e < slice_index planes 2 → v ≡ slice_index planes 0 + slice_index planes 1 + e
    → m ≡ element elem c (x * slice_index planes 2 + e))
    → ((e : ℕ) → e < slice_index planes 3 → v ≡ slice_index planes 0 + slice_index planes 1 + slice_index planes 2 + e
    → m ≡ element elem d (x * slice_index planes 3 + e))
    → m ≡ row_element elem planes (row_list a b c d) x v
by_four elem planes a b c d x v m none within first second third fourth = by_plane elem planes (row_list a b c d) x v m within each
  where
    one : sum (take 1 planes) ≡ slice_index planes 0
    one = omega (arith, plane_more planes 0)

    two : sum (take 2 planes) ≡ slice_index planes 0 + slice_index planes 1
    two = omega (arith, one, plane_more planes 1)

    three : sum (take 3 planes) ≡ slice_index planes 0 + slice_index planes 1 + slice_index planes 2
    three = omega (arith, two, plane_more planes 2)

    each : (p e : ℕ) → e < slice_index planes p → v ≡ sum (take p planes) + e
        → m ≡ element elem (row_at (row_list a b c d) p) (x * slice_index planes p + e)
    each zero e inside is = first e inside (omega (arith, is))
    each (suc zero) e inside is = second e inside (omega (arith, is, one))
    each (suc (suc zero)) e inside is = third e inside (omega (arith, is, two))
    each (suc (suc (suc zero))) e inside is = fourth e inside (omega (arith, is, three))
    each (suc (suc (suc (suc p)))) e inside is = absurd (none_past planes p e none inside)

pub same_four : (elem : PixType) (planes a b c d i j k l : List ℕ) (x y v : ℕ) → ((p : ℕ) → 4 ≤ p → slice_index planes p ≡ 0)
    → ((e : ℕ) → e < slice_index planes 0
    → element elem a (x * slice_index planes 0 + e) ≡ element elem i (y * slice_index planes 0 + e))
    → ((e : ℕ) → e < slice_index planes 1
    → element elem b (x * slice_index planes 1 + e) ≡ element elem j (y * slice_index planes 1 + e))
    → ((e : ℕ) → e < slice_index planes 2
    → element elem c (x * slice_index planes 2 + e) ≡ element elem k (y * slice_index planes 2 + e))
    → ((e : ℕ) → e < slice_index planes 3
    → element elem d (x * slice_index planes 3 + e) ≡ element elem l (y * slice_index planes 3 + e))
    → row_element elem planes (row_list a b c d) x v ≡ row_element elem planes (row_list i j k l) y v
same_four elem planes a b c d i j k l x y v none first second third fourth =
    same_by_plane elem planes (row_list a b c d) (row_list i j k l) x y v each
  where
    each : (p e : ℕ) → e < slice_index planes p
        → element elem (row_at (row_list a b c d) p) (x * slice_index planes p + e)
        ≡ element elem (row_at (row_list i j k l) p) (y * slice_index planes p + e)
    each zero e inside = first e inside
    each (suc zero) e inside = second e inside
    each (suc (suc zero)) e inside = third e inside
    each (suc (suc (suc zero))) e inside = fourth e inside
    each (suc (suc (suc (suc p)))) e inside = absurd (none_past planes p e none inside)
