-- A row that is cut out of the planes of a frame.
use Rattle.std.proofs.Common.{◌≡◌, ℕ, zero, suc, ◌+◌, ◌-◌, ◌*◌, ◌<◌, ◌≤◌, ⊎_elim, true, false, Bool, List, [], ◌∷◌, ◌++◌, length, take}
use Rattle.std.proofs.Common.{drop}
use Rattle.std.proofs.Common.{slice_index, refl, sym, ap, ◌∙◌, arith}
use Rattle.std.specs.Prelude.{sum}
use Rattle.std.proofs.lemmas.Bool.{cases_lt}
use Rattle.std.proofs.lemmas.List.{take-append-drop, length-take, length-take-le, length-drop, get_or-take, get_or-drop}
use Rattle.std.proofs.Math.Nat.{mul-le-mul_right}
use Rattle.op_list.specs.declared.types.PixType.{PixType}
use Rattle.op_list.specs.declared.types.Stage.TheVariants.{Start}
use Rattle.op_list.specs.declared.op.Op.{Op}
use Rattle.op_list.specs.declared.op.Op.TheVariants.{Read, Write, SwapBytes, Unpack, Pack, Clear, LeftShift, RightShift, Swizzle, Convert}
use Rattle.op_list.specs.declared.op.Op.TheVariants.{Dither, Linear, Scale, Min, Max}
use Rattle.op_list.specs.declared.position.PixelPosition.{PixelPosition}
use Rattle.op_list.specs.Types.{bytes}
use Rattle.op_list.specs.Typing.{may_follow, are_good, are_counts, is_write}
use Rattle.op_list.specs.Pixel.{element, element_of, frame_length, palette_colours, pixel_count, pixel_number}
use Rattle.op_list.specs.declared.values.Values.TheVariants.{Numbers}
use Rattle.op_list.specs.Values.{no_values, four}
use Rattle.op_list.specs.Apply.{apply}
use Rattle.op_list.proofs.Elements.{sum-cons}
use Rattle.kernel_planes.specs.Block.{position_at, colour_byte}
use Rattle.kernel_planes.specs.Planes.{planes_of, elem_of}
use Rattle.kernel_planes.specs.Planes.{AreRows, has_planes, palette_length, row_at, row_element, row_frame, row_length, row_list}
use Rattle.kernel_step.proofs.Kernels.{read_good, write_good}
use Rattle.kernel_planes.proofs.PlaneRows.{same_by_plane}
use Rattle.kernel_planes.proofs.Palettes.{colour_at, indices_alone, palette_planes}
use Rattle.kernel_planes.proofs.RowFrames.{all_sizes, element_part, frame_of_parts, no_fifth, row_of_frame}

-- ---- the lengths
no_sum : (ns : List ℕ) → ((p : ℕ) → slice_index ns p ≡ 0) → sum ns ≡ 0
no_sum [] none = refl
no_sum (n ∷ ns) none = omega (arith, sum-cons n ns, none 0, no_sum ns (λ p. none (suc p)))

pub sum_four : (planes : List ℕ) → ((p : ℕ) → 4 ≤ p → slice_index planes p ≡ 0)
    → sum planes ≡ slice_index planes 0 + slice_index planes 1 + slice_index planes 2 + slice_index planes 3
sum_four [] none = refl
sum_four (a ∷ []) none = omega (arith, sum-cons a [])
sum_four (a ∷ b ∷ []) none = omega (arith, sum-cons a (b ∷ []), sum-cons b [])
sum_four (a ∷ b ∷ c ∷ []) none = omega (arith, sum-cons a (b ∷ c ∷ []), sum-cons b (c ∷ []), sum-cons c [])
sum_four (a ∷ b ∷ c ∷ d ∷ ns) none =
    let rest : sum ns ≡ 0 = no_sum ns (λ p. none (suc (suc (suc (suc p)))) (omega arith)) in
    omega (arith, rest, sum-cons a (b ∷ c ∷ d ∷ ns), sum-cons b (c ∷ d ∷ ns), sum-cons c (d ∷ ns), sum-cons d ns)

pub good_counts : (op : Op) → has_planes op ≡ true → are_good Start op ≡ true → are_counts 4 (planes_of op) ≡ true
good_counts (Read elem planes palette) h good = (read_good elem planes palette good).1
good_counts (Write elem planes) h good = (write_good elem planes good).1
good_counts op h good = cc

-- the bytes of a frame are those of its planes, and of a palette
pub planes_fill : (op : Op) (width rows : ℕ) → has_planes op ≡ true → are_good Start op ≡ true
    → frame_length op width rows ≡ rows * row_length op width 0 + rows * row_length op width 1 + rows * row_length op width 2
    + rows * row_length op width 3 + palette_length op
unfolding frame_length
planes_fill (Read elem planes palette) width rows h good =
    let all = sum_four planes (λ p past. no_fifth planes p (read_good elem planes palette good).1 past) in
    rw all (parts width rows (slice_index planes 0) (slice_index planes 1) (slice_index planes 2) (slice_index planes 3) (bytes elem) _)
  where
    parts : (width rows a b c d size more : ℕ) → width * rows * (a + b + c + d) * size + more
        ≡ rows * (width * a * size) + rows * (width * b * size) + rows * (width * c * size) + rows * (width * d * size) + more
    parts width rows a b c d size more = omega arith
planes_fill (Write elem planes) width rows h good =
    let all = sum_four planes (λ p past. no_fifth planes p (write_good elem planes good).1 past) in
    rw all (parts width rows (slice_index planes 0) (slice_index planes 1) (slice_index planes 2) (slice_index planes 3) (bytes elem))
  where
    parts : (width rows a b c d size : ℕ) → width * rows * (a + b + c + d) * size
        ≡ rows * (width * a * size) + rows * (width * b * size) + rows * (width * c * size) + rows * (width * d * size) + 0
    parts width rows a b c d size = omega arith
planes_fill op width rows h good = cc

pub read_has_planes : (op : Op) → may_follow Start op ≡ true → has_planes op ≡ true
unfolding may_follow
read_has_planes (Read elem planes palette) h = refl
read_has_planes (Write elem planes) h = refl
read_has_planes SwapBytes h = cc
read_has_planes (Unpack widths) h = cc
read_has_planes (Pack widths) h = cc
read_has_planes (Clear values) h = cc
read_has_planes (LeftShift n) h = cc
read_has_planes (RightShift n) h = cc
read_has_planes (Swizzle from) h = cc
read_has_planes (Convert to expand) h = cc
read_has_planes (Dither k) h = cc
read_has_planes (Linear rows) h = cc
read_has_planes (Scale by) h = cc
read_has_planes (Min limits) h = cc
read_has_planes (Max limits) h = cc

pub part_of_row : (rows row size all : ℕ) → row < rows → rows * size ≤ all → row * size + size ≤ rows * size
part_of_row rows row size all inside room =
    let less : (row + 1) * size ≤ rows * size = mul-le-mul_right size (omega (arith, inside)) in omega (arith, less)

-- a row of a part of a frame has the bytes of a row
pub row_size : (part : List ℕ) (rows row size : ℕ) → row < rows → rows * size ≤ length part
    → length (take size (drop (row * size) (take (rows * size) part))) ≡ size
row_size part rows row size inside room =
    let ends : row * size + size ≤ rows * size = part_of_row rows row size (length part) inside room in
    omega (
      arith,
      ends,
      room,
      length-take size (drop (row * size) (take (rows * size) part)),
      length-drop (row * size) (take (rows * size) part),
      length-take (rows * size) part,
    )

pub cut_total : (op : Op) (width rows : ℕ) (sizes f : List ℕ) → has_planes op ≡ true → are_good Start op ≡ true
    → ((p : ℕ) → p < 4 → slice_index sizes p ≡ row_length op width p) → length f ≡ frame_length op width rows
    → length f ≡ rows * slice_index sizes 0 + rows * slice_index sizes 1 + rows * slice_index sizes 2 + rows * slice_index sizes 3
    + palette_length op
cut_total op width rows sizes f has good are size =
    rw (are 0 (omega arith), are 1 (omega arith), are 2 (omega arith), are 3 (omega arith))
    (size ∙ planes_fill op width rows has good)

pub behind_length : (f g : List ℕ) (n : ℕ) → g ≡ drop n f → length g ≡ length f - n
behind_length f g n is = ap length is ∙ length-drop n f

pub cut_rooms : (rows more : ℕ) (sizes f g h i : List ℕ)
    → length f ≡ rows * slice_index sizes 0 + rows * slice_index sizes 1 + rows * slice_index sizes 2 + rows * slice_index sizes 3 + more
    → g ≡ drop (rows * slice_index sizes 0) f → h ≡ drop (rows * slice_index sizes 1) g → i ≡ drop (rows * slice_index sizes 2) h
    → (rows * slice_index sizes 0 ≤ length f) × (rows * slice_index sizes 1 ≤ length g) × (rows * slice_index sizes 2 ≤ length h)
    × (length i ≡ rows * slice_index sizes 3 + more)
cut_rooms rows more sizes f g h i total second third fourth =
    let g_size = behind_length f g (rows * slice_index sizes 0) second in
    let h_size = behind_length g h (rows * slice_index sizes 1) third in
    let i_size = behind_length h i (rows * slice_index sizes 2) fourth in (
      omega (arith, total),
      omega (arith, total, g_size),
      omega (arith, total, g_size, h_size),
      omega (arith, total, g_size, h_size, i_size),
    )

pub four_sizes : (a b c d : List ℕ) (size : ℕ → ℕ) → length a ≡ size 0 → length b ≡ size 1 → length c ≡ size 2 → length d ≡ size 3
    → (p : ℕ) → p < 4 → length (row_at (row_list a b c d) p) ≡ size p
four_sizes a b c d size first second third fourth zero below = first
four_sizes a b c d size first second third fourth (suc zero) below = second
four_sizes a b c d size first second third fourth (suc (suc zero)) below = third
four_sizes a b c d size first second third fourth (suc (suc (suc zero))) below = fourth
four_sizes a b c d size first second third fourth (suc (suc (suc (suc p)))) below = absurd (omega (arith, below))

-- a frame is made of its planes, and of what stands behind them
part_whole : (f g : List ℕ) (n : ℕ) → g ≡ drop n f → f ≡ take n f ++ g
part_whole f g n is = sym (take-append-drop n f) ∙ ap (λ t. take n f ++ t) (sym is)

-- ---- a row holds the elements of the plane that it is cut from
pub cut_element : (elem : PixType) (part : List ℕ) (width rows row x count e : ℕ) → x < width → e < count
    → element elem (take (width * count * bytes elem) (drop (row * (width * count * bytes elem)) part)) (x * count + e)
    ≡ element elem part ((row * width + x) * count + e)
cut_element elem part width rows row x count e column here =
    let start : row * (width * count * bytes elem) ≡ row * (width * count) * bytes elem = omega arith in
    let less : (x + 1) * count ≤ width * count = mul-le-mul_right count (omega (arith, column)) in
    let place : row * (width * count) + (x * count + e) ≡ (row * width + x) * count + e = omega arith in
    ap (λ s. element elem (take (width * count * bytes elem) (drop s part)) (x * count + e)) start
    ∙ element_part elem part (row * (width * count)) (width * count) (x * count + e) (omega (arith, less, here))
    ∙ ap (element elem part) place

-- each row is cut from its part
abbrev pub AreCut : Op → ℕ → ℕ → List (List ℕ) → List (List ℕ) → Type 0
AreCut op width row parts rows = (p : ℕ) → p < 4
    → row_at rows p ≡ take (row_length op width p) (drop (row * row_length op width p) (row_at parts p))

pub cut_elements : (op : Op) (width rows row x v : ℕ) (parts cut : List (List ℕ)) → are_counts 4 (planes_of op) ≡ true → x < width
    → AreCut op width row parts cut
    → row_element (elem_of op) (planes_of op) cut x v ≡ row_element (elem_of op) (planes_of op) parts (row * width + x) v
cut_elements op width rows row x v parts cut good column is =
    let elem = elem_of op in
    let planes = planes_of op in
    same_by_plane elem planes cut parts x (row * width + x) v
    (λ p e inside.
    let count = slice_index planes p in
    ⊎_elim
    (λ (here : p < 4). ap (λ r. element elem r (x * count + e)) (is p here)
    ∙ cut_element elem (row_at parts p) width rows row x count e column inside)
    (λ (past : 4 ≤ p). let none : count ≡ 0 = no_fifth planes p good past in absurd (omega (arith, none, inside)))
    (cases_lt p 4))

pub four_cut : (size : ℕ → ℕ) (row : ℕ) (p q r s a b c d : List ℕ) → a ≡ take (size 0) (drop (row * size 0) p)
    → b ≡ take (size 1) (drop (row * size 1) q) → c ≡ take (size 2) (drop (row * size 2) r) → d ≡ take (size 3) (drop (row * size 3) s)
    → (k : ℕ) → k < 4 → row_at (row_list a b c d) k ≡ take (size k) (drop (row * size k) (row_at (row_list p q r s) k))
four_cut size row p q r s a b c d first second third fourth zero below = first
four_cut size row p q r s a b c d first second third fourth (suc zero) below = second
four_cut size row p q r s a b c d first second third fourth (suc (suc zero)) below = third
four_cut size row p q r s a b c d first second third fourth (suc (suc (suc zero))) below = fourth
four_cut size row p q r s a b c d first second third fourth (suc (suc (suc (suc k)))) below = absurd (omega (arith, below))

-- ---- what a Read takes from a frame, and from its row
elements_same : (elem : PixType) (planes : List ℕ) (palette : Bool) (width rows row x y i : ℕ) (p q r s a b c d behind : List ℕ)
    → are_counts 4 planes ≡ true → AreRows (Read elem planes palette) (width * rows) (row_list p q r s)
    → AreRows (Read elem planes palette) width (row_list a b c d)
    → AreCut (Read elem planes palette) width row (row_list p q r s) (row_list a b c d) → row < rows → x < width
    → element_of elem planes (row_frame (row_list p q r s) behind) (position_at width rows row y x) i
    ≡ element_of elem planes (row_frame (row_list a b c d) behind) (position_at width 1 0 y x) i
elements_same elem planes palette width rows row x y i p q r s a b c d behind good parts cut is inside column =
    frame_of_parts elem planes (row_list p q r s) behind (position_at width rows row y x) i
    (all_sizes elem planes (width * rows) p q r s good parts) column inside
    ∙ sym (cut_elements (Read elem planes palette) width rows row x i (row_list p q r s) (row_list a b c d) good column is)
    ∙ sym (row_of_frame elem planes (row_list a b c d) behind (position_at width 1 0 y x) i
    (all_sizes elem planes width a b c d good cut) refl refl column)

four_same : (a b c d i j k l : ℕ) → a ≡ i → b ≡ j → c ≡ k → d ≡ l → a ∷ b ∷ c ∷ d ∷ [] ≡ i ∷ j ∷ k ∷ l ∷ []
four_same a b c d i j k l first second third fourth = rw (first, second, third, fourth) refl

colours_same : (indices row_indices behind : List ℕ) (position other : PixelPosition)
    → length indices ≡ pixel_count position → pixel_number position < pixel_count position
    → length row_indices ≡ pixel_count other → pixel_number other < pixel_count other
    → slice_index indices (pixel_number position) ≡ slice_index row_indices (pixel_number other)
    → palette_colours (indices ++ behind) position ≡ palette_colours (row_indices ++ behind) other
unfolding palette_colours
colours_same indices row_indices behind position other size inside row_size row_inside same =
    four_same _ _ _ _ _ _ _ _ (entry 0 (omega arith)) (entry 1 (omega arith)) (entry 2 (omega arith)) (entry 3 (omega arith))
  where
    entry : (v : ℕ) → v < 4
        → slice_index (palette_colours (indices ++ behind) position) v ≡ slice_index (palette_colours (row_indices ++ behind) other) v
    entry v small =
        colour_at indices behind position v small size inside
        ∙ ap (λ k. slice_index behind (4 * k + colour_byte v)) same
        ∙ sym (colour_at row_indices behind other v small row_size row_inside)

read_same : (elem : PixType) (planes : List ℕ) (palette : Bool) (width rows row x y : ℕ) (p q r s a b c d behind : List ℕ)
    → are_good Start (Read elem planes palette) ≡ true → AreRows (Read elem planes palette) (width * rows) (row_list p q r s)
    → AreRows (Read elem planes palette) width (row_list a b c d)
    → AreCut (Read elem planes palette) width row (row_list p q r s) (row_list a b c d) → row < rows → x < width
    → apply (row_frame (row_list p q r s) behind) (position_at width rows row y x) Start (Read elem planes palette) no_values
    ≡ apply (row_frame (row_list a b c d) behind) (position_at width 1 0 y x) Start (Read elem planes palette) no_values
unfolding apply
read_same elem planes false width rows row x y p q r s a b c d behind good parts cut is inside column =
    ap (λ (g : ℕ → ℕ). Numbers (four g))
    (λ j i. elements_same elem planes false width rows row x y i p q r s a b c d behind (read_good elem planes false good).1 parts cut is
    inside column j)
read_same elem planes true width rows row x y p q r s a b c d behind good parts cut is inside column =
    let whole = indices_alone elem planes true (width * rows) p q r s behind refl good parts in
    let part = indices_alone elem planes true width a b c d behind refl good cut in
    let read = palette_planes elem planes true refl good in
    let size : row_length (Read elem planes true) width 0 ≡ width =
    rw (read.0, read.1) (let one : width * 1 * 1 ≡ width = omega arith in one) in
    let first : a ≡ take width (drop (row * width) p) =
    is 0 (omega arith) ∙ ap (λ t. take t (drop (row * t) p)) size in
    let index : slice_index p (row * width + x) ≡ slice_index a (0 * width + x) =
    sym (ap (slice_index a) (let none : 0 * width + x ≡ x = omega arith in none)
    ∙ ap (λ t. slice_index t x) first ∙ get_or-take width (drop (row * width) p) x 0 column ∙ get_or-drop (row * width) p x 0) in
    let less : (row + 1) * width ≤ rows * width = mul-le-mul_right width (omega (arith, inside)) in
    ap Numbers
    (ap (λ f. palette_colours f (position_at width rows row y x)) whole.1
    ∙ colours_same p a behind (position_at width rows row y x) (position_at width 1 0 y x) whole.0 (omega (arith, less, column))
    (omega (arith, part.0)) (omega (arith, column)) index
    ∙ sym (ap (λ f. palette_colours f (position_at width 1 0 y x)) part.1))

-- a Read takes the same from a frame and from the rows that are cut out of it
pub cut_same : (op : Op) (width rows row x y : ℕ) (sizes f g h i behind a b c d : List ℕ) → may_follow Start op ≡ true
    → are_good Start op ≡ true → ((p : ℕ) → p < 4 → slice_index sizes p ≡ row_length op width p)
    → length f ≡ frame_length op width rows → row < rows → x < width
    → g ≡ drop (rows * slice_index sizes 0) f → h ≡ drop (rows * slice_index sizes 1) g → i ≡ drop (rows * slice_index sizes 2) h
    → behind ≡ drop (rows * slice_index sizes 3) i
    → a ≡ take (slice_index sizes 0) (drop (row * slice_index sizes 0) (take (rows * slice_index sizes 0) f))
    → b ≡ take (slice_index sizes 1) (drop (row * slice_index sizes 1) (take (rows * slice_index sizes 1) g))
    → c ≡ take (slice_index sizes 2) (drop (row * slice_index sizes 2) (take (rows * slice_index sizes 2) h))
    → d ≡ take (slice_index sizes 3) (drop (row * slice_index sizes 3) (take (rows * slice_index sizes 3) i))
    → AreRows op width (row_list a b c d)
    → apply f (position_at width rows row y x) Start op no_values
    ≡ apply (row_frame (row_list a b c d) behind) (position_at width 1 0 y x) Start op no_values
unfolding may_follow
cut_same (Read elem planes palette) width rows row x y sizes f g h i behind a b c d follows good are size inside column second third fourth
    last first_row second_row third_row fourth_row cut =
    let op = Read elem planes palette in
    let n : ℕ → ℕ = λ p. rows * slice_index sizes p in
    let total = cut_total op width rows sizes f refl good are size in
    let whole : f ≡ row_frame (row_list (take (n 0) f) (take (n 1) g) (take (n 2) h) (take (n 3) i)) behind =
    part_whole f g (n 0) second ∙ ap (λ t. take (n 0) f ++ t) (part_whole g h (n 1) third
    ∙ ap (λ t. take (n 1) g ++ t) (part_whole h i (n 2) fourth ∙ ap (λ t. take (n 2) h ++ t) (part_whole i behind (n 3) last))) in
    let g_size = behind_length f g (n 0) second in
    let h_size = behind_length g h (n 1) third in
    let i_size = behind_length h i (n 2) fourth in
    let plane : (p : ℕ) → p < 4 → n p ≡ row_length op (width * rows) p =
    λ p below. ap (λ t. rows * t) (are p below) ∙ swapped (slice_index planes p) in
    let parts : AreRows op (width * rows) (row_list (take (n 0) f) (take (n 1) g) (take (n 2) h) (take (n 3) i)) =
    four_sizes (take (n 0) f) (take (n 1) g) (take (n 2) h) (take (n 3) i) (row_length op (width * rows))
    (length-take-le (n 0) f (omega (arith, total)) ∙ plane 0 (omega arith))
    (length-take-le (n 1) g (omega (arith, total, g_size)) ∙ plane 1 (omega arith))
    (length-take-le (n 2) h (omega (arith, total, g_size, h_size)) ∙ plane 2 (omega arith))
    (length-take-le (n 3) i (omega (arith, total, g_size, h_size, i_size)) ∙ plane 3 (omega arith)) in
    let is : AreCut op width row (row_list (take (n 0) f) (take (n 1) g) (take (n 2) h) (take (n 3) i)) (row_list a b c d) =
    four_cut (row_length op width) row (take (n 0) f) (take (n 1) g) (take (n 2) h) (take (n 3) i) a b c d
    (cut_at 0 (take (n 0) f) (omega arith) first_row) (cut_at 1 (take (n 1) g) (omega arith) second_row)
    (cut_at 2 (take (n 2) h) (omega arith) third_row) (cut_at 3 (take (n 3) i) (omega arith) fourth_row) in
    ap (λ t. apply t (position_at width rows row y x) Start op no_values) whole
    ∙ read_same elem planes palette width rows row x y (take (n 0) f) (take (n 1) g) (take (n 2) h) (take (n 3) i) a b c d behind good parts
    cut is inside column
  where
    swapped : (count : ℕ) → rows * (width * count * bytes elem) ≡ width * rows * count * bytes elem
    swapped count = omega arith

    cut_at : (p : ℕ) (part : List ℕ) {e : List ℕ} → p < 4 → e ≡ take (slice_index sizes p) (drop (row * slice_index sizes p) part)
        → e ≡ take (row_length (Read elem planes palette) width p) (drop (row * row_length (Read elem planes palette) width p) part)
    cut_at p part below is = is ∙ ap (λ t. take t (drop (row * t) part)) (are p below)
cut_same op width rows row x y sizes f g h i behind a b c d follows good are size inside column second third fourth last first_row
    second_row
    third_row fourth_row cut = cc

pub write_has_planes : (op : Op) → is_write op ≡ true → has_planes op ≡ true
write_has_planes (Write elem planes) h = refl
write_has_planes op h = cc

pub write_palette : (op : Op) → is_write op ≡ true → palette_length op ≡ 0
write_palette (Write elem planes) h = refl
write_palette op h = cc
