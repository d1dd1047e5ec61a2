-- A row that is put into the planes of a frame.
use Rattle.std.proofs.Common.{◌≡◌, ◌≢◌, ℕ, ◌+◌, ◌-◌, ◌*◌, ◌<◌, ◌≤◌, ⊎_elim, true, List, [], ◌++◌, length, take, drop, slice_index}
use Rattle.std.proofs.Common.{refl, sym, ap, ◌∙◌, arith}
use Rattle.std.proofs.lemmas.Bool.{cases_lt}
use Rattle.std.proofs.lemmas.List.{append-nil, take-append-drop, length-append, length-take, length-take-le, length-drop}
use Rattle.std.proofs.Math.Nat.{mul-le-mul_right}
use borrow.Rule.Slice.PartMut.{put_mid}
use Rattle.op_list.specs.declared.types.PixType.{PixType}
use Rattle.op_list.specs.declared.op.Op.{Op}
use Rattle.op_list.specs.declared.position.PixelPosition.{PixelPosition}
use Rattle.op_list.specs.Types.{bytes}
use Rattle.op_list.specs.Typing.{are_counts}
use Rattle.op_list.specs.Pixel.{element, element_of}
use Rattle.kernel_planes.specs.Block.{IsOtherRow, position_at}
use Rattle.kernel_planes.specs.Planes.{planes_of, elem_of}
use Rattle.kernel_planes.specs.Planes.{AreRows, row_at, row_frame, row_length, row_list}
use Rattle.kernel_int.proofs.CutRows.{four_sizes}
use Rattle.kernel_planes.proofs.PlaneRows.{same_four}
use Rattle.kernel_planes.proofs.RowFrames.{all_sizes, element_behind, element_front, frame_of_parts, no_fifth, row_of_frame}

-- a part with a row of this size in the place of an old one
abbrev pub put : ℕ → ℕ → List ℕ → List ℕ → List ℕ
put row size part new = put_mid (row * size) (row * size + size - row * size) part new

-- ---- one plane
put_length : (row size : ℕ) (part new : List ℕ) → length new ≡ size → row * size + size ≤ length part
    → length (put row size part new) ≡ length part
put_length row size part new is room =
    let rest = drop (row * size + size - row * size) (drop (row * size) part) in
    omega (
      arith,
      is,
      room,
      length-append (take (row * size) part) (new ++ rest),
      length-append new rest,
      length-take (row * size) part,
      length-drop (row * size + size - row * size) (drop (row * size) part),
      length-drop (row * size) part,
    )

put_element : (elem : PixType) (part new : List ℕ) (width row x count e size : ℕ) → size ≡ width * count * bytes elem → length new ≡ size
    → row * size + size ≤ length part → x < width → e < count
    → element elem (put row size part new) ((row * width + x) * count + e) ≡ element elem new (x * count + e)
put_element elem part new width row x count e size is new_size room column here =
    let rest = drop (row * size + size - row * size) (drop (row * size) part) in
    let place : (row * width + x) * count + e ≡ row * (width * count) + (x * count + e) = omega arith in
    let start : row * size ≡ row * (width * count) * bytes elem =
    ap (λ t. row * t) is ∙ (let same : row * (width * count * bytes elem) ≡ row * (width * count) * bytes elem = omega arith in same) in
    let less : (x + 1) * count ≤ width * count = mul-le-mul_right count (omega (arith, column)) in
    let ends : (x * count + e + 1) * bytes elem ≤ width * count * bytes elem = mul-le-mul_right (bytes elem) (omega (arith, less, here)) in
    ap (element elem (put row size part new)) place
    ∙ element_behind elem (take (row * size) part) (new ++ rest) (row * (width * count)) (x * count + e)
    (length-take-le (row * size) part (omega (arith, room)) ∙ start)
    ∙ element_front elem new rest (x * count + e) (omega (arith, ends, new_size, is))

element_past : (elem : PixType) (a b c : List ℕ) (m n k : ℕ) → length a ≡ m * bytes elem → length b ≡ n * bytes elem
    → element elem (a ++ (b ++ c)) (m + (n + k)) ≡ element elem c k
element_past elem a b c m n k first second =
    element_behind elem a (b ++ c) m (n + k) first ∙ element_behind elem b c n k second

put_kept : (elem : PixType) (part new : List ℕ) (width row other x count e size : ℕ) → size ≡ width * count * bytes elem
    → length new ≡ size → row * size + size ≤ length part → x < width → e < count → other ≢ row
    → element elem (put row size part new) ((other * width + x) * count + e) ≡ element elem part ((other * width + x) * count + e)
put_kept elem part new width row other x count e size is new_size room column here differs =
    let first = take (row * size) part in
    let behind = drop (row * size) part in
    let old = take (row * size + size - row * size) behind in
    let rest = drop (row * size + size - row * size) behind in
    let line = width * count in
    let k = (other * width + x) * count + e in
    let start : row * size ≡ row * line * bytes elem =
    ap (λ t. row * t) is ∙ (let same : row * (width * count * bytes elem) ≡ row * line * bytes elem = omega arith in same) in
    let first_size : length first ≡ row * line * bytes elem = length-take-le (row * size) part (omega (arith, room)) ∙ start in
    let place : k ≡ other * line + (x * count + e) = omega arith in
    let less : (x + 1) * count ≤ line = mul-le-mul_right count (omega (arith, column)) in
    ⊎_elim
    (λ (above : other < row).
    let lines : (other + 1) * line ≤ row * line = mul-le-mul_right line (omega (arith, above)) in
    let ends : (k + 1) * bytes elem ≤ row * line * bytes elem = mul-le-mul_right (bytes elem) (omega (arith, place, less, here, lines)) in
    let within : (k + 1) * bytes elem ≤ length first = omega (arith, ends, first_size) in
    element_front elem first (new ++ rest) k within ∙ sym (element_front elem first behind k within)
    ∙ ap (λ f. element elem f k) (take-append-drop (row * size) part))
    (λ (below : row ≤ other).
    let lines : (row + 1) * line ≤ other * line = mul-le-mul_right line (omega (arith, below, differs)) in
    let j : ℕ = k - (row * line + line) in
    let there : k ≡ row * line + (line + j) = omega (arith, place, lines) in
    let old_size : length old ≡ line * bytes elem =
    length-take-le (row * size + size - row * size) behind (omega (arith, room, length-drop (row * size) part))
    ∙ (let same : row * size + size - row * size ≡ size = omega arith in same) ∙ is in
    let whole : first ++ (old ++ rest) ≡ part =
    ap (λ t. first ++ t) (take-append-drop (row * size + size - row * size) behind) ∙ take-append-drop (row * size) part in
    ap (element elem (put row size part new)) there
    ∙ element_past elem first new rest (row * line) line j first_size (new_size ∙ is)
    ∙ sym (element_past elem first old rest (row * line) line j first_size old_size)
    ∙ ap (element elem (first ++ (old ++ rest))) (sym there)
    ∙ ap (λ f. element elem f k) whole)
    (cases_lt other row)

-- ---- four planes
-- the sizes of rows, and the planes of a frame that have so many of them
pub record HasPlanes (op : Op) (width rows : ℕ) (sizes p q r s : List ℕ) : Type 0 where
  pub good : are_counts 4 (planes_of op) ≡ true
  pub are : (k : ℕ) → k < 4 → slice_index sizes k ≡ row_length op width k
  pub first : length p ≡ rows * slice_index sizes 0
  pub second : length q ≡ rows * slice_index sizes 1
  pub third : length r ≡ rows * slice_index sizes 2
  pub fourth : length s ≡ rows * slice_index sizes 3

row_fits : (rows row size all : ℕ) → row < rows → all ≡ rows * size → row * size + size ≤ all
row_fits rows row size all inside is =
    let less : (row + 1) * size ≤ rows * size = mul-le-mul_right size (omega (arith, inside)) in omega (arith, less, is)

-- the part that a row takes the place of
pub part_size : (rows row size : ℕ) (part : List ℕ) → row < rows → length part ≡ rows * size
    → length (take (row * size + size - row * size) (drop (row * size) part)) ≡ size
part_size rows row size part inside is =
    let room = row_fits rows row size (length part) inside is in
    omega (arith, room, length-take (row * size + size - row * size) (drop (row * size) part), length-drop (row * size) part)

pub split_whole : (f p q : List ℕ) (n : ℕ) → p ≡ take n f → q ≡ drop n f → p ++ q ≡ f
split_whole f p q n first second = ap (λ t. t ++ q) first ∙ ap (λ t. take n f ++ t) second ∙ take-append-drop n f

plane_sizes : (op : Op) (width rows : ℕ) (sizes p q r s : List ℕ) → HasPlanes op width rows sizes p q r s
    → (k : ℕ) → length (row_at (row_list p q r s) k) ≡ width * rows * slice_index (planes_of op) k * bytes (elem_of op)
plane_sizes op width rows sizes p q r s h =
    all_sizes (elem_of op) (planes_of op) (width * rows) p q r s h.good
    (four_sizes p q r s (λ k. width * rows * slice_index (planes_of op) k * bytes (elem_of op))
    (h.first ∙ plane 0 (omega arith)) (h.second ∙ plane 1 (omega arith)) (h.third ∙ plane 2 (omega arith))
    (h.fourth ∙ plane 3 (omega arith)))
  where
    swapped : (count size : ℕ) → rows * (width * count * size) ≡ width * rows * count * size
    swapped count size = omega arith

    plane : (k : ℕ) → k < 4 → rows * slice_index sizes k ≡ width * rows * slice_index (planes_of op) k * bytes (elem_of op)
    plane k below = ap (λ t. rows * t) (h.are k below) ∙ swapped (slice_index (planes_of op) k) (bytes (elem_of op))

put_planes : (op : Op) (width rows row : ℕ) (sizes p q r s a b c d : List ℕ) → HasPlanes op width rows sizes p q r s
    → AreRows op width (row_list a b c d) → row < rows
    → HasPlanes op width rows sizes (put row (slice_index sizes 0) p a) (put row (slice_index sizes 1) q b)
    (put row (slice_index sizes 2) r c) (put row (slice_index sizes 3) s d)
put_planes op width rows row sizes p q r s a b c d h new inside = record {
  good = h.good;
  are = h.are;
  first = put_length row (slice_index sizes 0) p a (new 0 (omega arith) ∙ sym (h.are 0 (omega arith)))
      (row_fits rows row (slice_index sizes 0) (length p) inside h.first) ∙ h.first;
  second = put_length row (slice_index sizes 1) q b (new 1 (omega arith) ∙ sym (h.are 1 (omega arith)))
      (row_fits rows row (slice_index sizes 1) (length q) inside h.second) ∙ h.second;
  third = put_length row (slice_index sizes 2) r c (new 2 (omega arith) ∙ sym (h.are 2 (omega arith)))
      (row_fits rows row (slice_index sizes 2) (length r) inside h.third) ∙ h.third;
  fourth = put_length row (slice_index sizes 3) s d (new 3 (omega arith) ∙ sym (h.are 3 (omega arith)))
      (row_fits rows row (slice_index sizes 3) (length s) inside h.fourth) ∙ h.fourth;
}

planes_frame : (p q r s : List ℕ) → p ++ (q ++ (r ++ s)) ≡ row_frame (row_list p q r s) []
planes_frame p q r s = ap (λ t. p ++ (q ++ (r ++ t))) (sym (append-nil s))

-- the row has the elements that were put there
pub put_row : (op : Op) (width rows row x y v : ℕ) (sizes p q r s a b c d : List ℕ) → HasPlanes op width rows sizes p q r s
    → AreRows op width (row_list a b c d) → row < rows → x < width
    → element_of (elem_of op) (planes_of op)
    (put row (slice_index sizes 0) p a ++ (put row (slice_index sizes 1) q b
    ++ (put row (slice_index sizes 2) r c ++ put row (slice_index sizes 3) s d))) (position_at width rows row y x) v
    ≡ element_of (elem_of op) (planes_of op) (row_frame (row_list a b c d) []) (position_at width 1 0 y x) v
put_row op width rows row x y v sizes p q r s a b c d h new inside column =
    let elem = elem_of op in
    let planes = planes_of op in
    let n : ℕ → ℕ = slice_index sizes in
    let first = put row (n 0) p a in
    let second = put row (n 1) q b in
    let third = put row (n 2) r c in
    let fourth = put row (n 3) s d in
    ap (λ f. element_of elem planes f (position_at width rows row y x) v) (planes_frame first second third fourth)
    ∙ frame_of_parts elem planes (row_list first second third fourth) [] (position_at width rows row y x) v
    (plane_sizes op width rows sizes first second third fourth (put_planes op width rows row sizes p q r s a b c d h new inside))
    column inside
    ∙ same_four elem planes first second third fourth a b c d (row * width + x) x v (λ k past. no_fifth planes k h.good past)
    (λ e here. put_element elem p a width row x (slice_index planes 0) e (n 0) (h.are 0 (omega arith))
    (new 0 (omega arith) ∙ sym (h.are 0 (omega arith))) (row_fits rows row (n 0) (length p) inside h.first) column here)
    (λ e here. put_element elem q b width row x (slice_index planes 1) e (n 1) (h.are 1 (omega arith))
    (new 1 (omega arith) ∙ sym (h.are 1 (omega arith))) (row_fits rows row (n 1) (length q) inside h.second) column here)
    (λ e here. put_element elem r c width row x (slice_index planes 2) e (n 2) (h.are 2 (omega arith))
    (new 2 (omega arith) ∙ sym (h.are 2 (omega arith))) (row_fits rows row (n 2) (length r) inside h.third) column here)
    (λ e here. put_element elem s d width row x (slice_index planes 3) e (n 3) (h.are 3 (omega arith))
    (new 3 (omega arith) ∙ sym (h.are 3 (omega arith))) (row_fits rows row (n 3) (length s) inside h.fourth) column here)
    ∙ sym (row_of_frame elem planes (row_list a b c d) [] (position_at width 1 0 y x) v
    (all_sizes elem planes width a b c d h.good new) refl refl column)

-- and no pixel of another row is changed
pub put_others : (op : Op) (width rows row v : ℕ) (other : PixelPosition) (sizes p q r s a b c d : List ℕ)
    → HasPlanes op width rows sizes p q r s → AreRows op width (row_list a b c d) → row < rows → IsOtherRow width rows row other
    → element_of (elem_of op) (planes_of op)
    (put row (slice_index sizes 0) p a ++ (put row (slice_index sizes 1) q b
    ++ (put row (slice_index sizes 2) r c ++ put row (slice_index sizes 3) s d))) other v
    ≡ element_of (elem_of op) (planes_of op) (p ++ (q ++ (r ++ s))) other v
put_others op width rows row v other sizes p q r s a b c d h new inside is =
    let elem = elem_of op in
    let planes = planes_of op in
    let n : ℕ → ℕ = slice_index sizes in
    let first = put row (n 0) p a in
    let second = put row (n 1) q b in
    let third = put row (n 2) r c in
    let fourth = put row (n 3) s d in
    let pixel = other.row * width + other.x in
    let place : other.row * other.width + other.x ≡ pixel = ap (λ t. other.row * t + other.x) is.width in
    let column : other.x < width = omega (arith, is.column, is.width) in
    let count : width * rows ≡ other.width * other.rows =
    ap (λ t. t * rows) (sym is.width) ∙ ap (λ t. other.width * t) (sym is.rows) in
    let sized : (f : List (List ℕ)) → ((k : ℕ) → length (row_at f k) ≡ width * rows * slice_index planes k * bytes elem)
    → (k : ℕ) → length (row_at f k) ≡ other.width * other.rows * slice_index planes k * bytes elem =
    λ f sizes k. sizes k ∙ ap (λ t. t * slice_index planes k * bytes elem) count in
    ap (λ f. element_of elem planes f other v) (planes_frame first second third fourth)
    ∙ frame_of_parts elem planes (row_list first second third fourth) [] other v
    (sized (row_list first second third fourth)
    (plane_sizes op width rows sizes first second third fourth (put_planes op width rows row sizes p q r s a b c d h new inside)))
    is.column is.row
    ∙ same_four elem planes first second third fourth p q r s (other.row * other.width + other.x) (other.row * other.width + other.x) v
    (λ k past. no_fifth planes k h.good past)
    (λ e here. rw place (put_kept elem p a width row other.row other.x (slice_index planes 0) e (n 0) (h.are 0 (omega arith))
    (new 0 (omega arith) ∙ sym (h.are 0 (omega arith))) (row_fits rows row (n 0) (length p) inside h.first) column here is.differs))
    (λ e here. rw place (put_kept elem q b width row other.row other.x (slice_index planes 1) e (n 1) (h.are 1 (omega arith))
    (new 1 (omega arith) ∙ sym (h.are 1 (omega arith))) (row_fits rows row (n 1) (length q) inside h.second) column here is.differs))
    (λ e here. rw place (put_kept elem r c width row other.row other.x (slice_index planes 2) e (n 2) (h.are 2 (omega arith))
    (new 2 (omega arith) ∙ sym (h.are 2 (omega arith))) (row_fits rows row (n 2) (length r) inside h.third) column here is.differs))
    (λ e here. rw place (put_kept elem s d width row other.row other.x (slice_index planes 3) e (n 3) (h.are 3 (omega arith))
    (new 3 (omega arith) ∙ sym (h.are 3 (omega arith))) (row_fits rows row (n 3) (length s) inside h.fourth) column here is.differs))
    ∙ sym (ap (λ f. element_of elem planes f other v) (planes_frame p q r s)
    ∙ frame_of_parts elem planes (row_list p q r s) [] other v
    (sized (row_list p q r s) (plane_sizes op width rows sizes p q r s h)) is.column is.row)
