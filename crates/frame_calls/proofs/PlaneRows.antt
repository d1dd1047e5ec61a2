-- Rows that are put into planes, one after the other.
use Rattle.std.proofs.Common.{◌≡◌, ℕ, zero, suc, ◌+◌, ◌-◌, ◌*◌, ◌<◌, ◌≤◌}
use Rattle.std.proofs.Common.{⊎_elim, ◌⊎◌, true, List, [], ◌++◌, length, take, drop, slice_index}
use Rattle.std.proofs.Common.{le_refl, refl, sym, ap, subst, ◌∙◌, arith}
use Rattle.std.specs.Prelude.{nat_le}
use Rattle.std.proofs.lemmas.Bool.{cases_lt, leb-true}
use Rattle.std.proofs.lemmas.List.{drop-take, take-take, get_or-take, get_or-drop, length-take-le, length-drop, length-append}
use Rattle.std.proofs.lemmas.Slice.{between-put_mid, take-put_mid_below, drop-put_mid}
use Rattle.std.proofs.Math.Nat.{mul-le-mul_right}
use Rattle.frac_math.proofs.FractionRing.{and_left, and_right}
use borrow.Rule.Slice.PartMut.{put_mid, post_of}
use Rattle.pix_desc.specs.declared.desc.Desc.{Desc}
use Rattle.pix_desc.specs.Frame.{row_length}
use Rattle.pix_meaning.specs.declared.pair.Pair.{Pair}
use Rattle.pix_meaning.specs.Target.{target_rows}
use Rattle.kernel_planes.specs.declared.planes.Planes.{Planes}
use Rattle.kernel_planes.specs.Planes.{row_at, row_frame, row_list, rows_of}
use Rattle.row_plan.specs.Planes.{AreRowsOf, palette_bytes}
use Rattle.frame_calls.specs.declared.rows.Rows.{Rows}
use Rattle.frame_calls.specs.Planes.{row_sizes, plane_row, row_of, rows_at, source_row, target_row}
use Rattle.frame_calls.specs.Planes.{holds_plane, hold_rows, AreRowsConverted}
use Rattle.frame_calls.specs.PlaneSteps.{HoldRow, IsRowPut, AreRowsPut}

-- ---- one plane
-- a plane with a row in the place of an old one
abbrev pub put : ℕ → ℕ → ℕ → List ℕ → List ℕ → List ℕ
put r stride size plane row = put_mid (r * stride) (r * stride + size - r * stride) plane row

part_length : (r stride size : ℕ) (plane row : List ℕ) → r * stride + size ≤ length plane
    → length row ≡ length (plane_row plane stride size r) → length row ≡ r * stride + size - r * stride
part_length r stride size plane row room same =
    same ∙ length-take-le (r * stride + size - r * stride) (drop (r * stride) plane) (omega (arith, room, length-drop (r * stride) plane))

put_length : (a k : ℕ) (plane row : List ℕ) → a + k ≤ length plane → length row ≡ k → length (put_mid a k plane row) ≡ length plane
put_length a k plane row room long =
    omega (
      arith,
      long,
      room,
      length-append (take a plane) (row ++ post_of a k plane),
      length-append row (post_of a k plane),
      length-take-le a plane (omega (arith, room)),
      length-drop k (drop a plane),
      length-drop a plane,
    )

pub put_there : (r stride size : ℕ) (plane row : List ℕ) → r * stride + size ≤ length plane
    → length row ≡ length (plane_row plane stride size r) → plane_row (put r stride size plane row) stride size r ≡ row
put_there r stride size plane row room same =
    between-put_mid (r * stride) (r * stride + size - r * stride) plane row (r * stride + size) (omega (arith, room))
    (part_length r stride size plane row room same)

pub put_alone : (r stride size : ℕ) (plane row : List ℕ) → r * stride + size ≤ length plane
    → length row ≡ length (plane_row plane stride size r) → IsRowPut plane (put r stride size plane row) stride size r
put_alone r stride size plane row room same =
    let k = r * stride + size - r * stride in
    let long = part_length r stride size plane row room same in
    record {
      same = put_length (r * stride) k plane row (omega (arith, room)) long;
      front = take-put_mid_below (r * stride) k plane row (r * stride) (le_refl (r * stride)) (omega (arith, room));
      behind = drop-put_mid (r * stride) k plane row (r * stride + size) (omega (arith)) (omega (arith, room)) long;
    }

-- a row before the one that is put
row_kept : (old new : List ℕ) (stride size k r : ℕ) → IsRowPut old new stride size r → size ≤ stride → k < r
    → plane_row new stride size k ≡ plane_row old stride size k
row_kept old new stride size k r put fits before =
    let less : (k + 1) * stride ≤ r * stride = mul-le-mul_right stride (omega (arith, before)) in
    let within : k * stride + size ≤ r * stride = omega (arith, less, fits) in
    let count : k * stride + size - k * stride ≡ size = omega arith in
    let cut : (xs : List ℕ) → plane_row xs stride size k ≡ drop (k * stride) (take (k * stride + size) (take (r * stride) xs)) =
    λ xs. ap (λ n. take n (drop (k * stride) xs)) count ∙ sym (drop-take (k * stride) size xs)
    ∙ ap (drop (k * stride)) (sym (take-take (k * stride + size) (r * stride) xs within)) in
    cut new ∙ ap (λ xs. drop (k * stride) (take (k * stride + size) xs)) put.front ∙ sym (cut old)

byte_kept : (old new : List ℕ) (stride size i r : ℕ) → IsRowPut old new stride size r → (i < r * stride) ⊎ (r * stride + size ≤ i)
    → slice_index new i ≡ slice_index old i
byte_kept old new stride size i r put outside =
    ⊎_elim
    (λ (above : i < r * stride). sym (get_or-take (r * stride) new i 0 above) ∙ ap (λ xs. slice_index xs i) put.front
    ∙ get_or-take (r * stride) old i 0 above)
    (λ (below : r * stride + size ≤ i).
    let end = r * stride + size in
    let there : i ≡ end + (i - end) = omega (arith, below) in
    let far : (xs : List ℕ) → slice_index xs i ≡ slice_index (drop end xs) (i - end) =
    λ xs. ap (slice_index xs) there ∙ sym (get_or-drop end xs (i - end) 0) in
    far new ∙ ap (λ xs. slice_index xs (i - end)) put.behind ∙ sym (far old))
    outside

-- ---- four planes
four : (P : ℕ → Type 0) → P 0 → P 1 → P 2 → P 3 → (p : ℕ) → p < 4 → P p
four P a b c d zero below = a
four P a b c d (suc zero) below = b
four P a b c d (suc (suc zero)) below = c
four P a b c d (suc (suc (suc zero))) below = d
four P a b c d (suc (suc (suc (suc p)))) below = absurd (omega (arith, below))

pub same_rows : {a b c d e f g h : List ℕ} → a ≡ e → b ≡ f → c ≡ g → d ≡ h
    → row_frame (row_list a b c d) [] ≡ row_frame (row_list e f g h) []
same_rows first second third fourth = λ i. row_frame (row_list (first i) (second i) (third i) (fourth i)) []

each : (old new : List (List ℕ)) (strides sizes : List ℕ) (r : ℕ) → AreRowsPut old new strides sizes r → (p : ℕ) → p < 4
    → IsRowPut (row_at old p) (row_at new p) (slice_index strides p) (slice_index sizes p) r
each old new strides sizes r put =
    four (λ p. IsRowPut (row_at old p) (row_at new p) (slice_index strides p) (slice_index sizes p) r)
    put.first put.second put.third put.fourth

-- each row fits between two
abbrev pub Fit : List ℕ → List ℕ → Type 0
Fit strides sizes = (p : ℕ) → p < 4 → slice_index sizes p ≤ slice_index strides p

pub one_more : (pair : Pair) (rows : Rows) (source : Planes) (source_strides strides : List ℕ) (first old new : List (List ℕ)) (r : ℕ)
    → AreRowsConverted pair rows source source_strides strides first old r
    → AreRowsPut old new strides (row_sizes pair.to.desc rows.width) r → Fit strides (row_sizes pair.to.desc rows.width)
    → target_row pair.to.desc rows.width new strides r
    ≡ target_rows pair rows.width 1 (rows.first + r) (source_row pair.from.desc rows.width source source_strides r)
    → AreRowsConverted pair rows source source_strides strides first new (r + 1)
one_more pair rows source source_strides strides first old new r before put fit row =
    let sizes = row_sizes pair.to.desc rows.width in
    let kept : (p k : ℕ) → p < 4 → k < r → row_of new strides sizes k p ≡ row_of old strides sizes k p =
    λ p k plane less. row_kept (row_at old p) (row_at new p) (slice_index strides p) (slice_index sizes p) k r
    (each old new strides sizes r put p plane) (fit p plane) less in
    record {
      lengths = λ p plane. (each old new strides sizes r put p plane).same ∙ before.lengths p plane;
      targets = λ k below. ⊎_elim
          (λ (less : k < r). same_rows (kept 0 k (omega arith) less) (kept 1 k (omega arith) less) (kept 2 k (omega arith) less)
          (kept 3 k (omega arith) less) ∙ before.targets k less)
          (λ (most : r ≤ k). subst (λ n. target_row pair.to.desc rows.width new strides n
          ≡ target_rows pair rows.width 1 (rows.first + n) (source_row pair.from.desc rows.width source source_strides n))
          {x = r} {y = k} (omega (arith, below, most)) row)
          (cases_lt k r);
      gaps = λ p i plane outside.
          byte_kept (row_at old p) (row_at new p) (slice_index strides p) (slice_index sizes p) i r
          (each old new strides sizes r put p plane)
          (outside r (omega arith))
          ∙ before.gaps p i plane (λ k below. outside k (omega (arith, below)));
    }

-- ---- where rows are held
plane_fits : (planes : List (List ℕ)) (strides sizes : List ℕ) (rows p : ℕ) → holds_plane planes strides sizes rows p ≡ true
    → slice_index sizes p ≤ slice_index strides p
plane_fits planes strides sizes rows p holds =
    leb-true (slice_index sizes p) (slice_index strides p) (and_left _ _ holds)

plane_ends : (planes : List (List ℕ)) (strides sizes : List ℕ) (rows p r : ℕ) → holds_plane planes strides sizes rows p ≡ true → r < rows
    → r * slice_index strides p + slice_index sizes p ≤ length (row_at planes p)
plane_ends planes strides sizes rows p r holds inside =
    let ends : (rows - 1) * slice_index strides p + slice_index sizes p ≤ length (row_at planes p) =
    leb-true ((rows - 1) * slice_index strides p + slice_index sizes p) (length (row_at planes p)) (and_right (nat_le (slice_index
    sizes p) (slice_index strides p)) _ holds) in
    let less : r * slice_index strides p ≤ (rows - 1) * slice_index strides p = mul-le-mul_right (slice_index strides p) (omega (
      arith,
      inside,
    )) in
    omega (arith, ends, less)

all_hold : (planes : List (List ℕ)) (strides sizes : List ℕ) (rows : ℕ) → hold_rows planes strides sizes rows ≡ true → (p : ℕ) → p < 4
    → holds_plane planes strides sizes rows p ≡ true
all_hold planes strides sizes rows hold =
    let two = and_left _ _ hold in
    let others = and_right _ _ hold in
    four (λ p. holds_plane planes strides sizes rows p ≡ true) (and_left _ _ two) (and_right _ _ two) (and_left _ _ others)
    (and_right _ _ others)

pub they_fit : (planes : List (List ℕ)) (strides sizes : List ℕ) (rows : ℕ) → hold_rows planes strides sizes rows ≡ true
    → Fit strides sizes
they_fit planes strides sizes rows hold p plane =
    plane_fits planes strides sizes rows p (all_hold planes strides sizes rows hold p plane)

-- also where the planes were changed, and kept their lengths
pub row_held : (planes now : List (List ℕ)) (strides sizes : List ℕ) (rows r : ℕ) → hold_rows planes strides sizes rows ≡ true → r < rows
    → ((p : ℕ) → p < 4 → length (row_at now p) ≡ length (row_at planes p)) → HoldRow now strides sizes r
row_held planes now strides sizes rows r hold inside same =
    let at : (p : ℕ) → p < 4 → r * slice_index strides p + slice_index sizes p ≤ length (row_at now p) =
    λ p plane. omega (
      arith,
      plane_ends planes strides sizes rows p r
          (all_hold planes strides sizes rows hold p plane) inside,
      same p plane,
    ) in
    record { first = at 0 (omega arith); second = at 1 (omega arith); third = at 2 (omega arith); fourth = at 3 (omega arith) }

-- ---- the loop over rows
pub none_yet : (pair : Pair) (rows : Rows) (source : Planes) (source_strides strides : List ℕ) (planes : List (List ℕ))
    → AreRowsConverted pair rows source source_strides strides planes planes 0
none_yet pair rows source source_strides strides planes = record {
  lengths = λ p plane. refl;
  targets = λ r below. absurd (omega (arith, below));
  gaps = λ p i plane outside. refl;
}

row_length_is : (planes : List (List ℕ)) (strides sizes : List ℕ) (r p : ℕ)
    → r * slice_index strides p + slice_index sizes p ≤ length (row_at planes p)
    → length (row_of planes strides sizes r p) ≡ slice_index sizes p
row_length_is planes strides sizes r p room =
    let at = r * slice_index strides p in
    let count : at + slice_index sizes p - at ≡ slice_index sizes p = omega arith in
    length-take-le (at + slice_index sizes p - at) (drop at (row_at planes p)) (omega (arith, room, length-drop at (row_at planes p)))
    ∙ count

pub rows_have_sizes : (desc : Desc) (width : ℕ) (planes rows : List (List ℕ)) (strides sizes : List ℕ) (r : ℕ)
    → HoldRow planes strides sizes r → sizes ≡ row_sizes desc width → rows ≡ rows_at planes strides sizes r → AreRowsOf desc width rows
rows_have_sizes desc width planes rows strides sizes r hold are is =
    subst (AreRowsOf desc width) (sym is) (
    four (λ p. length (row_at (rows_at planes strides sizes r) p) ≡ row_length desc width p)
    (row_length_is planes strides sizes r 0 hold.first ∙ ap (λ s. slice_index s 0) are)
    (row_length_is planes strides sizes r 1 hold.second ∙ ap (λ s. slice_index s 1) are)
    (row_length_is planes strides sizes r 2 hold.third ∙ ap (λ s. slice_index s 2) are)
    (row_length_is planes strides sizes r 3 hold.fourth ∙ ap (λ s. slice_index s 3) are))

pub one_step : (pair : Pair) (rows : Rows) (source input : Planes) (source_strides strides from to : List ℕ) (first old new : List (List ℕ))
    (r palette : ℕ) → from ≡ row_sizes pair.from.desc rows.width → to ≡ row_sizes pair.to.desc rows.width
    → palette ≡ palette_bytes pair.from.desc → rows_of input ≡ rows_at (rows_of source) source_strides from r
    → input.palette.now ≡ take palette source.palette.now → hold_rows first strides to rows.count ≡ true
    → AreRowsPut old new strides to r
    → row_frame (rows_at new strides to r) []
    ≡ target_rows pair rows.width 1 (rows.first + r) (row_frame (rows_of input) input.palette.now)
    → AreRowsConverted pair rows source source_strides strides first old r
    → AreRowsConverted pair rows source source_strides strides first new (r + 1)
one_step pair rows source input source_strides strides from to first old new r palette from_is to_is palette_is rows_is entries hold
    put row before =
    let given : rows_of input ≡ rows_at (rows_of source) source_strides (row_sizes pair.from.desc rows.width) r =
    rows_is ∙ ap (λ s. rows_at (rows_of source) source_strides s r) from_is in
    let behind : input.palette.now ≡ take (palette_bytes pair.from.desc) source.palette.now =
    entries ∙ ap (λ n. take n source.palette.now) palette_is in
    one_more pair rows source source_strides strides first old new r before
    (subst (λ s. AreRowsPut old new strides s r) to_is put)
    (subst (Fit strides) to_is (they_fit first strides to rows.count hold))
    (ap (λ s. row_frame (rows_at new strides s r) []) (sym to_is) ∙ row
    ∙ (λ i. target_rows pair rows.width 1 (rows.first + r) (row_frame (given i) (behind i))))
