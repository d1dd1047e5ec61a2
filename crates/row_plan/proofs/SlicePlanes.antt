-- The planes of a slice, and slices put together.
use Rattle.std.proofs.Common.{◌≡◌, ℕ, zero, suc, ◌+◌, ◌*◌, ◌<◌, ◌≤◌, ⊎_elim, List, [], ◌∷◌, ◌++◌, length, take, drop, length-append}
use Rattle.std.proofs.Common.{mul-le-mul_right, refl, sym, ◌∙◌, ap, subst, arith}
use Rattle.std.specs.Prelude.{sum}
use Rattle.std.proofs.Math.Seq.{take-add}
use Rattle.std.proofs.lemmas.Bool.{cases_lt}
use Rattle.std.proofs.lemmas.List.{append_assoc, drop-drop, drop_at, take_at, length-take-le, length-drop, take-append-drop}
use Rattle.pix_desc.specs.declared.desc.Desc.{Desc}
use Rattle.pix_desc.specs.Frame.{row_length, plane_length, plane_start, row_start, frame_length}
use Rattle.op_list.proofs.Elements.{sum-cons}
use Rattle.row_plan.specs.Slices.{plane_rows, planes_before, behind_planes, slice_of, slices_of, joined_plane, joined_planes, behind_first}
use Rattle.row_plan.specs.Slices.{joined, SlicesAreFrames, SlicesMakeFrame}

-- ---- where the rows of a plane stand

plane_end : (desc : Desc) (width height m p : ℕ) → p < m
    → plane_start desc width height p + plane_length desc width height p ≤ plane_start desc width height m
plane_end desc width height zero p below = absurd (omega arith)
plane_end desc width height (suc m) p below =
    ⊎_elim
    (λ (earlier : p < m). omega (arith, plane_end desc width height m p earlier))
    (λ (last : m ≤ p).
    let same : p ≡ m = omega arith in
    subst (λ q. plane_start desc width height q + plane_length desc width height q ≤ plane_start desc width height m + plane_length desc
    width height m) (sym same) (omega arith))
    (cases_lt p m)

-- some rows of a plane lie in it
rows_inside : (first rows height row : ℕ) → first + rows ≤ height → first * row + rows * row ≤ height * row
rows_inside first rows height row within = omega (arith, mul-le-mul_right row within)

pub length-plane_rows : (desc : Desc) (width height first rows p : ℕ) (frame : List ℕ) → p < 4 → first + rows ≤ height
    → plane_start desc width height 4 ≤ length frame
    → length (plane_rows desc width height frame first rows p) ≡ plane_length desc width rows p
unfolding row_start
length-plane_rows desc width height first rows p frame used within long =
    length-take-le (plane_length desc width rows p) (drop (row_start desc width height p first) frame)
    (omega (
      arith,
      length-drop (row_start desc width height p first) frame,
      rows_inside first rows height
          (row_length desc width p) within,
      plane_end desc width height 4 p used,
      long,
    ))

pub length-planes_before : (desc : Desc) (width height first rows m : ℕ) (frame : List ℕ) → m ≤ 4 → first + rows ≤ height
    → plane_start desc width height 4 ≤ length frame
    → length (planes_before desc width height frame first rows m) ≡ plane_start desc width rows m
length-planes_before desc width height first rows zero frame used within long = refl
length-planes_before desc width height first rows (suc m) frame used within long =
    omega (
      arith,
      length-append (planes_before desc width height frame first rows m) (plane_rows desc width height frame first rows m),
      length-planes_before desc width height first rows m frame (omega arith) within long,
      length-plane_rows desc width height first rows m frame (omega arith) within long,
    )

-- ---- a plane of a slice

-- whatever stands behind the planes
plane_there : (desc : Desc) (width height first rows m p : ℕ) (frame rest : List ℕ) → p < m → m ≤ 4 → first + rows ≤ height
    → plane_start desc width height 4 ≤ length frame
    → take (plane_length desc width rows p)
    (drop (plane_start desc width rows p) (planes_before desc width height frame first rows m ++ rest))
    ≡ plane_rows desc width height frame first rows p
plane_there desc width height first rows zero p frame rest below used within long = absurd (omega arith)
plane_there desc width height first rows (suc m) p frame rest below used within long =
    let before = planes_before desc width height frame first rows m in
    let here = plane_rows desc width height frame first rows m in
    let cut = λ (q : ℕ) (bytes : List ℕ). take (plane_length desc width rows q) (drop (plane_start desc width rows q) bytes) in
    ap (cut p) (append_assoc before here rest)
    ∙ ⊎_elim
    (λ (earlier : p < m). plane_there desc width height first rows m p frame (here ++ rest) earlier (omega arith) within long)
    (λ (last : m ≤ p).
    let same : p ≡ m = omega arith in
    ap (λ q. cut q (before ++ (here ++ rest))) same
    ∙ ap (take (plane_length desc width rows m))
    (drop_at before (here ++ rest) (plane_start desc width rows m)
    (length-planes_before desc width height first rows m frame (omega arith) within long))
    ∙ take_at here rest (plane_length desc width rows m) (length-plane_rows desc width height first rows m frame (omega arith) within long)
    ∙ ap (plane_rows desc width height frame first rows) (sym same))
    (cases_lt p m)

pub plane_of_slice : (desc : Desc) (width height first rows p : ℕ) (frame : List ℕ) → p < 4 → first + rows ≤ height
    → plane_start desc width height 4 ≤ length frame
    → plane_rows desc width rows (slice_of desc width height frame first rows) 0 rows p ≡ plane_rows desc width height frame first rows p
unfolding slice_of row_start
plane_of_slice desc width height first rows p frame used within long =
    ap (λ n. take (plane_length desc width rows p) (drop n (slice_of desc width height frame first rows)))
    {x = plane_start desc width rows p + 0 * row_length desc width p} {y = plane_start desc width rows p} (omega arith)
    ∙ plane_there desc width height first rows 4 p frame (behind_planes desc width height frame) used (omega arith) within long

pub behind_slice : (desc : Desc) (width height first rows : ℕ) (frame : List ℕ) → first + rows ≤ height
    → plane_start desc width height 4 ≤ length frame
    → behind_planes desc width rows (slice_of desc width height frame first rows) ≡ behind_planes desc width height frame
unfolding slice_of
behind_slice desc width height first rows frame within long =
    drop_at (planes_before desc width height frame first rows 4) (behind_planes desc width height frame) (plane_start desc width rows 4)
    (length-planes_before desc width height first rows 4 frame (omega arith) within long)

-- a frame has its planes
pub planes_in_frame : (desc : Desc) (width height : ℕ) (frame : List ℕ) → length frame ≡ frame_length desc width height
    → plane_start desc width height 4 ≤ length frame
unfolding frame_length
planes_in_frame desc width height frame size = omega arith

pub slices_are_frames : SlicesAreFrames
unfolding slice_of frame_length
slices_are_frames desc width height first rows frame size within =
    omega (
      arith,
      size,
      length-append (planes_before desc width height frame first rows 4) (behind_planes desc width height frame),
      length-planes_before desc width height first rows 4 frame (omega arith) within (planes_in_frame desc width height frame size),
      length-drop (plane_start desc width height 4) frame,
    )

-- ---- slices put together

-- rows of a plane that follow one another
more_rows : (desc : Desc) (width height first rows others p : ℕ) (frame : List ℕ)
    → plane_rows desc width height frame first rows p ++ plane_rows desc width height frame (first + rows) others p
    ≡ plane_rows desc width height frame first (rows + others) p
unfolding row_start
more_rows desc width height first rows others p frame =
    let row = row_length desc width p in
    let from = drop (row_start desc width height p first) frame in
    ap (λ bytes. take (rows * row) from ++ take (others * row) bytes)
    (ap (λ n. drop n frame) {x = row_start desc width height p (first + rows)} {y = row_start desc width height p first + rows * row}
    (omega arith)
    ∙ sym (drop-drop (rows * row) (row_start desc width height p first) frame))
    ∙ sym (take-add (rows * row) (others * row) from)
    ∙ ap (λ n. take n from) {x = rows * row + others * row} {y = (rows + others) * row} (omega arith)

joined_rows : (desc : Desc) (width height first p : ℕ) (frame counts : List ℕ) → p < 4 → first + sum counts ≤ height
    → plane_start desc width height 4 ≤ length frame
    → joined_plane desc width (slices_of desc width height frame first counts) p ≡ plane_rows desc width height frame first (sum counts) p
joined_rows desc width height first p frame [] used within long =
    ap (λ n. take n (drop (row_start desc width height p first) frame)) {x = 0} {y = 0 * row_length desc width p} (omega arith)
joined_rows desc width height first p frame (rows ∷ counts) used within long =
    let all = sum-cons rows counts in
    ap (λ bytes. bytes ++ joined_plane desc width (slices_of desc width height frame (first + rows) counts) p)
    (plane_of_slice desc width height first rows p frame used (omega (arith, all)) long)
    ∙ ap (λ bytes. plane_rows desc width height frame first rows p ++ bytes)
    (joined_rows desc width height (first + rows) p frame counts used (omega (arith, all)) long)
    ∙ more_rows desc width height first rows (sum counts) p frame
    ∙ ap (λ n. plane_rows desc width height frame first n p) (sym all)

joined_before : (desc : Desc) (width height m : ℕ) (frame counts : List ℕ) → m ≤ 4 → sum counts ≡ height
    → plane_start desc width height 4 ≤ length frame
    → joined_planes desc width (slices_of desc width height frame 0 counts) m ≡ take (plane_start desc width height m) frame
unfolding row_start
joined_before desc width height zero frame counts used all long = refl
joined_before desc width height (suc m) frame counts used all long =
    let start = plane_start desc width height m in
    let size = plane_length desc width height m in
    ap (λ bytes. bytes ++ joined_plane desc width (slices_of desc width height frame 0 counts) m)
    (joined_before desc width height m frame counts (omega arith) all long)
    ∙ ap (λ bytes. take start frame ++ bytes) (joined_rows desc width height 0 m frame counts (omega arith) (omega arith) long)
    ∙ ap (λ n. take start frame ++ take (plane_length desc width n m) (drop (start + 0 * row_length desc width m) frame)) all
    ∙ ap (λ n. take start frame ++ take size (drop n frame)) {x = start + 0 * row_length desc width m} {y = start} (omega arith)
    ∙ sym (take-add start size frame)

behind_all : (desc : Desc) (width height : ℕ) (frame counts : List ℕ) → 0 < length counts → sum counts ≡ height
    → plane_start desc width height 4 ≤ length frame
    → behind_first desc width (slices_of desc width height frame 0 counts) ≡ behind_planes desc width height frame
behind_all desc width height frame [] some all long = absurd (omega arith)
behind_all desc width height frame (rows ∷ counts) some all long =
    behind_slice desc width height 0 rows frame (omega (arith, sum-cons rows counts)) long

pub slices_make_frame : SlicesMakeFrame
unfolding joined
slices_make_frame desc width height frame counts size some all =
    let long = planes_in_frame desc width height frame size in
    ap (λ bytes. bytes ++ behind_first desc width (slices_of desc width height frame 0 counts))
    (joined_before desc width height 4 frame counts (omega arith) all long)
    ∙ ap (λ bytes. take (plane_start desc width height 4) frame ++ bytes) (behind_all desc width height frame counts some all long)
    ∙ take-append-drop (plane_start desc width height 4) frame
