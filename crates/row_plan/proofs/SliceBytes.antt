-- The bytes of a slice are those of the frame's rows, and so are its components.
use Rattle.std.proofs.Common.{◌≡◌, ℕ, ◌+◌, ◌*◌, ◌/◌, ◌%◌, ◌^◌, ◌<◌, ◌≤◌, Bool, true, false, if◌then◌else◌, List, All, length, drop, get_or}
use Rattle.std.proofs.Common.{get_or-drop, slice_index, mul-le-mul_right, add-zero, refl, sym, ◌∙◌, ap, subst, arith}
use Rattle.std.specs.Int.{bit_at}
use Rattle.std.proofs.lemmas.Bool.{cond-true}
use Rattle.std.proofs.lemmas.List.{get_or-take}
use Rattle.std.proofs.lemmas.List.Elements.{All-from_get_or}
use Rattle.std.proofs.lemmas.Nat.{mul-add-lt}
use Rattle.pix_desc.specs.declared.desc.Desc.{Desc}
use Rattle.pix_desc.specs.Component.{component_of, is_narrow, bytes_read, start_of, bit_of}
use Rattle.pix_desc.specs.Frame.{plane_step, row_length, plane_length, plane_start, row_start, frame_length, frame_component}
use Rattle.pix_desc.specs.Layouts.{IsValid, IsLaidOut}
use Rattle.pix_desc.proofs.Valid.{laid_out}
use Rattle.pix_desc.proofs.BitPositions.{byte_below, bit_of_is}
use Rattle.pix_desc.proofs.FramePlanes.{IsByteOf, find_byte}
use Rattle.pix_desc.proofs.FrameExists.{frame_length_is}
use Rattle.pix_meaning.specs.Pairs.{component_count}
use Rattle.pix_meaning.specs.Values.{entry_byte, entry_component, source_component}
use Rattle.op_build.proofs.recipe.Frames.{palette_frame}
use Rattle.row_plan.specs.Slices.{slice_of}
use Rattle.row_plan.proofs.SlicePlanes.{plane_of_slice, behind_slice, planes_in_frame, slices_are_frames}

-- the entries of a palette stand behind one byte a pixel
palette_start : (desc : Desc) (width rows : ℕ) → IsValid desc → desc.palette ≡ true → plane_start desc width rows 4 ≡ width * rows
unfolding frame_length
palette_start desc width rows valid has = omega (arith, palette_frame desc width rows valid has, cond-true {A = ℕ} desc.palette 1024 0 has)

-- byte t of row y of a plane of a slice is that of the row in the frame
module _ (desc : Desc) (width height first rows : ℕ) (frame : List ℕ) (size : length frame ≡ frame_length desc width height)
    (within : first + rows ≤ height) where
  pub byte_of_slice : (p y t : ℕ) → p < 4 → y < rows → t < row_length desc width p
      → get_or (slice_of desc width height frame first rows) (row_start desc width rows p y + t) 0
      ≡ get_or frame (row_start desc width height p (first + y) + t) 0
  unfolding row_start
  byte_of_slice p y t used row inside =
      let slice = slice_of desc width height frame first rows in
      let step = row_length desc width p in
      let n = plane_length desc width rows p in
      let k = y * step + t in
      let below : k < n = omega (arith, mul-add-lt y step t rows row inside) in
      ap (λ i. get_or slice i 0) {x = row_start desc width rows p y + t} {y = row_start desc width rows p 0 + k} (omega arith)
      ∙ sym (get_or-drop (row_start desc width rows p 0) slice k 0)
      ∙ sym (get_or-take n (drop (row_start desc width rows p 0) slice) k 0 below)
      ∙ ap (λ bytes. get_or bytes k 0)
      (plane_of_slice desc width height first rows p frame used within (planes_in_frame desc width height frame size))
      ∙ get_or-take n (drop (row_start desc width height p first) frame) k 0 below
      ∙ get_or-drop (row_start desc width height p first) frame k 0
      ∙ ap (λ i. get_or frame i 0) {x = row_start desc width height p first + k} {y = row_start desc width height p (first + y) + t}
      (omega arith)

  -- what stands behind the planes
  pub byte_behind_slice : (k : ℕ)
      → get_or (slice_of desc width height frame first rows) (plane_start desc width rows 4 + k) 0
      ≡ get_or frame (plane_start desc width height 4 + k) 0
  byte_behind_slice k =
      sym (get_or-drop (plane_start desc width rows 4) (slice_of desc width height frame first rows) k 0)
      ∙ ap (λ bytes. get_or bytes k 0)
      (behind_slice desc width height first rows frame within (planes_in_frame desc width height frame size))
      ∙ get_or-drop (plane_start desc width height 4) frame k 0

  -- ---- components

  same_number : (narrow be : Bool) (a b : List ℕ) (at : ℕ)
      → ((t : ℕ) → t < (if narrow then 1 else 2) → get_or a (at + t) 0 ≡ get_or b (at + t) 0)
      → (if narrow then slice_index a at else
      (if be then 256 * slice_index a at + slice_index a (at + 1) else slice_index a at + 256 * slice_index a (at + 1)))
      ≡ (if narrow then slice_index b at else
      (if be then 256 * slice_index b at + slice_index b (at + 1) else slice_index b at + 256 * slice_index b (at + 1)))
  same_number true be a b at same = rw (sym (add-zero at)) (same 0 (omega arith))
  same_number false true a b at same =
      let low : get_or a at 0 ≡ get_or b at 0 = rw (sym (add-zero at)) (same 0 (omega arith)) in
      omega (arith, low, same 1 (omega arith))
  same_number false false a b at same =
      let low : get_or a at 0 ≡ get_or b at 0 = rw (sym (add-zero at)) (same 0 (omega arith)) in
      omega (arith, low, same 1 (omega arith))

  pub component_of_slice : (j x y : ℕ) → IsLaidOut desc → j < desc.count → x < width → y < rows
      → frame_component desc width rows (slice_of desc width height frame first rows) j x y
      ≡ frame_component desc width height frame j x (first + y)
  unfolding frame_component
  component_of_slice j x y laid listed column row =
      let c = component_of desc j in
      let slice = slice_of desc width height frame first rows in
      let at = start_of desc c x in
      let room : at + bytes_read c ≤ row_length desc width c.plane =
      omega (
        arith,
        laid.inside j listed,
        mul-le-mul_right {m = x + 1} {n = width} c.step (omega arith),
        ap (λ s. width * s)
            (laid.step j listed),
      ) in
      ap (λ n. n / 2 ^ c.shift % 2 ^ c.depth)
      (same_number (is_narrow c) desc.be (drop (row_start desc width rows c.plane y) slice)
      (drop (row_start desc width height c.plane (first + y)) frame) at (λ t inside.
      get_or-drop (row_start desc width rows c.plane y) slice (at + t) 0
      ∙ byte_of_slice c.plane y (at + t) (laid.plane j listed) row (omega (arith, room, inside))
      ∙ sym (get_or-drop (row_start desc width height c.plane (first + y)) frame (at + t) 0)))

  -- the entry of an index
  entry_of_slice : (index j : ℕ) → IsValid desc → desc.palette ≡ true
      → entry_component width rows (slice_of desc width height frame first rows) index j ≡ entry_component width height frame index j
  entry_of_slice index j valid has =
      let slice = slice_of desc width height frame first rows in
      let k = 4 * index + entry_byte j in
      ap (λ i. get_or slice i 0) {x = width * rows + 4 * index + entry_byte j} {y = plane_start desc width rows 4 + k}
      (omega (arith, palette_start desc width rows valid has))
      ∙ byte_behind_slice k
      ∙ ap (λ i. get_or frame i 0) {x = plane_start desc width height 4 + k} {y = width * height + 4 * index + entry_byte j}
      (omega (arith, palette_start desc width height valid has))

  -- the code of a component, also by a palette
  pub source_of_slice : (i x y : ℕ) → IsValid desc → i < component_count desc → x < width → y < rows
      → source_component desc width rows (slice_of desc width height frame first rows) i x y
      ≡ source_component desc width height frame i x (first + y)
  unfolding source_component
  source_of_slice i x y valid listed column row = by_palette desc.palette refl
    where
      by_palette : (palette : Bool) → desc.palette ≡ palette
          → source_component desc width rows (slice_of desc width height frame first rows) i x y
          ≡ source_component desc width height frame i x (first + y)
      by_palette true has =
          let slice = slice_of desc width height frame first rows in
          let index = frame_component desc width rows slice 0 x y in
          let laid = laid_out desc valid in
          ap (λ p. if p then entry_component width rows slice index i else frame_component desc width rows slice i x y) has
          ∙ entry_of_slice index i valid has
          ∙ ap (λ code. entry_component width height frame code i) (component_of_slice 0 x y laid laid.some column row)
          ∙ ap (λ p. if p then entry_component width height frame
          (frame_component desc width height frame 0 x (first + y)) i else frame_component desc width height frame i x (first + y))
          (sym has)
      by_palette false none =
          let slice = slice_of desc width height frame first rows in
          let index = frame_component desc width rows slice 0 x y in
          let there : i < desc.count = subst (λ p. i < (if p then 4 else desc.count)) none listed in
          ap (λ p. if p then entry_component width rows slice index i else frame_component desc width rows slice i x y) none
          ∙ component_of_slice i x y (laid_out desc valid) there column row
          ∙ ap (λ p. if p then entry_component width height frame
          (frame_component desc width height frame 0 x (first + y)) i else frame_component desc width height frame i x (first + y))
          (sym none)

  -- ---- bits

  pub bit_of_slice : (p x y k : ℕ) → p < 4 → x < width → y < rows → k < 8 * plane_step desc p
      → bit_of (slice_of desc width height frame first rows) (8 * (row_start desc width rows p y + x * plane_step desc p) + k)
      ≡ bit_of frame (8 * (row_start desc width height p (first + y) + x * plane_step desc p) + k)
  bit_of_slice p x y k used column row inside =
      let slice = slice_of desc width height frame first rows in
      let t = x * plane_step desc p + k / 8 in
      let below : t < row_length desc width p = omega (arith, mul-add-lt x (plane_step desc p) (k / 8) width column (omega arith)) in
      bit_of_is slice (8 * (row_start desc width rows p y + x * plane_step desc p) + k) (row_start desc width rows p y + t) (k % 8)
      (omega arith) (omega arith)
      ∙ ap (λ n. bit_at n (k % 8)) (byte_of_slice p y t used row below)
      ∙ sym (bit_of_is frame (8 * (row_start desc width height p (first + y) + x * plane_step desc p) + k)
      (row_start desc width height p (first + y) + t) (k % 8) (omega arith) (omega arith))

  -- a slice of a frame of bytes has bytes, where no palette stands behind its planes
  pub bytes_of_slice : desc.palette ≡ false → All (λ byte. byte < 256) frame
      → All (λ byte. byte < 256) (slice_of desc width height frame first rows)
  bytes_of_slice none bytes =
      let slice = slice_of desc width height frame first rows in
      All-from_get_or (λ byte. byte < 256) slice 0 (λ k inside.
      let found =
      find_byte desc width rows k
      (omega (arith, inside, slices_are_frames desc width height first rows frame size within, frame_length_is desc width rows none)) in
      byte_at k found.0 found.1 found.2 found.3 found.4)
    where
      byte_at : (k p x y o : ℕ) → IsByteOf desc width rows k p x y o → get_or (slice_of desc width height frame first rows) k 0 < 256
      byte_at k p x y o is =
          let t = x * plane_step desc p + o in
          let below : t < row_length desc width p = omega (arith, mul-add-lt x (plane_step desc p) o width is.column is.byte) in
          let same : get_or (slice_of desc width height frame first rows) k 0 ≡ get_or frame
          (row_start desc width height p (first + y) + t) 0 =
          ap (λ i. get_or (slice_of desc width height frame first rows) i 0) {x = k} {y = row_start desc width rows p y + t}
          (omega (arith, is.index))
          ∙ byte_of_slice p y t is.plane is.row below in
          subst (λ b. b < 256) (sym same) (byte_below frame (row_start desc width height p (first + y) + t) bytes)
