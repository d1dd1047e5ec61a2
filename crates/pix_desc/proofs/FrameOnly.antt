-- No two raw frames say the same values.
use Rattle.std.proofs.Common.{◌≡◌, ℕ, ◌+◌, ◌*◌, ◌^◌, ◌<◌, ⊎_elim, false, if◌then◌else◌, nat_eq, List, get_or, ext_get_or, sym, ap, subst}
use Rattle.std.proofs.Common.{◌∙◌, arith}
use Rattle.std.specs.Int.{bit_at}
use Rattle.std.proofs.lemmas.Bool.{cases_Bool}
use Rattle.std.proofs.lemmas.Nat.Bits.{same_from_bits_below}
use Rattle.pix_desc.specs.declared.desc.Desc.{Desc}
use Rattle.pix_desc.specs.Component.{component_of, bit_of}
use Rattle.pix_desc.specs.Frame.{plane_step, row_start, frame_of, reads_pixel_bit, part, pixel_byte, IsFrameOf, FitDepths, AgreeWithin}
use Rattle.pix_desc.specs.Layouts.{IsLaidOut}
use Rattle.pix_desc.proofs.Bits.{sum_from_same}
use Rattle.pix_desc.proofs.BitPositions.{byte_below, frame_component_below}
use Rattle.pix_desc.proofs.FrameReads.{IsReadBy, read_by, frame_bit_by}
use Rattle.pix_desc.proofs.FramePixel.{part_in}
use Rattle.pix_desc.proofs.FramePlanes.{IsByteOf, find_byte}
use Rattle.pix_desc.proofs.FrameExists.{bit_of_byte, frame_length_is, length-frame_of, byte_of_frame, frame_says}

module _ (desc : Desc) (width height : ℕ) (value : ℕ → ℕ → ℕ → ℕ) (laid : IsLaidOut desc) where
  -- a bit that is read is the same in both, since the component that reads it is
  same_read : (a b : List ℕ) → IsFrameOf desc width height value a → IsFrameOf desc width height value b → (p x y k j i : ℕ) → x < width
      → y < height → IsReadBy desc p k j i
      → let at = 8 * (row_start desc width height p y + x * plane_step desc p) + k in bit_of a at ≡ bit_of b at
  same_read a b first second p x y k j i column row by =
      sym (frame_bit_by desc width height a p x y k j i laid first.bytes by)
      ∙ ap (λ n. bit_at n i) (first.reads j x y by.listed column row ∙ sym (second.reads j x y by.listed column row))
      ∙ frame_bit_by desc width height b p x y k j i laid second.bytes by

  -- a spare bit is 0 in both, and each bit of a pixel is read or spare
  same_bit : (a b : List ℕ) → IsFrameOf desc width height value a → IsFrameOf desc width height value b → (p x y k : ℕ) → x < width
      → y < height → k < 8 * plane_step desc p
      → let at = 8 * (row_start desc width height p y + x * plane_step desc p) + k in bit_of a at ≡ bit_of b at
  same_bit a b first second p x y k column row inside =
      ⊎_elim
      (λ read. let by = read_by desc p k read in same_read a b first second p x y k by.0 by.1 column row by.2)
      (λ unread. first.spare p x y k column row inside unread ∙ sym (second.spare p x y k column row inside unread))
      (cases_Bool (reads_pixel_bit desc p k))

  same_bit_of_byte : (a b : List ℕ) → IsFrameOf desc width height value a → IsFrameOf desc width height value b → (p x y o t : ℕ)
      → x < width → y < height → o < plane_step desc p → t < 8
      → let at = row_start desc width height p y + x * plane_step desc p + o in bit_at (get_or a at 0) t ≡ bit_at (get_or b at 0) t
  same_bit_of_byte a b first second p x y o t column row byte bit =
      let start = row_start desc width height p y + x * plane_step desc p in
      sym (bit_of_byte a start o t bit) ∙ same_bit a b first second p x y (8 * o + t) column row (omega arith) ∙ bit_of_byte b start o t bit

  same_byte : (a b : List ℕ) → IsFrameOf desc width height value a → IsFrameOf desc width height value b → (at p x y o : ℕ)
      → IsByteOf desc width height at p x y o → get_or a at 0 ≡ get_or b at 0
  same_byte a b first second at p x y o is =
      same_from_bits_below 8 (get_or a at 0) (get_or b at 0) (byte_below a at first.bytes) (byte_below b at second.bytes) (λ t bit.
      ap (λ k. bit_at (get_or a k 0) t) is.index ∙ same_bit_of_byte a b first second p x y o t is.column is.row is.byte bit
      ∙ ap (λ k. bit_at (get_or b k 0) t) (sym is.index))

  -- two raw frames of the same values are one
  pub same_frames : (a b : List ℕ) → desc.palette ≡ false → IsFrameOf desc width height value a → IsFrameOf desc width height value b
      → a ≡ b
  same_frames a b none first second =
      ext_get_or 0 a b (first.size ∙ sym second.size) (λ i inside.
      let found = find_byte desc width height i (omega (arith, inside, first.size, frame_length_is desc width height none)) in
      same_byte a b first second i found.0 found.1 found.2 found.3 found.4)

  -- what a frame says fits the depths
  pub fit_from_frame : (frame : List ℕ) → IsFrameOf desc width height value frame → FitDepths desc width height value
  fit_from_frame frame says j x y listed column row =
      subst (λ v. v < 2 ^ (component_of desc j).depth) (says.reads j x y listed column row)
      (frame_component_below desc width height frame j x y)

  -- a raw frame of values is the one that is made of them
  pub only_frame : (frame : List ℕ) → desc.palette ≡ false → IsFrameOf desc width height value frame
      → frame ≡ frame_of desc width height value
  only_frame frame none says =
      same_frames frame (frame_of desc width height value) none says
      (frame_says desc width height value laid (fit_from_frame frame says) none)

-- a byte of a pixel depends only on the values of the pixel's components
same_pixel_byte : (desc : Desc) (plane : ℕ) (values others : ℕ → ℕ) (k : ℕ) → ((j : ℕ) → j < desc.count → values j ≡ others j)
    → pixel_byte desc plane values k ≡ pixel_byte desc plane others k
same_pixel_byte desc plane values others k agree =
    sum_from_same (part_in desc plane values k) (part_in desc plane others k) 0 desc.count (λ j _ listed.
    ap (λ v. if nat_eq (component_of desc j).plane plane then part desc (component_of desc j) v k else 0) (agree j (omega arith)))

-- values that agree within the frame make one raw frame
pub agreeing_frames : (desc : Desc) (width height : ℕ) (value other : ℕ → ℕ → ℕ → ℕ) → AgreeWithin desc width height value other
    → frame_of desc width height value ≡ frame_of desc width height other
agreeing_frames desc width height value other agree =
    let long = length-frame_of desc width height value in
    ext_get_or 0 (frame_of desc width height value) (frame_of desc width height other) (long
    ∙ sym (length-frame_of desc width height other)) (λ i inside.
    let found = find_byte desc width height i (omega (arith, inside, long)) in
    same i found.0 found.1 found.2 found.3 found.4)
  where
    same : (at p x y o : ℕ) → IsByteOf desc width height at p x y o
        → get_or (frame_of desc width height value) at 0 ≡ get_or (frame_of desc width height other) at 0
    same at p x y o is =
        byte_of_frame desc width height value at p x y o is
        ∙ same_pixel_byte desc p (λ j. value j x y) (λ j. other j x y) o (λ j listed. agree j x y listed is.column is.row)
        ∙ sym (byte_of_frame desc width height other at p x y o is)
