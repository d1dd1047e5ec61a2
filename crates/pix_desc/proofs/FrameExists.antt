-- The raw frame that is made of values says these values.
use Rattle.std.proofs.Common.{◌≡◌, ℕ, ◌+◌, ◌*◌, ◌/◌, ◌%◌, ◌<◌, Bool, false, if◌then◌else◌, List, All, length, get_or, add-zero, sym, refl}
use Rattle.std.proofs.Common.{ap, ◌∙◌, arith}
use Rattle.std.specs.Int.{bit_at}
use Rattle.std.proofs.lemmas.List.Elements.{All-from_get_or}
use Rattle.std.proofs.lemmas.Nat.Bits.{same_from_bits_below}
use Rattle.pix_desc.specs.declared.desc.Desc.{Desc}
use Rattle.pix_desc.specs.Component.{component_of, bit_of}
use Rattle.pix_desc.specs.Frame.{plane_step, plane_start, row_start, frame_length, frame_component, frame_of, pixel_byte, reads_pixel_bit}
use Rattle.pix_desc.specs.Frame.{IsFrameOf, FitDepths}
use Rattle.pix_desc.specs.Layouts.{IsLaidOut}
use Rattle.pix_desc.proofs.BitPositions.{position_of, bit_position_is, bit_of_is, frame_component_below}
use Rattle.pix_desc.proofs.FrameReads.{IsReadBy, read_inside, frame_bit_by, plane_below}
use Rattle.pix_desc.proofs.FramePixel.{pixel_byte_below, pixel_bit_at, spare_bit_at}
use Rattle.pix_desc.proofs.FramePlanes.{IsByteOf, find_byte, byte_of_planes, length-planes_of}

-- bit b of byte o of a pixel is a bit of that byte of the frame
pub bit_of_byte : (frame : List ℕ) (start o b : ℕ) → b < 8 → bit_of frame (8 * start + (8 * o + b)) ≡ bit_at (get_or frame (start + o) 0) b
bit_of_byte frame start o b below = bit_of_is frame (8 * start + (8 * o + b)) (start + o) b (omega arith) (omega arith)

pub frame_length_is : (desc : Desc) (width height : ℕ) → desc.palette ≡ false
    → frame_length desc width height ≡ plane_start desc width height 4
unfolding frame_length
frame_length_is desc width height none =
    ap (λ (b : Bool). plane_start desc width height 4 + (if b then 1024 else 0)) none ∙ add-zero (plane_start desc width height 4)

pub length-frame_of : (desc : Desc) (width height : ℕ) (value : ℕ → ℕ → ℕ → ℕ)
    → length (frame_of desc width height value) ≡ plane_start desc width height 4
unfolding frame_of
length-frame_of desc width height value = length-planes_of desc width height value 4

pub byte_of_frame : (desc : Desc) (width height : ℕ) (value : ℕ → ℕ → ℕ → ℕ) (at p x y o : ℕ) → IsByteOf desc width height at p x y o
    → get_or (frame_of desc width height value) at 0 ≡ pixel_byte desc p (λ j. value j x y) o
unfolding frame_of
byte_of_frame desc width height value at p x y o is = byte_of_planes desc width height value at p x y o is

module _ (desc : Desc) (width height : ℕ) (value : ℕ → ℕ → ℕ → ℕ) (laid : IsLaidOut desc) (fit : FitDepths desc width height value) where
  pixel_at : (p x y k : ℕ) → x < width → y < height → k < 8 * plane_step desc p
      → bit_of (frame_of desc width height value) (8 * (row_start desc width height p y + x * plane_step desc p) + k)
      ≡ bit_at (pixel_byte desc p (λ j. value j x y) (k / 8)) (k % 8)
  pixel_at p x y k column row inside =
      let frame = frame_of desc width height value in
      let start = row_start desc width height p y + x * plane_step desc p in
      let split : k ≡ 8 * (k / 8) + k % 8 = omega arith in
      let byte : k / 8 < plane_step desc p = omega arith in
      let is : IsByteOf desc width height (start + k / 8) p x y (k / 8) =
      record { plane = plane_below desc p laid (omega arith); column = column; row = row; byte = byte; index = refl } in
      ap (λ t. bit_of frame (8 * start + t)) split
      ∙ bit_of_byte frame start (k / 8) (k % 8) (omega arith)
      ∙ ap (λ n. bit_at n (k % 8)) (byte_of_frame desc width height value (start + k / 8) p x y (k / 8) is)

  byte_of_frame_below : (at p x y o : ℕ) → IsByteOf desc width height at p x y o → get_or (frame_of desc width height value) at 0 < 256
  byte_of_frame_below at p x y o is =
      let small = pixel_byte_below desc laid p (λ j. value j x y) (λ j listed. fit j x y listed is.column is.row) o in
      omega (arith, small, byte_of_frame desc width height value at p x y o is)

  frame_bytes : All (λ byte. byte < 256) (frame_of desc width height value)
  frame_bytes = All-from_get_or (λ byte. byte < 256) (frame_of desc width height value) 0 (λ i inside.
      let found = find_byte desc width height i (omega (arith, inside, length-frame_of desc width height value)) in
      byte_of_frame_below i found.0 found.1 found.2 found.3 found.4)

  frame_reads : (j x y : ℕ) → j < desc.count → x < width → y < height
      → frame_component desc width height (frame_of desc width height value) j x y ≡ value j x y
  frame_reads j x y listed column row =
      let frame = frame_of desc width height value in
      let c = component_of desc j in
      same_from_bits_below c.depth (frame_component desc width height frame j x y) (value j x y)
      (frame_component_below desc width height frame j x y) (fit j x y listed column row)
      (λ i inside.
      let k = position_of desc c (c.shift + i) in
      let by : IsReadBy desc c.plane k j i =
      record { listed = listed; there = refl; inside = inside; at = bit_position_is desc c i (laid.first j listed) } in
      frame_bit_by desc width height frame c.plane x y k j i laid frame_bytes by
      ∙ pixel_at c.plane x y k column row (read_inside desc c.plane k j i laid by)
      ∙ pixel_bit_at desc laid c.plane (λ t. value t x y) (λ t there. fit t x y there column row) k j i by)

  frame_spare : (plane x y k : ℕ) → x < width → y < height → k < 8 * plane_step desc plane → reads_pixel_bit desc plane k ≡ false
      → bit_of (frame_of desc width height value) (8 * (row_start desc width height plane y + x * plane_step desc plane) + k) ≡ 0
  frame_spare plane x y k column row inside unread =
      pixel_at plane x y k column row inside
      ∙ spare_bit_at desc laid plane (λ j. value j x y) (λ j listed. fit j x y listed column row) k unread

  pub frame_says : desc.palette ≡ false → IsFrameOf desc width height value (frame_of desc width height value)
  frame_says none = record {
    bytes = frame_bytes;
    size = length-frame_of desc width height value ∙ sym (frame_length_is desc width height none);
    reads = frame_reads;
    spare = frame_spare;
  }
