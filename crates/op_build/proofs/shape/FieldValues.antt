-- The value of a component as a field of the number that its bytes make in the format's byte order.
use Rattle.std.proofs.Common.{◌≡◌, ℕ, ◌+◌, ◌-◌, ◌*◌, ◌/◌, ◌%◌, ◌^◌, ◌<◌, ◌≤◌, List, All, sym, ap, ◌∙◌, arith}
use Rattle.std.proofs.Math.Nat.{mod-lt}
use Rattle.std.proofs.lemmas.Nat.{pow_pos, field_of, shr-shr, shl-shr}
use Rattle.std.proofs.lemmas.Nat.Bits.{same_from_bits_below}
use Rattle.pix_desc.specs.declared.desc.Desc.{Desc}
use Rattle.pix_desc.specs.Component.{component_of, bytes_read, first_byte, count_of, bit_of}
use Rattle.pix_desc.specs.Frame.{row_start, frame_component}
use Rattle.pix_desc.specs.Layouts.{IsLaidOut}
use Rattle.pix_desc.proofs.Bits.{bit_at_field}
use Rattle.pix_desc.proofs.BitPositions.{position_of, bit_position_is, byte_below, frame_bit, frame_component_below}
use Rattle.op_list.specs.Pixel.{number_at}
use Rattle.op_build.proofs.shape.ByteNumbers.{in_order, bit_at_in_order}
use Rattle.pix_desc.proofs.WordBits.{bit_in_order, number_bit_position, number_end}

module _ (desc : Desc) (width rows : ℕ) (frame : List ℕ) (j x row : ℕ) (laid : IsLaidOut desc) (bytes : All (λ byte. byte < 256) frame)
    (listed : j < desc.count) where
  -- where the pixel begins in the component's plane
  abbrev pub pixel_start : ℕ
  pixel_start = row_start desc width rows (component_of desc j).plane row + x * (component_of desc j).step

  -- a field that has the component's bits, in order
  pub same_field : (count at shift : ℕ) → shift + (component_of desc j).depth ≤ 8 * count
      → ((i : ℕ) → i < (component_of desc j).depth → 8 * at + bit_in_order desc.be count (shift + i) ≡ 8 * pixel_start + position_of desc
      (component_of desc j) ((component_of desc j).shift + i))
      → in_order desc.be count (number_at count frame at) / 2 ^ shift % 2 ^ (component_of desc j).depth
      ≡ frame_component desc width rows frame j x row
  same_field count at shift within same =
      let c = component_of desc j in
      let number = in_order desc.be count (number_at count frame at) in
      same_from_bits_below c.depth (number / 2 ^ shift % 2 ^ c.depth) (frame_component desc width rows frame j x row)
      (mod-lt (number / 2 ^ shift) (pow_pos c.depth)) (frame_component_below desc width rows frame j x row)
      (λ i inside.
      bit_at_field number shift c.depth i inside
      ∙ bit_at_in_order frame desc.be count at (shift + i) (λ k. byte_below frame k bytes) (omega arith)
      ∙ ap (bit_of frame) (same i inside)
      ∙ sym (frame_bit desc width rows frame j x row i (position_of desc c (c.shift + i)) laid bytes listed inside
      (bit_position_is desc c i (laid.first j listed))))

  -- of the number that it is read from
  pub element_field : in_order desc.be (bytes_read (component_of desc j))
      (number_at (bytes_read (component_of desc j)) frame (pixel_start + count_of (first_byte desc (component_of desc j))))
      / 2 ^ (component_of desc j).shift % 2 ^ (component_of desc j).depth ≡ frame_component desc width rows frame j x row
  element_field =
      let c = component_of desc j in
      same_field (bytes_read c) (pixel_start + count_of (first_byte desc c)) c.shift (number_end desc laid j listed)
      (λ i inside. omega (arith, number_bit_position desc laid j listed i inside))

-- up to the top of a type of so many bits and down again leaves a field of a number
pub shifted_field : (n shift depth size : ℕ) → shift + depth ≤ size
    → n * 2 ^ (size - shift - depth) % 2 ^ size / 2 ^ (size - depth) ≡ n / 2 ^ shift % 2 ^ depth
shifted_field n shift depth size within =
    let up = size - shift - depth in
    let top : size ≡ depth + (up + shift) = omega arith in
    let down : size - depth ≡ up + shift = omega arith in
    ap (λ t. n * 2 ^ up % 2 ^ t / 2 ^ (size - depth)) top
    ∙ ap (λ t. n * 2 ^ up % 2 ^ (depth + (up + shift)) / 2 ^ t) down
    ∙ field_of (n * 2 ^ up) depth (up + shift)
    ∙ ap (λ t. t % 2 ^ depth) (sym (shr-shr (n * 2 ^ up) up shift) ∙ ap (λ t. t / 2 ^ shift) (shl-shr n up))
