-- Where the bits of a component stand: in its number, in its pixel, and in a raw frame.
use Rattle.std.proofs.Common.{◌≡◌, ℕ, ◌+◌, ◌*◌, ◌/◌, ◌%◌, ◌^◌, ◌<◌, ◌≤◌, ⊎_elim, pos, ◌+ℤ◌, ◌*ℤ◌, nat_abs, nat_le, List, All, length, drop}
use Rattle.std.proofs.Common.{get_or, get_or-drop, mod-lt, pow_pos, sym, ap, subst, ◌∙◌, arith}
use Rattle.std.specs.Int.{bit_at}
use Rattle.std.proofs.lemmas.Bool.{cases_lt}
use Rattle.std.proofs.lemmas.Bool.Decides.{nat_tests}
use Rattle.std.proofs.lemmas.List.{get_or_past}
use Rattle.pix_desc.specs.declared.desc.Comp.{Comp}
use Rattle.pix_desc.specs.declared.desc.Desc.{Desc}
use Rattle.pix_desc.specs.Component.{component_of, is_narrow, bytes_read, first_byte, count_of, start_of, number_at, bit_position, bit_of}
use Rattle.pix_desc.specs.Frame.{row_start, frame_component}
use Rattle.pix_desc.specs.Layouts.{IsLaidOut}
use Rattle.pix_desc.proofs.Bits.{bit_at_field}
use Rattle.pix_desc.proofs.BitsOfBytes.{bits_of, byte_of, byte_of_below, IsBitAt, bit_at_number}

-- bit m of the number that a component is read from, counted from the lowest bit of the pixel's first byte
abbrev pub position_of : Desc → Comp → ℕ → ℕ
position_of desc c m = 8 * (count_of (first_byte desc c) + byte_of (is_narrow c) desc.be m) + m % 8

-- a component that begins in its pixel has its bits there
pub bit_position_is : (desc : Desc) (c : Comp) (i : ℕ) → first_byte desc c ≡ pos (count_of (first_byte desc c))
    → bit_position desc c i ≡ pos (position_of desc c (c.shift + i))
bit_position_is desc c i begins =
    ap (λ first. pos 8 *ℤ (first +ℤ pos (byte_of (is_narrow c) desc.be (c.shift + i))) +ℤ pos ((c.shift + i) % 8)) begins

pub same_position : (desc : Desc) (c : Comp) (i k : ℕ) → first_byte desc c ≡ pos (count_of (first_byte desc c))
    → bit_position desc c i ≡ pos k → position_of desc c (c.shift + i) ≡ k
same_position desc c i k begins at = ap nat_abs (sym (bit_position_is desc c i begins) ∙ at)

-- shift and depth of up to 16 bits fit the bytes that are read
pub fits_bits : (n : ℕ) → n ≤ 16 → n ≤ bits_of (nat_le n 8)
fits_bits n most = grind (arith, nat_tests)

-- each byte of a list of bytes, and 0 past its end
pub byte_below : (bytes : List ℕ) (k : ℕ) → All (λ byte. byte < 256) bytes → get_or bytes k 0 < 256
byte_below bytes k all = ⊎_elim (λ inside. all k 0 inside) (λ past. subst (λ b. b < 256) (sym (get_or_past bytes k 0 past)) (omega arith))
    (cases_lt k (length bytes))

-- a bit of the number that a component is read from is a bit of the row
pub number_bit : (desc : Desc) (c : Comp) (row : List ℕ) (at m k : ℕ) → ((t : ℕ) → get_or row t 0 < 256)
    → IsBitAt (is_narrow c) desc.be at m (k / 8) (k % 8)
    → bit_at (number_at desc c row at) m ≡ bit_of row k
number_bit desc c row at m k small is = bit_at_number (is_narrow c) desc.be (λ t. get_or row t 0) at m (k / 8) (k % 8) small is

-- bit i of a component is the bit of the row in which it stands
pub component_bit : (desc : Desc) (c : Comp) (row : List ℕ) (x i : ℕ) → i < c.depth → c.shift + c.depth ≤ 16
    → ((t : ℕ) → get_or row t 0 < 256)
    → bit_at (number_at desc c row (start_of desc c x) / 2 ^ c.shift % 2 ^ c.depth) i
    ≡ bit_of row (8 * (x * c.step) + position_of desc c (c.shift + i))
component_bit desc c row x i inside most small =
    let at = start_of desc c x in
    let m = c.shift + i in
    let k = 8 * (x * c.step) + position_of desc c m in
    let fits : m < bits_of (is_narrow c) = omega (arith, fits_bits (c.shift + c.depth) most) in
    bit_at_field (number_at desc c row at) c.shift c.depth i inside
    ∙ number_bit desc c row at m k small (record { inside = fits; byte = omega arith; bit = omega arith })

-- a component that lies in its pixel has its bits there
pub position_inside : (desc : Desc) (c : Comp) (i : ℕ) → count_of (first_byte desc c) + bytes_read c ≤ c.step → c.shift + c.depth ≤ 16
    → i < c.depth
    → position_of desc c (c.shift + i) < 8 * c.step
position_inside desc c i room most inside =
    let fits : c.shift + i < bits_of (is_narrow c) = omega (arith, fits_bits (c.shift + c.depth) most) in
    let byte : byte_of (is_narrow c) desc.be (c.shift + i) < bytes_read c = byte_of_below (is_narrow c) desc.be (c.shift + i) fits in
    omega arith

-- a bit of a byte of a list is a bit of the list
pub bit_of_is : (bytes : List ℕ) (k at b : ℕ) → k / 8 ≡ at → k % 8 ≡ b → bit_of bytes k ≡ bit_at (get_or bytes at 0) b
bit_of_is bytes k at b byte bit = ap (λ t. bit_at (get_or bytes t 0) (k % 8)) byte ∙ ap (bit_at (get_or bytes at 0)) bit

-- a bit of a row is a bit of the frame that the row begins in
bit_of_row : (frame : List ℕ) (start k : ℕ) → bit_of (drop start frame) k ≡ bit_of frame (8 * start + k)
bit_of_row frame start k =
    ap (λ n. bit_at n (k % 8)) (get_or-drop start frame (k / 8) 0)
    ∙ sym (bit_of_is frame (8 * start + k) (start + k / 8) (k % 8) (omega arith) (omega arith))

-- bit i of a component of a raw frame is the bit of the frame in which it stands
pub frame_bit : (desc : Desc) (width height : ℕ) (frame : List ℕ) (j x y i k : ℕ) → IsLaidOut desc → All (λ byte. byte < 256) frame
    → j < desc.count
    → i < (component_of desc j).depth → bit_position desc (component_of desc j) i ≡ pos k
    → bit_at (frame_component desc width height frame j x y) i
    ≡ bit_of frame (8 * (row_start desc width height (component_of desc j).plane y + x * (component_of desc j).step) + k)
unfolding frame_component
frame_bit desc width height frame j x y i k laid bytes listed inside at =
    let c = component_of desc j in
    let start = row_start desc width height c.plane y in
    let small : (t : ℕ) → get_or (drop start frame) t 0 < 256 =
    λ t. subst (λ b. b < 256) (sym (get_or-drop start frame t 0)) (byte_below frame (start + t) bytes) in
    let position : position_of desc c (c.shift + i) ≡ k = same_position desc c i k (laid.first j listed) at in
    let there : 8 * start + (8 * (x * c.step) + position_of desc c (c.shift + i)) ≡ 8 * (start + x * c.step) + k = omega arith in
    component_bit desc c (drop start frame) x i inside (laid.bits j listed) small
    ∙ bit_of_row frame start (8 * (x * c.step) + position_of desc c (c.shift + i))
    ∙ ap (bit_of frame) there

-- a component is below 2 ^ depth
pub frame_component_below : (desc : Desc) (width height : ℕ) (frame : List ℕ) (j x y : ℕ)
    → frame_component desc width height frame j x y < 2 ^ (component_of desc j).depth
unfolding frame_component
frame_component_below desc width height frame j x y = mod-lt _ (pow_pos (component_of desc j).depth)
