-- The bits of a word: a pixel taken as one number in the format's byte order.
use Rattle.std.proofs.Common.{◌≡◌, ◌≢◌, ℕ, ◌+◌, ◌-◌, ◌*◌, ◌/◌, ◌%◌, ◌<◌, ◌≤◌, Bool, true, false, if◌then◌else◌, pos, sym, refl, ap, ◌∙◌}
use Rattle.std.proofs.Common.{arith}
use Rattle.pix_desc.specs.declared.desc.Desc.{Desc}
use Rattle.pix_desc.specs.Component.{component_of, is_narrow, bytes_read, first_byte, count_of}
use Rattle.pix_desc.specs.Layouts.{IsLaidOut, word_shift}
use Rattle.pix_desc.proofs.BitsOfBytes.{bits_of, byte_of}
use Rattle.pix_desc.proofs.BitPositions.{position_of, bit_position_is, fits_bits}

-- bit m of a number of so many bytes is this bit of them, counted from the lowest bit of the first byte
abbrev pub bit_in_order : Bool → ℕ → ℕ → ℕ
bit_in_order be bytes m = if be then 8 * (bytes - 1 - m / 8) + m % 8 else m

-- where a number begins that is read from some bytes of the word
abbrev lowest : Bool → Bool → ℕ → ℕ → ℕ
lowest be narrow first bytes = 8 * (if be then bytes - first - (if narrow then 1 else 2) else first)

place_in_order : (be narrow : Bool) (first bytes m : ℕ) → m < bits_of narrow → first + (if narrow then 1 else 2) ≤ bytes
    → 8 * (first + byte_of narrow be m) + m % 8 ≡ bit_in_order be bytes (lowest be narrow first bytes + m)
place_in_order true true first bytes m inside room = omega arith
place_in_order true false first bytes m inside room = omega arith
place_in_order false true first bytes m inside room = omega arith
place_in_order false false first bytes m inside room = omega arith

number_within : (be narrow : Bool) (first bytes m : ℕ) → m ≤ bits_of narrow → first + (if narrow then 1 else 2) ≤ bytes
    → lowest be narrow first bytes + m ≤ 8 * bytes
number_within true true first bytes m inside room = omega arith
number_within true false first bytes m inside room = omega arith
number_within false true first bytes m inside room = omega arith
number_within false false first bytes m inside room = omega arith

behind_first : (be narrow : Bool) (first m : ℕ) → m < bits_of narrow
    → 8 * (first + byte_of narrow be m) + m % 8 ≡ 8 * first + bit_in_order be (if narrow then 1 else 2) m
behind_first true true first m inside = omega arith
behind_first true false first m inside = omega arith
behind_first false true first m inside = omega arith
behind_first false false first m inside = omega arith

bits_of_bytes : (narrow : Bool) → bits_of narrow ≡ 8 * (if narrow then 1 else 2)
bits_of_bytes true = refl
bits_of_bytes false = refl

module _ (desc : Desc) (laid : IsLaidOut desc) (j : ℕ) (listed : j < desc.count) where
  -- bit i of a component is bit `word_shift + i` of the word
  pub word_bit_position : (i : ℕ) → i < (component_of desc j).depth
      → position_of desc (component_of desc j) ((component_of desc j).shift + i)
      ≡ bit_in_order desc.be (component_of desc j).step (word_shift desc (component_of desc j) + i)
  word_bit_position i inside =
      let c = component_of desc j in
      let fits : c.shift + i < bits_of (is_narrow c) = omega (arith, fits_bits (c.shift + c.depth) (laid.bits j listed)) in
      place_in_order desc.be (is_narrow c) (count_of (first_byte desc c)) c.step (c.shift + i) fits (laid.inside j listed)
      ∙ ap (bit_in_order desc.be c.step) (omega arith)

  -- and bit `shift + i` of the number that it is read from
  pub number_bit_position : (i : ℕ) → i < (component_of desc j).depth
      → position_of desc (component_of desc j) ((component_of desc j).shift + i)
      ≡ 8 * count_of (first_byte desc (component_of desc j)) + bit_in_order desc.be (bytes_read (component_of desc j))
      ((component_of desc j).shift + i)
  number_bit_position i inside =
      let c = component_of desc j in
      let fits : c.shift + i < bits_of (is_narrow c) = omega (arith, fits_bits (c.shift + c.depth) (laid.bits j listed)) in
      behind_first desc.be (is_narrow c) (count_of (first_byte desc c)) (c.shift + i) fits

  pub number_end : (component_of desc j).shift + (component_of desc j).depth ≤ 8 * bytes_read (component_of desc j)
  number_end =
      let c = component_of desc j in
      omega (arith, bits_of_bytes (is_narrow c), fits_bits (c.shift + c.depth) (laid.bits j listed))

  -- a component lies in the word
  pub word_end : word_shift desc (component_of desc j) + (component_of desc j).depth ≤ 8 * (component_of desc j).step
  word_end =
      let c = component_of desc j in
      omega (
        arith,
        number_within desc.be (is_narrow c) (count_of (first_byte desc c)) c.step (c.shift + c.depth)
            (fits_bits (c.shift + c.depth) (laid.bits j listed)) (laid.inside j listed),
      )

-- no two components of a plane have a common bit of the word
pub word_apart : (desc : Desc) (i j a b : ℕ) → IsLaidOut desc → i < desc.count → j < desc.count → i ≢ j
    → (component_of desc i).plane ≡ (component_of desc j).plane
    → (component_of desc i).step ≡ (component_of desc j).step → a < (component_of desc i).depth → b < (component_of desc j).depth
    → word_shift desc (component_of desc i) + a ≢ word_shift desc (component_of desc j) + b
word_apart desc i j a b laid first second differ plane step in_first in_second same =
    let c = component_of desc i in
    let d = component_of desc j in
    let position : position_of desc c (c.shift + a) ≡ position_of desc d (d.shift + b) =
    word_bit_position desc laid i first a in_first
    ∙ ap (λ s. bit_in_order desc.be s (word_shift desc c + a)) step
    ∙ ap (bit_in_order desc.be d.step) same
    ∙ sym (word_bit_position desc laid j second b in_second) in
    laid.apart i j a b first second differ plane in_first in_second
    (bit_position_is desc c a (laid.first i first) ∙ ap pos position ∙ sym (bit_position_is desc d b (laid.first j second)))
