-- The bits of a byte of a pixel that is made of its components' values.
use Rattle.std.proofs.Common.{◌≡◌, ℕ, ◌+◌, ◌*◌, ◌/◌, ◌%◌, ◌^◌, ◌<◌, ◌≤◌, ◌≢◌, ◌⊎◌, inl, inr, ⊎_elim, false, pos, if◌then◌else◌, nat_eq}
use Rattle.std.proofs.Common.{eq-eqb, true≢false, pow_mono, sym, ap, subst, ◌∙◌, arith}
use Rattle.std.specs.Int.{bit_at}
use Rattle.std.proofs.lemmas.Bool.{cases_lt, cases_eq, cond-true, cond-false, ne_eqb}
use Rattle.std.proofs.lemmas.Nat.{shl_below}
use Rattle.std.proofs.lemmas.Nat.Bits.{bit_at-zero, bit_at_above}
use Rattle.pix_desc.specs.declared.desc.Desc.{Desc}
use Rattle.pix_desc.specs.Component.{component_of, is_narrow, first_byte, count_of}
use Rattle.pix_desc.specs.Frame.{part, pixel_byte, reads_pixel_bit}
use Rattle.pix_desc.specs.Layouts.{IsLaidOut}
use Rattle.pix_desc.proofs.Bits.{SharesNoBit, bit_at_shifted, bit_at_shifted_cases, bit_at_sum_only, bit_at_sum_none, sum_from_below}
use Rattle.pix_desc.proofs.BitsOfBytes.{bits_of, byte_of, IsBitAt, part_below, bit_at_part, bit_at_part_cases}
use Rattle.pix_desc.proofs.BitPositions.{position_of, bit_position_is, same_position, fits_bits}
use Rattle.pix_desc.proofs.FrameReads.{IsReadBy, reads_from}

-- what component j puts into byte k of a pixel in a plane
abbrev pub part_in : Desc → ℕ → (ℕ → ℕ) → ℕ → ℕ → ℕ
part_in desc plane values k j = if nat_eq (component_of desc j).plane plane then part desc (component_of desc j) (values j) k else 0

-- a value that fits its component fits the number in which it stands
number_below : (desc : Desc) (j v : ℕ) → IsLaidOut desc → j < desc.count → v < 2 ^ (component_of desc j).depth
    → v * 2 ^ (component_of desc j).shift < 2 ^ bits_of (is_narrow (component_of desc j))
number_below desc j v laid listed small =
    let c = component_of desc j in
    let fits = fits_bits (c.shift + c.depth) (laid.bits j listed) in
    let more : 2 ^ (c.depth + c.shift) ≤ 2 ^ bits_of (is_narrow c) = pow_mono (omega (arith, fits)) in
    omega (arith, more, shl_below v c.depth c.shift small)

module _ (desc : Desc) (laid : IsLaidOut desc) (plane : ℕ) (values : ℕ → ℕ) (fit : (j : ℕ) → j < desc.count
    → values j < 2 ^ (component_of desc j).depth) where
  part_here : (k j : ℕ) → (component_of desc j).plane ≡ plane → part_in desc plane values k j ≡ part desc (component_of desc j) (values j) k
  part_here k j here = cond-true (nat_eq (component_of desc j).plane plane) _ 0 (eq-eqb (component_of desc j).plane plane here)

  part_elsewhere : (k j : ℕ) → (component_of desc j).plane ≢ plane → part_in desc plane values k j ≡ 0
  part_elsewhere k j there = cond-false (nat_eq (component_of desc j).plane plane) _ 0 (ne_eqb (component_of desc j).plane plane there)

  part_in_below : (k j : ℕ) → j < desc.count → part_in desc plane values k j < 2 ^ 8
  part_in_below k j listed =
      let c = component_of desc j in
      ⊎_elim
      (λ here. subst (λ n. n < 256) (sym (part_here k j here))
      (part_below (is_narrow c) desc.be (count_of (first_byte desc c)) (values j * 2 ^ c.shift) k
      (number_below desc j (values j) laid listed (fit j listed))))
      (λ there. subst (λ n. n < 256) (sym (part_elsewhere k j there)) (omega arith))
      (cases_eq c.plane plane)

  -- a bit of a component's value stands where the component reads it
  bit_at_part_in : (k b j i : ℕ) → b < 8 → IsReadBy desc plane (8 * k + b) j i
      → bit_at (part_in desc plane values k j) b ≡ bit_at (values j) i
  bit_at_part_in k b j i below by =
      let c = component_of desc j in
      let position : position_of desc c (c.shift + i) ≡ 8 * k + b = same_position desc c i (8 * k + b) (laid.first j by.listed) by.at in
      let fits = fits_bits (c.shift + c.depth) (laid.bits j by.listed) in
      let within : c.shift + i < bits_of (is_narrow c) = omega (arith, fits, by.inside) in
      let at : IsBitAt (is_narrow c) desc.be (count_of (first_byte desc c)) (c.shift + i) k b =
      record { inside = within; byte = omega arith; bit = omega arith } in
      ap (λ n. bit_at n b) (part_here k j by.there)
      ∙ bit_at_part (is_narrow c) desc.be (count_of (first_byte desc c)) (values j * 2 ^ c.shift) (c.shift + i) k b at
      ∙ bit_at_shifted (values j) c.shift i

  -- a bit of a component's number that is no bit of its value is 0
  number_cases : (k b j m : ℕ) → j < desc.count → (component_of desc j).plane ≡ plane
      → IsBitAt (is_narrow (component_of desc j)) desc.be (count_of (first_byte desc (component_of desc j))) m k b
      → (bit_at (values j * 2 ^ (component_of desc j).shift) m ≡ 0) ⊎ ((i : ℕ) × IsReadBy desc plane (8 * k + b) j i)
  number_cases k b j m listed here at =
      let c = component_of desc j in
      let first = count_of (first_byte desc c) in
      elim (bit_at_shifted_cases (values j) c.shift c.depth m (fit j listed)) as
      (λ _. (bit_at (values j * 2 ^ c.shift) m ≡ 0) ⊎ ((i : ℕ) × IsReadBy desc plane (8 * k + b) j i)) [
        | inl none ↦ inl none
        | inr bit ↦
            let byte : k ≡ first + byte_of (is_narrow c) desc.be (c.shift + bit.0) = at.byte
            ∙ ap (λ t. first + byte_of (is_narrow c) desc.be t) (sym bit.2) in
            let position : position_of desc c (c.shift + bit.0) ≡ 8 * k + b = omega (arith, byte, at.bit, bit.2) in
            inr (
              bit.0,
              record {
                listed = listed;
                there = here;
                inside = bit.1;
                at = bit_position_is desc c bit.0 (laid.first j listed)
                    ∙ ap pos position;
              },
            )
      ]

  -- a bit of a component's part is 0 where the component reads none
  part_here_cases : (k b j : ℕ) → b < 8 → j < desc.count → (component_of desc j).plane ≡ plane
      → (bit_at (part_in desc plane values k j) b ≡ 0) ⊎ ((i : ℕ) × IsReadBy desc plane (8 * k + b) j i)
  part_here_cases k b j below listed here =
      let c = component_of desc j in
      let first = count_of (first_byte desc c) in
      let number = values j * 2 ^ c.shift in
      let is = ap (λ n. bit_at n b) (part_here k j here) in
      elim (bit_at_part_cases (is_narrow c) desc.be first number k b below) as
      (λ _. (bit_at (part_in desc plane values k j) b ≡ 0) ⊎ ((i : ℕ) × IsReadBy desc plane (8 * k + b) j i)) [
        | inl none ↦ inl (is ∙ none)
        | inr one ↦
            let unset = λ (none : bit_at number one.0 ≡ 0). is ∙ bit_at_part (is_narrow c) desc.be first number one.0 k b one.1 ∙ none in
            ⊎_elim (λ none. inl (unset none)) (λ read. inr read) (number_cases k b j one.0 listed here one.1)
      ]

  part_in_cases : (k b j : ℕ) → b < 8 → j < desc.count
      → (bit_at (part_in desc plane values k j) b ≡ 0) ⊎ ((i : ℕ) × IsReadBy desc plane (8 * k + b) j i)
  part_in_cases k b j below listed =
      ⊎_elim
      (λ here. part_here_cases k b j below listed here)
      (λ there. inl (ap (λ n. bit_at n b) (part_elsewhere k j there) ∙ bit_at-zero b))
      (cases_eq (component_of desc j).plane plane)

  -- a bit that component j reads is in no other component's part
  part_in_apart : (k b j i other : ℕ) → b < 8 → IsReadBy desc plane (8 * k + b) j i → other < desc.count → other ≢ j
      → bit_at (part_in desc plane values k other) b ≡ 0
  part_in_apart k b j i other below by listed differ =
      ⊎_elim
      (λ none. none)
      (λ (o : (i : ℕ) × IsReadBy desc plane (8 * k + b) other i).
      absurd (laid.apart other j o.0 i listed by.listed differ (o.1.there ∙ sym by.there) o.1.inside by.inside (o.1.at ∙ sym by.at)))
      (part_in_cases k b other below listed)

  parts_share_none : (k i j : ℕ) → i < desc.count → j < desc.count → i ≢ j
      → SharesNoBit (part_in desc plane values k i) (part_in desc plane values k j)
  parts_share_none k i j listed also differ b =
      ⊎_elim
      (λ (below : b < 8). ⊎_elim
      (λ none. omega arith)
      (λ (one : (t : ℕ) × IsReadBy desc plane (8 * k + b) i t).
      omega (arith, part_in_apart k b i one.0 j below one.1 also (λ e. differ (sym e))))
      (part_in_cases k b i below listed))
      (λ (above : 8 ≤ b). omega (arith, bit_at_above (part_in desc plane values k i) 8 b (part_in_below k i listed) above))
      (cases_lt b 8)

  -- a byte of a pixel is a byte
  pub pixel_byte_below : (k : ℕ) → pixel_byte desc plane values k < 256
  pixel_byte_below k = sum_from_below (part_in desc plane values k) desc.count (parts_share_none k) 8 0 desc.count (omega arith)
      (part_in_below k)

  pixel_bit : (k b j i : ℕ) → b < 8 → IsReadBy desc plane (8 * k + b) j i → bit_at (pixel_byte desc plane values k) b ≡ bit_at (values j) i
  pixel_bit k b j i below by =
      bit_at_sum_only (part_in desc plane values k) desc.count (parts_share_none k) b j by.listed
      (λ other listed differ. part_in_apart k b j i other below by listed differ)
      ∙ bit_at_part_in k b j i below by

  spare_bit : (k b : ℕ) → b < 8 → reads_pixel_bit desc plane (8 * k + b) ≡ false → bit_at (pixel_byte desc plane values k) b ≡ 0
  spare_bit k b below unread =
      bit_at_sum_none (part_in desc plane values k) desc.count (parts_share_none k) b
      (λ j listed. ⊎_elim (λ none. none)
      (λ (one : (i : ℕ) × IsReadBy desc plane (8 * k + b) j i).
      absurd (true≢false (sym (reads_from desc plane (8 * k + b) j one.0 one.1) ∙ unread)))
      (part_in_cases k b j below listed))

  split : (k : ℕ) → k ≡ 8 * (k / 8) + k % 8
  split k = omega arith

  -- each bit that a component reads is a bit of its value
  pub pixel_bit_at : (k j i : ℕ) → IsReadBy desc plane k j i → bit_at (pixel_byte desc plane values (k / 8)) (k % 8) ≡ bit_at (values j) i
  pixel_bit_at k j i by = pixel_bit (k / 8) (k % 8) j i (omega arith) (subst (λ t. IsReadBy desc plane t j i) (split k) by)

  -- each bit that no component reads is 0
  pub spare_bit_at : (k : ℕ) → reads_pixel_bit desc plane k ≡ false → bit_at (pixel_byte desc plane values (k / 8)) (k % 8) ≡ 0
  spare_bit_at k unread = spare_bit (k / 8) (k % 8) (omega arith) (subst (λ t. reads_pixel_bit desc plane t ≡ false) (split k) unread)
