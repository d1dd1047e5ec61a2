-- The bits of a number in which some are replaced.
use Rattle.std.proofs.Common.{◌≡◌, ℕ, zero, suc, ◌+◌, ◌-◌, ◌*◌, ◌/◌, ◌%◌, ◌^◌, ◌<◌, ◌≤◌, inl, inr, min, max, sym, ◌∙◌, ap, arith, bit_and}
use Rattle.std.proofs.Common.{bit_or}
use Rattle.std.specs.Int.{bit_at, w16}
use Rattle.std.proofs.Math.Nat.{mod-lt, pow-le-pow_right}
use Rattle.std.proofs.lemmas.Bool.{cases_lt}
use Rattle.std.proofs.lemmas.Nat.{pow_pos, pow-add, one_shl, shl_whole, shl_below, and_le_l, or_lt}
use Rattle.std.proofs.lemmas.Nat.Bits.{bit_at_and, bit_at_or, bit_at_not, bit_at-lt, bit_at_above, bit_at_mask_inside, bit_at_mask_below}
use Rattle.std.proofs.lemmas.Nat.Bits.{bit_at_mask_above, same_from_bits_below}
use Rattle.pix_desc.proofs.Bits.{bit_at_field, bit_at_shifted, bit_at_shifted_below, bit_at_shifted_above}

-- d ones from bit s on, as they are computed in 16 bits
less_one : (a b : ℕ) → 0 < a → (a - 1) * b + b ≡ a * b
less_one zero b some = absurd (omega arith)
less_one (suc a) b some = let e : suc a - 1 ≡ a = omega arith in rw e (omega arith)

ones_from : (s d : ℕ) → s + d ≤ 16 → (1 * 2 ^ d % 2 ^ 32 - 1) * 2 ^ s % 2 ^ 16 ≡ 2 ^ (s + d) - 2 ^ s
ones_from s d fits =
    let one = one_shl d 32 (omega arith) in
    let small : 2 ^ d - 1 < 2 ^ d = omega (arith, pow_pos d) in
    let whole = shl_whole (2 ^ d - 1) d s 16 small (omega arith) in
    let split = pow-add 2 s d in
    let less = less_one (2 ^ d) (2 ^ s) (pow_pos d) in
    ap (λ n. (n - 1) * 2 ^ s % 2 ^ 16) one ∙ whole ∙ (let e : (2 ^ d - 1) * 2 ^ s ≡ 2 ^ (s + d) - 2 ^ s = omega (arith, split, less) in e)

-- n with v for its d bits from s on
abbrev pub replaced : ℕ → ℕ → ℕ → ℕ → ℕ
replaced n s d v = bit_or (bit_and n (2 ^ 16 - 1 - (2 ^ (s + d) - 2 ^ s))) (v * 2 ^ s)

top_of : (s d : ℕ) → s + d ≤ 16 → 2 ^ (s + d) - 2 ^ s < 2 ^ 16
top_of s d fits = let most : 2 ^ (s + d) ≤ 2 ^ 16 = pow-le-pow_right (omega arith) fits in omega (arith, most, pow_pos s)

-- the code's `or` of 16 bits gives the number with its bits replaced
pub replaced_by_or : (n s d v : ℕ) → s + d ≤ 16 → v < 2 ^ d
    → bit_or (bit_and n (65535 - (1 * 2 ^ d % 4294967296 - 1) * 2 ^ s % 65536)) (v * 2 ^ s % 65536) ≡ replaced n s d v
replaced_by_or n s d v fits value =
    ap (λ ones. bit_or (bit_and n (65535 - ones)) (v * 2 ^ s % 65536)) (ones_from s d fits)
    ∙ ap (λ put. bit_or (bit_and n (65535 - (2 ^ (s + d) - 2 ^ s))) put) (shl_whole v d s 16 value (omega arith))

replaced_bit : (n s d v i : ℕ) → s + d ≤ 16 → i < 16
    → bit_at (replaced n s d v) i ≡ max (min (bit_at n i) (1 - bit_at (2 ^ (s + d) - 2 ^ s) i)) (bit_at (v * 2 ^ s) i)
replaced_bit n s d v i fits below =
    let ones = 2 ^ (s + d) - 2 ^ s in
    bit_at_or (bit_and n (2 ^ 16 - 1 - ones)) (v * 2 ^ s) i
    ∙ ap (λ b. max b (bit_at (v * 2 ^ s) i)) (bit_at_and n (2 ^ 16 - 1 - ones) i
    ∙ ap (λ b. min (bit_at n i) b) (bit_at_not w16 ones i (top_of s d fits) below))

pub replaced_small : (n s d v w : ℕ) → s + d ≤ w → n < 2 ^ w → v < 2 ^ d → replaced n s d v < 2 ^ w
replaced_small n s d v w fits number value =
    let kept = bit_and n (2 ^ 16 - 1 - (2 ^ (s + d) - 2 ^ s)) in
    let low : kept < 2 ^ w = omega (arith, and_le_l n (2 ^ 16 - 1 - (2 ^ (s + d) - 2 ^ s))) in
    let fits' : d + s ≤ w = omega arith in
    let most : 2 ^ (d + s) ≤ 2 ^ w = pow-le-pow_right (omega arith) fits' in
    or_lt w kept (v * 2 ^ s) low (omega (arith, most, shl_below v d s value))

-- below s and from s + d on the bits are n's
pub replaced_below : (n s d v i : ℕ) → s + d ≤ 16 → i < s → bit_at (replaced n s d v) i ≡ bit_at n i
replaced_below n s d v i fits below =
    let none = bit_at_mask_below s (s + d) i below in
    let clear = bit_at_shifted_below v s i below in
    replaced_bit n s d v i fits (omega arith)
    ∙ (let e : max (min (bit_at n i) (1 - bit_at (2 ^ (s + d) - 2 ^ s) i)) (bit_at (v * 2 ^ s) i) ≡ bit_at n i =
    omega (arith, none, clear, bit_at-lt n i) in e)

pub replaced_above : (n s d v i : ℕ) → s + d ≤ 16 → n < 2 ^ 16 → v < 2 ^ d → s + d ≤ i → bit_at (replaced n s d v) i ≡ bit_at n i
replaced_above n s d v i fits number value above =
    elim (cases_lt i 16) as (λ _. bit_at (replaced n s d v) i ≡ bit_at n i) [
      | inl below ↦
          let none = bit_at_mask_above s (s + d) i above in
          let clear = bit_at_shifted_above v s d i value above in
          replaced_bit n s d v i fits below
          ∙ (let e : max (min (bit_at n i) (1 - bit_at (2 ^ (s + d) - 2 ^ s) i)) (bit_at (v * 2 ^ s) i) ≡ bit_at n i =
          omega (arith, none, clear, bit_at-lt n i) in e)
      | inr past ↦ bit_at_above (replaced n s d v) 16 i (replaced_small n s d v 16 fits number value) past
          ∙ sym (bit_at_above n 16 i number past)
    ]

-- the d bits from s on are v's
pub replaced_value : (n s d v : ℕ) → s + d ≤ 16 → v < 2 ^ d → replaced n s d v / 2 ^ s % 2 ^ d ≡ v
replaced_value n s d v fits value =
    same_from_bits_below d (replaced n s d v / 2 ^ s % 2 ^ d) v (mod-lt (replaced n s d v / 2 ^ s) (pow_pos d)) value (λ i below.
    let all = bit_at_mask_inside s (s + d) (s + i) (omega arith) (omega arith) in
    let put = bit_at_shifted v s i in
    bit_at_field (replaced n s d v) s d i below ∙ replaced_bit n s d v (s + i) fits (omega arith)
    ∙ (let e : max (min (bit_at n (s + i)) (1 - bit_at (2 ^ (s + d) - 2 ^ s) (s + i))) (bit_at (v * 2 ^ s) (s + i)) ≡ bit_at v i =
    omega (arith, all, put, bit_at-lt n (s + i)) in e))
