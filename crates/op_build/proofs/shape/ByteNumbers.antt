-- The bits of numbers of several bytes: little-endian ones, and those with their bytes in the other order.
use Rattle.std.proofs.Common.{◌≡◌, ℕ, zero, suc, ◌+◌, ◌-◌, ◌*◌, ◌/◌, ◌%◌, ◌^◌, ◌<◌, ◌≤◌, ⊎_elim, Bool, true, false, not, ◌&&◌, nat_eq}
use Rattle.std.proofs.Common.{if◌then◌else◌}
use Rattle.std.proofs.Common.{List, get_or, sym, refl, ap, subst, ◌∙◌, arith}
use Rattle.std.specs.Int.{bit_at}
use Rattle.std.proofs.lemmas.Bool.{cases_lt, cases_eq, eq-eqb, ne_eqb}
use Rattle.std.proofs.lemmas.Nat.{pow-add}
use Rattle.std.proofs.lemmas.Nat.Bits.{bit_at_cat_low, bit_at_cat_high, same_from_bits_below}
use Rattle.pix_desc.specs.Component.{bit_of}
use Rattle.pix_desc.proofs.Bits.{bit_at_low_byte, bit_at_high_byte, bit_at_mod_byte, bit_at_div_byte}
use Rattle.pix_desc.proofs.FrameExists.{bit_of_byte}
use Rattle.op_list.proofs.ReversedBytes.{power_of_bytes, reversed_bytes-below}
use Rattle.op_list.specs.Pixel.{number_at}
use Rattle.op_list.specs.Whole.{reversed_bytes}
use Rattle.pix_desc.proofs.WordBits.{bit_in_order}

-- bit m of the number of some bytes of a frame is bit m of those bytes
pub bit_at_number_at : (frame : List ℕ) (count at m : ℕ) → ((k : ℕ) → get_or frame k 0 < 256) → m < 8 * count
    → bit_at (number_at count frame at) m ≡ bit_of frame (8 * at + m)
bit_at_number_at frame zero at m bytes inside = absurd (omega arith)
bit_at_number_at frame (suc count) at m bytes inside =
    let low = get_or frame at 0 in
    let high = number_at count frame (at + 1) in
    ⊎_elim
    (λ (below : m < 8).
    bit_at_low_byte low high m below
    ∙ ap (λ t. bit_at (get_or frame t 0) m) (let e : at ≡ at + 0 = omega arith in e)
    ∙ sym (bit_of_byte frame at 0 m below)
    ∙ ap (λ k. bit_of frame (8 * at + k)) (let e : 8 * 0 + m ≡ m = omega arith in e))
    (λ (above : 8 ≤ m).
    bit_at_high_byte low high m (bytes at) above
    ∙ bit_at_number_at frame count (at + 1) (m - 8) bytes (omega arith)
    ∙ ap (bit_of frame) (let e : 8 * (at + 1) + (m - 8) ≡ 8 * at + m = omega arith in e))
    (cases_lt m 8)

-- bit m of a number with its bytes in the other order
bit_at_reversed : (count n m : ℕ) → m < 8 * count → bit_at (reversed_bytes count n) m ≡ bit_at n (8 * (count - 1 - m / 8) + m % 8)
bit_at_reversed zero n m inside = absurd (omega arith)
bit_at_reversed (suc count) n m inside =
    let rest = reversed_bytes count (n / 256) in
    let split : reversed_bytes (suc count) n ≡ n % 256 * 2 ^ (8 * count) + rest = ap (λ p. n % 256 * p + rest) (power_of_bytes count) in
    let small : rest < 2 ^ (8 * count) = omega (arith, reversed_bytes-below count (n / 256), power_of_bytes count) in
    ap (λ k. bit_at k m) split ∙ ⊎_elim
    (λ (low : m < 8 * count).
    bit_at_cat_low (n % 256) (8 * count) rest m low
    ∙ bit_at_reversed count (n / 256) m low
    ∙ bit_at_div_byte n (8 * (count - 1 - m / 8) + m % 8)
    ∙ ap (bit_at n) (let e : 8 + (8 * (count - 1 - m / 8) + m % 8) ≡ 8 * (suc count - 1 - m / 8) + m % 8 = omega arith in e))
    (λ (high : 8 * count ≤ m).
    bit_at_cat_high (n % 256) (8 * count) rest m small high
    ∙ bit_at_mod_byte n (m - 8 * count) (omega arith)
    ∙ ap (bit_at n) (let e : m - 8 * count ≡ 8 * (suc count - 1 - m / 8) + m % 8 = omega arith in e))
    (cases_lt m (8 * count))

-- a little-endian number, turned round for the big-endian order
abbrev pub in_order : Bool → ℕ → ℕ → ℕ
in_order be count n = if be then reversed_bytes count n else n

-- bit m of the number of some bytes of a frame in either order
pub bit_at_in_order : (frame : List ℕ) (be : Bool) (count at m : ℕ) → ((k : ℕ) → get_or frame k 0 < 256) → m < 8 * count
    → bit_at (in_order be count (number_at count frame at)) m ≡ bit_of frame (8 * at + bit_in_order be count m)
bit_at_in_order frame true count at m bytes inside =
    bit_at_reversed count (number_at count frame at) m inside
    ∙ bit_at_number_at frame count at (8 * (count - 1 - m / 8) + m % 8) bytes (omega arith)
bit_at_in_order frame false count at m bytes inside = bit_at_number_at frame count at m bytes inside

-- the number of some bytes fits them
pub number_at-below : (frame : List ℕ) (count at : ℕ) → ((k : ℕ) → get_or frame k 0 < 256) → number_at count frame at < 2 ^ (8 * count)
number_at-below frame zero at bytes = omega arith
number_at-below frame (suc count) at bytes =
    let more : 8 * suc count ≡ 8 * count + 8 = omega arith in
    omega (arith, bytes at, number_at-below frame count (at + 1) bytes, ap (λ k. 2 ^ k) more, pow-add 2 (8 * count) 8)

pub in_order-below : (be : Bool) (count n : ℕ) → n < 2 ^ (8 * count) → in_order be count n < 2 ^ (8 * count)
in_order-below true count n small = omega (arith, reversed_bytes-below count n, power_of_bytes count)
in_order-below false count n small = small

-- turned round and back it is the number
pub in_order-twice : (be : Bool) (count n : ℕ) → n < 2 ^ (8 * count) → in_order be count (in_order be count n) ≡ n
in_order-twice true count n small =
    same_from_bits_below (8 * count) (in_order true count (in_order true count n)) n
    (in_order-below true count (in_order true count n) (in_order-below true count n small)) small (λ m inside.
    let k = 8 * (count - 1 - m / 8) + m % 8 in
    bit_at_reversed count (reversed_bytes count n) m inside
    ∙ bit_at_reversed count n k (omega arith)
    ∙ ap (bit_at n) (let e : 8 * (count - 1 - k / 8) + k % 8 ≡ m = omega arith in e))
in_order-twice false count n small = refl

-- a number of one byte needs no turning round
pub swap_needed : (be : Bool) (count n : ℕ) → n < 2 ^ (8 * count) → in_order (be && not (nat_eq count 1)) count n ≡ in_order be count n
swap_needed false count n small = refl
swap_needed true count n small =
    ⊎_elim
    (λ (one : count ≡ 1).
    let byte : n < 256 = omega (arith, ap (λ c. 2 ^ (8 * c)) one) in
    ap (λ b. in_order (not b) count n) (eq-eqb count 1 one) ∙ subst (λ c. n ≡ reversed_bytes c n) (sym one) (omega arith))
    (λ more. ap (λ b. in_order (not b) count n) (ne_eqb count 1 more))
    (cases_eq count 1)
