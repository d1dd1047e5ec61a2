-- The bits of a number of one or two bytes in either byte order: in which byte each stands, when the number is read and when it is taken
-- apart.
use Rattle.std.proofs.Common.{◌≡◌, ℕ, ◌+◌, ◌-◌, ◌*◌, ◌/◌, ◌%◌, ◌^◌, ◌<◌, ◌≤◌, ◌⊎◌, inl, inr, ⊎_elim, Bool, true, false, not, ◌&&◌}
use Rattle.std.proofs.Common.{if◌then◌else◌, nat_eq, ap, ◌∙◌, arith}
use Rattle.std.specs.Int.{bit_at}
use Rattle.std.proofs.lemmas.Bool.{cases_lt}
use Rattle.std.proofs.lemmas.Bool.Decides.{nat_tests}
use Rattle.std.proofs.lemmas.Nat.Bits.{bit_at-zero}
use Rattle.pix_desc.proofs.Bits.{bit_at_low_byte, bit_at_high_byte, bit_at_mod_byte, bit_at_div_byte}

-- the bits of a number of one byte or of two
abbrev pub bits_of : Bool → ℕ
bits_of narrow = if narrow then 8 else 16

-- which byte of the number holds its bit m
abbrev pub byte_of : Bool → Bool → ℕ → ℕ
byte_of narrow be m = if be && not narrow then 1 - m / 8 else m / 8

pub byte_of_below : (narrow be : Bool) (m : ℕ) → m < bits_of narrow → byte_of narrow be m < (if narrow then 1 else 2)
byte_of_below true true m inside = omega arith
byte_of_below true false m inside = omega arith
byte_of_below false true m inside = omega arith
byte_of_below false false m inside = omega arith

-- the number of a first and a second byte
abbrev pub number_of : Bool → Bool → ℕ → ℕ → ℕ
number_of narrow be first second = if narrow then first else (if be then 256 * first + second else first + 256 * second)

same_bit : (bytes : ℕ → ℕ) (t u m k : ℕ) → t ≡ u → m ≡ k → bit_at (bytes t) m ≡ bit_at (bytes u) k
same_bit bytes t u m k e h = ap (λ s. bit_at (bytes s) m) e ∙ ap (bit_at (bytes u)) h

-- bit m of the number, whose bytes begin with byte `first`, stands in byte k as its bit b
pub record IsBitAt (narrow be : Bool) (first m k b : ℕ) : Type 0 where
  pub inside : m < bits_of narrow
  pub byte : k ≡ first + byte_of narrow be m
  pub bit : b ≡ m % 8

-- each bit of the number's bytes is one of the number
pub bit_here : (narrow be : Bool) (first k b : ℕ) → b < 8 → first ≤ k → k < first + (if narrow then 1 else 2)
    → (m : ℕ) × IsBitAt narrow be first m k b
bit_here true true first k b below from to = (b, record { inside = omega arith; byte = omega arith; bit = omega arith })
bit_here true false first k b below from to = (b, record { inside = omega arith; byte = omega arith; bit = omega arith })
bit_here false true first k b below from to =
    (8 * (first + 1 - k) + b, record { inside = omega arith; byte = omega arith; bit = omega arith })
bit_here false false first k b below from to = (8 * (k - first) + b, record { inside = omega arith; byte = omega arith; bit = omega arith })

-- a bit of the number is a bit of the byte that holds it
pub bit_at_number : (narrow be : Bool) (bytes : ℕ → ℕ) (first m k b : ℕ) → ((t : ℕ) → bytes t < 256) → IsBitAt narrow be first m k b
    → bit_at (number_of narrow be (bytes first) (bytes (first + 1))) m ≡ bit_at (bytes k) b
bit_at_number true true bytes first m k b small at =
    let inside : m < 8 = at.inside in
    let byte : k ≡ first + m / 8 = at.byte in
    same_bit bytes first k m b (omega arith) (omega (arith, at.bit))
bit_at_number true false bytes first m k b small at =
    let inside : m < 8 = at.inside in
    let byte : k ≡ first + m / 8 = at.byte in
    same_bit bytes first k m b (omega arith) (omega (arith, at.bit))
bit_at_number false true bytes first m k b small at =
    let inside : m < 16 = at.inside in
    let byte : k ≡ first + (1 - m / 8) = at.byte in
    let turned : 256 * bytes first + bytes (first + 1) ≡ bytes (first + 1) + 256 * bytes first = omega arith in
    ap (λ n. bit_at n m) turned ∙ ⊎_elim
    (λ low. bit_at_low_byte (bytes (first + 1)) (bytes first) m low
    ∙ same_bit bytes (first + 1) k m b (omega arith) (omega (arith, at.bit)))
    (λ high. bit_at_high_byte (bytes (first + 1)) (bytes first) m (small (first + 1)) high
    ∙ same_bit bytes first k (m - 8) b (omega arith) (omega (arith, at.bit)))
    (cases_lt m 8)
bit_at_number false false bytes first m k b small at =
    let inside : m < 16 = at.inside in
    let byte : k ≡ first + m / 8 = at.byte in
    ⊎_elim
    (λ low. bit_at_low_byte (bytes first) (bytes (first + 1)) m low ∙ same_bit bytes first k m b (omega arith) (omega (arith, at.bit)))
    (λ high. bit_at_high_byte (bytes first) (bytes (first + 1)) m (small first) high
    ∙ same_bit bytes (first + 1) k (m - 8) b (omega arith) (omega (arith, at.bit)))
    (cases_lt m 8)

-- what a number puts into byte k, where its bytes begin with byte `first`
abbrev pub part_of : Bool → Bool → ℕ → ℕ → ℕ → ℕ
part_of narrow be first number k =
    if narrow then (if nat_eq k first then number else 0)
    else (if nat_eq k first then (if be then number / 256 else number % 256)
    else (if nat_eq k (first + 1) then (if be then number % 256 else number / 256) else 0))

pub part_below : (narrow be : Bool) (first number k : ℕ) → number < 2 ^ bits_of narrow → part_of narrow be first number k < 256
part_below true be first number k small = grind (arith, nat_tests)
part_below false true first number k small = grind (arith, nat_tests)
part_below false false first number k small = grind (arith, nat_tests)

-- the bytes of a number, from its first to its last
abbrev piece : Bool → Bool → ℕ → ℕ → ℕ
piece true be number t = number
piece false true number t = if nat_eq t 0 then number / 256 else number % 256
piece false false number t = if nat_eq t 0 then number % 256 else number / 256

part_first : (narrow be : Bool) (first number k : ℕ) → k ≡ first → part_of narrow be first number k ≡ piece narrow be number 0
part_first true be first number k e = grind (arith, nat_tests)
part_first false true first number k e = grind (arith, nat_tests)
part_first false false first number k e = grind (arith, nat_tests)

part_second : (be : Bool) (first number k : ℕ) → k ≡ first + 1 → part_of false be first number k ≡ piece false be number 1
part_second true first number k e = grind (arith, nat_tests)
part_second false first number k e = grind (arith, nat_tests)

part_before : (narrow be : Bool) (first number k : ℕ) → k < first → part_of narrow be first number k ≡ 0
part_before true be first number k before = grind (arith, nat_tests)
part_before false be first number k before = grind (arith, nat_tests)

part_behind : (narrow be : Bool) (first number k : ℕ) → first + (if narrow then 1 else 2) ≤ k → part_of narrow be first number k ≡ 0
part_behind true be first number k behind = grind (arith, nat_tests)
part_behind false be first number k behind = grind (arith, nat_tests)

-- a bit of the number is in its byte as in the number
pub bit_at_part : (narrow be : Bool) (first number m k b : ℕ) → IsBitAt narrow be first m k b
    → bit_at (part_of narrow be first number k) b ≡ bit_at number m
bit_at_part true be first number m k b at =
    let inside : m < 8 = at.inside in
    let same : b ≡ m = omega (arith, at.bit) in
    let index : k ≡ first = elim be as (λ v. k ≡ first + byte_of true v m
    → k ≡ first) [ true ↦ λ e. omega arith | false ↦ λ e. omega arith ] at.byte in
    ap (λ n. bit_at n b) (part_first true be first number k index) ∙ ap (bit_at number) same
bit_at_part false true first number m k b at =
    let byte : k ≡ first + (1 - m / 8) = at.byte in
    ⊎_elim
    (λ (low : m < 8). ap (λ n. bit_at n b) (part_second true first number k (omega (arith, byte)))
    ∙ bit_at_mod_byte number b (omega (arith, at.bit)) ∙ (let same : b ≡ m = omega (arith, at.bit) in ap (bit_at number) same))
    (λ (high : 8 ≤ m). ap (λ n. bit_at n b) (part_first false true first number k (let i : m < 16 = at.inside in omega (arith, byte)))
    ∙ bit_at_div_byte number b ∙ (let i : m < 16 = at.inside in let same : 8 + b ≡ m = omega (arith, at.bit) in
    ap (bit_at number) same))
    (cases_lt m 8)
bit_at_part false false first number m k b at =
    let byte : k ≡ first + m / 8 = at.byte in
    let inside : m < 16 = at.inside in
    ⊎_elim
    (λ (low : m < 8). ap (λ n. bit_at n b) (part_first false false first number k (omega (arith, byte)))
    ∙ bit_at_mod_byte number b (omega (arith, at.bit)) ∙ (let same : b ≡ m = omega (arith, at.bit) in ap (bit_at number) same))
    (λ (high : 8 ≤ m). ap (λ n. bit_at n b) (part_second false first number k (omega (arith, byte))) ∙ bit_at_div_byte number b
    ∙ (let same : 8 + b ≡ m = omega (arith, at.bit) in ap (bit_at number) same))
    (cases_lt m 8)

-- a bit of a byte is 0, or is a bit of the number
pub bit_at_part_cases : (narrow be : Bool) (first number k b : ℕ) → b < 8
    → (bit_at (part_of narrow be first number k) b ≡ 0) ⊎ ((m : ℕ) × IsBitAt narrow be first m k b)
bit_at_part_cases narrow be first number k b below =
    let unset = λ (none : part_of narrow be first number k ≡ 0). ap (λ n. bit_at n b) none ∙ bit_at-zero b in
    ⊎_elim
    (λ before. inl (unset (part_before narrow be first number k before)))
    (λ from. ⊎_elim
    (λ to. inr (bit_here narrow be first k b below from to))
    (λ behind. inl (unset (part_behind narrow be first number k behind)))
    (cases_lt k (first + (if narrow then 1 else 2))))
    (cases_lt k first)
