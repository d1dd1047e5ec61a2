-- The dither of the pixels of a row, as whole numbers of parts, and what is added to the numbers of a block.
use Rattle.std.proofs.Common.{◌≡◌, ℕ, zero, suc, ◌+◌, ◌*◌, ◌/◌, ◌%◌, ◌^◌, ◌-◌, ◌<◌, ◌≤◌, List, ℤ, pos, negsuc, ◌+ℤ◌, ◌*ℤ◌, slice_index}
use Rattle.std.proofs.Common.{slice_index_or, sym, ap, ◌∙◌, arith}
use Rattle.std.specs.Prelude.{◌≤ℤ◌, unsigned_abs, FitsSigned}
use Rattle.std.proofs.Math.IntN.{*ℤ_comm}
use Rattle.frac_math.proofs.Integers.{mul-one_ℤ}
use Rattle.kernel_step.proofs.Intervals.{between_fits, five_cases, product_grows}
use Rattle.std.specs.Int.{Width}
use Rattle.std.proofs.lemmas.Int.{ints}
use Rattle.frac_math.specs.Dither.{digit, dither_at, index}
use Rattle.frac_math.specs.Fraction.{◌+ℚ◌}
use Rattle.frac_math.specs.Standing.{Stands}
use Rattle.frac_math.proofs.DitherLaws.{dither_repeats, dither_stands, index_number, index_number-zero, index_number-add-one}
use Rattle.frac_math.proofs.DitherLaws.{index_number_below, index_most}
use Rattle.kernel_step.specs.declared.form.Extent.{Extent}
use Rattle.kernel_step.specs.ValueSteps.{AreIn, IsDithered, MakesValue, NumbersDither}
use Rattle.kernel_step.proofs.ValueFractions.{dithered_stands}

-- the number in the index matrix of 2^k by 2^k, from that of 16 by 16
pub index_part : (k n x y : ℕ) → k ≤ 4
    → n ≡ 64 * index (digit 0 x) (digit 0 y) + 16 * index (digit 1 x) (digit 1 y) + 4 * index (digit 2 x) (digit 2 y) + index (digit 3 x)
    (digit 3 y)
    → n / 2 ^ (8 - 2 * k) ≡ index_number k x y
index_part k n x y h is =
    let one = index_number-add-one 0 x y in
    let two = index_number-add-one 1 x y in
    let three = index_number-add-one 2 x y in
    let four = index_number-add-one 3 x y in
    let none = index_number-zero x y in
    let first = index_most (digit 0 x) (digit 0 y) in
    let second = index_most (digit 1 x) (digit 1 y) in
    let third = index_most (digit 2 x) (digit 2 y) in
    let fourth = index_most (digit 3 x) (digit 3 y) in
    five_cases (λ k. n / 2 ^ (8 - 2 * k) ≡ index_number k x y) k h
    (omega (arith, none, is, first, second, third, fourth))
    (omega (arith, none, one, is, first, second, third, fourth))
    (omega (arith, none, one, two, is, first, second, third, fourth))
    (omega (arith, none, one, two, three, is, first, second, third, fourth))
    (omega (arith, none, one, two, three, four, is, first, second, third, fourth))

pub number_stands : (k n x y : ℕ) → n ≡ index_number k x y → Stands (dither_at k x y) (pos (2 * n + 1)) (2 * 4 ^ k)
number_stands k n x y is = rw is (dither_stands k x y)

pub number_small : (k n x y : ℕ) → n ≡ index_number k x y → 2 * n + 1 < 2 * 4 ^ k
number_small k n x y is = omega (arith, is, index_number_below k x y)

-- ---- the dither repeats after sixteen pixels
same_turn : (k a b : ℕ) → k ≤ 4 → a % 16 ≡ b % 16 → a % 2 ^ k ≡ b % 2 ^ k
same_turn k a b h same =
    five_cases (λ k. a % 2 ^ k ≡ b % 2 ^ k) k h (omega (arith, same)) (omega (arith, same)) (omega (arith, same)) (omega (arith, same))
    (omega (arith, same))

pub same_dither : (k a b y : ℕ) → k ≤ 4 → a % 16 ≡ b % 16 → dither_at k a y ≡ dither_at k b y
same_dither k a b y h same =
    sym (dither_repeats k a y) ∙ ap (λ m. dither_at k m (y % 2 ^ k)) (same_turn k a b h same) ∙ dither_repeats k b y

-- the numbers of sixteen pixels are those of all
pub row_numbers : (k x y : ℕ) (numbers : List ℕ) → k ≤ 4
    → ((j : ℕ) → j < 16 → Stands (dither_at k (x % 16 + j) y) (pos (slice_index numbers j))
    (2 * 4 ^ k) × (0 < slice_index numbers j) × (slice_index numbers j < 2 * 4 ^ k))
    → NumbersDither k x y numbers
row_numbers k x y numbers h each i =
    let j = i % 16 in
    let one = each j (omega arith) in
    let same : dither_at k (x + i) y ≡ dither_at k (x % 16 + j) y = same_dither k (x + i) (x % 16 + j) y h (omega arith) in
    (rw same one.0, one.1, one.2)

-- where each number is 1, they are halves
halves_dither : (x y : ℕ) (numbers : List ℕ) → ((j : ℕ) → j < 16 → slice_index numbers j ≡ 1) → NumbersDither 0 x y numbers
halves_dither x y numbers one i =
    let is : slice_index numbers (i % 16) ≡ 1 = one (i % 16) (omega arith) in
    let stands : Stands (dither_at 0 (x + i) y) (pos 1) (2 * 4 ^ 0) = number_stands 0 0 (x + i) y (sym (index_number-zero (x + i) y)) in
    let most : 1 < 2 * 4 ^ 0 = omega arith in
    rw is (stands, omega arith, most)

pub halves_are_dithers : (k x y : ℕ) (numbers : List ℕ) → k ≡ 0 → ((j : ℕ) → j < 16 → slice_index numbers j ≡ 1)
    → NumbersDither k x y numbers
halves_are_dithers k x y numbers none one = rw none (halves_dither x y numbers one)

-- ---- a value
pub unit_products : (width : Width) (old : Extent) (count : ℕ) (k unit : ℤ) (new : Extent) (x y : ℕ) (pattern : List ℕ)
    → IsDithered width old count k unit new
    → NumbersDither count x y pattern → (j : ℕ) → j < 16 → FitsSigned width (unit *ℤ pos (slice_index pattern j))
unit_products width old count k unit new x y pattern is numbers j below =
    let same : j % 16 ≡ j = omega (arith, below) in
    is.addends (slice_index pattern j) (rw same at (numbers j).2)

pub positive_unit : (unit : ℤ) (c d : ℕ) → 0 < d → unit *ℤ pos c ≡ pos d → pos 1 ≤ℤ unit
positive_unit (pos zero) c d some is = absurd (omega (arith, ints, is))
positive_unit (pos (suc n)) c d some is = omega (arith, ints)
positive_unit (negsuc n) zero d some is = absurd (omega (arith, ints, is))
positive_unit (negsuc n) (suc c) d some is = absurd (omega (arith, ints, is))

-- a number of parts is at most that of units
pub parts_fit : (width : Width) (old : Extent) (count : ℕ) (k unit : ℤ) (new : Extent) (x y : ℕ) (pattern : List ℕ)
    → IsDithered width old count k unit new
    → NumbersDither count x y pattern → (j : ℕ) → j < 16 → FitsSigned width (pos (slice_index pattern j))
parts_fit width old count k unit new x y pattern is numbers j below =
    let m = slice_index pattern j in
    let fits : FitsSigned width (unit *ℤ pos m) = unit_products width old count k unit new x y pattern is numbers j below in
    let some : pos 1 ≤ℤ unit = positive_unit unit (2 * 4 ^ count) (unsigned_abs new.denominator) is.over.positive is.unit_is in
    let grown : (pos m *ℤ pos 1) ≤ℤ (pos m *ℤ unit) = product_grows (pos m) (pos 1) unit (omega (arith, ints)) some in
    let most : pos m ≤ℤ (unit *ℤ pos m) = omega (arith, ints, grown, mul-one_ℤ (pos m), *ℤ_comm (pos m) unit) in
    let none : FitsSigned width (pos 0) = omega (arith, ints, fits) in
    between_fits width (pos 0) (unit *ℤ pos m) (pos m) none fits (omega (arith, ints)) most

abbrev pub Adds : {N : Type 0} → (N → ℤ) → ℤ → ℤ → List ℕ → ℕ → List N → List N → Type 0
Adds {N} value k unit pattern v old made = (i : ℕ) (d : N) → i < 64
    → value (slice_index_or made (64 * v + i) d) ≡ k *ℤ value (slice_index_or old (64 * v + i) d) +ℤ unit *ℤ pos (slice_index pattern (i %
    16))

pub dithered : {N : Type 0} (value : N → ℤ) (width : Width) (count x y : ℕ) (k unit : ℤ) (pattern : List ℕ) (v : ℕ) (numbers made : List N)
    (old new : Extent)
    → IsDithered width old count k unit new → NumbersDither count x y pattern → AreIn value numbers v old
    → Adds value k unit pattern v numbers made
    → MakesValue value numbers made v old new (λ i z. z +ℚ dither_at count (x + i) y)
dithered {N} value width count x y k unit pattern v numbers made old new is pattern_is within adds = record {
  inside = λ i d below.
      let p = pattern_is i in
      rw (adds i d below) (is.inside (slice_index pattern (i % 16)) (value (slice_index_or numbers (64 * v + i) d)) p.1 p.2
      (within i d below));
  exact = λ i d z below stands.
      rw (adds i d below) (dithered_stands width old count k unit new z (value (slice_index_or numbers (64 * v + i) d)) (x + i) y
      (slice_index pattern (i % 16)) is stands (pattern_is i).0);
}
