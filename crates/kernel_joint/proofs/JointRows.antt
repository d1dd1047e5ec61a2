-- A row of Linear, within the width of a list.
use Rattle.std.proofs.Common.{◌≡◌, ℕ, ◌+◌, ◌*◌, ◌/◌, ◌^◌, ◌<◌, ◌≤◌, ◌⊎◌, inl, inr, ⊎_elim, List, ℤ, pos, ◌*ℤ◌}
use Rattle.std.proofs.Common.{ap, ◌∙◌, arith}
use Rattle.std.specs.Prelude.{unsigned_abs}
use Rattle.std.proofs.Math.IntN.{pos-*ℤ-pos}
use Rattle.std.proofs.Math.Nat.{mul-le-mul_right}
use Rattle.std.proofs.lemmas.Int.{unsigned_abs-mul}
use Rattle.frac_math.specs.Fraction.{ℚ}
use Rattle.frac_math.proofs.Integers.{mul_assoc_ℤ}
use Rattle.frac_math.proofs.FractionRing.{product_positive}
use Rattle.op_list.specs.Values.{fraction_in}
use Rattle.op_range.specs.Width.{size_over}
use Rattle.kernel_step.specs.declared.form.Extent.{Extent}
use Rattle.kernel_step.specs.declared.form.Form.{Form}
use Rattle.kernel_step.specs.declared.form.NumberWidth.{NumberWidth}
use Rattle.kernel_step.specs.Rules.{with_product, row_sum}
use Rattle.kernel_step.specs.Forms.{IsTerm, IsRow, IsInside, extent_at, factor, width_of}
use Rattle.kernel_joint.specs.Joint.{extent_size, IsAround, IsFactorOf, IsMultiple, RowWithin, term_most, row_most, row_total, part}
use Rattle.kernel_joint.specs.Joint.{room}
use Rattle.kernel_step.proofs.Intervals.{four_cases, five_cases}
use Rattle.kernel_joint.proofs.JointValues.{abs_sum, product_size, around_size}
use Rattle.kernel_joint.proofs.Rooms.{small_fits, below_most}

-- ---- a factor: q is e over the denominator of the coefficient, and g is d over a, the old denominator
pub term_value : (c k : ℤ) (q g a n d e : ℕ) → k ≡ c *ℤ pos (q * g) → q * n ≡ e → g * a ≡ d → k *ℤ pos (a * n) ≡ c *ℤ pos (d * e)
term_value c k q g a n d e is whole over =
    ap (λ z. z *ℤ pos (a * n)) is ∙ mul_assoc_ℤ c (pos (q * g)) (pos (a * n)) ∙ ap (λ z. c *ℤ z) (pos-*ℤ-pos (q * g) (a * n))
    ∙ ap (λ m. c *ℤ pos m) (omega (arith, ap (λ x. x * (g * a)) whole, ap (λ x. e * x) over))

pub term_size : (c k : ℤ) (q g s : ℕ) → k ≡ c *ℤ pos (q * g) → unsigned_abs k * s ≡ unsigned_abs c * q * (s * g)
term_size c k q g s is = ap (λ n. n * s) (ap unsigned_abs is ∙ unsigned_abs-mul c (pos (q * g))) ∙ omega arith

pub times_small : (c q s g most : ℕ) → 0 < c → 0 < s → c * q * (s * g) < most → q * g < most
times_small c q s g most some there small = omega (arith, small, mul-le-mul_right (q * g) (product_positive c s some there))

pub product_small : (c q s g most : ℕ) → 0 < s → c * q * (s * g) < most → c * (q * g) < most
product_small c q s g most there small = omega (arith, small, mul-le-mul_right (c * (q * g)) there)

pub term_of : (before : Form) (j : ℕ) (c : ℚ) (k : ℤ) (d : ℕ) → before.count ≡ 4 → j < 4 → IsFactorOf (extent_at before j) c k d
    → IsTerm before c k d j
term_of before j c k d count below is =
    let there : j < before.count = omega (arith, count, below) in
    ⊎_elim
    (λ (term : k *ℤ pos (unsigned_abs (extent_at before j).denominator * c.denominator) ≡ c.numerator *ℤ pos d). inl (there, term))
    (λ (dropped : (k ≡ pos 0) × ((c.numerator ≡ pos 0) ⊎ (((extent_at before j).least ≡ pos 0) × ((extent_at before j).greatest ≡ pos 0)))).
    inr (
      dropped.0,
      ⊎_elim
          (λ (zero : c.numerator ≡ pos 0). inl zero)
          (λ (zero : ((extent_at before j).least ≡ pos 0) × ((extent_at before j).greatest ≡ pos 0)). inr (there, zero.0, zero.1))
          dropped.1,
    ))
    is

-- ---- a row
next_size : (s k n : ℤ) (m t : ℕ) → unsigned_abs s ≤ m → unsigned_abs (k *ℤ n) ≤ t → unsigned_abs (with_product s n k) ≤ m + t
unfolding with_product
next_size s k n m t sum product = omega (arith, abs_sum s (k *ℤ n), sum, product)

pub row_is : (number_width : NumberWidth) (before : Form) (row : List ℚ) (factors : List ℤ) (new : Extent) (d size : ℕ) → before.count ≡ 4
    → 0 < d → IsAround new d size
    → size < room number_width
    → ((j : ℕ) → j < 4 → IsTerm before (fraction_in row j) (factor factors j) d j)
    → factor factors 4 *ℤ pos (fraction_in row 4).denominator ≡ (fraction_in row 4).numerator *ℤ pos d
    → ((j : ℕ) → j < 5 → unsigned_abs (factor factors j) < room number_width)
    → row_total before factors ≤ size
    → IsRow (width_of number_width) before row factors new
row_is number_width before row factors new d size count some around small terms constant entries total =
    let same = around_size new d size around in
    let product : (numbers : ℕ → ℤ) → IsInside before numbers → (j : ℕ) → j < 4
    → unsigned_abs (factor factors j *ℤ numbers j) ≤ part before factors j =
    λ numbers inside j below. omega (
      arith,
      product_size (extent_at before j) (factor factors j) (numbers j)
          (inside j (omega (arith, count, below))),
    ) in
    let one = λ (numbers : ℕ → ℤ) (inside : IsInside before numbers). next_size (factor factors 4) (factor factors 0) (numbers 0) _ _
    (at_most (unsigned_abs (factor factors 4))) (product numbers inside 0 (omega arith)) in
    let two = λ (numbers : ℕ → ℤ) (inside : IsInside before numbers). next_size (row_sum factors numbers 1) (factor factors 1)
    (numbers 1) _ _ (one numbers inside) (product numbers inside 1 (omega arith)) in
    let three = λ (numbers : ℕ → ℤ) (inside : IsInside before numbers). next_size (row_sum factors numbers 2) (factor factors 2)
    (numbers 2) _ _ (two numbers inside) (product numbers inside 2 (omega arith)) in
    let four = λ (numbers : ℕ → ℤ) (inside : IsInside before numbers). next_size (row_sum factors numbers 3) (factor factors 3)
    (numbers 3) _ _ (three numbers inside) (product numbers inside 3 (omega arith)) in
    record {
      positive = omega (arith, same, some);
      terms = λ j below. rw same (terms j below);
      constant = rw same constant;
      entries = λ j below. small_fits number_width (factor factors j) (unsigned_abs (factor factors j)) (omega arith) (entries j below);
      fits = λ numbers inside. record {
        products = λ j below. small_fits number_width (factor factors j *ℤ numbers j) size
            (four_cases (λ t. unsigned_abs (factor factors t *ℤ numbers t) ≤ size) j below
            (omega (arith, total, product numbers inside 0 (omega arith))) (omega (arith, total, product numbers inside 1 (omega arith)))
            (omega (arith, total, product numbers inside 2 (omega arith))) (omega (arith, total, product numbers inside 3 (omega arith))))
            small;
        sums = λ j below. small_fits number_width (row_sum factors numbers j) size
            (five_cases (λ t. unsigned_abs (row_sum factors numbers t) ≤ size) j below
            (omega (arith, total)) (omega (arith, total, one numbers inside)) (omega (arith, total, two numbers inside))
            (omega (arith, total, three numbers inside)) (omega (arith, total, four numbers inside))) small;
      };
      inside = λ numbers inside. around.inside (row_sum factors numbers 4) (omega (arith, total, four numbers inside));
    }
  where
    at_most : (n : ℕ) → n ≤ n
    at_most n = omega arith

-- the sum of what its parts are bounded by
pub total_below : (before : Form) (factors : List ℤ) (e d : ℕ) (row : List ℚ)
    → unsigned_abs (factor factors 4) ≡ size_over e (fraction_in row 4) * d
    → ((j : ℕ) → j < 4 → part before factors j ≤ term_most e d (fraction_in row j) (extent_at before j))
    → row_total before factors ≤ row_most e d row before
total_below before factors e d row constant parts =
    omega (arith, constant, parts 0 (omega arith), parts 1 (omega arith), parts 2 (omega arith), parts 3 (omega arith))

-- what is asked of the factor of value j
pub term_within : (number_width : NumberWidth) (e d : ℕ) (row : List ℚ) (before : Form) (j : ℕ) → RowWithin number_width e d row before
    → j < 4
    → term_most e d (fraction_in row j) (extent_at before j) < room number_width
term_within number_width e d row before j within below =
    four_cases (λ t. term_most e d (fraction_in row t) (extent_at before t) < room number_width) j below
    (omega (arith, within.most)) (omega (arith, within.most)) (omega (arith, within.most)) (omega (arith, within.most))

pub constant_within : (number_width : NumberWidth) (e d : ℕ) (row : List ℚ) (before : Form) → RowWithin number_width e d row before
    → size_over e (fraction_in row 4) * d < room number_width
constant_within number_width e d row before within = omega (arith, within.most)

pub constant_below : (number_width : NumberWidth) (e d : ℕ) (row : List ℚ) (before : Form) → RowWithin number_width e d row before
    → size_over e (fraction_in row 4) * d < 2 ^ 126
constant_below number_width e d row before within =
    below_most number_width (size_over e (fraction_in row 4) * d) (constant_within number_width e d row before within)

-- ---- what a factor that is not 0 gives
pub factor_term : (old : Extent) (c : ℚ) (k : ℤ) (e d : ℕ) → IsMultiple e c.denominator → IsMultiple d (unsigned_abs old.denominator)
    → k ≡ c.numerator *ℤ pos (e / c.denominator * (d / unsigned_abs old.denominator)) → IsFactorOf old c k (d * e)
factor_term old c k e d whole over is =
    inl (term_value c.numerator k (e / c.denominator) (d / unsigned_abs old.denominator)
    (unsigned_abs old.denominator) c.denominator d e is whole over)

pub factor_size : (old : Extent) (c : ℚ) (k : ℤ) (e d : ℕ) → k ≡ c.numerator *ℤ pos (e / c.denominator * (d / unsigned_abs old.denominator))
    → unsigned_abs k * extent_size old ≤ term_most e d c old
factor_size old c k e d is = omega (
  arith,
  term_size c.numerator k (e / c.denominator) (d / unsigned_abs old.denominator)
      (extent_size old) is,
)

pub factor_times : (number_width : NumberWidth) (old : Extent) (c : ℚ) (e d : ℕ) → 0 < unsigned_abs c.numerator → 0 < extent_size old
    → term_most e d c old < room number_width
    → (e / c.denominator * (d / unsigned_abs old.denominator) < room number_width)
    × (unsigned_abs c.numerator * (e / c.denominator * (d / unsigned_abs old.denominator)) < room number_width)
factor_times number_width old c e d some there small = (
  times_small (unsigned_abs c.numerator) (e / c.denominator) (extent_size old) (d / unsigned_abs old.denominator)
      (room number_width) some there small,
  product_small (unsigned_abs c.numerator) (e / c.denominator) (extent_size old) (d / unsigned_abs old.denominator)
      (room number_width) there small,
)
