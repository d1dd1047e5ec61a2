-- From the width of a list to what a value and a row need, and back from the new extent to the next width.
use Rattle.std.proofs.Common.{◌≡◌, ℕ, zero, suc, ◌+◌, ◌*◌, ◌/◌, ◌^◌, ◌<◌, ◌≤◌, List, pos, refl, sym, ap, ◌∙◌, arith, subst}
use Rattle.std.specs.Prelude.{Option, Some, None, IfSome, ◌<ℤ◌, unsigned_abs}
use Rattle.std.proofs.Math.Nat.{mul-le-mul_left, mul-le-mul_right, mul-div_cancel_left, div-mul_cancel}
use Rattle.frac_math.specs.Fraction.{ℚ}
use Rattle.op_list.specs.declared.op.Op.TheVariants.{Dither, Scale}
use Rattle.op_list.specs.Values.{entry, fraction_in}
use Rattle.op_list.specs.Apply.{row_of}
use Rattle.op_list.proofs.Four.{get_or-four}
use Rattle.op_range.specs.declared.width.Width.{Width}
use Rattle.op_range.specs.FractionBounds.{factor}
use Rattle.op_range.specs.Width.{size_in, width_of, scaled_width, limited_width, dithered_width, mapped_width, limited_size, size_over}
use Rattle.op_range.specs.Width.{entries_denominator, rows_denominator, row_size}
use Rattle.op_range.proofs.Multiples.{multiple_right, entries_each, entries_positive, rows_each, rows_positive}
use Rattle.kernel_step.specs.declared.form.Extent.{Extent}
use Rattle.kernel_step.specs.declared.form.Form.{Form}
use Rattle.kernel_step.specs.declared.form.NumberWidth.{NumberWidth}
use Rattle.kernel_step.specs.Forms.{extent_at}
use Rattle.kernel_joint.specs.Joint.{extent_size, row_most, HasWidth, IsSmall, AreSame, MadeFits, IsMultiple, IsLimit, RowWithin}
use Rattle.kernel_joint.specs.Joint.{room}
use Rattle.kernel_joint.proofs.JointValues.{width_scaled, width_limited, width_dithered}

-- ---- a denominator that divides the joint one
positive_part : (a g d : ℕ) → a * g ≡ d → 0 < d → 0 < a
positive_part zero g d is some = omega (arith, is, some)
positive_part (suc a) g d is some = omega arith

positive_factor : (a g d : ℕ) → a * g ≡ d → 0 < d → 1 ≤ g
positive_factor a zero d is some = absurd (omega (arith, is, some))
positive_factor a (suc g) d is some = omega arith

pub quotient_of : (a g d : ℕ) → 0 < d → a * g ≡ d → d / a ≡ g
quotient_of a g d some is = ap (λ x. x / a) (sym is) ∙ mul-div_cancel_left g (positive_part a g d is some)

pub multiple_of : (old : Extent) (d size : ℕ) → 0 < d → HasWidth old d size → IsMultiple d (unsigned_abs old.denominator)
multiple_of old d size some has =
    ap (λ x. x * unsigned_abs old.denominator) (quotient_of (unsigned_abs old.denominator) has.factor d some has.over)
    ∙ omega (arith, has.over)

below_product : (a g m : ℕ) → 1 ≤ g → a * g ≤ m → a ≤ m
below_product a g m some h = omega (arith, h, mul-le-mul_left a some)

pub old_small : (old : Extent) (d size : ℕ) → 0 < d → HasWidth old d size → (unsigned_abs old.denominator ≤ d) × (extent_size old ≤ size)
old_small old d size some has =
    let g = positive_factor (unsigned_abs old.denominator) has.factor d has.over some in (
      below_product (unsigned_abs old.denominator) has.factor d g (omega (arith, has.over)),
      below_product (extent_size old) has.factor size g has.most,
    )

pub width_same : (extent : Extent) (d e m n : ℕ) → HasWidth extent d m → d ≡ e → m ≡ n → HasWidth extent e n
width_same extent d e m n has is same = subst (λ (x : ℕ). HasWidth extent x n) is (subst (λ (x : ℕ). HasWidth extent d x) same has)

-- ---- the quotient of the joint denominators
pub grown : (d e n : ℕ) → 0 < d → n ≡ d * e → n / d ≡ e
grown d e n some is = ap (λ x. x / d) is ∙ mul-div_cancel_left e some

pub size_of_value : (d : ℕ) (f : ℕ → ℕ) (next : Width) (v : ℕ) → v < 4 → AreSame next (width_of d f) → size_in next v ≡ f v
size_of_value d f next v below same = same.sizes v below ∙ get_or-four f v 0 below

-- ---- Scale
pub scale_fits : (number_width : NumberWidth) (by : ℚ) (v : ℕ) (old : Extent) (w next : Width) (e d : ℕ) → AreSame next (scaled_width by w)
    → IsSmall number_width w → IsSmall number_width next
    → v < 4
    → HasWidth old w.denominator (size_in w v) → MadeFits number_width (Scale by) v old e d
scale_fits number_width by v old w next e d same small next_small below has =
    let low = old_small old w.denominator (size_in w v) small.positive has in
    let size = size_of_value _ (λ i. size_in w i * unsigned_abs by.numerator) next v below same in
    record {
      by_value = refl;
      positive = has.positive;
      denominator = omega (arith, mul-le-mul_right by.denominator low.0, same.denominator, next_small.denominator);
      size = omega (arith, mul-le-mul_right (unsigned_abs by.numerator) low.1, size, next_small.sizes v below);
      factors = omega arith;
    }

pub scale_width : (by : ℚ) (v : ℕ) (old new : Extent) (w next : Width) → AreSame next (scaled_width by w) → v < 4
    → HasWidth old w.denominator (size_in w v)
    → pos 0 <ℤ new.denominator → unsigned_abs new.denominator ≡ unsigned_abs old.denominator * by.denominator
    → extent_size new ≤ extent_size old * unsigned_abs by.numerator
    → HasWidth new next.denominator (size_in next v)
scale_width by v old new w next same below has positive is most =
    let size = size_of_value _ (λ i. size_in w i * unsigned_abs by.numerator) next v below same in
    width_same new _ _ _ _ (width_scaled old new w.denominator (size_in w v) by.denominator
    (unsigned_abs by.numerator) has positive is most) (sym same.denominator) (sym size)

-- ---- Min and Max
more_limited : (e a d s n : ℕ) (limit : Option ℚ) → a ≤ d → s ≤ n → limited_size e a limit s ≤ limited_size e d limit n
more_limited e a d s n None low most = mul-le-mul_right e most
more_limited e a d s n (Some x) low most = omega (arith, mul-le-mul_right e most, mul-le-mul_left (size_over e x) low)

is_limit : (number_width : NumberWidth) (limits : List (Option ℚ)) (v : ℕ) → entries_denominator limits < room number_width
    → IsLimit number_width (entries_denominator limits) (entry limits v)
is_limit number_width limits v small = (entries_positive limits, small, each (entry limits v) refl)
  where
    each : (limit : Option ℚ) → entry limits v ≡ limit
        → IfSome limit (λ x. entries_denominator limits / x.denominator * x.denominator ≡ entries_denominator limits)
    each None h = tt
    each (Some x) h = div-mul_cancel x.denominator (entries_each limits v x h)

-- what both need
pub record LimitFits (number_width : NumberWidth) (limits : List (Option ℚ)) (v : ℕ) (old : Extent) : Type 0 where
  pub positive : pos 0 <ℤ old.denominator
  pub denominator : unsigned_abs old.denominator * entries_denominator limits < room number_width
  pub size : limited_size (entries_denominator limits) (unsigned_abs old.denominator) (entry limits v) (extent_size old) < room number_width
  pub factors : IsLimit number_width (entries_denominator limits) (entry limits v)

pub limit_fits : (number_width : NumberWidth) (limits : List (Option ℚ)) (v : ℕ) (old : Extent) (w next : Width)
    → AreSame next (limited_width limits w) → IsSmall number_width w
    → IsSmall number_width next → v < 4
    → HasWidth old w.denominator (size_in w v) → LimitFits number_width limits v old
limit_fits number_width limits v old w next same small next_small below has =
    let e = entries_denominator limits in
    let low = old_small old w.denominator (size_in w v) small.positive has in
    let size = size_of_value _ (λ i. limited_size e w.denominator (entry limits i) (size_in w i)) next v below same in
    record {
      positive = has.positive;
      denominator = omega (arith, mul-le-mul_right e low.0, same.denominator, next_small.denominator);
      size = omega (
        arith,
        more_limited e (unsigned_abs old.denominator) w.denominator (extent_size old) (size_in w v)
            (entry limits v) low.0 low.1,
        size,
        next_small.sizes v below,
      );
      factors = is_limit number_width limits v (omega (arith, mul-le-mul_right e small.positive, same.denominator, next_small.denominator));
    }

pub limit_width : (limits : List (Option ℚ)) (v : ℕ) (old new : Extent) (w next : Width) → AreSame next (limited_width limits w) → v < 4
    → HasWidth old w.denominator (size_in w v)
    → pos 0 <ℤ new.denominator → unsigned_abs new.denominator ≡ unsigned_abs old.denominator * entries_denominator limits
    → extent_size new ≤ limited_size (entries_denominator limits) (unsigned_abs old.denominator) (entry limits v) (extent_size old)
    → HasWidth new next.denominator (size_in next v)
limit_width limits v old new w next same below has positive is most =
    let e = entries_denominator limits in
    let size = size_of_value _ (λ i. limited_size e w.denominator (entry limits i) (size_in w i)) next v below same in
    width_same new _ _ _ _ (either (entry limits v) most) (sym same.denominator) (sym size)
  where
    either : (limit : Option ℚ) → extent_size new ≤ limited_size (entries_denominator limits) (unsigned_abs old.denominator) limit
        (extent_size old)
        → HasWidth new (w.denominator * entries_denominator limits)
        (limited_size (entries_denominator limits) w.denominator limit (size_in w v))
    either None most = width_scaled old new w.denominator (size_in w v) (entries_denominator limits)
        (entries_denominator limits) has positive is most
    either (Some x) most = width_limited old new w.denominator (size_in w v) (entries_denominator limits)
        (size_over (entries_denominator limits) x * unsigned_abs old.denominator)
        (size_over (entries_denominator limits) x * w.denominator) has positive is most
        (omega (arith, ap (λ y. size_over (entries_denominator limits) x * y) has.over))

-- ---- Dither
dither_quotient : (old : Extent) (d size f : ℕ) → 0 < d * f → (has : HasWidth old d size)
    → d * f / unsigned_abs old.denominator ≡ has.factor * f
dither_quotient old d size f some has = quotient_of (unsigned_abs old.denominator) (has.factor * f) (d * f) some
    (omega (arith, ap (λ x. x * f) has.over))

pub dither_fits : (number_width : NumberWidth) (k v : ℕ) (old : Extent) (w next : Width) (e : ℕ) → k ≤ 4
    → AreSame next (dithered_width k w) → IsSmall number_width w → IsSmall number_width next
    → v < 4
    → HasWidth old w.denominator (size_in w v) → MadeFits number_width (Dither k) v old e next.denominator
dither_fits number_width k v old w next e few same small next_small below has =
    let p = 2 * 4 ^ k in
    let f = factor w.denominator p in
    let size = size_of_value _ (λ i. size_in w i * f + w.denominator * f) next v below same in
    let some : 0 < w.denominator * f = omega (arith, same.denominator, next_small.positive) in
    let quotient : next.denominator / unsigned_abs old.denominator ≡ has.factor * f =
    ap (λ x. x / unsigned_abs old.denominator) same.denominator ∙ dither_quotient old w.denominator (size_in w v) f some has in
    record {
      by_value = refl;
      positive = has.positive;
      denominator = next_small.denominator;
      size = omega (
        arith,
        ap (λ x. extent_size old * x) quotient,
        mul-le-mul_right f has.most,
        size,
        same.denominator,
        next_small.sizes v below,
      );
      factors = (
        next_small.positive,
        few,
        ap (λ x. x * unsigned_abs old.denominator) quotient ∙ omega (arith, ap (λ x. x * f) has.over, same.denominator),
        subst (λ (d : ℕ). d / p * p ≡ d) (sym same.denominator) (div-mul_cancel p (multiple_right w.denominator p)),
      );
    }

pub dither_width : (number_width : NumberWidth) (k v : ℕ) (old new : Extent) (w next : Width) → AreSame next (dithered_width k w)
    → IsSmall number_width w → IsSmall number_width next → v < 4
    → HasWidth old w.denominator (size_in w v) → pos 0 <ℤ new.denominator → unsigned_abs new.denominator ≡ next.denominator
    → extent_size new ≤ extent_size old * (next.denominator / unsigned_abs old.denominator) + next.denominator
    → HasWidth new next.denominator (size_in next v)
dither_width number_width k v old new w next same small next_small below has positive is most =
    let f = factor w.denominator (2 * 4 ^ k) in
    let size = size_of_value _ (λ i. size_in w i * f + w.denominator * f) next v below same in
    let some : 0 < w.denominator * f = omega (arith, same.denominator, next_small.positive) in
    let h = next.denominator / unsigned_abs old.denominator in
    let quotient : h ≡ has.factor * f =
    ap (λ x. x / unsigned_abs old.denominator) same.denominator ∙ dither_quotient old w.denominator (size_in w v) f some has in
    width_same new _ _ _ _
    (width_dithered old new w.denominator (size_in w v) f h has small.positive positive (is ∙ same.denominator)
    (ap (λ x. x * unsigned_abs old.denominator) quotient ∙ omega (arith, ap (λ x. x * f) has.over)) (omega (arith, most, same.denominator)))
    (sym same.denominator) (sym size)

-- ---- Linear
term_below : (e d size : ℕ) (c : ℚ) (old : Extent) → 0 < d → HasWidth old d size
    → size_over e c * (extent_size old * (d / unsigned_abs old.denominator)) ≤ size_over e c * size
term_below e d size c old some has =
    let quotient = quotient_of (unsigned_abs old.denominator) has.factor d some has.over in
    mul-le-mul_left (size_over e c) (at_most (extent_size old) (d / unsigned_abs old.denominator) has.factor size quotient has.most)
  where
    at_most : (s q g n : ℕ) → q ≡ g → s * g ≤ n → s * q ≤ n
    at_most s q g n is h = omega (arith, ap (λ x. s * x) is, h)

pub row_fits : (number_width : NumberWidth) (rows : List (List ℚ)) (v : ℕ) (before : Form) (w next : Width) → before.count ≡ 4
    → AreSame next (mapped_width rows w)
    → IsSmall number_width w → IsSmall number_width next → v < 4
    → ((j : ℕ) → j < 4 → HasWidth (extent_at before j) w.denominator (size_in w j))
    → RowWithin number_width (rows_denominator rows) w.denominator (row_of rows v) before
row_fits number_width rows v before w next count same small next_small below has =
    let e = rows_denominator rows in
    let row = row_of rows v in
    let size = size_of_value _ (λ i. row_size e (row_of rows i) w) next v below same in
    let term = λ (j : ℕ) (small_j : j < 4). term_below e w.denominator (size_in w j) (fraction_in row j) (extent_at before j) small.positive
    (has j small_j) in
    record {
      count = count;
      some = (rows_positive rows, small.positive);
      denominator = omega (arith, same.denominator, next_small.denominator);
      positive = λ j small_j. (has j small_j).positive;
      over = λ j small_j. multiple_of (extent_at before j) w.denominator (size_in w j) small.positive (has j small_j);
      whole = λ j small_j. div-mul_cancel (fraction_in row j).denominator (rows_each rows v j);
      most = omega (
        arith,
        term 0 (omega arith),
        term 1 (omega arith),
        term 2 (omega arith),
        term 3 (omega arith),
        size,
        next_small.sizes v below,
      );
    }

pub row_width : (number_width : NumberWidth) (rows : List (List ℚ)) (v : ℕ) (before : Form) (new : Extent) (w next : Width)
    → AreSame next (mapped_width rows w)
    → IsSmall number_width w → v < 4
    → ((j : ℕ) → j < 4 → HasWidth (extent_at before j) w.denominator (size_in w j)) → pos 0 <ℤ new.denominator
    → unsigned_abs new.denominator ≡ w.denominator * rows_denominator rows
    → extent_size new ≤ row_most (rows_denominator rows) w.denominator (row_of rows v) before
    → HasWidth new next.denominator (size_in next v)
row_width number_width rows v before new w next same small below has positive is most =
    let e = rows_denominator rows in
    let row = row_of rows v in
    let size = size_of_value _ (λ i. row_size e (row_of rows i) w) next v below same in
    let term = λ (j : ℕ) (small_j : j < 4). term_below e w.denominator (size_in w j) (fraction_in row j) (extent_at before j) small.positive
    (has j small_j) in
    record {
      positive = positive;
      factor = 1;
      over = omega (arith, is, same.denominator);
      most = omega (arith, most, term 0 (omega arith), term 1 (omega arith), term 2 (omega arith), term 3 (omega arith), size);
    }
