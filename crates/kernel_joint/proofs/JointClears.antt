-- A Clear, within the width of a list.
use Rattle.std.proofs.Common.{◌≡◌, ℕ, zero, suc, ◌*◌, ◌/◌, ◌<◌, ◌≤◌, true, List, ℤ, pos, refl, sym, ap, ◌∙◌, arith}
use Rattle.std.specs.Prelude.{Option, Some, None, IfSome, ◌<ℤ◌, unsigned_abs}
use Rattle.std.proofs.Math.Nat.{div-mul_cancel, mul-le-mul_left, mul-le-mul_right}
use Rattle.std.proofs.lemmas.Int.{ints}
use Rattle.frac_math.specs.Fraction.{ℚ}
use Rattle.frac_math.proofs.FractionRing.{denominator_positive}
use Rattle.op_list.specs.Values.{entry}
use Rattle.op_range.specs.declared.width.Width.{Width}
use Rattle.op_range.specs.Width.{size_in, size_over, cleared_size, cleared_width, entries_denominator}
use Rattle.op_range.proofs.Multiples.{entries_each, entries_positive}
use Rattle.kernel_step.specs.declared.form.Extent.{Extent}
use Rattle.kernel_step.specs.declared.form.Form.{Form}
use Rattle.kernel_step.specs.declared.form.NumberWidth.{NumberWidth}
use Rattle.kernel_step.specs.Forms.{IsCleared, IsConstant, extent_at, width_of}
use Rattle.kernel_joint.specs.Joint.{HasWidth, AreSame, IsSmall, extent_size, room}
use Rattle.kernel_joint.proofs.JointMade.{size_of_value, width_same}

-- a value that stays, over e times the joint denominator
pub kept_width : (old : Extent) (d size e : ℕ) → HasWidth old d size → HasWidth old (d * e) (size * e)
kept_width old d size e has = record {
  positive = has.positive;
  factor = has.factor * e;
  over = omega (arith, ap (λ x. x * e) has.over);
  most = omega (arith, mul-le-mul_right e has.most);
}

-- an entry alone, over a multiple of its denominator
pub constant_width : (number_width : NumberWidth) (x : ℚ) (k : ℤ) (new : Extent) (d e : ℕ) → e / x.denominator * x.denominator ≡ e
    → IsConstant (width_of number_width) x k new
    → HasWidth new (d * e) (size_over e x * d)
constant_width number_width x k new d e whole is =
    let denominator : unsigned_abs new.denominator ≡ x.denominator = ap unsigned_abs is.denominator in
    let size : extent_size new ≡ unsigned_abs x.numerator = omega (arith, ap unsigned_abs is.least, ap unsigned_abs is.greatest) in
    record {
      positive = rw is.denominator (positive x.denominator (denominator_positive x));
      factor = e / x.denominator * d;
      over = ap (λ n. n * (e / x.denominator * d)) denominator ∙ omega (arith, ap (λ n. n * d) whole);
      most = omega (arith, ap (λ n. n * (e / x.denominator * d)) size);
    }
  where
    positive : (n : ℕ) → 0 < n → pos 0 <ℤ pos n
    positive n h = omega (arith, ints, h)

pub clear_width : (number_width : NumberWidth) (entries : List (Option ℚ)) (v : ℕ) (before : Form) (k : ℤ) (new : Extent) (w next : Width)
    → AreSame next (cleared_width entries w) → v < 4
    → HasWidth (extent_at before v) w.denominator (size_in w v) → IsCleared (width_of number_width) true before v (entry entries v) k new
    → HasWidth new next.denominator (size_in next v)
clear_width number_width entries v before k new w next same below has cleared =
    let e = entries_denominator entries in
    let size = size_of_value _ (λ i. cleared_size e w.denominator (entry entries i) (size_in w i)) next v below same in
    width_same new _ _ _ _ (either (entry entries v) refl cleared) (sym same.denominator) (sym size)
  where
    either : (given : Option ℚ) → entry entries v ≡ given → IsCleared (width_of number_width) true before v given k new
        → HasWidth new (w.denominator * entries_denominator entries)
        (cleared_size (entries_denominator entries) w.denominator given (size_in w v))
    either None h cleared = rw cleared.1 (kept_width (extent_at before v) w.denominator (size_in w v) (entries_denominator entries) has)
    either (Some x) h cleared = constant_width number_width x k new w.denominator (entries_denominator entries)
        (div-mul_cancel x.denominator (entries_each entries v x h)) (cleared refl)

-- an entry has a small numerator, for so has the width after it
pub entry_small : (number_width : NumberWidth) (entries : List (Option ℚ)) (w next : Width) → IsSmall number_width w
    → IsSmall number_width next → AreSame next (cleared_width entries w) → (v : ℕ) → v < 4
    → IfSome (entry entries v) (λ x. unsigned_abs x.numerator < room number_width)
entry_small number_width entries w next small next_small same v below = either (entry entries v) refl
  where
    some : (e n : ℕ) → e / n * n ≡ e → 0 < e → 1 ≤ e / n
    some e n whole positive = at_least (e / n) whole
      where
        at_least : (q : ℕ) → q * n ≡ e → 1 ≤ q
        at_least zero is = absurd (omega (arith, is, positive))
        at_least (suc q) is = omega arith

    below_size : (c q d n : ℕ) → 1 ≤ q → 0 < d → c * q * d ≡ n → n < room number_width → c < room number_width
    below_size c q d n some positive is small =
        omega (arith, is, small, mul-le-mul_left c some, mul-le-mul_left (c * q) positive)

    either : (given : Option ℚ) → entry entries v ≡ given → IfSome given (λ x. unsigned_abs x.numerator < room number_width)
    either None h = tt
    either (Some x) h =
        let e = entries_denominator entries in
        let size = size_of_value _ (λ i. cleared_size e w.denominator (entry entries i) (size_in w i)) next v below same in
        below_size (unsigned_abs x.numerator) (e / x.denominator) w.denominator (size_in next v)
        (some e x.denominator (div-mul_cancel x.denominator (entries_each entries v x h)) (entries_positive entries)) small.positive
        (sym (size ∙ ap (λ given. cleared_size e w.denominator given (size_in w v)) h)) (next_small.sizes v below)
