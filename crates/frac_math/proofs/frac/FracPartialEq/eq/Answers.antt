use Rattle.std.proofs.Common.{◌≡◌, Bool, true, false, ◌&&◌, eqb, eqb-true, ℤ, refl, sym, ◌∙◌, ap, of_z, to_z, rules}
use Rattle.std.specs.Int.{w128}
use Rattle.std.specs.Int.RustNames.{FitsSigned}
use Rattle.std.proofs.lemmas.Int.{to_z-of_z}
use Rattle.std.proofs.lemmas.Bool.Decides.{Decides-int_eq}
use Rattle.std.specs.Ordering.{int_eq}
use Rattle.frac_math.specs.Fraction.{equal_ℚ}
use Rattle.frac_math.proofs.frac.FracPartialEq.eq.Goals as goal

-- two numbers with the same bits are the same
same_number : (a b n m : ℤ) → FitsSigned w128 a → FitsSigned w128 b → a ≡ n → b ≡ m → of_z w128 a ≡ of_z w128 b → n ≡ m
same_number a b n m f g p q e = sym p ∙ sym (to_z-of_z w128 a f) ∙ ap (to_z w128) e ∙ to_z-of_z w128 b g ∙ q

is_false : (t : Bool) → (t ≡ true → ⊥) → t ≡ false
is_false true h = absurd (h refl)
is_false false h = refl

pub returns-then-num : goal.returns-then-num
unfolding equal_ℚ
returns-then-num c =
    let x = c.args.self.now in
    let y = c.args.other.now in
    let e = same_number c.num.result c.num-2.result x.numerator y.numerator (search rules)
    (search rules) c.num.ensures c.num-2.ensures c.if-num.true in
    rw (c.den.ensures, c.den-then-num.ensures)
    (sym (ap (λ (t : Bool). t && eqb x.denominator y.denominator) ((Decides-int_eq x.numerator y.numerator).1 e)))

pub returns-else-num : goal.returns-else-num
unfolding equal_ℚ
returns-else-num c =
    let x = c.args.self.now in
    let y = c.args.other.now in
    let differ : x.numerator ≡ y.numerator → ⊥ = λ e. c.if-num.false (ap (of_z w128) (c.num.ensures ∙ e ∙ sym c.num-2.ensures)) in
    is_false (eqb (of_z w128 c.num.result) (of_z w128 c.num-2.result))
    (λ t. c.if-num.false (eqb-true (of_z w128 c.num.result) (of_z w128 c.num-2.result) t))
    ∙ sym (ap (λ (t : Bool). t && eqb x.denominator y.denominator)
    (is_false (int_eq x.numerator y.numerator) (λ t. differ ((Decides-int_eq x.numerator y.numerator).0 t))))
