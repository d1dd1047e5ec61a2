use Rattle.std.proofs.Common.{pos, ◌≤ℤ◌, ◌<ℤ◌, subst, sym, ◌∙◌, arith, rules}
use Rattle.std.proofs.lemmas.Int.{ints}
use Rattle.frac_math.proofs.Casts.{abs_known}
use Rattle.frac_math.proofs.OrderByProducts.{order_positive, order_negative, order_less, order_greater}
use Rattle.frac_math.proofs.frac.Frac.cmp.Goals as goal

pub returns-then-right-ge0 : goal.returns-then-right-ge0
returns-then-right-ge0 c =
    let x = c.args.self.now in
    let y = c.args.other.now in
    let a = abs_known c.unsigned_abs.result c.num-left.result x.numerator (search rules) c.num-left.ensures c.unsigned_abs.ensures.value in
    let b = abs_known c.unsigned_abs-then-right-ge0.result c.den.result (pos y.denominator)
    (search rules) c.den.ensures c.unsigned_abs-then-right-ge0.ensures.value in
    let d = abs_known c.unsigned_abs-then-right-ge0-2.result c.num-right.result y.numerator
    (search rules) c.num-right.ensures c.unsigned_abs-then-right-ge0-2.ensures.value in
    let e = abs_known c.unsigned_abs-then-right-ge0-3.result c.den-then-right-ge0.result (pos x.denominator)
    (search rules) c.den-then-right-ge0.ensures c.unsigned_abs-then-right-ge0-3.ensures.value in
    let p : pos 0 ≤ℤ x.numerator = subst (λ z. pos 0 ≤ℤ z) c.num-left.ensures (omega (arith, ints)) in
    let q : pos 0 ≤ℤ y.numerator = subst (λ z. pos 0 ≤ℤ z) c.num-right.ensures (omega (arith, ints)) in
    let o = order_positive x y p q in
    c.compare_products.ensures ∙ rw (a, b, d, e) (sym o)

pub returns-else-right-ge0 : goal.returns-else-right-ge0
returns-else-right-ge0 c =
    let p : pos 0 ≤ℤ c.args.self.now.numerator = subst (λ z. pos 0 ≤ℤ z) c.num-left.ensures (omega (arith, ints)) in
    let q : c.args.other.now.numerator <ℤ pos 0 = subst (λ z. z <ℤ pos 0) c.num-right.ensures (omega (arith, ints)) in
    sym (order_greater c.args.self.now c.args.other.now p q)

pub returns-then-right-ge0-2 : goal.returns-then-right-ge0-2
returns-then-right-ge0-2 c =
    let p : c.args.self.now.numerator <ℤ pos 0 = subst (λ z. z <ℤ pos 0) c.num-left.ensures (omega (arith, ints)) in
    let q : pos 0 ≤ℤ c.args.other.now.numerator = subst (λ z. pos 0 ≤ℤ z) c.num-right.ensures (omega (arith, ints)) in
    sym (order_less c.args.self.now c.args.other.now p q)

pub returns-else-right-ge0-2 : goal.returns-else-right-ge0-2
returns-else-right-ge0-2 c =
    let x = c.args.self.now in
    let y = c.args.other.now in
    let a = abs_known c.unsigned_abs-else-right-ge0-2.result c.num-right.result y.numerator
    (search rules) c.num-right.ensures c.unsigned_abs-else-right-ge0-2.ensures.value in
    let b = abs_known c.unsigned_abs-else-right-ge0-2-2.result c.den-else-right-ge0-2.result (pos x.denominator)
    (search rules) c.den-else-right-ge0-2.ensures c.unsigned_abs-else-right-ge0-2-2.ensures.value in
    let d = abs_known c.unsigned_abs-else-right-ge0-2-3.result c.num-left.result x.numerator
    (search rules) c.num-left.ensures c.unsigned_abs-else-right-ge0-2-3.ensures.value in
    let e = abs_known c.unsigned_abs-else-right-ge0-2-4.result c.den-else-right-ge0-2-2.result (pos y.denominator)
    (search rules) c.den-else-right-ge0-2-2.ensures c.unsigned_abs-else-right-ge0-2-4.ensures.value in
    let p : x.numerator <ℤ pos 0 = subst (λ z. z <ℤ pos 0) c.num-left.ensures (omega (arith, ints)) in
    let q : y.numerator <ℤ pos 0 = subst (λ z. z <ℤ pos 0) c.num-right.ensures (omega (arith, ints)) in
    let o = order_negative x y p q in
    c.compare_products-else-right-ge0-2.ensures ∙ rw (a, b, d, e) (sym o)
