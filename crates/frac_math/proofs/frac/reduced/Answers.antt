use Rattle.std.proofs.Common.{◌≡◌, ℕ, ◌<◌, ◌^◌, ℤ, pos, negsuc, ◌<ℤ◌, ap, arith, ◌∙◌, unsigned_abs, to_z, of_z}
use Rattle.std.specs.Int.{w128}
use Rattle.std.specs.Int.RustNames.{FitsSigned, int_div}
use Rattle.std.proofs.lemmas.Int.{ints, to_z-of_z, to_z_pos, quot_is, quot_fits}
use Rattle.frac_math.specs.Gcd.{gcd}
use Rattle.frac_math.proofs.Reduction.{whole_reduced, divided_pair, divided_same, gcd_fits}
use Rattle.frac_math.proofs.frac.reduced.Goals as goal

is_gcd : (c : goal.After-common_divisor-divisor) → c.common_divisor-divisor.result ≡ gcd (unsigned_abs c.args.num) (unsigned_abs c.args.den)
is_gcd c =
    c.common_divisor-divisor.ensures
    ∙ (let a = c.unsigned_abs.ensures.value in let b = c.unsigned_abs-2.ensures.value in
    let d = to_z-of_z w128 c.args.num c.ranges.num in let e = to_z-of_z w128 c.args.den c.ranges.den in cc)

small : (c : goal.After-common_divisor-divisor) → (0 < c.common_divisor-divisor.result) × (c.common_divisor-divisor.result < 2 ^ 127)
small c = rw (is_gcd c) (gcd_fits c.args.num c.args.den c.requires c.ranges.den)

pub overflow_cast-divisor : goal.overflow_cast-divisor
overflow_cast-divisor c = let s = small c in omega (arith, ints, s.1)

pub nonzero_div-result : goal.nonzero_div-result
nonzero_div-result c =
    let s = small c in
    let lt : c.common_divisor-divisor.result < 2 ^ 127 = s.1 in (
      s.0,
      rw (to_z-of_z w128 c.args.num c.ranges.num, to_z_pos w128 c.common_divisor-divisor.result lt)
          (quot_fits w128 c.args.num (pos c.common_divisor-divisor.result) c.ranges.num (omega (arith, ints, s.0))),
    )

pub nonzero_div-result-2 : goal.nonzero_div-result-2
nonzero_div-result-2 c =
    let s = small c in
    let lt : c.common_divisor-divisor.result < 2 ^ 127 = s.1 in (
      s.0,
      rw (to_z-of_z w128 c.args.den c.ranges.den, to_z_pos w128 c.common_divisor-divisor.result lt)
          (quot_fits w128 c.args.den (pos c.common_divisor-divisor.result) c.ranges.den (omega (arith, ints, s.0))),
    )

part_is : (g : ℕ) (a : ℤ) → (0 < g) × (g < 2 ^ 127) → FitsSigned w128 a
    → to_z w128 (of_z w128 (int_div (to_z w128 (of_z w128 a)) (to_z w128 g))) ≡ int_div a (pos g)
part_is g a s f = quot_is w128 a (pos g) f (omega (arith, ints, s.1)) (quot_fits w128 a (pos g) f (omega (arith, ints, s.0)))

pub invariant_of-result-2 : goal.invariant_of-result-2
invariant_of-result-2 c =
    let g = c.common_divisor-divisor.result in
    rw (part_is g c.args.num (small c) c.ranges.num, part_is g c.args.den (small c) c.ranges.den)
    (divided_pair c.args.num c.args.den g c.requires (is_gcd c))

-- a denominator whose bits are 1
one_is : (d : ℤ) → pos 0 <ℤ d → of_z w128 d ≡ 1 → d ≡ pos 1
one_is (pos m) h e = ap pos e
one_is (negsuc m) h e = absurd h.lt

pub invariant_of-result : goal.invariant_of-result
invariant_of-result c = rw (
  to_z-of_z w128 c.args.num c.ranges.num,
  to_z-of_z w128 c.args.den c.ranges.den,
  one_is c.args.den c.requires c.if-den-eq1.true,
) (whole_reduced c.args.num)

pub returns-then-den-eq1 : goal.returns-then-den-eq1
returns-then-den-eq1 c = rw (to_z-of_z w128 c.args.num c.ranges.num, to_z-of_z w128 c.args.den c.ranges.den)

pub returns : goal.returns
returns c =
    let g = c.common_divisor-divisor.result in
    rw (part_is g c.args.num (small c) c.ranges.num, part_is g c.args.den (small c) c.ranges.den)
    (divided_same c.args.num c.args.den g c.requires (is_gcd c))
