use Rattle.std.proofs.Common.{◌+◌, ◌*◌, pos, add-one, arith, refl, sym, rules}
use Rattle.std.specs.Int.{w128}
use Rattle.std.proofs.lemmas.Int.{ints, to_z-of_z}
use native.Mathlib.Nat.{pow-suc}
use Rattle.frac_math.specs.Dither.{digit}
use Rattle.frac_math.proofs.DitherLaws.{index_number-zero, index_number-add-one, index_most, small_numbers, dither_known}
use Rattle.frac_math.proofs.Reduction.{reduced_known}
use Rattle.frac_math.proofs.dither.dither_at.Goals as goal

pub loop-i-init : goal.loop-i-init
loop-i-init c = record { sum = sym (index_number-zero c.args.x c.args.y); cells = refl }

pub overflow_mul-sum : goal.overflow_mul-sum
overflow_mul-sum c = omega (arith, small_numbers c.loop-i.i c.args.x c.args.y (omega arith))

pub overflow_add-sum : goal.overflow_add-sum
overflow_add-sum c = omega (
  arith,
  small_numbers c.loop-i.i c.args.x c.args.y (omega arith),
  index_most (digit c.loop-i.i c.args.x) (digit c.loop-i.i c.args.y),
  c.index.ensures,
)

pub overflow_mul-cells : goal.overflow_mul-cells
overflow_mul-cells c = omega (arith, small_numbers c.loop-i.i c.args.x c.args.y (omega arith))

pub loop-i-preserved : goal.loop-i-preserved
loop-i-preserved c = record {
  sum = (let last = index_number-add-one c.loop-i.i c.args.x c.args.y in omega (arith, c.loop-i.invariant.sum, c.index.ensures, last));
  cells = rw add-one (omega (arith, pow-suc 4 c.loop-i.i));
}

pub overflow_mul-sum-2 : goal.overflow_mul-sum-2
overflow_mul-sum-2 c = omega (arith, small_numbers c.loop-i.i c.args.x c.args.y (omega arith))

pub overflow_add-sum-2 : goal.overflow_add-sum-2
overflow_add-sum-2 c = omega (arith, small_numbers c.loop-i.i c.args.x c.args.y (omega arith))

pub overflow_mul-cells-2 : goal.overflow_mul-cells-2
overflow_mul-cells-2 c = omega (arith, small_numbers c.loop-i.i c.args.x c.args.y (omega arith))

pub reduced-requires : goal.reduced-requires
reduced-requires c =
    let small = small_numbers c.loop-i.i c.args.x c.args.y (omega arith) in
    rw (to_z-of_z w128 c.from-2.result (search rules), c.from-2.ensures) (omega (arith, ints))

pub returns : goal.returns
returns c =
    dither_known c.reduced.result c.args.k c.loop-i.i c.args.x c.args.y c.loop-i.sum c.loop-i.cells
    (omega arith) c.loop-i.invariant.sum c.loop-i.invariant.cells
    (reduced_known c.reduced.result c.from.result c.from-2.result (pos (2 * c.loop-i.sum + 1)) (2 * c.loop-i.cells) (search rules)
    (search rules) c.from.ensures c.from-2.ensures c.reduced.ensures)
