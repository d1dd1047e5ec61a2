use Rattle.std.proofs.Common.{◌≡◌, ◌+◌, ◌*◌, arith, slice_index_or}
use Rattle.std.proofs.lemmas.List.{get_or_default}
use Rattle.kernel_step.proofs.rational.mul_take_short.Goals as goal

pub merge_part-requires-clause-takes : goal.merge_part-requires-clause-takes
merge_part-requires-clause-takes g c =
    λ k x y below.
    let at : slice_index_or c.args.numbers.now (64 * c.args.u + k) x ≡ slice_index_or c.args.numbers.now (64 * c.args.u + k) y =
    get_or_default c.args.numbers.now (64 * c.args.u + k) x y (omega (arith, below)) in (
      c.requires.least k y below,
      c.requires.greatest k y below,
      c.requires.k.0,
      c.requires.k.1,
      c.requires.product k y below,
      rw at at (c.requires.fits k x below),
    )
