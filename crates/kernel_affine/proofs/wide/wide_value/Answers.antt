use Rattle.std.proofs.Common.{◌≡◌, ◌+◌, arith, slice_index_or}
use Rattle.std.proofs.lemmas.List.{get_or_default}
use Rattle.kernel_affine.proofs.wide.wide_value.Goals as goal

pub combine_part-requires-clause-takes : goal.combine_part-requires-clause-takes
combine_part-requires-clause-takes g c =
    λ k x y z below.
    let wide = c.args.wide.now in
    let second : slice_index_or wide (64 + k) y ≡ slice_index_or wide (64 + k) x =
    get_or_default wide (64 + k) y x (omega (arith, below)) in
    let third : slice_index_or wide (128 + k) z ≡ slice_index_or wide (128 + k) x =
    get_or_default wide (128 + k) z x (omega (arith, below)) in
    rw (c.entry.ensures, c.entry-2.ensures, c.entry-3.ensures, c.entry-4.ensures, second, third) (
      c.requires.lows 0 k x (omega arith) below,
      c.requires.lows 1 k x (omega arith) below,
      c.requires.lows 2 k x (omega arith) below,
      c.requires.short 0 (omega arith),
      c.requires.short 1 (omega arith),
      c.requires.short 2 (omega arith),
      c.requires.fits k x below,
    )
