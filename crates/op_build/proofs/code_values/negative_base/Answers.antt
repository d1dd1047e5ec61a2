use Rattle.std.proofs.Common.{refl}
use Rattle.op_build.proofs.convert.LevelSizes.{negative_there}
use Rattle.op_build.proofs.code_values.negative_base.Goals as goal

pub unwrap-requires : goal.unwrap-requires
unwrap-requires c = rw (c.checked_mul.ensures.value, c.whole.ensures, negative_there c.args.levels.now c.requires) refl

pub returns : goal.returns
returns c =
    let there = rw (c.checked_mul.ensures.value, c.whole.ensures, negative_there c.args.levels.now c.requires) at c.unwrap.ensures in
    cc
