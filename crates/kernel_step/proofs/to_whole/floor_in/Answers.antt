use Rattle.std.proofs.Common.{◌∙◌}
use Rattle.std.specs.Int.{int_div_euclid}
use Rattle.kernel_step.proofs.NarrowSteps.{lowest_of}
use Rattle.kernel_step.proofs.to_whole.floor_in.Goals as goal

pub returns-clause-value : goal.returns-clause-value
returns-clause-value g c =
    c.lowest.ensures ∙ lowest_of (int_div_euclid (g.N.Numerator.value c.args.n) (g.N.Numerator.value c.args.d)) c.floor_by.result c.args.to
    c.requires.whole c.floor_by.ensures
