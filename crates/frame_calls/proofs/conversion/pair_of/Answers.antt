use Rattle.std.proofs.Common.{◌∙◌, sym}
use Rattle.frame_calls.proofs.Plannable.{has_plan}
use Rattle.frame_calls.proofs.conversion.pair_of.Goals as goal

pub returns-clause-plannable : goal.returns-clause-plannable
returns-clause-plannable c =
    rw (c.side_of.ensures, c.side_of-to.ensures)
    (has_plan c.args.conversion.now (sym c.has_formats.ensures ∙ c.if-not-has_formats.false)
    (sym c.has_matrices.ensures ∙ c.if-not-has_matrices.false) c.if-conversion-gt4.false)
