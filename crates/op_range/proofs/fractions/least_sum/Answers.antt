use Rattle.std.proofs.Common.{◌∙◌, ap}
use Rattle.std.specs.Prelude.{None, slice_index_or}
use Rattle.op_range.specs.Ranges.{row_sum}
use Rattle.op_range.proofs.fractions.least_sum.Goals as goal

pub returns : goal.returns
returns c = c.row_sum.ensures ∙ ap (λ terms. row_sum c.args.row.now (λ j. slice_index_or terms j None)) c.least_terms-terms.ensures
