use Rattle.std.proofs.Common.{◌≡◌}
use Rattle.std.specs.Prelude.{ℕ, ◌+◌, ◌*◌}
use Rattle.op_list.specs.Values.{fraction_in}
use Rattle.op_range.specs.Width.{term_size, size_over}
use Rattle.op_range.specs.Capped.{capped}
use Rattle.op_range.proofs.Capping.{four_known, plus_known}
use Rattle.op_range.proofs.width.row_size.Goals as goal

pub returns : goal.returns
returns c =
    let term = λ (j : ℕ). term_size c.args.e c.args.row.now c.args.width.now j in
    let terms : c.sum_of_four.result ≡ capped (term 0 + term 1 + term 2 + term 3) =
    four_known c.sum_of_four.result c.term_sizes-terms.result term c.sum_of_four.ensures c.term_sizes-terms.ensures in
    plus_known c.capped_sum.result c.sum_of_four.result c.constant_size-constant.result (term 0 + term 1 + term 2 + term 3)
    (size_over c.args.e (fraction_in c.args.row.now 4) * c.args.width.now.denominator) c.capped_sum.ensures terms
    c.constant_size-constant.ensures
