use Rattle.std.proofs.Common.{◌∙◌, sym}
use Rattle.row_plan.proofs.ConvertedRows.{are_bytes, normal_reads, written_length, row_converted}
use Rattle.row_plan.proofs.plans.Plan.convert_row.Goals as goal

pub run_row-requires-clause-input : goal.run_row-requires-clause-input
run_row-requires-clause-input c =
    let plan = c.args.self.now in
    let slice = c.args.slice.now in
    c.requires.input ∙ sym (normal_reads plan.pair plan.kernel slice.width slice.rows plan.valid plan.runs)

pub run_row-requires-clause-output : goal.run_row-requires-clause-output
run_row-requires-clause-output c =
    let plan = c.args.self.now in
    let slice = c.args.slice.now in
    c.requires.output ∙ sym (written_length plan.pair plan.kernel slice.width slice.rows plan.valid plan.plain plan.runs)

pub returns-clause-after : goal.returns-clause-after
returns-clause-after c =
    let plan = c.args.self.now in
    let slice = c.args.slice.now in
    row_converted plan.pair plan.kernel c.args.input.now c.args.output.now c.run_row.new.output slice.width slice.rows slice.first
    c.args.row plan.valid plan.plain plan.runs (are_bytes c.args.input.now (λ k. (c.type_inv.input k).fits)) c.requires.input
    c.requires.row c.run_row.ensures.row c.run_row.ensures.others c.requires.before
