use Rattle.std.proofs.Common.{rules, ◌≡◌, ◌≤◌, true, length, sym, ◌∙◌, arith}
use Rattle.op_list.specs.declared.types.Stage.TheVariants.{Start}
use Rattle.op_list.specs.Typing.{are_typed, ends_with_write}
use Rattle.kernel_step.specs.Forms.{last_op, op_at}
use Rattle.kernel_planes.specs.Planes.{row_frame, rows_of}
use Rattle.kernel_int.proofs.CutRows.{cut_total, write_has_planes, write_palette}
use Rattle.kernel_step.proofs.Kernels.{at_least_two, last_counts, last_good, last_writes, read_length_first}
use Rattle.kernel_int.proofs.RunRows.{run_same}
use Rattle.kernel_int.proofs.kernel.RowKernel.run_row.Goals as goal

pub cut-input-requires-clause-frame : goal.cut-input-requires-clause-frame
cut-input-requires-clause-frame c =
    let ops = c.args.self.now in
    let typed : are_typed Start ops ≡ true = search rules in
    let whole : ends_with_write ops ≡ true = search rules in
    let two : 2 ≤ length ops = at_least_two ops whole typed in
    let same : c.read_op.result.now ≡ op_at ops 0 = search rules in
    rw same (c.requires.input ∙ read_length_first ops c.args.width c.args.rows (omega (arith, two)))

pub run_into-requires-clause-counts : goal.run_into-requires-clause-counts
run_into-requires-clause-counts c =
    let ops = c.args.self.now in
    let typed : are_typed Start ops ≡ true = search rules in
    let whole : ends_with_write ops ≡ true = search rules in
    last_counts ops typed whole

pub run_into-requires-clause-output : goal.run_into-requires-clause-output
run_into-requires-clause-output c =
    let ops = c.args.self.now in
    let typed : are_typed Start ops ≡ true = search rules in
    let whole : ends_with_write ops ≡ true = search rules in
    let two : 2 ≤ length ops = at_least_two ops whole typed in
    let same : c.write_op.result.now ≡ last_op ops = search rules in
    let writes = last_writes ops whole in
    let total = cut_total (last_op ops) c.args.width c.args.rows c.row_lengths-sizes.result c.args.output.now
    (write_has_planes (last_op ops) writes) (last_good ops typed whole (omega (arith, two))) (rw same at c.row_lengths-sizes.ensures)
    c.requires.output in
    omega (arith, total, write_palette (last_op ops) writes)

pub returns-clause-row : goal.returns-clause-row
returns-clause-row c =
    λ x v column within.
    let ops = c.args.self.now in
    let typed : are_typed Start ops ≡ true = search rules in
    let whole : ends_with_write ops ≡ true = search rules in
    let two : 2 ≤ length ops = at_least_two ops whole typed in
    let same : c.read_op.result.now ≡ op_at ops 0 = search rules in
    let input = c.cut-input.result in
    let taken = rw same at c.cut-input.ensures.same in
    c.run_into.ensures.row x v column within
    ∙ sym (run_same c.args.input.now (row_frame (rows_of input) input.palette.now) c.args.width c.args.rows c.args.row c.args.width 1 0 x
    c.args.y v ops typed (omega (arith, two)) (taken x c.args.y column))

pub returns-clause-others : goal.returns-clause-others
returns-clause-others c = c.run_into.ensures.others
