use Rattle.std.proofs.Common.{◌+◌, ap, arith, length-set}
use Rattle.op_list.specs.Apply.{row_of}
use Rattle.kernel_step.specs.Forms.{IsRow, width_of}
use Rattle.kernel_step.proofs.Extents.{rows_more}
use Rattle.kernel_step.proofs.linear.linear_form.Goals as goal

pub loop-v-preserved : goal.loop-v-preserved
loop-v-preserved c = record {
  count = ap (λ n. n + 1) c.loop-v.invariant.count;
  extents = rw length-set c.loop-v.invariant.extents;
  factors = rw length-set c.loop-v.invariant.factors;
  rows = rows_more (λ v factors extent. IsRow (width_of c.args.number_width) c.args.before.now (row_of c.args.rows.now v) factors extent)
      c.loop-v.after.factors c.loop-v.after.extents c.loop-v.v
      c.in_ok-row.row.factors c.in_ok-row.row.extent (omega arith) (omega arith) c.loop-v.invariant.rows c.in_ok-row.ensures;
}
