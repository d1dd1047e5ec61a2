use Rattle.std.proofs.Common.{◌<◌, ◌+◌, ap, arith, length-set}
use Rattle.kernel_step.specs.Forms.{extent_at, factor, width_of}
use Rattle.kernel_step.specs.ValueSteps.{IsMade}
use Rattle.kernel_step.proofs.Extents.{rows_more}
use Rattle.kernel_step.proofs.value_form.value_form.Goals as goal

pub loop-v-preserved : goal.loop-v-preserved
loop-v-preserved c =
    let made = c.in_ok-made.made in
    record {
      count = ap (λ n. n + 1) c.loop-v.invariant.count;
      extents = rw length-set c.loop-v.invariant.extents;
      factors = rw length-set c.loop-v.invariant.factors;
      made = rows_more (λ v factors extent. (v < c.args.before.now.count) × IsMade (width_of c.args.number_width) c.args.op.now v
          (extent_at c.args.before.now v) (factor factors 0) (factor factors 1) extent)
          c.loop-v.after.factors c.loop-v.after.extents c.loop-v.v made.factors made.extent (omega arith) (omega arith)
          c.loop-v.invariant.made (omega arith, c.in_ok-made.ensures);
    }
