use Rattle.std.proofs.Common.{arith}
use Rattle.kernel_lane.proofs.Distances.{set_more, kept_more}
use Rattle.kernel_lane.proofs.elements.put_elements.Goals as goal

pub loop-i-preserved : goal.loop-i-preserved
loop-i-preserved g c = record {
  set = set_more g.R.Element.element g.R.Element.number c.args.values.now c.loop-i.to c.put.new.to
      c.args.at c.args.start g.row.C c.loop-i.i c.index-values-at.result
      c.requires.step (omega arith) c.index-values-at.is
      c.put.ensures.set c.put.ensures.kept c.loop-i.invariant.set;
  kept = kept_more g.R.Element.element c.args.to.now c.loop-i.to c.put.new.to c.args.start g.row.C c.loop-i.i
      c.put.ensures.kept c.loop-i.invariant.kept;
}
