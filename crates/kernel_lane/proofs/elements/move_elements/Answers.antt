use Rattle.std.proofs.Common.{◌+◌, ◌*◌, ◌∙◌}
use Rattle.kernel_lane.proofs.Distances.{place_more, kept_more}
use Rattle.kernel_lane.proofs.elements.move_elements.Goals as goal

pub loop-i-preserved : goal.loop-i-preserved
loop-i-preserved g c = record {
  set = place_more g.R.Element.element (λ n. g.R.Element.element c.args.from.now (c.args.start + n * g.row.C)) c.loop-i.to c.put.new.to
      c.args.at g.row.D c.loop-i.i c.requires.step (c.put.ensures.set ∙ c.taken.ensures) c.put.ensures.kept c.loop-i.invariant.set;
  kept = kept_more g.R.Element.element c.args.to.now c.loop-i.to c.put.new.to c.args.at g.row.D c.loop-i.i
      c.put.ensures.kept c.loop-i.invariant.kept;
}
