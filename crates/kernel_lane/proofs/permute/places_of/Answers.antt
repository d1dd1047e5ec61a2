use Rattle.std.proofs.Common.{rules, ◌≡◌, ◌+◌, ◌*◌, ◌∙◌, below_more, slice_index}
use Rattle.kernel_lane.proofs.Pixels.{pixel_before}
use Rattle.kernel_lane.proofs.permute.places_of.Goals as goal

pub loop-i-preserved : goal.loop-i-preserved
loop-i-preserved g c = record {
  set = λ i e within few.
      below_more (λ n. slice_index c.place_pixel.new.places (n * g.row.C + e) ≡ n * g.row.C + slice_index c.args.order.now e) c.loop-i.i
      (λ n earlier. c.place_pixel.ensures.before (n * g.row.C + e) (pixel_before n c.loop-i.i g.row.C e earlier few)
      ∙ c.loop-i.invariant.set n e earlier few)
      (c.place_pixel.ensures.set e few)
      i within;
  size = search rules;
  small = c.place_pixel.ensures.small;
}
