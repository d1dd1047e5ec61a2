use Rattle.std.proofs.Common.{◌≡◌, ◌<◌, ◌+◌, ◌*◌, inl, inr, slice_index, ◌∙◌, below_more, arith}
use Rattle.kernel_lane.proofs.Pixels.{pixel_before, pixel_end}
use Rattle.kernel_lane.proofs.permute.permute_blocks.Goals as goal

pub loop-i-preserved : goal.loop-i-preserved
loop-i-preserved g c =
    let count = g.row.C in
    let inside : c.loop-i.i < c.args.n = omega arith in
    record {
      set = λ i e within few.
          below_more (λ n. slice_index c.permute_pixel.new.to (n * count + e)
          ≡ slice_index c.args.from.now (n * count + slice_index c.args.order.now e)) c.loop-i.i
          (λ n earlier. c.permute_pixel.ensures.kept (n * count + e) (inl (pixel_before n c.loop-i.i count e earlier few))
          ∙ c.loop-i.invariant.set n e earlier few)
          (c.permute_pixel.ensures.set e few)
          i within;
      kept = λ k past.
          c.permute_pixel.ensures.kept k (inr (pixel_end c.loop-i.i c.args.n count k inside past)) ∙ c.loop-i.invariant.kept k past;
    }
