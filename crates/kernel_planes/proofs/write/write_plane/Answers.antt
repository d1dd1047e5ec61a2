use Rattle.std.proofs.Common.{◌≡◌, ◌+◌, ◌*◌, ◌<◌, ap, sym, ◌∙◌, arith, below_more, slice_index_or}
use Rattle.op_list.specs.Types.{bytes}
use Rattle.op_list.specs.Pixel.{element}
use Rattle.kernel_planes.proofs.PlaneRows.{lane_end, lane_place, lane_apart, pixel_apart}
use Rattle.kernel_planes.proofs.write.write_plane.Goals as goal

pub write_value-requires-clause-room : goal.write_value-requires-clause-room
write_value-requires-clause-room g c =
    λ i below. lane_end c.args.x i c.args.n c.args.count c.loop-e.e (bytes c.args.elem) _ (omega arith) below
    (omega (arith, c.requires.room))

pub loop-e-preserved : goal.loop-e-preserved
loop-e-preserved g c =
    let e = c.loop-e.e in
    let x = c.args.x in
    let count = c.args.count in
    let before = c.args.before in
    let elem = c.args.elem in
    let number = g.W.WholeNumber.number in
    let inside : e < count = omega arith in
    record {
      set = λ t i d below within.
          below_more (λ t. element elem c.write_value.new.to ((x + i) * count + t)
          ≡ number (slice_index_or c.args.values.now (64 * (before + t) + i) d)) e
          (λ t less. c.write_value.ensures.kept ((x + i) * count + t)
          (λ k near. lane_apart x i k count e t inside (omega (arith, less, inside)) (λ same. omega (arith, less, same)))
          ∙ c.loop-e.invariant.set t i d less within)
          (ap (element elem c.write_value.new.to) (sym (lane_place x i count e)) ∙ c.write_value.ensures.set i d within)
          t below;
      kept = λ k outside.
          c.write_value.ensures.kept k (λ i near. pixel_apart x c.args.n k count e i inside near outside)
          ∙ c.loop-e.invariant.kept k outside;
    }
