use Rattle.std.proofs.Common.{◌≡◌, ◌<◌, ◌≤◌, ◌+◌, ◌-◌, ◌*◌, inl, inr, ⊎_elim, slice_index, sym, ap, ◌∙◌, subst, arith}
use Rattle.std.proofs.lemmas.Bool.{cases_lt}
use Rattle.kernel_lane.proofs.Pixels.{pixel_before, pixel_behind}
use Rattle.kernel_lane.proofs.permute.permute_sixteens.Goals as goal

pub loop-block-preserved : goal.loop-block-preserved
loop-block-preserved g c =
    let count = g.row.C in
    let first = c.loop-block.block * g.row.P in
    let from = c.args.from.now in
    let to = c.permute_sixteen.new.to in
    record {
      set = λ i e within few.
          let order = slice_index c.args.order.now e in
          ⊎_elim
          (λ (old : i < first).
          c.permute_sixteen.ensures.kept (i * count + e) (inl (pixel_before i first count e old few)) ∙ c.loop-block.invariant.set i e old few)
          (λ (new : first ≤ i).
          let pixel : i - first < g.row.P = omega (arith, within, new) in
          let there : first + (i - first) ≡ i = omega (arith, new) in
          let inside : (i - first) * count + e < g.row.P * count = pixel_before (i - first) g.row.P count e pixel few in
          subst (λ t. slice_index to (t * count + e) ≡ slice_index from (t * count + order)) there
          (ap (slice_index to) (pixel_behind first (i - first) count e)
          ∙ c.permute_sixteen.ensures.set ((i - first) * count + e) (omega (arith, inside, c.requires.whole))
          ∙ ap (λ t. slice_index from (first * count + t)) (c.places_of-places.ensures.set (i - first) e pixel few)
          ∙ ap (slice_index from) (sym (pixel_behind first (i - first) count order))))
          (cases_lt i first);
      kept = λ k past.
          let room : first * count + 16 ≤ c.args.n * count = c.requires.inside c.loop-block.block (omega arith) in
          c.permute_sixteen.ensures.kept k (inr (omega (arith, room, past))) ∙ c.loop-block.invariant.kept k past;
    }
