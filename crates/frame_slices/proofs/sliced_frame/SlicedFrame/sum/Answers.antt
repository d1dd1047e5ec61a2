use Rattle.std.proofs.Common.{◌≡◌, ◌∙◌, map, sym, ap, rules}
use Rattle.std.specs.Prelude.{sum}
use Rattle.frame_slices.specs.FrameSlices.{place_of, rows_of, places_from, target_planes_in}
use Rattle.frame_slices.proofs.SliceFrame.{target_planes_are}
use Rattle.frame_slices.proofs.sliced_frame.SlicedFrame.sum.Goals as goal

pub returns : goal.returns
returns c =
    let self = c.args.self.now in
    let same : c.deref.result.now ≡ self.slices.items = search rules in
    let places : map place_of self.slices.items
    ≡ places_from self.whole.source self.whole.target self.whole.width 0 (map rows_of self.slices.items) = self.places in
    c.sum_planes.ensures ∙ ap (λ l. sum (target_planes_in 4 l)) same
    ∙ ap sum (sym (target_planes_are self.whole self.slices.items places self.plain))
