use Rattle.std.proofs.Common.{◌≡◌, ◌∙◌, ◌<◌, ◌≤◌, map, sym, subst, ap}
use Rattle.std.specs.Prelude.{sum}
use Rattle.frame_slices.specs.FrameSlices.{place_of, rows_of, places_from}
use Rattle.frame_slices.proofs.SlicePlanes.{same_places, same_rows, same_length}
use Rattle.frame_slices.proofs.sliced_frame.SlicedFrame.convert_next.Goals as goal

pub invariant_of-result : goal.invariant_of-result
invariant_of-result g c =
    let self = c.args.self in
    let v = self.slices in
    let whole = self.whole in
    let w = c.in-Ok.slices in
    let at = c.in-Ok.ensures.places in
    let size : v.len ≡ w.len = v.ok.0 ∙ sym (same_length w.items v.items at) ∙ sym w.ok.0 in
    let some : 0 < v.len = self.some in
    let few : v.len ≤ 16384 = self.few in
    let places : map place_of v.items ≡ places_from whole.source whole.target whole.width 0 (map rows_of v.items) = self.places in
    let covers : sum (map rows_of v.items) ≡ whole.rows = self.covers in
    record {
      source = self.source;
      target = self.target;
      plain = self.plain;
      width = self.width;
      height = self.height;
      tall = self.tall;
      some = subst (λ n. 0 < n) size some;
      few = subst (λ n. n ≤ 16384) size few;
      places = same_places whole.source whole.target whole.width 0 w.items v.items at places;
      covers = ap sum (same_rows w.items v.items at) ∙ covers;
    }
