use Rattle.std.proofs.Common.{◌≡◌, ◌∙◌, OnOk, OnErr, map, sym, subst, ap, rules}
use Rattle.pix_io.specs.Streams.{Writes, WritesPart}
use Rattle.frame_slices.specs.FrameSlices.{place_of, rows_of, places_from, target_planes_in}
use Rattle.frame_slices.proofs.SliceFrame.{target_planes_are}
use Rattle.frame_slices.proofs.sliced_frame.SlicedFrame.write.Goals as goal

pub returns-clause-written : goal.returns-clause-written
returns-clause-written g c =
    let self = c.args.self.now in
    let same : c.deref.result.now ≡ self.slices.items = search rules in
    let places : map place_of self.slices.items
    ≡ places_from self.whole.source self.whole.target self.whole.width 0 (map rows_of self.slices.items) = self.places in
    subst (λ bytes. OnOk c.write_planes.result
    (Writes (g.Out.Sink.shown c.args.output.now) (g.Out.Sink.shown c.write_planes.new.output) bytes))
    (ap (target_planes_in 4) same ∙ sym (target_planes_are self.whole self.slices.items places self.plain)) c.write_planes.ensures.written

pub returns-clause-part_written : goal.returns-clause-part_written
returns-clause-part_written g c =
    let self = c.args.self.now in
    let same : c.deref.result.now ≡ self.slices.items = search rules in
    let places : map place_of self.slices.items
    ≡ places_from self.whole.source self.whole.target self.whole.width 0 (map rows_of self.slices.items) = self.places in
    subst (λ bytes. OnErr c.write_planes.result
    (WritesPart (g.Out.Sink.shown c.args.output.now) (g.Out.Sink.shown c.write_planes.new.output) bytes))
    (ap (target_planes_in 4) same ∙ sym (target_planes_are self.whole self.slices.items places self.plain))
    c.write_planes.ensures.part_written
