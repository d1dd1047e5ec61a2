use Rattle.std.proofs.Common.{◌≡◌, ◌<◌, suc, length, take, drop, get_or, sym, subst, rules}
use Rattle.pix_io.specs.Streams.{Writes, WritesPart}
use Rattle.pix_io.proofs.Calls.{Writes-trans}
use Rattle.frame_slices.specs.FrameSlices.{target_plane_of, target_plane_in}
use Rattle.frame_slices.proofs.Chained.{chain_whole, chain_more}
use Rattle.frame_slices.proofs.ReadsOn.{write_failed_at}
use Rattle.frame_slices.proofs.slices.write_plane.Goals as goal

pub returns-in-Err-clause-part_written : goal.returns-in-Err-clause-part_written
returns-in-Err-clause-part_written g c =
    let p = c.args.plane in
    let xs = c.args.slices.now in
    let k = c.loop-k.k in
    let d = c.index-slices-k.result in
    let within : k < length xs = search rules in
    let here : get_or xs k d ≡ d = search rules in
    write_failed_at (g.Out.Sink.shown c.args.output.now) (g.Out.Sink.shown c.loop-k.output) (g.Out.Sink.shown c.write_plane.new.output)
    (target_plane_in p (take k xs)) (target_plane_of p (get_or xs k d)) (target_plane_in p (drop (suc k) xs)) (target_plane_in p xs)
    (chain_whole (target_plane_of p) xs k d within) c.loop-k.invariant.written
    (subst (λ slice. WritesPart (g.Out.Sink.shown c.loop-k.output) (g.Out.Sink.shown c.write_plane.new.output) (target_plane_of p slice))
    (sym here) c.in-Err.ensures.part_written)

pub loop-k-preserved : goal.loop-k-preserved
loop-k-preserved g c =
    let p = c.args.plane in
    let xs = c.args.slices.now in
    let k = c.loop-k.k in
    let d = c.index-slices-k.result in
    let within : k < length xs = search rules in
    let here : get_or xs k d ≡ d = search rules in
    record {
      written = subst (Writes (g.Out.Sink.shown c.args.output.now) (g.Out.Sink.shown c.write_plane.new.output))
          (sym (chain_more (target_plane_of p) xs k d within))
          (Writes-trans (g.Out.Sink.shown c.args.output.now) (g.Out.Sink.shown c.loop-k.output)
          (g.Out.Sink.shown c.write_plane.new.output) (target_plane_in p (take k xs))
          (target_plane_of p (get_or xs k d)) c.loop-k.invariant.written
          (subst (λ slice. Writes (g.Out.Sink.shown c.loop-k.output) (g.Out.Sink.shown c.write_plane.new.output)
          (target_plane_of p slice)) (sym here) c.in-Ok.ensures.written));
      quiet = search rules;
    }
