use Rattle.std.proofs.Common.{◌≡◌, ◌-◌, ◌<◌, suc, length, sym, subst, rules, arith, ◌∙◌, ap, add-one}
use Rattle.std.specs.Prelude.{sum}
use Rattle.pix_desc.specs.Frame.{plane_start}
use Rattle.pix_io.specs.Streams.{Takes}
use Rattle.frame_slices.specs.FrameSlices.{plane_in, planes_in}
use Rattle.frame_slices.proofs.SlicePlanes.{planes_from, planes_until, planes_kept, length-planes_in, same_places, same_rows}
use Rattle.frame_slices.proofs.ReadsOn.{end_at, short_at, failed_at, whole_on}
use Rattle.frame_slices.proofs.slices.read_planes.Goals as goal

pub returns-in-Ok-End-clause-read : goal.returns-in-Ok-End-clause-read
returns-in-Ok-End-clause-read g c =
    let whole = c.args.whole.now in
    let n = c.args.count in
    let p = c.loop-plane.plane in
    let xs = c.read_plane.new.slices in
    let before : p < n = search rules in
    let used : p < 4 = omega (arith, c.requires.count) in
    let places = c.read_plane.ensures.places ∙ c.loop-plane.invariant.places in
    let kept = planes_kept p p xs c.loop-plane.slices c.read_plane.ensures.others used (omega arith) in
    let size : c.plane_at-filled.result ≡ length (planes_in p xs) =
    c.plane_at-filled.ensures.value
    ∙ ap (λ n. plane_start whole.source whole.width n p) (sym (ap sum (same_rows xs c.args.slices.now places) ∙ c.requires.covers))
    ∙ sym (length-planes_in whole.source whole.target whole.width p xs (omega arith)
    (same_places whole.source whole.target whole.width 0 xs c.args.slices.now places c.requires.places)) in
    end_at _ _ _ (planes_in p xs) (plane_in p xs) (planes_from (suc p) (n - suc p) xs) (planes_in n xs) c.plane_at-filled.result c.ended.result
    (planes_until n p xs before) size c.ended.ensures.value
    (subst (Takes (g.In.Source.shown c.args.input.now) (g.In.Source.shown c.loop-plane.input))
    (sym kept) c.loop-plane.invariant.taken) c.loop-plane.invariant.quiet
    (rw c.in-Ok-End.field-0-is at c.in-Ok-End.ensures.read)

pub returns-in-Ok-Short-clause-read : goal.returns-in-Ok-Short-clause-read
returns-in-Ok-Short-clause-read g c =
    let whole = c.args.whole.now in
    let n = c.args.count in
    let p = c.loop-plane.plane in
    let xs = c.read_plane.new.slices in
    let before : p < n = search rules in
    let used : p < 4 = omega (arith, c.requires.count) in
    let places = c.read_plane.ensures.places ∙ c.loop-plane.invariant.places in
    let kept = planes_kept p p xs c.loop-plane.slices c.read_plane.ensures.others used (omega arith) in
    let size : c.plane_at-filled.result ≡ length (planes_in p xs) =
    c.plane_at-filled.ensures.value
    ∙ ap (λ n. plane_start whole.source whole.width n p) (sym (ap sum (same_rows xs c.args.slices.now places) ∙ c.requires.covers))
    ∙ sym (length-planes_in whole.source whole.target whole.width p xs (omega arith)
    (same_places whole.source whole.target whole.width 0 xs c.args.slices.now places c.requires.places)) in
    short_at _ _ _ (planes_in p xs) (plane_in p xs) (planes_from (suc p) (n - suc p) xs)
    (planes_in n xs) c.plane_at-filled.result c.in-Ok-Short.n
    (planes_until n p xs before) size
    (subst (Takes (g.In.Source.shown c.args.input.now) (g.In.Source.shown c.loop-plane.input))
    (sym kept) c.loop-plane.invariant.taken) c.loop-plane.invariant.quiet
    (rw c.in-Ok-Short.field-0-is at c.in-Ok-Short.ensures.read)

pub returns-in-Err-clause-read : goal.returns-in-Err-clause-read
returns-in-Err-clause-read g c =
    let n = c.args.count in
    let p = c.loop-plane.plane in
    let xs = c.read_plane.new.slices in
    let before : p < n = search rules in
    let used : p < 4 = omega (arith, c.requires.count) in
    let kept = planes_kept p p xs c.loop-plane.slices c.read_plane.ensures.others used (omega arith) in
    failed_at _ _ _ (planes_in p xs) (plane_in p xs) (planes_from (suc p) (n - suc p) xs) (planes_in n xs) c.in-Err.failed
    (planes_until n p xs before)
    (subst (Takes (g.In.Source.shown c.args.input.now) (g.In.Source.shown c.loop-plane.input))
    (sym kept) c.loop-plane.invariant.taken) c.loop-plane.invariant.quiet c.in-Err.ensures.read

pub loop-plane-preserved : goal.loop-plane-preserved
loop-plane-preserved g c =
    let n = c.args.count in
    let p = c.loop-plane.plane in
    let xs = c.read_plane.new.slices in
    let before : p < n = search rules in
    let used : p < 4 = omega (arith, c.requires.count) in
    let kept = planes_kept p p xs c.loop-plane.slices c.read_plane.ensures.others used (omega arith) in
    let read = whole_on _ _ _ (planes_in p xs) (plane_in p xs)
    (subst (Takes (g.In.Source.shown c.args.input.now) (g.In.Source.shown c.loop-plane.input))
    (sym kept) c.loop-plane.invariant.taken) c.loop-plane.invariant.quiet (rw c.in-Ok-Whole.field-0-is at c.in-Ok-Whole.ensures.read) in
    record {
      taken = rw add-one read.0;
      quiet = read.1;
      behind = c.read_plane.ensures.behind ∙ c.loop-plane.invariant.behind;
      places = c.read_plane.ensures.places ∙ c.loop-plane.invariant.places;
    }
