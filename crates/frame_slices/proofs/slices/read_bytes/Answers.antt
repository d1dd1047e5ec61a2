use Rattle.std.proofs.Common.{◌≡◌, ◌++◌, [], true, false, length, sym, subst, rules, arith, ◌∙◌, ap, append-nil}
use Rattle.std.specs.Prelude.{sum}
use Rattle.pix_desc.specs.Frame.{plane_start}
use Rattle.pix_io.specs.Streams.{Takes}
use Rattle.pix_io.proofs.Calls.{HasCause-ok}
use Rattle.pix_io.specs.declared.transfer.Got.TheVariants.{Whole}
use Rattle.frame_slices.specs.FrameSlices.{planes_in, behind_in}
use Rattle.frame_slices.proofs.SlicePlanes.{length-planes_in, same_places, same_rows, all_have}
use Rattle.frame_slices.proofs.SliceFrame.{nothing_behind}
use Rattle.frame_slices.proofs.ReadsOn.{end_at, short_at, failed_at, both_read, end_in_front, short_in_front, failed_in_front}
use Rattle.frame_slices.proofs.ReadsOn.{whole_in_front}
use Rattle.frame_slices.proofs.Fronts.{no_palettes}
use Rattle.frame_slices.proofs.slices.read_bytes.Goals as goal

pub returns-in-Ok-End-clause-read : goal.returns-in-Ok-End-clause-read
returns-in-Ok-End-clause-read g c =
    let xs = c.read_planes.new.slices in
    end_in_front (g.In.Source.shown c.args.input.now) (g.In.Source.shown c.read_planes.new.input) (planes_in 4 xs) (behind_in xs)
    (rw c.in-Ok-End.field-0-is at c.in-Ok-End.ensures.read)

pub returns-in-Ok-Short-clause-read : goal.returns-in-Ok-Short-clause-read
returns-in-Ok-Short-clause-read g c =
    let xs = c.read_planes.new.slices in
    short_in_front (g.In.Source.shown c.args.input.now) (g.In.Source.shown c.read_planes.new.input) (planes_in 4 xs)
    (behind_in xs) c.in-Ok-Short.n (rw c.in-Ok-Short.field-0-is at c.in-Ok-Short.ensures.read)

pub returns-in-Err-clause-read : goal.returns-in-Err-clause-read
returns-in-Err-clause-read g c =
    let xs = c.read_planes.new.slices in
    failed_in_front (g.In.Source.shown c.args.input.now) (g.In.Source.shown c.read_planes.new.input) (planes_in 4 xs)
    (behind_in xs) c.in-Err.failed c.in-Err.ensures.read

pub returns-then-not-whole-clause-behind : goal.returns-then-not-whole-clause-behind
returns-then-not-whole-clause-behind g c =
    let whole = c.args.whole.now in
    let xs = c.read_planes.new.slices in
    let none : whole.source.palette ≡ false = search rules in
    no_palettes whole.source whole.target whole.width xs
    (same_places whole.source whole.target whole.width 0 xs c.args.slices.now c.read_planes.ensures.places c.requires.places) none

pub returns-then-not-whole-clause-read : goal.returns-then-not-whole-clause-read
returns-then-not-whole-clause-read g c =
    let whole = c.args.whole.now in
    let xs = c.read_planes.new.slices in
    let none : whole.source.palette ≡ false = search rules in
    whole_in_front (g.In.Source.shown c.args.input.now) (g.In.Source.shown c.read_planes.new.input) (planes_in 4 xs) (behind_in xs)
    (nothing_behind whole.source whole.target whole.width xs
    (same_places whole.source whole.target whole.width 0 xs c.args.slices.now c.read_planes.ensures.places c.requires.places) none)
    (rw c.in-Ok-Whole.field-0-is at c.in-Ok-Whole.ensures.read)

pub read_palette-requires-clause-have : goal.read_palette-requires-clause-have
read_palette-requires-clause-have g c =
    let whole = c.args.whole.now in
    let xs = c.read_planes.new.slices in
    let has : whole.source.palette ≡ true = search rules in
    let places = same_places whole.source whole.target whole.width 0 xs c.args.slices.now c.read_planes.ensures.places c.requires.places in
    all_have whole.source whole.target whole.width xs places has

pub returns-in-Ok-Whole-read_palette-clause-read : goal.returns-in-Ok-Whole-read_palette-clause-read
returns-in-Ok-Whole-read_palette-clause-read g c =
    let xs = c.read_palette.new.slices in
    let before = rw c.in-Ok-Whole.field-0-is at c.in-Ok-Whole.ensures.read in
    let quiet = HasCause-ok (g.In.Source.shown c.args.input.now) (g.In.Source.shown c.read_planes.new.input) Whole before.cause in
    let taken = subst (Takes (g.In.Source.shown c.args.input.now) (g.In.Source.shown c.read_planes.new.input))
    (sym c.read_palette.ensures.planes) before.taken in
    both_read _ _ _ (planes_in 4 xs) (behind_in xs) taken quiet
    (rw c.in-Ok-Whole-read_palette.field-0-is at c.in-Ok-Whole-read_palette.ensures.read)

pub returns-in-Ok-End-read_palette-clause-read : goal.returns-in-Ok-End-read_palette-clause-read
returns-in-Ok-End-read_palette-clause-read g c =
    let whole = c.args.whole.now in
    let old = c.args.slices.now in
    let xs = c.read_palette.new.slices in
    let before = rw c.in-Ok-Whole.field-0-is at c.in-Ok-Whole.ensures.read in
    let quiet = HasCause-ok (g.In.Source.shown c.args.input.now) (g.In.Source.shown c.read_planes.new.input) Whole before.cause in
    let taken = subst (Takes (g.In.Source.shown c.args.input.now) (g.In.Source.shown c.read_planes.new.input))
    (sym c.read_palette.ensures.planes) before.taken in
    let all = ap (λ l. planes_in 4 xs ++ l) (sym (append-nil (behind_in xs))) in
    let places = c.read_palette.ensures.places ∙ c.read_planes.ensures.places in
    let size : c.plane_at-filled.result ≡ length (planes_in 4 xs) =
    c.plane_at-filled.ensures.value
    ∙ ap (λ n. plane_start whole.source whole.width n 4) (sym (ap sum (same_rows xs old places) ∙ c.requires.covers))
    ∙ sym (length-planes_in whole.source whole.target whole.width 4 xs (omega arith)
    (same_places whole.source whole.target whole.width 0 xs old places c.requires.places)) in
    end_at _ _ _ (planes_in 4 xs) (behind_in xs) [] (planes_in 4 xs ++ behind_in xs) c.plane_at-filled.result c.ended.result all size
    c.ended.ensures.value taken quiet
    (rw c.in-Ok-End-read_palette.field-0-is at c.in-Ok-End-read_palette.ensures.read)

pub returns-in-Ok-Short-read_palette-clause-read : goal.returns-in-Ok-Short-read_palette-clause-read
returns-in-Ok-Short-read_palette-clause-read g c =
    let whole = c.args.whole.now in
    let old = c.args.slices.now in
    let xs = c.read_palette.new.slices in
    let before = rw c.in-Ok-Whole.field-0-is at c.in-Ok-Whole.ensures.read in
    let quiet = HasCause-ok (g.In.Source.shown c.args.input.now) (g.In.Source.shown c.read_planes.new.input) Whole before.cause in
    let taken = subst (Takes (g.In.Source.shown c.args.input.now) (g.In.Source.shown c.read_planes.new.input))
    (sym c.read_palette.ensures.planes) before.taken in
    let all = ap (λ l. planes_in 4 xs ++ l) (sym (append-nil (behind_in xs))) in
    let places = c.read_palette.ensures.places ∙ c.read_planes.ensures.places in
    let size : c.plane_at-filled.result ≡ length (planes_in 4 xs) =
    c.plane_at-filled.ensures.value
    ∙ ap (λ n. plane_start whole.source whole.width n 4) (sym (ap sum (same_rows xs old places) ∙ c.requires.covers))
    ∙ sym (length-planes_in whole.source whole.target whole.width 4 xs (omega arith)
    (same_places whole.source whole.target whole.width 0 xs old places c.requires.places)) in
    short_at _ _ _ (planes_in 4 xs) (behind_in xs) [] (planes_in 4 xs
    ++ behind_in xs) c.plane_at-filled.result c.in-Ok-Short-read_palette.n all size taken quiet
    (rw c.in-Ok-Short-read_palette.field-0-is at c.in-Ok-Short-read_palette.ensures.read)

pub returns-in-Err-read_palette-clause-read : goal.returns-in-Err-read_palette-clause-read
returns-in-Err-read_palette-clause-read g c =
    let xs = c.read_palette.new.slices in
    let before = rw c.in-Ok-Whole.field-0-is at c.in-Ok-Whole.ensures.read in
    let quiet = HasCause-ok (g.In.Source.shown c.args.input.now) (g.In.Source.shown c.read_planes.new.input) Whole before.cause in
    let taken = subst (Takes (g.In.Source.shown c.args.input.now) (g.In.Source.shown c.read_planes.new.input))
    (sym c.read_palette.ensures.planes) before.taken in
    let all = ap (λ l. planes_in 4 xs ++ l) (sym (append-nil (behind_in xs))) in
    failed_at _ _ _ (planes_in 4 xs) (behind_in xs) [] (planes_in 4 xs ++ behind_in xs) c.in-Err-read_palette.failed all taken quiet
    c.in-Err-read_palette.ensures.read
