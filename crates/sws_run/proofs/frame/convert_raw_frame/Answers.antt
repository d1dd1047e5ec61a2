use Rattle.frame_slices.specs.declared.unfinished.Unfinished.TheVariants.{Short, Failed}
use Rattle.sws_run.specs.Frames.{size_by, target_held}
use Rattle.sws_run.proofs.Fronts.{off_by, raw_converts, raw_cut, raw_failed}
use Rattle.sws_run.proofs.frame.convert_raw_frame.Goals as goal

pub returns-in-Ok-clause-converted : goal.returns-in-Ok-clause-converted
returns-in-Ok-clause-converted g c =
    raw_converts c.args.converter.now c.args.plan.now.pair c.args.frame.whole (target_held c.in-Ok.converted) c.requires.plan
    c.requires.frame
    (g.In.Source.shown c.args.input.now) (g.In.Source.shown c.convert_next.new.input) c.requires.some c.in-Ok.ensures.converted

pub returns-in-Err-Short-clause-left : goal.returns-in-Err-Short-clause-left
returns-in-Err-Short-clause-left g c =
    let old = g.In.Source.shown c.args.input.now in
    let new = g.In.Source.shown c.convert_next.new.input in
    let n = c.in-Err-Short.field-0-0 in
    let off = rw c.in-Err-Short.field-0-is at c.in-Err-Short.ensures.left in
    raw_cut old new (size_by c.args.converter.now) n (off_by c.args.converter.now c.args.frame.whole old new (Short n) c.requires.frame off)

pub returns-in-Err-Failed-clause-left : goal.returns-in-Err-Failed-clause-left
returns-in-Err-Failed-clause-left g c =
    let old = g.In.Source.shown c.args.input.now in
    let new = g.In.Source.shown c.convert_next.new.input in
    let failed = c.in-Err-Failed.field-0-0 in
    let off = rw c.in-Err-Failed.field-0-is at c.in-Err-Failed.ensures.left in
    raw_failed old new (size_by c.args.converter.now) failed
    (off_by c.args.converter.now c.args.frame.whole old new (Failed failed) c.requires.frame off)
