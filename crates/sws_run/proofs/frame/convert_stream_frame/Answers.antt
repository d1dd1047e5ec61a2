use Rattle.std.proofs.Common.{refl, subst, sym}
use Rattle.frame_slices.specs.declared.unfinished.Unfinished.TheVariants.{End, Short, Failed}
use Rattle.sws_words.specs.declared.task.Form.TheVariants.{Y4m}
use Rattle.sws_run.specs.declared.frame.FrameEnd.TheVariants.{Stream}
use Rattle.sws_run.specs.Frames.{LeavesFrame, size_by, target_held}
use Rattle.sws_run.proofs.Fronts.{line_converts, line_cut, line_failed, line_faulty, line_nothing, line_told, off_by, open_told}
use Rattle.sws_run.proofs.frame.convert_stream_frame.Goals as goal

pub returns-in-Err-Stream-clause-left : goal.returns-in-Err-Stream-clause-left
returns-in-Err-Stream-clause-left g c =
    let old = g.In.Source.shown c.args.input.now in
    let new = g.In.Source.shown c.read_frame_line.new.input in
    let size = size_by c.args.converter.now in
    let known = rw c.in-Err-Stream.field-0-is at c.in-Err-Stream.ensures.known in
    let found = rw c.in-Err-Stream.field-0-is at c.in-Err-Stream.ensures.fault in
    subst (λ fault. LeavesFrame Y4m size old new (Stream fault)) (sym c.in-Err-Stream.fault-is)
    (line_faulty old new size c.in-Err-Stream.fault known found)

pub returns-in-Err-ReadFault-clause-left : goal.returns-in-Err-ReadFault-clause-left
returns-in-Err-ReadFault-clause-left g c =
    let taken = rw c.in-Err-ReadFault.field-0-is at c.in-Err-ReadFault.ensures.read_fault in
    open_told (g.In.Source.shown c.args.input.now) (g.In.Source.shown c.read_frame_line.new.input) (size_by c.args.converter.now) taken

pub returns-in-Ok-clause-converted : goal.returns-in-Ok-clause-converted
returns-in-Ok-clause-converted g c =
    let old = g.In.Source.shown c.args.input.now in
    let mid = g.In.Source.shown c.read_frame_line.new.input in
    let line = rw c.in-Ok-Frame.field-0-is at c.in-Ok-Frame.ensures.line in
    line_converts c.args.converter.now c.args.plan.now.pair c.args.frame.whole (target_held c.in-Ok.converted) c.requires.plan
    c.requires.frame
    old mid (g.In.Source.shown c.convert_next.new.input) (line_told old mid (line refl)) c.in-Ok.ensures.converted

pub returns-in-Err-End-clause-left : goal.returns-in-Err-End-clause-left
returns-in-Err-End-clause-left g c =
    let converter = c.args.converter.now in
    let old = g.In.Source.shown c.args.input.now in
    let mid = g.In.Source.shown c.read_frame_line.new.input in
    let new = g.In.Source.shown c.convert_next.new.input in
    let line = rw c.in-Ok-Frame.field-0-is at c.in-Ok-Frame.ensures.line in
    let off = rw c.in-Err-End.field-0-is at c.in-Err-End.ensures.left in
    line_nothing old mid new (size_by converter) (line_told old mid (line refl)) c.requires.some
    (off_by converter c.args.frame.whole mid new End c.requires.frame off)

pub returns-in-Err-Short-clause-left : goal.returns-in-Err-Short-clause-left
returns-in-Err-Short-clause-left g c =
    let converter = c.args.converter.now in
    let old = g.In.Source.shown c.args.input.now in
    let mid = g.In.Source.shown c.read_frame_line.new.input in
    let new = g.In.Source.shown c.convert_next.new.input in
    let n = c.in-Err-Short.field-0-0 in
    let line = rw c.in-Ok-Frame.field-0-is at c.in-Ok-Frame.ensures.line in
    let off = rw c.in-Err-Short.field-0-is at c.in-Err-Short.ensures.left in
    line_cut old mid new (size_by converter) (line_told old mid (line refl)) n
    (off_by converter c.args.frame.whole mid new (Short n) c.requires.frame off)

pub returns-in-Err-Failed-clause-left : goal.returns-in-Err-Failed-clause-left
returns-in-Err-Failed-clause-left g c =
    let converter = c.args.converter.now in
    let old = g.In.Source.shown c.args.input.now in
    let mid = g.In.Source.shown c.read_frame_line.new.input in
    let new = g.In.Source.shown c.convert_next.new.input in
    let failed = c.in-Err-Failed.field-0-0 in
    let line = rw c.in-Ok-Frame.field-0-is at c.in-Ok-Frame.ensures.line in
    let off = rw c.in-Err-Failed.field-0-is at c.in-Err-Failed.ensures.left in
    line_failed old mid new (size_by converter) (line_told old mid (line refl)) failed
    (off_by converter c.args.frame.whole mid new (Failed failed) c.requires.frame off)
