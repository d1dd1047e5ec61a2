use Rattle.std.proofs.Common.{◌++◌}
use Rattle.pix_io.specs.Streams.{WritesPart}
use Rattle.sws_run.specs.Frames.{target_held}
use Rattle.sws_run.specs.Output.{front_in}
use Rattle.sws_run.proofs.Written.{on_err_map, part_more}
use Rattle.sws_run.proofs.frame.write_frame.Goals as goal

pub returns-in-Ok-clause-part : goal.returns-in-Ok-clause-part
returns-in-Ok-clause-part g c =
    let old = g.Out.Sink.shown c.args.output.now in
    let mid = g.Out.Sink.shown c.write_all.new.output in
    let new = g.Out.Sink.shown c.write.new.output in
    let frame = target_held c.args.frame.now in
    on_err_map c.write.result (WritesPart mid new frame) (WritesPart old new (front_in c.args.form ++ frame))
    (part_more old mid new (front_in c.args.form) frame (rw (← c.front.ensures) c.in-Ok.ensures.written))
    c.write.ensures.part_written
