use Rattle.std.proofs.Common.{Ok, subst, sym, ◌∙◌}
use Rattle.pix_io.specs.Streams.{Writes, WritesPart}
use Rattle.sws_run.specs.declared.ended.Ended.TheVariants.{Done}
use Rattle.sws_run.specs.declared.request.Request.TheVariants as request
use Rattle.sws_run.specs.Run.{GivesAnswer}
use Rattle.sws_run.proofs.Asked.{report_answer, report_write_fault}
use Rattle.sws_run.proofs.top.write_report.Goals as goal

pub returns-in-Ok-write_all-clause-answer : goal.returns-in-Ok-write_all-clause-answer
returns-in-Ok-write_all-clause-answer g c = λ source.
    let k0 = g.Out.Sink.shown c.args.output.now in
    let k1 = g.Out.Sink.shown c.write_all.new.output in
    subst (λ n. GivesAnswer (Ok (request.Report c.args.report.now)) source source k0 k1 (Done n)) (sym c.report_frames.ensures)
    (report_answer c.args.report.now source k0 k1
    (subst (Writes k0 k1) (c.as_bytes.ensures.value ∙ c.in-Ok.ensures) c.in-Ok-write_all.ensures.written))

pub returns-clause-write_fault : goal.returns-clause-write_fault
returns-clause-write_fault g c = λ source.
    let k0 = g.Out.Sink.shown c.args.output.now in
    let k1 = g.Out.Sink.shown c.write_all.new.output in
    report_write_fault c.args.report.now source k0 k1 c.in-Err.ensures.cause.failed (subst (WritesPart k0 k1)
    (c.as_bytes.ensures.value ∙ c.in-Ok.ensures) c.in-Err.ensures.part_written)
