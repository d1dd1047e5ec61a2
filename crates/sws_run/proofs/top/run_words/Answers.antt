use Rattle.std.proofs.Common.{◌≡◌, map, string_bytes, Ok, sym, ap, subst, ◌∙◌}
use Rattle.sws_run.specs.declared.ended.Ended.TheVariants.{Usage}
use Rattle.sws_run.specs.declared.request.Request.TheVariants as request
use Rattle.sws_run.specs.Request.{request_of, asked_by}
use Rattle.sws_run.specs.Run.{GivesAnswer, GivesWriteFault}
use Rattle.sws_run.proofs.Asked.{refused_answer}
use Rattle.sws_run.proofs.top.run_words.Goals as goal

pub returns-in-Err-Usage-clause-answer : goal.returns-in-Err-Usage-clause-answer
returns-in-Err-Usage-clause-answer g c =
    let asked = asked_by (map string_bytes c.args.words.now) in
    let s = g.In.Source.shown c.args.input.now in
    let k = g.Out.Sink.shown c.args.output.now in
    let broken = rw c.in-Err-Usage.field-0-is at c.in-Err-Usage.ensures.fault in
    subst (λ f. GivesAnswer asked s s k k (Usage f)) (sym c.in-Err-Usage.fault-is)
    (refused_answer asked (Usage c.in-Err-Usage.fault) s k tt (ap request_of broken))

pub returns-in-Ok-Report-clause-answer : goal.returns-in-Ok-Report-clause-answer
returns-in-Ok-Report-clause-answer g c =
    let s = g.In.Source.shown c.args.input.now in
    let k0 = g.Out.Sink.shown c.args.output.now in
    let k1 = g.Out.Sink.shown c.write_report.new.output in
    let value = rw c.in-Ok-Report.field-0-is at c.in-Ok-Report.ensures.value in
    let asked : asked_by (map string_bytes c.args.words.now) ≡ Ok (request.Report c.in-Ok-Report.report) =
    ap request_of c.in-Ok.ensures.task ∙ sym value in
    subst (λ a. GivesAnswer a s s k0 k1 c.write_report.result) (sym asked) (c.write_report.ensures.answer s)

pub returns-in-Ok-Report-clause-write_fault : goal.returns-in-Ok-Report-clause-write_fault
returns-in-Ok-Report-clause-write_fault g c =
    let s = g.In.Source.shown c.args.input.now in
    let k0 = g.Out.Sink.shown c.args.output.now in
    let k1 = g.Out.Sink.shown c.write_report.new.output in
    let value = rw c.in-Ok-Report.field-0-is at c.in-Ok-Report.ensures.value in
    let asked : asked_by (map string_bytes c.args.words.now) ≡ Ok (request.Report c.in-Ok-Report.report) =
    ap request_of c.in-Ok.ensures.task ∙ sym value in
    subst (λ a. GivesWriteFault a s s k0 k1 c.write_report.result) (sym asked) (c.write_report.ensures.write_fault s)

pub returns-in-Ok-Report-clause-complete : goal.returns-in-Ok-Report-clause-complete
returns-in-Ok-Report-clause-complete g c = c.write_report.ensures.complete (g.In.Source.shown c.args.input.now)

pub returns-in-Err-clause-answer : goal.returns-in-Err-clause-answer
returns-in-Err-clause-answer g c =
    let asked = asked_by (map string_bytes c.args.words.now) in
    refused_answer asked c.in-Err.refusal (g.In.Source.shown c.args.input.now) (g.Out.Sink.shown c.args.output.now) c.in-Err.ensures.refusal
    (ap request_of c.in-Ok.ensures.task ∙ sym c.in-Err.ensures.value)
