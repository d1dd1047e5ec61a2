-- A run that converts nothing: its words are refused, or it writes a report.
use Rattle.std.proofs.Common.{◌≡◌, true, false, Bool, ℕ, ◌<◌, [], ◌++◌, length, take, Result, Ok, Err, refl, sym, subst}
use Rattle.std.proofs.Common.{append-nil, nat_le, if◌then◌else◌}
use Rattle.pix_io.specs.Shown.{Shown}
use Rattle.pix_io.specs.Faults.{Rose}
use Rattle.pix_io.specs.Streams.{Writes, WritesPart}
use Rattle.pix_io.proofs.Calls.{Writes-nil}
use Rattle.sws_run.specs.declared.ended.Ended.{Ended}
use Rattle.sws_run.specs.declared.ended.Ended.TheVariants.{Done, WriteFault}
use Rattle.sws_run.specs.declared.request.Request.{Request}
use Rattle.sws_run.specs.declared.request.Request.TheVariants as request
use Rattle.sws_run.specs.Ending.{IsRefusal}
use Rattle.sws_run.specs.Report.{report_frames, report_text}
use Rattle.sws_run.specs.declared.request.Report.{Report}
use Rattle.sws_run.specs.Output.{output_by, ending_by}
use Rattle.sws_run.specs.Run.{GivesAnswer, GivesWriteFault}
use Rattle.sws_run.proofs.Endings.{no_done}

refusal_answer : (refusal : Ended) (source sink : Shown) → IsRefusal refusal → GivesAnswer (Err refusal) source source sink sink refusal
unfolding output_by ending_by
refusal_answer refusal source sink is = record {
  words = λ _. refl;
  ending = λ _. refl;
  output = λ _. Writes-nil sink;
  read = no_done refusal _ is;
  unread = λ _. refl;
  refused = refl;
}

pub refused_answer : (asked : Result Request Ended) (refusal : Ended) (source sink : Shown) → IsRefusal refusal → asked ≡ Err refusal
    → GivesAnswer asked source source sink sink refusal
refused_answer asked refusal source sink is same = subst (λ a. GivesAnswer a source source sink sink refusal) (sym same)
    (refusal_answer refusal source sink is)

pub report_answer : (report : Report) (source sink sink' : Shown) → Writes sink sink' (report_text report)
    → GivesAnswer (Ok (request.Report report)) source source sink sink' (Done (report_frames report))
unfolding output_by ending_by
report_answer report source sink sink' wrote = record {
  words = λ _. refl;
  ending = λ _. refl;
  output = λ _. subst (Writes sink sink') (sym (append-nil (report_text report))) wrote;
  read = λ no. absurd no;
  unread = λ _. refl;
  refused = tt;
}

-- a report has no frame of the output
none_in : (b : Bool) → let n : ℕ = 0 in n ≡ (if b then n else n)
none_in true = refl
none_in false = refl

pub report_write_fault : (report : Report) (source sink sink' : Shown) → Rose sink.faults sink'.faults
    → WritesPart sink sink' (report_text report)
    → GivesWriteFault (Ok (request.Report report)) source source sink sink' (WriteFault 0)
unfolding output_by
report_write_fault report source sink sink' rose part = record {
  cause = rose;
  place =
      let text = report_text report in
      let n = part.0 in
      let below : n < length text = part.1 in
      let all : text ≡ text ++ [] = sym (append-nil text) in (
        n,
        subst (λ l. n < length l) all below,
        subst (λ l. Writes sink sink' (take n l)) all part.2,
        none_in (nat_le (length text) n),
      );
}
