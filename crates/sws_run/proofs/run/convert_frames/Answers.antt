use Rattle.std.proofs.Common.{◌≡◌, rules, arith, subst, inr, sym}
use Rattle.pix_io.proofs.Calls.{Rose-after}
use Rattle.sws_run.specs.declared.ended.Ended.TheVariants.{Stream}
use Rattle.sws_run.specs.Cut.{Clean, TooMany, Broken, most_frames}
use Rattle.sws_run.specs.Frames.{EndsFrames, size_by, target_held, text_by}
use Rattle.sws_run.proofs.Runs.{start_place, start_texts, end_nothing, end_faulty, end_last, ends_as, texts_whole, stops_in_part}
use Rattle.sws_run.proofs.Runs.{stops_at_last, text_is, next_place, has_text, next_texts, stops_writing, stops_for_memory}
use Rattle.sws_run.proofs.run.convert_frames.Goals as goal

pub loop-done-init : goal.loop-done-init
loop-done-init g c = record {
  place = start_place c.args.converter.now (size_by c.args.converter.now) (g.In.Source.shown c.args.input.now).bytes;
  written = start_texts c.args.converter.now (size_by c.args.converter.now) (g.In.Source.shown c.args.input.now).bytes
      (g.Out.Sink.shown c.args.output.now);
  reads = search rules;
  writes = search rules;
  fits = c.requires.frame;
}

pub returns-in-Err-Nothing-clause-answer : goal.returns-in-Err-Nothing-clause-answer
returns-in-Err-Nothing-clause-answer g c =
    let converter = c.args.converter.now in
    let size = size_by converter in
    let k = c.loop-done.done in
    let a = (g.In.Source.shown c.args.input.now).bytes in
    let left = rw c.in-Err-Nothing.field-0-is at c.in-Err-Nothing.ensures.left in
    let frames = end_nothing converter size k a (g.In.Source.shown c.loop-done.input).bytes c.loop-done-test.true
    c.loop-done.invariant.place left.0 in
    record {
      known = λ _. omega arith;
      ending = λ _. ends_as converter size k Clean a frames;
      output = λ _. texts_whole converter size k Clean a (g.Out.Sink.shown c.args.output.now)
          (g.Out.Sink.shown c.loop-done.output) frames c.loop-done.invariant.written;
      read = left.1;
    }

pub returns-in-Err-Stream-clause-answer : goal.returns-in-Err-Stream-clause-answer
returns-in-Err-Stream-clause-answer g c =
    let converter = c.args.converter.now in
    let size = size_by converter in
    let k = c.loop-done.done in
    let a = (g.In.Source.shown c.args.input.now).bytes in
    let b = (g.In.Source.shown c.loop-done.input).bytes in
    let fault = c.in-Err-Stream.fault in
    let left = rw c.in-Err-Stream.field-0-is at c.in-Err-Stream.ensures.left in
    let frames = end_faulty converter size k fault a b c.loop-done-test.true c.loop-done.invariant.place left.1 in
    subst (λ f. EndsFrames converter size (g.In.Source.shown c.args.input.now) (g.In.Source.shown c.convert_frame.new.input)
    (g.Out.Sink.shown c.args.output.now) (g.Out.Sink.shown c.loop-done.output) (Stream f k)) (sym c.in-Err-Stream.fault-is)
    (record {
      known = λ _. inr (left.0, c.loop-done-test.true);
      ending = λ _. ends_as converter size k (Broken fault) a frames;
      output = λ _. texts_whole converter size k (Broken fault) a (g.Out.Sink.shown c.args.output.now)
          (g.Out.Sink.shown c.loop-done.output) frames c.loop-done.invariant.written;
      read = tt;
    })

pub returns-in-Err-ReadFault-clause-read_fault : goal.returns-in-Err-ReadFault-clause-read_fault
returns-in-Err-ReadFault-clause-read_fault g c =
    let converter = c.args.converter.now in
    let part = rw c.in-Err-ReadFault.field-0-is at c.in-Err-ReadFault.ensures.left in
    record {
      cause = Rose-after _ _ _ c.loop-done.invariant.reads.faults
          (rw c.in-Err-ReadFault.field-0-is at c.in-Err-ReadFault.ensures.cause).failed;
      place = stops_in_part converter (size_by converter) c.loop-done.done (g.In.Source.shown c.args.input.now).bytes
          (g.In.Source.shown c.loop-done.input).bytes (g.In.Source.shown c.convert_frame.new.input).bytes
          (g.Out.Sink.shown c.args.output.now) (g.Out.Sink.shown c.loop-done.output) c.loop-done-test.true
          c.loop-done.invariant.place part c.loop-done.invariant.written;
    }

pub returns-in-Err-OutOfMemory-clause-memory : goal.returns-in-Err-OutOfMemory-clause-memory
returns-in-Err-OutOfMemory-clause-memory g c =
    let converter = c.args.converter.now in
    stops_for_memory converter (size_by converter) c.loop-done.done (g.In.Source.shown c.args.input.now).bytes
    (g.In.Source.shown c.loop-done.input).bytes (g.Out.Sink.shown c.args.output.now) (g.Out.Sink.shown c.loop-done.output)
    c.loop-done.invariant.place c.loop-done.invariant.written

pub returns-in-Err-clause-write_fault : goal.returns-in-Err-clause-write_fault
returns-in-Err-clause-write_fault g c =
    let converter = c.args.converter.now in
    let size = size_by converter in
    let k = c.loop-done.done in
    let a = (g.In.Source.shown c.args.input.now).bytes in
    let made = c.in-Ok.ensures.converted in
    let has = has_text converter size k made.frame a (g.In.Source.shown c.loop-done.input).bytes
    (g.In.Source.shown c.convert_frame.new.input).bytes c.loop-done-test.true c.loop-done.invariant.place made.taken in
    let part = rw (text_is converter made.frame (target_held c.in-Ok.converted) made.converted) at c.in-Err.ensures.part in
    record {
      cause = search rules;
      place = stops_writing converter size k (text_by converter made.frame) a (g.Out.Sink.shown c.args.output.now)
          (g.Out.Sink.shown c.loop-done.output) (g.Out.Sink.shown c.write_frame.new.output)
          has c.loop-done.invariant.written part;
    }

pub loop-done-preserved : goal.loop-done-preserved
loop-done-preserved g c =
    let converter = c.args.converter.now in
    let size = size_by converter in
    let k = c.loop-done.done in
    let a = (g.In.Source.shown c.args.input.now).bytes in
    let b = (g.In.Source.shown c.loop-done.input).bytes in
    let d = (g.In.Source.shown c.convert_frame.new.input).bytes in
    let made = c.in-Ok.ensures.converted in
    let has = has_text converter size k made.frame a b d c.loop-done-test.true c.loop-done.invariant.place made.taken in
    let text = rw (text_is converter made.frame (target_held c.in-Ok.converted) made.converted) at c.in-Ok-write_frame.ensures.written in
    record {
      place = next_place converter size k made.frame a b d c.loop-done-test.true c.loop-done.invariant.place made.taken;
      written = next_texts converter size k (text_by converter made.frame) a (g.Out.Sink.shown c.args.output.now)
          (g.Out.Sink.shown c.loop-done.output) (g.Out.Sink.shown c.write_frame.new.output)
          has c.loop-done.invariant.written text;
      reads = search rules;
      writes = search rules;
      fits = c.in-Ok.ensures.whole;
    }

pub returns-in-Ok-true-clause-answer : goal.returns-in-Ok-true-clause-answer
returns-in-Ok-true-clause-answer g c =
    let converter = c.args.converter.now in
    let size = size_by converter in
    let a = (g.In.Source.shown c.args.input.now).bytes in
    let b = (g.In.Source.shown c.loop-done.input).bytes in
    let k : c.loop-done.done ≡ 1000000 = omega arith in
    let is = rw c.in-Ok-true.field-0-test at c.in-Ok-true.ensures.end in
    let frames = end_last converter size Clean a b (rw k at c.loop-done.invariant.place) is in
    record {
      known = λ _. omega arith;
      ending = λ _. ends_as converter size most_frames Clean a frames;
      output = λ _. texts_whole converter size most_frames Clean a (g.Out.Sink.shown c.args.output.now)
          (g.Out.Sink.shown c.loop-done.output) frames (rw k at c.loop-done.invariant.written);
      read = search rules;
    }

pub returns-in-Ok-false-clause-answer : goal.returns-in-Ok-false-clause-answer
returns-in-Ok-false-clause-answer g c =
    let converter = c.args.converter.now in
    let size = size_by converter in
    let a = (g.In.Source.shown c.args.input.now).bytes in
    let b = (g.In.Source.shown c.loop-done.input).bytes in
    let k : c.loop-done.done ≡ 1000000 = omega arith in
    let is = rw c.in-Ok-false.field-0-test at c.in-Ok-false.ensures.end in
    let frames = end_last converter size TooMany a b (rw k at c.loop-done.invariant.place) is in
    record {
      known = λ _. tt;
      ending = λ _. ends_as converter size most_frames TooMany a frames;
      output = λ _. texts_whole converter size most_frames TooMany a (g.Out.Sink.shown c.args.output.now)
          (g.Out.Sink.shown c.loop-done.output) frames (rw k at c.loop-done.invariant.written);
      read = tt;
    }

pub returns-clause-read_fault : goal.returns-clause-read_fault
returns-clause-read_fault g c =
    let converter = c.args.converter.now in
    let size = size_by converter in
    let a = (g.In.Source.shown c.args.input.now).bytes in
    let b = (g.In.Source.shown c.loop-done.input).bytes in
    let d = (g.In.Source.shown c.is_at_end.new.input).bytes in
    let k : c.loop-done.done ≡ 1000000 = omega arith in
    record {
      cause = search rules;
      place = stops_at_last converter size a b d (g.Out.Sink.shown c.args.output.now) (g.Out.Sink.shown c.loop-done.output)
          (rw k at c.loop-done.invariant.place) c.in-Err-is_at_end.ensures.kept (rw k at c.loop-done.invariant.written);
    }
