use Rattle.std.proofs.Common.{◌≡◌, Ok, inl, refl, sym, ap, ◌∙◌, subst, arith}
use Rattle.pix_io.specs.Faults.{HasNoFault}
use Rattle.pix_io.specs.Streams.{Writes, WritesPart}
use Rattle.pix_io.proofs.Calls.{Writes-nil}
use Rattle.sws_run.specs.Cut.{source_length}
use Rattle.sws_run.specs.Frames.{size_by}
use Rattle.row_plan.specs.declared.plans.Plan.{Plan}
use Rattle.sws_run.specs.Request.{IsTablePair}
use Rattle.sws_run.proofs.Opened.{opening_some, pair_is_of_table, source_length_is}
use Rattle.sws_run.specs.declared.request.Request.TheVariants as request
use Rattle.sws_run.specs.Run.{GivesAnswer, GivesReadFault, GivesWriteFault, GivesOutOfMemory, IsComplete}
use Rattle.sws_run.proofs.Lifts.{answer_lift, read_lift, write_lift, complete_lift, memory_lift, header_write_fault, meets_told}
use Rattle.sws_run.proofs.Lifts.{exit_answer, exit_read_fault, exit_write_fault, exit_memory, exit_complete}
use Rattle.sws_run.proofs.convert.convert.Goals as goal

pub returns-in-Err-clause-answer : goal.returns-in-Err-clause-answer
returns-in-Err-clause-answer g c =
    let s0 = g.In.Source.shown c.args.input.now in
    let s1 = g.In.Source.shown c.input_header.new.input in
    let k = g.Out.Sink.shown c.args.output.now in
    subst (GivesAnswer (Ok (request.Convert c.args.conversion.now)) s0 s1 k k) (sym c.ended_by.ensures)
    (exit_answer c.args.conversion.now c.in-Err.end s0 s1 k c.in-Err.ensures.known c.in-Err.ensures.fault)

pub returns-in-Err-clause-read_fault : goal.returns-in-Err-clause-read_fault
returns-in-Err-clause-read_fault g c =
    let s0 = g.In.Source.shown c.args.input.now in
    let s1 = g.In.Source.shown c.input_header.new.input in
    let k = g.Out.Sink.shown c.args.output.now in
    subst (GivesReadFault (Ok (request.Convert c.args.conversion.now)) s0 s1 k k) (sym c.ended_by.ensures)
    (exit_read_fault c.args.conversion.now c.in-Err.end s0 s1 k c.in-Err.ensures.cause c.in-Err.ensures.read_fault)

pub returns-in-Err-clause-write_fault : goal.returns-in-Err-clause-write_fault
returns-in-Err-clause-write_fault g c =
    let s0 = g.In.Source.shown c.args.input.now in
    let s1 = g.In.Source.shown c.input_header.new.input in
    let k = g.Out.Sink.shown c.args.output.now in
    subst (GivesWriteFault (Ok (request.Convert c.args.conversion.now)) s0 s1 k k) (sym c.ended_by.ensures)
    (exit_write_fault c.args.conversion.now c.in-Err.end s0 s1 k)

pub returns-in-Err-clause-memory : goal.returns-in-Err-clause-memory
returns-in-Err-clause-memory g c =
    let s0 = g.In.Source.shown c.args.input.now in
    let s1 = g.In.Source.shown c.input_header.new.input in
    let k = g.Out.Sink.shown c.args.output.now in
    subst (GivesOutOfMemory (Ok (request.Convert c.args.conversion.now)) s0 s1 k k) (sym c.ended_by.ensures)
    (exit_memory c.args.conversion.now c.in-Err.end s0 s1 k)

pub returns-in-Err-clause-complete : goal.returns-in-Err-clause-complete
returns-in-Err-clause-complete g c =
    let s0 = g.In.Source.shown c.args.input.now in
    let s1 = g.In.Source.shown c.input_header.new.input in
    let k = g.Out.Sink.shown c.args.output.now in
    subst (IsComplete s0 s1 k k) (sym c.ended_by.ensures) (exit_complete c.in-Err.end s0 s1 k c.in-Err.ensures.cause)

pub returns-in-Err-write_all-clause-write_fault : goal.returns-in-Err-write_all-clause-write_fault
returns-in-Err-write_all-clause-write_fault g c =
    let conversion = c.args.conversion.now in
    let header = c.in-Ok.header in
    let stream = c.in-Ok-prepare.stream in
    let s0 = g.In.Source.shown c.args.input.now in
    let s1 = g.In.Source.shown c.input_header.new.input in
    let k0 = g.Out.Sink.shown c.args.output.now in
    let k1 = g.Out.Sink.shown c.write_all.new.output in
    header_write_fault conversion header stream.converter (size_by stream.converter) s0 s1 k0 k1 c.in-Err-write_all.ensures.cause.failed
    (meets_told conversion header stream.converter (size_by stream.converter) s0.bytes s1.bytes c.in-Ok-prepare.ensures.converter
    (sym (source_length_is conversion header stream.converter c.in-Ok-prepare.ensures.converter)) c.in-Ok.ensures.header)
    (subst (WritesPart k0 k1) (c.deref.ensures.value ∙ c.in-Ok-prepare.ensures.text) c.in-Err-write_all.ensures.part_written)

pub convert_frames-requires-clause-some : goal.convert_frames-requires-clause-some
convert_frames-requires-clause-some g c =
    omega (
      arith,
      opening_some c.in-Ok.header c.in-Ok.ensures.sound,
      source_length_is c.args.conversion.now c.in-Ok.header c.in-Ok-prepare.stream.converter c.in-Ok-prepare.ensures.converter,
    )

pub convert_frames-requires-clause-workers : goal.convert_frames-requires-clause-workers
convert_frames-requires-clause-workers g c = omega (arith, c.in-Ok-prepare.ensures.converter.workers, c.requires.workers)

pub returns-in_default-clause-memory : goal.returns-in_default-clause-memory
returns-in_default-clause-memory g c = record { output = inl (refl, Writes-nil (g.Out.Sink.shown c.args.output.now)) }

pub returns-clause-answer : goal.returns-clause-answer
returns-clause-answer g c =
    let conversion = c.args.conversion.now in
    let header = c.in-Ok.header in
    let stream = c.in-Ok-prepare.stream in
    let n = size_by stream.converter in
    let long : n ≡ source_length header = sym (source_length_is conversion header stream.converter c.in-Ok-prepare.ensures.converter) in
    let s0 = g.In.Source.shown c.args.input.now in
    let s1 = g.In.Source.shown c.input_header.new.input in
    let s2 = g.In.Source.shown c.convert_frames.new.input in
    let k0 = g.Out.Sink.shown c.args.output.now in
    let k1 = g.Out.Sink.shown c.write_all.new.output in
    let k2 = g.Out.Sink.shown c.convert_frames.new.output in
    let told = meets_told conversion header stream.converter n s0.bytes s1.bytes c.in-Ok-prepare.ensures.converter long
    c.in-Ok.ensures.header in
    let wrote = subst (Writes k0 k1) (c.deref.ensures.value ∙ c.in-Ok-prepare.ensures.text) c.in-Ok-write_all.ensures.written in
    answer_lift conversion header stream.converter n s0 s1 s2 k0 k1 k2 c.convert_frames.result
    c.in-Ok-prepare.ensures.converter.source_form told wrote c.convert_frames.ensures.answer

pub returns-clause-read_fault : goal.returns-clause-read_fault
returns-clause-read_fault g c =
    let conversion = c.args.conversion.now in
    let header = c.in-Ok.header in
    let stream = c.in-Ok-prepare.stream in
    let n = size_by stream.converter in
    let long : n ≡ source_length header = sym (source_length_is conversion header stream.converter c.in-Ok-prepare.ensures.converter) in
    let s0 = g.In.Source.shown c.args.input.now in
    let s1 = g.In.Source.shown c.input_header.new.input in
    let s2 = g.In.Source.shown c.convert_frames.new.input in
    let k0 = g.Out.Sink.shown c.args.output.now in
    let k1 = g.Out.Sink.shown c.write_all.new.output in
    let k2 = g.Out.Sink.shown c.convert_frames.new.output in
    let told = meets_told conversion header stream.converter n s0.bytes s1.bytes c.in-Ok-prepare.ensures.converter long
    c.in-Ok.ensures.header in
    let wrote = subst (Writes k0 k1) (c.deref.ensures.value ∙ c.in-Ok-prepare.ensures.text) c.in-Ok-write_all.ensures.written in
    let quiet : HasNoFault s0 s1 = record { faults = c.in-Ok.ensures.cause.kept; made = c.in-Ok.ensures.cause.made } in
    read_lift conversion header stream.converter n s0 s1 s2 k0 k1 k2 c.convert_frames.result quiet told wrote
    c.convert_frames.ensures.read_fault

pub returns-clause-write_fault : goal.returns-clause-write_fault
returns-clause-write_fault g c =
    let conversion = c.args.conversion.now in
    let header = c.in-Ok.header in
    let stream = c.in-Ok-prepare.stream in
    let n = size_by stream.converter in
    let long : n ≡ source_length header = sym (source_length_is conversion header stream.converter c.in-Ok-prepare.ensures.converter) in
    let s0 = g.In.Source.shown c.args.input.now in
    let s1 = g.In.Source.shown c.input_header.new.input in
    let s2 = g.In.Source.shown c.convert_frames.new.input in
    let k0 = g.Out.Sink.shown c.args.output.now in
    let k1 = g.Out.Sink.shown c.write_all.new.output in
    let k2 = g.Out.Sink.shown c.convert_frames.new.output in
    let told = meets_told conversion header stream.converter n s0.bytes s1.bytes c.in-Ok-prepare.ensures.converter long
    c.in-Ok.ensures.header in
    let wrote = subst (Writes k0 k1) (c.deref.ensures.value ∙ c.in-Ok-prepare.ensures.text) c.in-Ok-write_all.ensures.written in
    let quiet : HasNoFault k0 k1 = record { faults = c.in-Ok-write_all.ensures.cause.kept; made = c.in-Ok-write_all.ensures.cause.made } in
    write_lift conversion header stream.converter n s0 s1 s2 k0 k1 k2 c.convert_frames.result quiet told wrote
    c.convert_frames.ensures.write_fault

pub returns-clause-complete : goal.returns-clause-complete
returns-clause-complete g c =
    let s0 = g.In.Source.shown c.args.input.now in
    let s1 = g.In.Source.shown c.input_header.new.input in
    let k0 = g.Out.Sink.shown c.args.output.now in
    let k1 = g.Out.Sink.shown c.write_all.new.output in
    complete_lift s0 s1 (g.In.Source.shown c.convert_frames.new.input) k0 k1
    (g.Out.Sink.shown c.convert_frames.new.output) c.convert_frames.result
    (record { faults = c.in-Ok.ensures.cause.kept; made = c.in-Ok.ensures.cause.made })
    (record { faults = c.in-Ok-write_all.ensures.cause.kept; made = c.in-Ok-write_all.ensures.cause.made })
    c.convert_frames.ensures.complete

pub returns-clause-memory : goal.returns-clause-memory
returns-clause-memory g c =
    let conversion = c.args.conversion.now in
    let header = c.in-Ok.header in
    let stream = c.in-Ok-prepare.stream in
    let n = size_by stream.converter in
    let long : n ≡ source_length header = sym (source_length_is conversion header stream.converter c.in-Ok-prepare.ensures.converter) in
    let s0 = g.In.Source.shown c.args.input.now in
    let s1 = g.In.Source.shown c.input_header.new.input in
    let k0 = g.Out.Sink.shown c.args.output.now in
    let k1 = g.Out.Sink.shown c.write_all.new.output in
    let told = meets_told conversion header stream.converter n s0.bytes s1.bytes c.in-Ok-prepare.ensures.converter long
    c.in-Ok.ensures.header in
    let wrote = subst (Writes k0 k1) (c.deref.ensures.value ∙ c.in-Ok-prepare.ensures.text) c.in-Ok-write_all.ensures.written in
    memory_lift conversion header stream.converter n s0 s1 (g.In.Source.shown c.convert_frames.new.input) k0 k1
    (g.Out.Sink.shown c.convert_frames.new.output) c.convert_frames.result told wrote c.convert_frames.ensures.memory

pub note-note-requires : goal.note-note-requires
note-note-requires g c = omega (arith, c.in-Ok-prepare.ensures.cache)

pub look_up-requires-clause-pair : goal.look_up-requires-clause-pair
look_up-requires-clause-pair g c =
    subst IsTablePair (sym c.in-Ok-prepare.ensures.converter.pair)
    (pair_is_of_table c.args.conversion.now c.in-Ok.header c.requires c.in-Ok.ensures.sound)

pub look_up-requires-clause-note : goal.look_up-requires-clause-note
look_up-requires-clause-note g c = c.note-note.ensures.cell

pub returns-in_default-look_up-clause-memory : goal.returns-in_default-look_up-clause-memory
returns-in_default-look_up-clause-memory g c = record { output = inl (refl, Writes-nil (g.Out.Sink.shown c.args.output.now)) }

pub convert_frames-requires-clause-plan : goal.convert_frames-requires-clause-plan
convert_frames-requires-clause-plan g c = λ κs within. ap (λ (plan : Plan). plan.pair) c.plan.ensures ∙ c.in-Ok-look_up.ensures
