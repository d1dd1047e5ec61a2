use Rattle.std.proofs.Common.{◌≡◌, sym, ap, ◌∙◌, length, length-take-le, take, arith}
use Rattle.y4m_io.specs.HeaderLine.{header_of}
use Rattle.y4m_io.proofs.HeaderFacts.{header_of-sound, header_of-fault}
use Rattle.y4m_io.proofs.LineCuts.{tags_of-take, header_told, header_fault_told, no_header_told, nothing_told, header_answer, fault_answer}
use Rattle.y4m_io.proofs.header_line.read_header.Goals as goal

pub returns-in-Ok-Some-clause-sound : goal.returns-in-Ok-Some-clause-sound
returns-in-Ok-Some-clause-sound g c = header_answer c.header_of.result _ _ c.header_of.ensures.header
    (λ header says. header_of-sound _ header says)

pub returns-in-Ok-Some-clause-known : goal.returns-in-Ok-Some-clause-known
returns-in-Ok-Some-clause-known g c = fault_answer c.header_of.result _ _ c.header_of.ensures.fault
    (λ fault says. header_of-fault _ fault says)

pub returns-in-Ok-None-clause-fault : goal.returns-in-Ok-None-clause-fault
returns-in-Ok-None-clause-fault g c = let told = rw c.in-Ok-None.field-0-is at c.in-Ok-None.ensures.end in nothing_told _ _ told.0 told.1

pub returns-in-Err-Stream-clause-fault : goal.returns-in-Err-Stream-clause-fault
returns-in-Err-Stream-clause-fault g c = rw c.in-Err-Stream.field-0-is
    (no_header_told _ _ (rw c.in-Err-Stream.field-0-is at c.in-Err-Stream.ensures.fault))

pub returns-in-Ok-Some-clause-header : goal.returns-in-Ok-Some-clause-header
returns-in-Ok-Some-clause-header g c =
    let told = rw c.in-Ok-Some.field-0-is at c.in-Ok-Some.ensures.line in
    let line = take c.in-Ok-Some.size c.read_line.new.line in
    let long : length line ≡ c.in-Ok-Some.size = length-take-le c.in-Ok-Some.size c.read_line.new.line (omega arith) in
    let tags = tags_of-take c.read_line.new.line c.in-Ok-Some.size told.0 in
    header_answer c.header_of.result _ _ c.header_of.ensures.header (λ header says.
    header_told (g.In.Source.shown c.args.input.now).bytes (g.In.Source.shown c.read_line.new.input).bytes line c.in-Ok-Some.size header
    told.2 long (ap header_of (sym tags) ∙ says))

pub returns-in-Ok-Some-clause-fault : goal.returns-in-Ok-Some-clause-fault
returns-in-Ok-Some-clause-fault g c =
    let told = rw c.in-Ok-Some.field-0-is at c.in-Ok-Some.ensures.line in
    let line = take c.in-Ok-Some.size c.read_line.new.line in
    let tags = tags_of-take c.read_line.new.line c.in-Ok-Some.size told.0 in
    fault_answer c.header_of.result _ _ c.header_of.ensures.fault (λ fault says.
    header_fault_told (g.In.Source.shown c.args.input.now).bytes (g.In.Source.shown c.read_line.new.input).bytes line c.in-Ok-Some.size
    fault told.2 (ap header_of (sym tags) ∙ says))
