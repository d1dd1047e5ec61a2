use Rattle.std.proofs.Common.{◌≡◌, length, take, length-take-le, arith}
use Rattle.y4m_io.proofs.LineCuts.{frame_told, frame_fault_told}
use Rattle.y4m_io.proofs.frame_line.read_frame_line.Goals as goal

pub returns-in-Ok-Some-clause-line : goal.returns-in-Ok-Some-clause-line
returns-in-Ok-Some-clause-line g c is =
    let told = rw c.in-Ok-Some.field-0-is at c.in-Ok-Some.ensures.line in
    let line = take c.in-Ok-Some.field-0-0 c.read_line.new.line in
    let long : length line ≡ c.in-Ok-Some.field-0-0 = length-take-le c.in-Ok-Some.field-0-0 c.read_line.new.line (omega arith) in
    frame_told (g.In.Source.shown c.args.input.now).bytes (g.In.Source.shown c.read_line.new.input).bytes line c.in-Ok-Some.field-0-0 told.2
    long

pub returns-in-Err-clause-fault : goal.returns-in-Err-clause-fault
returns-in-Err-clause-fault g c = frame_fault_told (g.In.Source.shown c.args.input.now).bytes c.in-Err.end c.in-Err.ensures.fault
