use Rattle.sws_run.proofs.Fronts.{header_told, header_open}
use Rattle.sws_run.proofs.opening.input_header.Goals as goal

pub returns-in-Y4m-clause-header : goal.returns-in-Y4m-clause-header
returns-in-Y4m-clause-header g c =
    let a = g.In.Source.shown c.args.input.now in
    let b = g.In.Source.shown c.read_header.new.input in
    rw c.in-Y4m.is (header_told a b c.read_header.result c.read_header.ensures.header)

pub returns-in-Y4m-clause-read_fault : goal.returns-in-Y4m-clause-read_fault
returns-in-Y4m-clause-read_fault g c =
    let a = g.In.Source.shown c.args.input.now in
    let b = g.In.Source.shown c.read_header.new.input in
    rw c.in-Y4m.is (header_open a b c.read_header.result c.read_header.ensures.read_fault)
