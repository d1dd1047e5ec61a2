use Rattle.std.proofs.Common.{◌≡◌, ◌∙◌, sym, arith}
use Rattle.std.proofs.lemmas.Bool.Decides.{nat_tests}
use Rattle.pix_io.proofs.Frames.{step_in-drop, step_in-none}
use Rattle.pix_io.proofs.frame.step_of.Goals as goal

pub loop-j-preserved : goal.loop-j-preserved
loop-j-preserved c = grind (arith, nat_tests, step_in-drop c.args.desc.now c.args.plane c.loop-j.j)

pub returns-clause-value : goal.returns-clause-value
returns-clause-value c =
    let all : c.loop-j.j ≡ c.args.desc.now.count = omega arith in
    sym (step_in-none c.args.desc.now c.args.plane) ∙ (rw all at c.loop-j.invariant)
