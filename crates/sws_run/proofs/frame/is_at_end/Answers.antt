use Rattle.std.proofs.Common.{◌≡◌, arith}
use Rattle.sws_run.specs.Cut.{last_end, TooMany}
use Rattle.sws_run.proofs.Told.{told_takes, told_old}
use Rattle.sws_run.proofs.Last.{some_last}
use Rattle.sws_run.proofs.frame.is_at_end.Goals as goal

pub returns-in-Ok-Whole-clause-end : goal.returns-in-Ok-Whole-clause-end
returns-in-Ok-Whole-clause-end g c =
    let t = rw c.in-Ok-Whole.field-0-is at c.in-Ok-Whole.ensures.taken in
    told_old _ _ _ (λ bytes. last_end bytes ≡ TooMany) (λ x y e. some_last c.read_whole.new.buf x y (omega arith) e)
    (told_takes (g.In.Source.shown c.args.input.now) (g.In.Source.shown c.read_whole.new.input) c.read_whole.new.buf t)
