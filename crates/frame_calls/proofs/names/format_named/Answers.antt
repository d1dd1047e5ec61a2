use Rattle.std.proofs.Common.{sym}
use Rattle.frame_calls.proofs.Texts.{finds_none}
use Rattle.frame_calls.proofs.names.format_named.Goals as goal

pub returns-in-Err : goal.returns-in-Err
returns-in-Err c = sym (finds_none c.args.name.now c.in-Err.ensures.cases.0)
