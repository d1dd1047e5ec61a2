use Rattle.std.specs.Prelude.{Err}
use Rattle.desc_table.specs.Refused.{Refusal, refused, lookup}
use Rattle.desc_table.proofs.Rows.{agree_at, lookup-name_of, refusals_computed}
use Rattle.desc_table.proofs.laws.names_differ.Goals as goal

pub returns-clause-rows : goal.returns-clause-rows
returns-clause-rows c = lookup-name_of

pub returns-clause-refusals : goal.returns-clause-refusals
returns-clause-refusals c k d below =
    agree_at (λ (refusal : Refusal). lookup refusal.name) (λ refusal. Err refusal.fault) refused k d refusals_computed below

pub returns-clause-different : goal.returns-clause-different
returns-clause-different c i j i_below j_below same = cc (lookup-name_of i i_below, lookup-name_of j j_below)
