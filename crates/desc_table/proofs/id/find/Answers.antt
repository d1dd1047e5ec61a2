use Rattle.std.proofs.Common.{sym, ap, ◌∙◌}
use Rattle.std.specs.Prelude.{Err}
use Rattle.desc_table.specs.Refused.{fault_named, row_or_fault, lookup}
use Rattle.desc_table.proofs.Lookup.{row_named-Some}
use Rattle.desc_table.proofs.id.find.Goals as goal

pub returns-in-Some-clause-value : goal.returns-in-Some-clause-value
unfolding lookup
returns-in-Some-clause-value c =
    ap (λ found. row_or_fault found (fault_named c.args.name.now)) (sym c.in-Some.is ∙ c.row_named.ensures.value)

pub returns-in-Some-clause-named : goal.returns-in-Some-clause-named
returns-in-Some-clause-named c =
    (row_named-Some c.args.name.now c.in-Some.row (sym c.row_named.ensures.value ∙ c.in-Some.is)).1

pub returns-in-None-clause-value : goal.returns-in-None-clause-value
unfolding lookup
returns-in-None-clause-value c =
    ap Err c.fault_named.ensures
    ∙ ap (λ found. row_or_fault found (fault_named c.args.name.now)) (sym c.in-None.is ∙ c.row_named.ensures.value)
