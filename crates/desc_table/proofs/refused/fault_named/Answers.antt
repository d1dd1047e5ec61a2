use Rattle.std.proofs.Common.{Some, None, sym, ap, ◌∙◌}
use Rattle.std.specs.Option.{option_map}
use Rattle.desc_table.proofs.Lookup.{fault_named-refused}
use Rattle.desc_table.proofs.refused.fault_named.Goals as goal

pub returns-in-Some : goal.returns-in-Some
returns-in-Some c =
    fault_named-refused c.refused_names.result.now c.args.name.now (Some c.in-Some.refused.now) c.refused_names.ensures
    (ap (option_map (λ refused. refused.now)) (sym c.in-Some.is) ∙ c.find_in.ensures)

pub returns-in-None : goal.returns-in-None
returns-in-None c =
    fault_named-refused c.refused_names.result.now c.args.name.now None c.refused_names.ensures
    (ap (option_map (λ refused. refused.now)) (sym c.in-None.is) ∙ c.find_in.ensures)
