use Rattle.std.specs.Prelude.{codes, nat_eq}
use Rattle.std.specs.List.{ends_with}
use Rattle.desc_table.proofs.Rows.{agree_at_row, orders_computed}
use Rattle.desc_table.proofs.laws.byte_orders.Goals as goal

pub returns : goal.returns
returns c = agree_at_row (λ format. format.desc.be) (λ format. ends_with nat_eq format.name (codes "be")) orders_computed
