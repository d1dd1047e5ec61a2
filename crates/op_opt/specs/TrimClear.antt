-- A Clear without the entry of the lowest value that is not used after it.
use Rattle.std.specs.Prelude.{◌&&◌, not, List, ◌∷◌, Option, Some, None}
use Rattle.std.specs.Option.{option_and_then}
use Rattle.op_list.specs.declared.op.Op.{Op}
use Rattle.op_list.specs.declared.op.Op.TheVariants.{Clear}
use Rattle.op_list.specs.Values.{entry}
use Rattle.op_range.specs.Used.{is_used, used_from}
use Rattle.op_opt.specs.declared.change.Change.{Change}
use Rattle.op_opt.specs.Changes.{taking}
use Rattle.op_opt.specs.Entries.{without, is_given}
use Rattle.op_opt.specs.OfFour.{lowest}

unfoldable pub trim_clear : List Op → Option Change
trim_clear (Clear entries ∷ rest) =
    option_and_then (λ i. taking 1 (Some (Clear (without entries i)))) (lowest (λ i. is_given (entry entries i)
    && not (is_used (used_from rest) i)))
trim_clear ops = None
