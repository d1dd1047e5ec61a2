-- Cancel unpack and pack: of the same widths, which come to all bits, where what follows uses value 0 alone.
use Rattle.std.specs.Prelude.{ℕ, Bool, ◌&&◌, not, if◌then◌else◌, nat_eq, List, ◌∷◌, sum, length, Option, None}
use Rattle.std.specs.Str.{bytes_eq}
use Rattle.op_list.specs.declared.types.Stage.{Stage}
use Rattle.op_list.specs.declared.op.Op.{Op}
use Rattle.op_list.specs.declared.op.Op.TheVariants.{Unpack, Pack}
use Rattle.op_list.specs.Types.{bits_at}
use Rattle.op_range.specs.Used.{is_used, used_from}
use Rattle.op_opt.specs.declared.change.Change.{Change}
use Rattle.op_opt.specs.Changes.{taking}

abbrev pub uses_first_alone : List Bool → Bool
uses_first_alone used = not (is_used used 1) && not (is_used used 2) && not (is_used used 3)

-- four fields that fill so many bits
abbrev pub fill : ℕ → List ℕ → Bool
fill bits fields = nat_eq (length fields) 4 && nat_eq (sum fields) bits

unfoldable pub cancel_packing : Stage → List Op → Option Change
cancel_packing stage (Unpack fields ∷ Pack widths ∷ rest) =
    if bytes_eq fields widths && fill (bits_at stage) fields && uses_first_alone (used_from rest) then taking 2 None else None
cancel_packing stage ops = None
