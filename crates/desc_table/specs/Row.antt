-- What the rows of the program's two tables say, and which row differs from the definitions.
use Prim.Native.Char.{Char, code}
use Prim.Native.String.{String, [] as no_text, ◌∷◌ as ◌∷ₜ◌}
use Rattle.std.specs.Prelude.{ℕ, Bool, true, false, not, ◌&&◌, if◌then◌else◌, nat_eq, List, [], ◌∷◌, Option, Some, None}
use Rattle.std.specs.Ordering.{int_eq}
use Rattle.pix_desc.specs.declared.desc.Comp.{Comp}
use Rattle.pix_desc.specs.declared.desc.Desc.{Desc}
use Rattle.desc_table.specs.Format.{Format}
use Rattle.desc_table.specs.Refused.{Refusal}
use Rattle.desc_table.specs.declared.table.Row.{Row}
use Rattle.desc_table.specs.declared.refused.Refused.{Refused}

-- the format of a row
abbrev pub format_of : Row → Format
format_of row = record {
  name = row.name.now;
  desc = record {
    count = row.count;
    comps = row.comps;
    be = row.flags.be;
    rgb = row.flags.rgb;
    alpha = row.flags.alpha;
    palette = row.flags.palette;
  };
}

-- the refusal of a refused name
abbrev pub refusal_of : Refused → Refusal
refusal_of refused = record { name = refused.name.now; fault = refused.fault }

-- ---- the row that differs, by its name, which the check prints

abbrev pub letter_in : String → ℕ → Char
letter_in no_text n = "?"
letter_in (c ∷ₜ letters) n = if nat_eq (code c) n then c else letter_in letters n

-- the text of a name
abbrev pub text_of : List ℕ → String
text_of [] = no_text
text_of (n ∷ ns) = letter_in "abcdefghijklmnopqrstuvwxyz0123456789_" n ∷ₜ text_of ns

abbrev pub is_same_flag : Bool → Bool → Bool
is_same_flag a b = if a then b else not b

abbrev pub is_same_component : Comp → Comp → Bool
is_same_component a b =
    nat_eq a.plane b.plane && nat_eq a.step b.step && int_eq a.offset b.offset && nat_eq a.shift b.shift && nat_eq a.depth b.depth

abbrev pub are_same_components : List Comp → List Comp → Bool
are_same_components [] [] = true
are_same_components (a ∷ rest) (b ∷ others) = is_same_component a b && are_same_components rest others
are_same_components _ _ = false

abbrev pub is_same_desc : Desc → Desc → Bool
is_same_desc a b =
    nat_eq a.count b.count && are_same_components a.comps b.comps && is_same_flag a.be b.be && is_same_flag a.rgb b.rgb
    && is_same_flag a.alpha b.alpha && is_same_flag a.palette b.palette

-- the first format of the second list whose descriptor is another in the first list, or which stands in one of them alone
abbrev pub differing_row : List Format → List Format → Option String
differing_row [] [] = None
differing_row (row ∷ rows) [] = Some (text_of row.name)
differing_row [] (row ∷ rows) = Some (text_of row.name)
differing_row (a ∷ rest) (b ∷ others) = if is_same_desc a.desc b.desc then differing_row rest others else Some (text_of b.name)
