-- The list of formats, as text: a line for each.
use Prim.Native.String.{String}
use Rattle.std.specs.Prelude.{ℕ, Bool, List, [], ◌∷◌, ◌++◌, flat_map, take, codes, decimal, if◌then◌else◌}
use Rattle.std.specs.Fmt.{signed_decimal}
use Rattle.pix_desc.specs.declared.desc.Comp.{Comp}
use Rattle.pix_desc.specs.declared.desc.Desc.{Desc}
use Rattle.desc_table.specs.Format.{Format, formats}

abbrev pub letter_if : Bool → String → List ℕ
letter_if holds letter = if holds then codes letter else []

abbrev pub or_hyphen : List ℕ → List ℕ
or_hyphen [] = codes "-"
or_hyphen (letter ∷ letters) = letter ∷ letters

-- the letters of what a format is: big-endian, RGB, with alpha, with a palette
unfoldable pub letters_of : Desc → List ℕ
letters_of desc = or_hyphen (letter_if desc.be "B" ++ letter_if desc.rgb "R" ++ letter_if desc.alpha "A" ++ letter_if desc.palette "P")

-- a number behind a mark
abbrev pub marked : String → ℕ → List ℕ
marked mark n = codes mark ++ decimal n

-- the numbers of a component, behind a space
unfoldable pub component_text : Comp → List ℕ
component_text c =
    marked " " c.plane ++ marked "," c.step ++ (codes "," ++ signed_decimal c.offset) ++ marked "," c.shift ++ marked "," c.depth

-- those of each component
unfoldable pub components_text : List Comp → List ℕ
components_text comps = flat_map component_text comps

-- a format: its name, its letters, its components
unfoldable pub format_line : Format → List ℕ
format_line format =
    format.name ++ codes " " ++ letters_of format.desc ++ components_text (take format.desc.count format.desc.comps) ++ codes "\n"

-- the list of all formats
abbrev pub lines_text : List Format → List ℕ
lines_text listed = flat_map format_line listed

unfoldable pub list_text : List ℕ
list_text = lines_text formats
