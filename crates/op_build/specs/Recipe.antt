-- The list of operations of a conversion. Steps that change nothing stand in it too.
use Rattle.std.specs.Prelude.{ℕ, ◌-◌, ◌^◌, Bool, not, ◌&&◌, if◌then◌else◌, nat_lt, nat_eq, List, [], ◌∷◌, ◌++◌, length, slice_index_or}
use Rattle.std.specs.Prelude.{Option, Some, None}
use Rattle.frac_math.specs.Fraction.{ℚ, nat, neg_ℚ, ◌/ℚ◌, equal_ℚ}
use Rattle.pix_desc.specs.declared.desc.Desc.{Desc}
use Rattle.pix_desc.specs.Component.{component_of}
use Rattle.pix_desc.specs.Layouts.{is_elements}
use Rattle.colour_matrix.specs.declared.class.Levels.{Levels}
use Rattle.colour_matrix.specs.Values.{coefficient, row_at}
use Rattle.colour_matrix.specs.Colour.{to_rgb_rows, from_rgb_rows}
use Rattle.pix_meaning.specs.declared.pair.Side.{Side}
use Rattle.pix_meaning.specs.declared.pair.Pair.{Pair}
use Rattle.pix_meaning.specs.Pairs.{is_rgb, has_channel, component_at, channel_of}
use Rattle.pix_meaning.specs.Channels.{channel_depth, channel_levels, missing_code}
use Rattle.op_list.specs.declared.types.PixType.TheVariants.{U8, Rat}
use Rattle.op_list.specs.declared.op.Op.{Op}
use Rattle.op_list.specs.declared.op.Op.TheVariants.{Read, Write, SwapBytes, Unpack, Pack, Clear, LeftShift, RightShift, Swizzle, Convert}
use Rattle.op_list.specs.declared.op.Op.TheVariants.{Dither, Linear, Scale, Min, Max}
use Rattle.op_list.specs.Types.{bits}
use Rattle.op_list.specs.Values.{four}
use Rattle.pix_desc.specs.Shape.{element_counts, field_widths, slots, position_of}
use Rattle.op_build.specs.ElementType.{element_type, is_swapped}

-- an operation, where there is need of it
abbrev pub only_if : Bool → Op → List Op
only_if needed op = if needed then op ∷ [] else []

-- ---- from the elements of a source pixel to the codes of its channels

-- the fields of a word; of an element the bits of its component: those above them go out at the top, those below at the bottom
abbrev pub split : Desc → List Op
split desc =
    let c = component_of desc 0 in
    let size = bits (element_type desc) in
    if is_elements desc then LeftShift (size - c.shift - c.depth) ∷ RightShift (size - c.depth) ∷ []
    else Unpack (field_widths desc) ∷ []

-- channel c is taken from its component's position, and from position c where it is missing
abbrev pub channel_slots : Desc → List ℕ
channel_slots desc = four (λ c. if has_channel desc c then position_of desc (component_at desc c) else c)

abbrev pub missing_codes : Desc → List (Option ℚ)
missing_codes desc = four (λ c. if has_channel desc c then None else Some (nat (missing_code desc c)))

unfoldable pub decode : Desc → List Op
decode desc =
    if desc.palette then Read U8 (1 ∷ 0 ∷ 0 ∷ 0 ∷ []) Bool.true ∷ Clear (missing_codes desc) ∷ []
    else Read (element_type desc) (element_counts desc) Bool.false
    ∷ only_if (is_swapped desc) SwapBytes ++ split desc ++ Swizzle (channel_slots desc) ∷ Clear (missing_codes desc) ∷ []

-- ---- from the codes of a source pixel to those of a target pixel, not yet rounded

-- all four scales are equal, and all bases are 0
abbrev pub are_plain : (ℕ → Levels) → Bool
are_plain l =
    equal_ℚ (l 1).scale (l 0).scale && equal_ℚ (l 2).scale (l 0).scale && equal_ℚ (l 3).scale (l 0).scale
    && equal_ℚ (l 0).base (nat 0) && equal_ℚ (l 1).base (nat 0) && equal_ℚ (l 2).base (nat 0) && equal_ℚ (l 3).base (nat 0)

-- a row of Linear: its coefficient j, and its constant
abbrev pub linear_row : (ℕ → ℚ) → ℚ → List ℚ
linear_row at constant = at 0 ∷ at 1 ∷ at 2 ∷ at 3 ∷ constant ∷ []

-- one coefficient and one constant for each value
abbrev pub diagonal : (ℕ → ℚ) → (ℕ → ℚ) → List (List ℚ)
diagonal scale constant = four (λ i. linear_row (λ j. if nat_eq i j then scale i else nat 0) (constant i))

-- rows over the first three values; the fourth stays
abbrev pub over_three : List (List ℚ) → List (List ℚ)
over_three rows = four (λ i. linear_row (λ j.
    if nat_eq i 3 then (if nat_eq j 3 then nat 1 else nat 0) else (if nat_eq j 3 then nat 0 else coefficient (row_at rows i) j)) (nat 0))

-- codes to values by the levels of the channels: value = code / scale - base / scale
abbrev pub from_codes_by : (ℕ → Levels) → Op
from_codes_by l =
    if are_plain l then Scale (nat 1 /ℚ (l 0).scale) else Linear
    (diagonal (λ c. nat 1 /ℚ (l c).scale) (λ c. neg_ℚ (l c).base /ℚ (l c).scale))

unfoldable pub from_codes : Side → Op
from_codes side = from_codes_by (channel_levels side)

-- values to codes: code = scale * value + base
abbrev pub to_codes_by : (ℕ → Levels) → Op
to_codes_by l = if are_plain l then Scale (l 0).scale else Linear (diagonal (λ c. (l c).scale) (λ c. (l c).base))

unfoldable pub to_codes : Side → Op
to_codes side = to_codes_by (channel_levels side)

-- a limit for each channel of a format
abbrev pub limits : Desc → (ℕ → ℚ) → List (Option ℚ)
limits desc limit = four (λ c. if has_channel desc c then Some (limit c) else None)

unfoldable pub convert : Pair → List Op
convert pair =
    Convert Rat Bool.false ∷ from_codes pair.from
    ∷ only_if (not (is_rgb pair.from.desc)) (Linear (over_three (to_rgb_rows pair.from.matrix)))
    ++ only_if (not (is_rgb pair.to.desc)) (Linear (over_three (from_rgb_rows pair.to.matrix)))
    ++ to_codes pair.to ∷ Dither pair.dither
    ∷ Max (limits pair.to.desc (λ c. nat 0)) ∷ Min (limits pair.to.desc (λ c. nat (2 ^ channel_depth pair.to.desc c - 1))) ∷ []

-- ---- from the codes of a target pixel to its elements

-- a position takes the channel of its component; a spare position and one that is not there take what stands at that position
abbrev pub source_of : Desc → ℕ → Option ℕ → ℕ
source_of desc p None = p
source_of desc p (Some j) = channel_of desc j

abbrev pub slot_channels : Desc → List ℕ
slot_channels desc = four (λ p. source_of desc p (slice_index_or (slots desc) p None))

-- 0 for the spare positions that are there
abbrev pub spare_zero : Desc → ℕ → Option ℕ → Option ℚ
spare_zero desc p (Some j) = None
spare_zero desc p None = if nat_lt p (length (slots desc)) then Some (nat 0) else None

abbrev pub spare_zeros : Desc → List (Option ℚ)
spare_zeros desc = four (λ p. spare_zero desc p (slice_index_or (slots desc) p None))

unfoldable pub encode : Desc → List Op
encode desc =
    Convert (element_type desc) Bool.false ∷ Swizzle (slot_channels desc) ∷ Clear (spare_zeros desc)
    ∷ (if is_elements desc then LeftShift (component_of desc 0).shift else Pack (field_widths desc))
    ∷ only_if (is_swapped desc) SwapBytes ++ Write (element_type desc) (element_counts desc) ∷ []

-- the whole list
unfoldable pub recipe : Pair → List Op
recipe pair = decode pair.from.desc ++ convert pair ++ encode pair.to.desc
