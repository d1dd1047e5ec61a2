-- What the numbers of a conversion ask for, and the first fault among them; the range that a format has.
use Rattle.std.specs.Prelude.{ℕ, Bool, ◌&&◌, ◌||◌, not, nat_eq, nat_lt, if◌then◌else◌, Result, Ok, Err}
use Rattle.colour_matrix.specs.declared.class.Range.{Range}
use Rattle.colour_matrix.specs.declared.class.Range.TheVariants.{Full, Limited}
use Rattle.colour_matrix.specs.declared.matrix.Matrix.{Matrix}
use Rattle.colour_matrix.specs.Matrix.{bt601, bt709, bt2020, smpte240m, fcc}
use Rattle.desc_table.specs.Format.{desc_of, format_count}
use Rattle.pix_meaning.specs.declared.pair.Side.{Side}
use Rattle.pix_meaning.specs.declared.pair.Pair.{Pair}
use Rattle.y4m_io.specs.DefaultRange.{default_range}
use Rattle.frame_calls.specs.declared.refusal.Refusal.{Refusal}
use Rattle.frame_calls.specs.declared.refusal.Refusal.TheVariants as refusal
use Rattle.frame_calls.specs.declared.conversion.ConversionSide.{ConversionSide}
use Rattle.frame_calls.specs.declared.conversion.Conversion.{Conversion}

-- 0 is full, and 1 is limited
abbrev pub range_of : ℕ → Range
range_of number = if nat_eq number 0 then Full else Limited

-- the number of a range
abbrev pub range_number : Range → ℕ
range_number Full = 0
range_number Limited = 1

-- the matrix of a side's three numbers
abbrev pub matrix_of : ConversionSide → Matrix
matrix_of side = record { q = side.q; r = side.r; b = side.b }

-- the side that a side's numbers ask for
abbrev pub side_of : ConversionSide → Side
side_of side = record { desc = desc_of side.format; matrix = matrix_of side; range = range_of side.range }

-- the pair that a conversion's numbers ask for
abbrev pub pair_of : Conversion → Pair
pair_of conversion = record { from = side_of conversion.from; to = side_of conversion.to; dither = conversion.dither }

-- whether two matrices have the same three numbers
abbrev pub has_parts : Matrix → Matrix → Bool
has_parts matrix other = nat_eq matrix.q other.q && (nat_eq matrix.r other.r && nat_eq matrix.b other.b)

-- whether a matrix is one of the five that have names
abbrev pub is_named : Matrix → Bool
is_named matrix =
    has_parts matrix bt601 || (has_parts matrix bt709 || (has_parts matrix bt2020 || (has_parts matrix smpte240m || has_parts matrix fcc)))

-- whether both formats are rows of the table
abbrev pub has_formats : Conversion → Bool
has_formats conversion = nat_lt conversion.from.format format_count && nat_lt conversion.to.format format_count

-- whether both matrices have names
abbrev pub has_matrices : Conversion → Bool
has_matrices conversion = is_named (matrix_of conversion.from) && is_named (matrix_of conversion.to)

-- whether both ranges are 0 or 1
abbrev pub has_ranges : Conversion → Bool
has_ranges conversion = nat_lt conversion.from.range 2 && nat_lt conversion.to.range 2

-- the pair that is asked for, or the first fault of the numbers, in the order of the refusals
unfoldable pub pair_asked : Conversion → Result Pair Refusal
pair_asked conversion =
    if not (has_formats conversion) then Err refusal.Format else (
    if (desc_of conversion.to.format).palette then Err refusal.PaletteTarget else (
    if not (has_matrices conversion) then Err refusal.Matrix else (
    if not (has_ranges conversion) then Err refusal.Range else (
    if nat_lt 4 conversion.dither then Err refusal.Dither else Ok (pair_of conversion)))))

-- the number of the range that a format has where nothing else is said, or the first fault
unfoldable pub range_asked : ℕ → Result ℕ Refusal
range_asked format = if not (nat_lt format format_count) then Err refusal.Format else Ok (range_number (default_range format))
