-- The text of a list of operations: a line for each, ended by a newline.
use Rattle.std.specs.Prelude.{ℕ, Bool, true, false, List, [], ◌++◌, codes}
use Rattle.std.specs.List.{flat_map}
use Rattle.op_list.specs.declared.op.Op.{Op}
use Rattle.op_list.specs.declared.op.Op.TheVariants.{Read, Write, SwapBytes, Unpack, Pack, Clear, LeftShift, RightShift, Swizzle, Convert}
use Rattle.op_list.specs.declared.op.Op.TheVariants.{Dither, Linear, Scale, Min, Max}
use Rattle.op_text.specs.Parts.{type_text, spaced_number, spaced_fraction, numbers_text, entries_text, rows_text}
use Rattle.op_list.specs.declared.types.PixType.{PixType}

-- a Read through a palette has one form; another shows the type and the counts of elements of the planes
abbrev pub read_text : PixType → List ℕ → Bool → List ℕ
read_text elem planes true = codes "read pal8"
read_text elem planes false = codes "read " ++ type_text elem ++ numbers_text planes

abbrev pub expand_text : Bool → List ℕ
expand_text true = codes " expand"
expand_text false = []

-- the line of an operation, without its newline
unfoldable pub operation_text : Op → List ℕ
operation_text (Read elem planes palette) = read_text elem planes palette
operation_text (Write elem planes) = codes "write " ++ type_text elem ++ numbers_text planes
operation_text SwapBytes = codes "swap"
operation_text (Unpack widths) = codes "unpack" ++ numbers_text widths
operation_text (Pack widths) = codes "pack" ++ numbers_text widths
operation_text (Clear values) = codes "clear" ++ entries_text values
operation_text (LeftShift n) = codes "lshift" ++ spaced_number n
operation_text (RightShift n) = codes "rshift" ++ spaced_number n
operation_text (Swizzle from) = codes "swizzle" ++ numbers_text from
operation_text (Convert to expand) = codes "convert " ++ type_text to ++ expand_text expand
operation_text (Dither k) = codes "dither" ++ spaced_number k
operation_text (Linear rows) = codes "linear" ++ rows_text rows
operation_text (Scale by) = codes "scale" ++ spaced_fraction by
operation_text (Min limits) = codes "min" ++ entries_text limits
operation_text (Max limits) = codes "max" ++ entries_text limits

abbrev pub line_text : Op → List ℕ
line_text op = operation_text op ++ codes "\n"

-- the lines of all operations
abbrev pub text_of : List Op → List ℕ
text_of ops = flat_map line_text ops
