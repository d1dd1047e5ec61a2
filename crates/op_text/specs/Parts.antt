-- The parts of a line: numbers, fractions, entries, rows.
use Rattle.std.specs.Prelude.{ℕ, Bool, nat_eq, if◌then◌else◌, List, [], ◌++◌, slice_index, Option, Some, None, codes, decimal}
use Rattle.std.specs.List.{list_all, range_with_len}
use Rattle.std.specs.Fmt.{signed_decimal}
use Rattle.frac_math.specs.Fraction.{ℚ}
use Rattle.op_list.specs.declared.types.PixType.{PixType}
use Rattle.op_list.specs.declared.types.PixType.TheVariants.{U8, U16, U32, Rat}
use Rattle.op_list.specs.Values.{fraction_in, entry}
use Rattle.op_list.specs.Apply.{row_of}
use Rattle.op_list.specs.Identity.{is_identity_row}

-- a type of values
abbrev pub type_text : PixType → List ℕ
type_text U8 = codes "u8"
type_text U16 = codes "u16"
type_text U32 = codes "u32"
type_text Rat = codes "rat"

-- the denominator behind a numerator; none where it is 1
abbrev pub denominator_text : ℕ → List ℕ
denominator_text n = if nat_eq n 1 then [] else codes "/" ++ decimal n

-- a fraction in lowest terms: n, or n/d, with - in front where it is negative
unfoldable pub fraction_text : ℚ → List ℕ
fraction_text x = signed_decimal x.numerator ++ denominator_text x.denominator

-- a number, and a fraction, behind a space
abbrev pub spaced_number : ℕ → List ℕ
spaced_number n = codes " " ++ decimal n

abbrev pub spaced_fraction : ℚ → List ℕ
spaced_fraction x = codes " " ++ fraction_text x

-- four numbers
unfoldable pub numbers_text : List ℕ → List ℕ
numbers_text ns =
    spaced_number (slice_index ns 0) ++ spaced_number (slice_index ns 1) ++ spaced_number (slice_index ns 2)
    ++ spaced_number (slice_index ns 3)

-- the entry of value i, where it is given: i=x
unfoldable pub entry_text : ℕ → Option ℚ → List ℕ
entry_text i None = []
entry_text i (Some x) = spaced_number i ++ codes "=" ++ fraction_text x

unfoldable pub entries_text : List (Option ℚ) → List ℕ
entries_text entries =
    entry_text 0 (entry entries 0) ++ entry_text 1 (entry entries 1) ++ entry_text 2 (entry entries 2)
    ++ entry_text 3 (entry entries 3)

-- the four coefficients of a row, and its constant
unfoldable pub coefficients_text : List ℚ → List ℕ
coefficients_text row =
    spaced_fraction (fraction_in row 0) ++ spaced_fraction (fraction_in row 1) ++ spaced_fraction (fraction_in row 2)
    ++ spaced_fraction (fraction_in row 3) ++ spaced_fraction (fraction_in row 4)

-- the rows before row i all give their values back, so that none of them is shown
abbrev pub is_first_shown : List (List ℚ) → ℕ → Bool
is_first_shown rows i = list_all (λ j. is_identity_row j (row_of rows j)) (range_with_len 0 i)

-- what stands before row i: a space before the first that is shown, a semicolon and a space before the others
abbrev pub separator : List (List ℚ) → ℕ → List ℕ
separator rows i = if is_first_shown rows i then codes " " else codes "; "

-- row i, where it does not give its value back: i: a b c d e
abbrev pub row_text : List (List ℚ) → ℕ → List ℕ
row_text rows i =
    if is_identity_row i (row_of rows i) then [] else separator rows i ++ decimal i ++ codes ":" ++ coefficients_text (row_of rows i)

unfoldable pub rows_text : List (List ℚ) → List ℕ
rows_text rows = row_text rows 0 ++ row_text rows 1 ++ row_text rows 2 ++ row_text rows 3
