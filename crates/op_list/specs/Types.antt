-- Types of values, and where a list stands.
use Rattle.std.specs.Prelude.{ℕ, ◌/◌, Bool, true, false}
use Rattle.op_list.specs.declared.types.PixType.{PixType}
use Rattle.op_list.specs.declared.types.PixType.TheVariants.{U8, U16, U32, Rat}
use Rattle.op_list.specs.declared.types.Stage.{Stage}
use Rattle.op_list.specs.declared.types.Stage.TheVariants.{Start, Typed}

-- the bits of a whole type; fractions have none
abbrev pub bits : PixType → ℕ
bits U8 = 8
bits U16 = 16
bits U32 = 32
bits Rat = 0

-- the bytes of an element of a frame
abbrev pub bytes : PixType → ℕ
bytes elem = bits elem / 8

abbrev pub is_whole_type : PixType → Bool
is_whole_type Rat = false
is_whole_type _ = true

abbrev pub is_same : PixType → PixType → Bool
is_same U8 U8 = true
is_same U16 U16 = true
is_same U32 U32 = true
is_same Rat Rat = true
is_same _ _ = false

-- nothing is there yet
abbrev pub is_start : Stage → Bool
is_start Start = true
is_start _ = false

-- the values have a type
abbrev pub is_typed : Stage → Bool
is_typed (Typed elem) = true
is_typed _ = false

-- the values have this type
abbrev pub has_type : PixType → Stage → Bool
has_type elem (Typed other) = is_same elem other
has_type elem _ = false

-- the values are whole numbers
abbrev pub is_whole : Stage → Bool
is_whole (Typed elem) = is_whole_type elem
is_whole _ = false

-- the values have several bytes
abbrev pub is_wide : Stage → Bool
is_wide (Typed U16) = true
is_wide (Typed U32) = true
is_wide _ = false

-- the values are fractions
abbrev pub is_rational : Stage → Bool
is_rational (Typed Rat) = true
is_rational _ = false

abbrev pub bits_at : Stage → ℕ
bits_at (Typed elem) = bits elem
bits_at _ = 0
