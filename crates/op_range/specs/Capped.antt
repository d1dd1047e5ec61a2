-- Numbers of which only those below 2^126 are told apart.
use Rattle.std.specs.Prelude.{ℕ, ◌^◌, min, Bool, false, if◌then◌else◌, nat_lt, List, slice_index_or, Option, Some, None}
use Rattle.op_range.specs.declared.width.Width.{Width}
use Rattle.op_range.specs.Width.{width_of, size_in}

abbrev pub capped : ℕ → ℕ
capped n = min n (2 ^ 126)

abbrev pub below_cap : ℕ → Option ℕ
below_cap n = if nat_lt n (2 ^ 126) then Some n else None

-- a width whose denominator is below 2^126, with its sizes capped
abbrev pub capped_width : Width → Option Width
capped_width w = if nat_lt w.denominator (2 ^ 126) then Some (width_of w.denominator (λ i. capped (size_in w i))) else None

-- the number of the first of four flags that is true
abbrev pub first_true : List Bool → Option ℕ
first_true flags =
    if slice_index_or flags 0 false then Some 0 else
    (if slice_index_or flags 1 false then Some 1 else
    (if slice_index_or flags 2 false then Some 2 else (if slice_index_or flags 3 false then Some 3 else None)))
