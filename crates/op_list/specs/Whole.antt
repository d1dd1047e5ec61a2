-- Arithmetic on the bits of whole numbers.
use Rattle.std.specs.Prelude.{ℕ, zero, suc, ◌+◌, ◌*◌, ◌/◌, ◌%◌, ◌^◌, List, drop, sum, slice_index, ℤ, unsigned_abs, pos}
use Rattle.std.specs.Int.{int_rem_euclid}

-- the number whose bytes, so many of them, are those of n in the other order
abbrev pub reversed_bytes : ℕ → ℕ → ℕ
reversed_bytes zero n = 0
reversed_bytes (suc count) n = n % 256 * 256 ^ count + reversed_bytes count (n / 256)

-- the bits below field i: the widths of the fields after it
abbrev pub bits_below : List ℕ → ℕ → ℕ
bits_below widths i = sum (drop (i + 1) widths)

-- field i of a number, where the first field has the most significant bits
abbrev pub field : List ℕ → ℕ → ℕ → ℕ
field widths n i = n / 2 ^ bits_below widths i % 2 ^ slice_index widths i

-- what a value adds to a number as its field i
abbrev pub placed : List ℕ → ℕ → ℕ → ℕ
placed widths value i = value % 2 ^ slice_index widths i * 2 ^ bits_below widths i

-- a whole number modulo m: from 0 to m - 1, for a negative one too
abbrev pub modulo : ℤ → ℕ → ℕ
modulo z m = unsigned_abs (int_rem_euclid z (pos m))
