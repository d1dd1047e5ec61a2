-- What each kernel makes of one number.
use Rattle.std.specs.Prelude.{ℕ, ◌+◌, ◌*◌, ◌/◌, ◌%◌, ◌^◌, ◌≤◌, ℤ, ◌+ℤ◌, ◌*ℤ◌}
use Rattle.std.specs.Int.{int_min, int_max, int_div_euclid}

-- how many elements a kernel may work on at a time; the usual numbers are 8, 16 and 32
abbrev pub IsLaneCount : ℕ → Type 0
IsLaneCount n = (1 ≤ n) × (n ≤ 64)

-- the number of 16 bits with its two bytes exchanged
unfoldable pub swapped_16 : ℕ → ℕ
swapped_16 x = x % 256 * 256 + x / 256

-- the number of 32 bits with its four bytes in the other order
unfoldable pub swapped_32 : ℕ → ℕ
swapped_32 x = x % 256 * 2 ^ 24 + x / 256 % 256 * 2 ^ 16 + x / 2 ^ 16 % 256 * 256 + x / 2 ^ 24

-- the number moved up by n bits, of so many bits
unfoldable pub left_shifted : ℕ → ℕ → ℕ → ℕ
left_shifted bits n x = x * 2 ^ n % 2 ^ bits

-- the number moved down by n bits
unfoldable pub right_shifted : ℕ → ℕ → ℕ
right_shifted n x = x / 2 ^ n

-- the number of 16 bits that is as far between 0 and its greatest as this one of 8 bits
unfoldable pub expanded : ℕ → ℕ
expanded x = 257 * x

-- a sum with one more product
unfoldable pub with_product : ℤ → ℤ → ℤ → ℤ
with_product sum from k = sum +ℤ k *ℤ from

-- the greatest whole number that is not above x/d, for a positive d
unfoldable pub floor_quotient : ℤ → ℤ → ℤ
floor_quotient x d = int_div_euclid x d

-- the number from `least` to `greatest` that is nearest to x
unfoldable pub nearest : ℤ → ℤ → ℤ → ℤ
nearest least greatest x = int_max least (int_min x greatest)
