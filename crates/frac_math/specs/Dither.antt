-- The ordered dither: for each pixel a fraction between 0 and 1, by Bayer's index matrix of 2 by 2, applied k times (FFmpeg,
-- libswscale/format.c,
-- generate_bayer_matrix).
use Rattle.std.specs.Prelude.{ℕ, zero, suc, ◌+◌, ◌*◌, ◌/◌, ◌%◌, ◌^◌, pos}
use Rattle.frac_math.specs.Fraction.{ℚ, nat, over, ◌+ℚ◌}

-- the binary digit i of n, where digit 0 is the least
abbrev pub digit : ℕ → ℕ → ℕ
digit i n = n / 2 ^ i % 2

-- the number in the index matrix, in the column of one digit of x and the row of one digit of y
abbrev pub index : ℕ → ℕ → ℕ
index zero zero = 0
index (suc x) (suc y) = 1
index (suc x) zero = 2
index zero (suc y) = 3

-- the sum of the numbers of the digits i below k, each over 4 ^ (i + 1)
abbrev pub index_sum : ℕ → ℕ → ℕ → ℚ
index_sum zero x y = nat 0
index_sum (suc i) x y = index_sum i x y +ℚ over (pos (index (digit i x) (digit i y))) (4 ^ (i + 1))

-- the middle of the interval of 1 / 4 ^ k that begins at that sum
unfoldable pub dither_at : ℕ → ℕ → ℕ → ℚ
dither_at k x y = index_sum k x y +ℚ over (pos 1) (2 * 4 ^ k)
