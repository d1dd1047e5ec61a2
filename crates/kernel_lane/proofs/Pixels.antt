-- Where the bytes of pixels of C bytes stand.
use Rattle.std.proofs.Common.{◌≡◌, ℕ, ◌+◌, ◌*◌, ◌<◌, ◌≤◌, arith}
use Rattle.std.proofs.Math.Nat.{mul-le-mul_right}

pub pixel_before : (k i count e : ℕ) → k < i → e < count → k * count + e < i * count
pixel_before k i count e earlier few =
    let rows : (k + 1) * count ≤ i * count = mul-le-mul_right count (omega (arith, earlier)) in
    omega (arith, rows, few)

pub pixel_end : (i n count k : ℕ) → i < n → n * count ≤ k → i * count + count ≤ k
pixel_end i n count k within past =
    let rows : (i + 1) * count ≤ n * count = mul-le-mul_right count (omega (arith, within)) in
    omega (arith, rows, past)

pub pixel_behind : (first i count e : ℕ) → (first + i) * count + e ≡ first * count + (i * count + e)
pixel_behind first i count e = omega arith
