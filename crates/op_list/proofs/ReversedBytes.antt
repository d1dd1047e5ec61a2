-- The size of a number whose bytes are in the other order.
use Rattle.std.proofs.Common.{◌≡◌, ℕ, zero, suc, ◌+◌, ◌*◌, ◌/◌, ◌%◌, ◌^◌, ◌<◌, refl, ap, arith}
use Rattle.std.proofs.lemmas.Nat.{pow-add, mul-add-lt}
use Rattle.std.proofs.Math.Nat.{pow-suc}
use Rattle.op_list.specs.Whole.{reversed_bytes}

pub power_of_bytes : (count : ℕ) → 256 ^ count ≡ 2 ^ (8 * count)
power_of_bytes zero = refl
power_of_bytes (suc count) =
    let more : 256 ^ suc count ≡ 256 ^ count * 256 = pow-suc 256 count in
    let bits : 8 * suc count ≡ 8 * count + 8 = omega arith in
    omega (arith, power_of_bytes count, ap (λ k. 2 ^ k) bits, pow-add 2 (8 * count) 8)

pub reversed_bytes-below : (count n : ℕ) → reversed_bytes count n < 256 ^ count
reversed_bytes-below zero n = omega arith
reversed_bytes-below (suc count) n =
    omega (
      arith,
      pow-suc 256 count,
      mul-add-lt (n % 256) (256 ^ count) (reversed_bytes count (n / 256)) 256 (omega arith)
          (reversed_bytes-below count (n / 256)),
    )
