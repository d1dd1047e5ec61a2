-- The floor of a value that is kept within the codes of a depth.
use Rattle.std.proofs.Common.{◌≡◌, ℕ, ◌-◌, ◌^◌, ℤ, pos, negsuc, ◌≤ℤ◌, Some, refl, sym, ap, ◌∙◌, arith}
use Rattle.std.specs.Int.{int_min, int_max}
use Rattle.std.proofs.lemmas.Int.{ints, clamps}
use Rattle.frac_math.specs.Fraction.{ℚ, nat, whole, floor, min_ℚ, max_ℚ}
use Rattle.frac_math.proofs.Floor.{floor_min, floor_max}
use Rattle.pix_desc.specs.Component.{count_of}
use Rattle.pix_meaning.specs.Target.{clamped}
use Rattle.op_list.specs.Apply.{at_most, at_least}

-- a number that is not below 0 comes back from its count
pos-count : (z : ℤ) → pos 0 ≤ℤ z → pos (count_of z) ≡ z
pos-count (pos k) h = refl
pos-count (negsuc k) h = absurd (omega (arith, ints))

clamped_not_negative : (z : ℤ) (n : ℕ) → pos 0 ≤ℤ int_min (int_max z (pos 0)) (pos n)
clamped_not_negative z n = omega (arith, ints, clamps)

-- to limit before the floor is to limit after it
pub limits_before_floor : (x : ℚ) (least most : ℤ)
    → floor (min_ℚ (max_ℚ x (whole least)) (whole most)) ≡ int_min (int_max (floor x) least) most
limits_before_floor x least most = floor_min (max_ℚ x (whole least)) most ∙ ap (λ z. int_min z most) (floor_max x least)

-- so a value that is limited to the codes of a depth has the clamped floor
pub floor_limited : (x : ℚ) (depth : ℕ)
    → floor (at_most (Some (nat (2 ^ depth - 1))) (at_least (Some (nat 0)) x)) ≡ pos (clamped depth (floor x))
unfolding clamped
floor_limited x depth =
    limits_before_floor x (pos 0) (pos (2 ^ depth - 1))
    ∙ sym (pos-count (int_min (int_max (floor x) (pos 0)) (pos (2 ^ depth - 1))) (clamped_not_negative (floor x) (2 ^ depth - 1)))
