-- Numbers that a call gives and takes, as the program's clauses have them: each is cast to its bits and back.
use Rattle.std.proofs.Common.{◌≡◌, ℕ, ◌<◌, ℤ, pos, neg_ℤ, ◌+ℤ◌, ◌-ℤ◌, ◌*ℤ◌, ◌∙◌, ap, arith, unsigned_abs}
use Rattle.std.proofs.lemmas.Int.{ints, to_z-of_z}
use Rattle.std.specs.Int.RustNames.{FitsSigned}
use Rattle.std.specs.Int.{w128, cast_signed, cast_unsigned, IsNonZero, NotMinOverMinusOne}

-- a product of two results, as a call's clause has it
pub cast_product : (a b x y : ℤ) → FitsSigned w128 a → FitsSigned w128 b → a ≡ x → b ≡ y
    → cast_signed w128 (cast_unsigned w128 a) *ℤ cast_signed w128 (cast_unsigned w128 b) ≡ x *ℤ y
cast_product a b x y f g p q = let i = to_z-of_z w128 a f in let j = to_z-of_z w128 b g in cc

pub product_known : (a b z x y : ℤ) → FitsSigned w128 a → FitsSigned w128 b → a ≡ x → b ≡ y
    → z ≡ cast_signed w128 (cast_unsigned w128 a) *ℤ cast_signed w128 (cast_unsigned w128 b) → z ≡ x *ℤ y
product_known a b z x y f g p q e = e ∙ cast_product a b x y f g p q

pub sum_known : (a b z x y : ℤ) → FitsSigned w128 a → FitsSigned w128 b → a ≡ x → b ≡ y
    → z ≡ cast_signed w128 (cast_unsigned w128 a) +ℤ cast_signed w128 (cast_unsigned w128 b) → z ≡ x +ℤ y
sum_known a b z x y f g p q e = let i = to_z-of_z w128 a f in let j = to_z-of_z w128 b g in cc

-- a number with its sign turned, as a call is given it
pub negative_is : (z : ℤ) (n : ℕ) → FitsSigned w128 z → z ≡ pos n → pos 0 -ℤ cast_signed w128 (cast_unsigned w128 z) ≡ neg_ℤ (pos n)
negative_is z n f e = rw (to_z-of_z w128 z f, e) (omega (arith, ints))

-- the size of a result
pub abs_known : (r : ℕ) (z x : ℤ) → FitsSigned w128 z → z ≡ x → r ≡ unsigned_abs (cast_signed w128 (cast_unsigned w128 z))
    → r ≡ unsigned_abs x
abs_known r z x f p e = e ∙ ap unsigned_abs (to_z-of_z w128 z f ∙ p)

-- ---- division by a denominator
pub divisor_fits : (n : ℤ) (d : ℕ) → 0 < d → FitsSigned w128 (pos d) → IsNonZero w128 (pos d) × NotMinOverMinusOne w128 n (pos d)
divisor_fits n d h f = (h, λ e z. absurd (omega (arith, ints, f)))
