-- Products of short factors: with k times a number where k is not above 0, and by way of k with a number added.
use Rattle.std.proofs.Common.{◌≡◌, ℕ, suc, ◌*◌, ◌^◌, ℤ, pos, negsuc, ◌+ℤ◌, ◌-ℤ◌, ◌*ℤ◌, [], ◌∷◌, ap, ◌∙◌, refl, arith}
use Rattle.std.specs.Prelude.{◌≤ℤ◌, unsigned_abs}
use Rattle.std.proofs.Math.IntN.{negsuc-*ℤ-pos}
use Rattle.std.proofs.lemmas.Int.{ints}
use Rattle.frac_math.proofs.Ring.{ring, var, ◌⊕◌, ◌⊖◌, ◌⊗◌}
use Rattle.frac_math.proofs.Integers.{ints_ring}
use Rattle.kernel_step.specs.Rules.{with_product}

product_below : (k : ℤ) (m n : ℕ) → pos m ≡ pos 0 -ℤ k → k *ℤ pos n ≡ pos 0 -ℤ pos (m * n)
product_below (pos j) m n is =
    let none : j ≡ 0 = omega (arith, ints, is) in
    let also : m ≡ 0 = omega (arith, ints, is) in
    let product : 0 * n ≡ 0 = omega arith in
    rw (none, also, product) refl
product_below (negsuc j) m n is =
    let more : m ≡ suc j = omega (arith, ints, is) in
    let product = negsuc-*ℤ-pos j n in
    rw more (omega (arith, ints, product))

pub lowered_is : (s x k : ℤ) (m : ℕ) → pos m ≡ pos 0 -ℤ k → pos 0 ≤ℤ x → s -ℤ pos (m * unsigned_abs x) ≡ with_product s x k
unfolding with_product
lowered_is s (pos n) k m is some = omega (arith, ints, product_below k m n is)
lowered_is s (negsuc n) k m is some = absurd (omega (arith, ints, some))

-- the product with k + c less that with c
above_less : (k : ℤ) (m c n : ℕ) → pos m ≡ k +ℤ pos c → pos (m * n) -ℤ pos (c * n) ≡ k *ℤ pos n
above_less k m c n is =
    ap (λ t. t *ℤ pos n -ℤ pos (c * n)) is
    ∙ ring ints_ring (k ∷ pos c ∷ pos n ∷ []) ((var 0 ⊕ var 1) ⊗ var 2 ⊖ var 1 ⊗ var 2) (var 0 ⊗ var 2) refl

pub signed_is : (k x : ℤ) (m : ℕ) → pos m ≡ k +ℤ pos (2 ^ 31) → pos 0 ≤ℤ x
    → pos (m * unsigned_abs x) -ℤ pos (2 ^ 31 * unsigned_abs x) ≡ k *ℤ x
signed_is k (pos n) m is some = above_less k m (2 ^ 31) n is
signed_is k (negsuc n) m is some = absurd (omega (arith, ints, some))
