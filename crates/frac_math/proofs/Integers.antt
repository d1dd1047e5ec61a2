-- The whole numbers as a ring, and what else products of them need.
use Rattle.std.proofs.Common.{◌≡◌, ◌*◌, ℤ, pos, negsuc, ◌+ℤ◌, ◌*ℤ◌, [], ◌∷◌, refl, ap, arith}
use lib.IntN.{neg_ℤ, +ℤ_assoc, +ℤ_comm, +ℤ_idr, *ℤ_comm, *ℤ-zero}
use borrow.Author.Differences.{up, down, product_is, sum_is_lem, same_in, neg_is}
use Rattle.frac_math.proofs.Ring.{Ring, var, ◌⊕◌, ◌⊗◌, ring}

pub mul_assoc_ℤ : (a b c : ℤ) → (a *ℤ b) *ℤ c ≡ a *ℤ (b *ℤ c)
mul_assoc_ℤ a b c =
    same_in _ _ (rw (
      (product_is (a *ℤ b) c).0,
      (product_is (a *ℤ b) c).1,
      (product_is a (b *ℤ c)).0,
      (product_is a (b *ℤ c)).1,
      (product_is a b).0,
      (product_is a b).1,
      (product_is b c).0,
      (product_is b c).1,
    ) (omega arith))

pub mul-add_ℤ : (a b c : ℤ) → a *ℤ (b +ℤ c) ≡ a *ℤ b +ℤ a *ℤ c
mul-add_ℤ a b c =
    same_in _ _ (omega (
      arith,
      product_is a (b +ℤ c),
      product_is a b,
      product_is a c,
      sum_is_lem (a *ℤ b) (a *ℤ c),
      ap (λ x. up a * x) (sum_is_lem b c),
      ap (λ x. down a * x) (sum_is_lem b c),
    ))

pub neg-is_ℤ : (a : ℤ) → neg_ℤ a ≡ negsuc 0 *ℤ a
neg-is_ℤ a = same_in _ _ (omega (arith, neg_is a, product_is (negsuc 0) a))

pub mul-one_ℤ : (a : ℤ) → a *ℤ pos 1 ≡ a
mul-one_ℤ a = same_in _ _ (omega (arith, product_is a (pos 1)))

abbrev pub ints_ring : Ring
ints_ring = record {
  carrier = ℤ;
  add = ◌+ℤ◌;
  mul = ◌*ℤ◌;
  neg = neg_ℤ;
  of = λ z. z;
  add_assoc = +ℤ_assoc;
  add_comm = +ℤ_comm;
  add-zero = +ℤ_idr;
  mul_assoc = mul_assoc_ℤ;
  mul_comm = *ℤ_comm;
  mul-one = mul-one_ℤ;
  mul-zero = *ℤ-zero;
  mul-add = mul-add_ℤ;
  neg_is = neg-is_ℤ;
  of-add = λ a b. refl;
  of-mul = λ a b. refl;
}

pub cross : (a c e b d f : ℤ) → ((a *ℤ d +ℤ c *ℤ b) *ℤ f +ℤ e *ℤ (b *ℤ d)) *ℤ (b *ℤ (d *ℤ f))
    ≡ (a *ℤ (d *ℤ f) +ℤ (c *ℤ f +ℤ e *ℤ d) *ℤ b) *ℤ (b *ℤ d *ℤ f)
cross a c e b d f =
    ring ints_ring (a ∷ c ∷ e ∷ b ∷ d ∷ f ∷ [])
    (((var 0 ⊗ var 4 ⊕ var 1 ⊗ var 3) ⊗ var 5 ⊕ var 2 ⊗ (var 3 ⊗ var 4)) ⊗ (var 3 ⊗ (var 4 ⊗ var 5)))
    ((var 0 ⊗ (var 4 ⊗ var 5) ⊕ (var 1 ⊗ var 5 ⊕ var 2 ⊗ var 4) ⊗ var 3) ⊗ (var 3 ⊗ var 4 ⊗ var 5)) refl
