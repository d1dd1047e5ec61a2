-- The fractions are a commutative ring with inverses.
use Rattle.std.proofs.Common.{subst, ◌≡◌, ℕ, zero, suc, ◌+◌, ◌*◌, ◌/◌, ◌<◌, ◌≤◌, Bool, true, false, ◌&&◌, eqb, eqb-true, T, ℤ, pos, negsuc}
use Rattle.std.proofs.Common.{◌+ℤ◌, ◌*ℤ◌, neg_ℤ, [], ◌∷◌, refl, sym, ◌∙◌, ap, arith}
use Rattle.std.proofs.lemmas.Int.{ints, unsigned_abs-mul}
use Rattle.std.specs.Int.RustNames.{int_div}
use lib.IntN.{nat_abs}
use lib.Dec.{T_prop}
use Rattle.std.specs.Ordering.{int_eq}
use Rattle.std.proofs.lemmas.Bool.Decides.{Decides-int_eq}
use borrow.Author.Differences.{up, down, product_is, same_in, same_out}
use mathlib.Core.HLevel.{is_prop→PathP}
use Prim.Native.Nat.{◌∣◌}
use Rattle.std.proofs.lemmas.Nat.Gcd.{le_of_dvd}
use native.Mathlib.Nat.{dvd-mul_left, mul-le-mul_left, le_of_mul-le-mul_right, div-mul_cancel, eq_of_mul-eq-mul_right, zero-lt-suc}
use Rattle.frac_math.specs.Gcd.{gcd, is_lowest}
use Rattle.frac_math.specs.LowestTerms.{gcd-is}
use Rattle.frac_math.proofs.Euclid.{lowest_positive, lowest_one, same_pair, divides_other}
use Rattle.frac_math.specs.Fraction.{ℚ, whole, over, ◌+ℚ◌, ◌*ℚ◌, neg_ℚ, ratio, inverse, ◌/ℚ◌, equal_ℚ}
use Rattle.frac_math.specs.Standing.{Stands}
use Rattle.frac_math.specs.Equality.{equal_equivalence}
use Rattle.frac_math.proofs.Ring.{Ring, var, num, ◌⊕◌, ◌⊗◌, minus, ring, ring_from, done, by}
use Rattle.frac_math.proofs.Integers.{ints_ring}

pub and_left : (a b : Bool) → (a && b) ≡ true → a ≡ true
and_left true b h = refl
and_left false b h = h

pub and_right : (a b : Bool) → (a && b) ≡ true → b ≡ true
and_right true b h = h
and_right false b h = absurd (cc)

-- ---- the numbers that a fraction stands for
pub denominator_positive : (x : ℚ) → 0 < x.denominator
denominator_positive x = lowest_positive x.numerator x.denominator x.lowest

pub same_fields : (x y : ℚ) → x.numerator ≡ y.numerator → x.denominator ≡ y.denominator → x ≡ y
same_fields x y p q = λ i. record {
  numerator = p i;
  denominator = q i;
  lowest =
      is_prop→PathP (λ j. T (is_lowest (p j) (q j))) (λ j. T_prop (is_lowest (p j) (q j))) x.lowest y.lowest i;
}

pub cancel_ℤ : (a b : ℤ) (c : ℕ) → 0 < c → a *ℤ pos c ≡ b *ℤ pos c → a ≡ b
cancel_ℤ a b c h e =
    same_in a b (eq_of_mul-eq-mul_right c h (up a + down b) (up b + down a)
    (omega (arith, same_out (a *ℤ pos c) (b *ℤ pos c) e, product_is a (pos c), product_is b (pos c))))

part_mul_ℕ : (a d g : ℕ) → a / g * g ≡ a → d / g * g ≡ d → a / g * d ≡ a * (d / g)
part_mul_ℕ a d g p q = omega (arith, ap (λ x. a / g * x) q, ap (λ x. x * (d / g)) p)

pub part_mul : (n : ℤ) (d g : ℕ) → nat_abs n / g * g ≡ nat_abs n → d / g * g ≡ d → int_div n (pos g) *ℤ pos d ≡ n *ℤ pos (d / g)
part_mul (pos a) d g p q = ap pos (part_mul_ℕ a d g p q)
part_mul (negsuc a) d g p q =
    ring_from ints_ring (pos (suc a / g) ∷ pos d ∷ pos (suc a) ∷ pos (d / g) ∷ []) (minus (var 0) ⊗ var 1) (minus (var 2) ⊗ var 3)
    (by (num (negsuc 0)) (var 0 ⊗ var 1) (var 2 ⊗ var 3) done) (ap pos (part_mul_ℕ (suc a) d g p q), tt) refl

pub over_stands : (n : ℤ) (d : ℕ) → 0 < d → Stands (over n d) n d
unfolding over
over_stands n zero h = absurd (omega arith)
over_stands n (suc d) h = record {
  positive = h;
  cross =
      part_mul n (suc d) (gcd (nat_abs n) (suc d)) (div-mul_cancel (gcd (nat_abs n) (suc d)) (gcd-is (nat_abs n) (suc d)).0)
      (div-mul_cancel (gcd (nat_abs n) (suc d)) (gcd-is (nat_abs n) (suc d)).1);
}

pub itself : (x : ℚ) → Stands x x.numerator x.denominator
itself x = record { positive = denominator_positive x; cross = refl }

pub product_positive : (a b : ℕ) → 0 < a → 0 < b → 0 < a * b
product_positive a b p q = grind arith

pub cross_same : (x y : ℚ) → x.numerator *ℤ pos y.denominator ≡ y.numerator *ℤ pos x.denominator → x ≡ y
cross_same x y e =
    let p = denominator_positive x in
    let q = denominator_positive y in
    let dens : x.denominator ≡ y.denominator =
    same_pair (nat_abs x.numerator) x.denominator (nat_abs y.numerator) y.denominator p q
    (lowest_one x.numerator x.denominator x.lowest) (lowest_one y.numerator y.denominator y.lowest)
    (sym (unsigned_abs-mul x.numerator (pos y.denominator)) ∙ ap nat_abs e ∙ unsigned_abs-mul y.numerator (pos x.denominator)) in
    same_fields x y (cancel_ℤ x.numerator y.numerator y.denominator q (e ∙ ap (λ d. y.numerator *ℤ pos d) dens)) dens

-- two fractions are the same exactly where their cross products are
pub same : (x y : ℚ) (n m : ℤ) (d e : ℕ) → Stands x n d → Stands y m e → n *ℤ pos e ≡ m *ℤ pos d → x ≡ y
same x y n m d e s t h =
    cross_same x y (cancel_ℤ (x.numerator *ℤ pos y.denominator) (y.numerator *ℤ pos x.denominator) (d * e)
    (product_positive d e s.positive t.positive)
    (ring_from ints_ring (x.numerator ∷ y.numerator ∷ n ∷ m ∷ pos x.denominator ∷ pos y.denominator ∷ pos d ∷ pos e ∷ [])
    (var 0 ⊗ var 5 ⊗ (var 6 ⊗ var 7)) (var 1 ⊗ var 4 ⊗ (var 6 ⊗ var 7))
    (by (var 5 ⊗ var 7) (var 0 ⊗ var 6) (var 2 ⊗ var 4)
    (by (minus (var 4 ⊗ var 6)) (var 1 ⊗ var 7) (var 3 ⊗ var 5) (by (var 4 ⊗ var 5) (var 2 ⊗ var 7) (var 3 ⊗ var 6) done)))
    (s.cross, (t.cross, (h, tt))) refl))

pub change : (x : ℚ) (n m : ℤ) (d e : ℕ) → Stands x n d → 0 < e → n *ℤ pos e ≡ m *ℤ pos d → Stands x m e
change x n m d e s p h = record {
  positive = p;
  cross = cancel_ℤ (x.numerator *ℤ pos e) (m *ℤ pos x.denominator) d s.positive
      (ring_from ints_ring (x.numerator ∷ n ∷ m ∷ pos x.denominator ∷ pos d ∷ pos e ∷ [])
      (var 0 ⊗ var 5 ⊗ var 4) (var 2 ⊗ var 3 ⊗ var 4)
      (by (var 5) (var 0 ⊗ var 4) (var 1 ⊗ var 3) (by (var 3) (var 1 ⊗ var 5) (var 2 ⊗ var 4) done))
      (s.cross, (h, tt)) refl);
}

-- over one denominator, only one numerator
pub same_numerator : (x : ℚ) (n m : ℤ) (d : ℕ) → Stands x n d → Stands x m d → n ≡ m
same_numerator x n m d s t = cancel_ℤ n m x.denominator (denominator_positive x) (sym s.cross ∙ t.cross)

-- ---- what each operation does to n/d and m/e
pub add_stands : (x y : ℚ) (n m : ℤ) (d e : ℕ) → Stands x n d → Stands y m e → Stands (x +ℚ y) (n *ℤ pos e +ℤ m *ℤ pos d) (d * e)
unfolding ◌+ℚ◌
add_stands x y n m d e s t =
    change (x +ℚ y) _ _ _ _ (over_stands (x.numerator *ℤ pos y.denominator +ℤ y.numerator *ℤ pos x.denominator)
    (x.denominator * y.denominator) (product_positive x.denominator y.denominator (denominator_positive x) (denominator_positive y)))
    (product_positive d e s.positive t.positive)
    (ring_from ints_ring (x.numerator ∷ y.numerator ∷ n ∷ m ∷ pos x.denominator ∷ pos y.denominator ∷ pos d ∷ pos e ∷ [])
    ((var 0 ⊗ var 5 ⊕ var 1 ⊗ var 4) ⊗ (var 6 ⊗ var 7)) ((var 2 ⊗ var 7 ⊕ var 3 ⊗ var 6) ⊗ (var 4 ⊗ var 5))
    (by (var 5 ⊗ var 7) (var 0 ⊗ var 6) (var 2 ⊗ var 4) (by (var 4 ⊗ var 6) (var 1 ⊗ var 7) (var 3 ⊗ var 5) done))
    (s.cross, (t.cross, tt)) refl)

pub mul_stands : (x y : ℚ) (n m : ℤ) (d e : ℕ) → Stands x n d → Stands y m e → Stands (x *ℚ y) (n *ℤ m) (d * e)
unfolding ◌*ℚ◌
mul_stands x y n m d e s t =
    change (x *ℚ y) _ _ _ _ (over_stands (x.numerator *ℤ y.numerator) (x.denominator * y.denominator)
    (product_positive x.denominator y.denominator (denominator_positive x) (denominator_positive y)))
    (product_positive d e s.positive t.positive)
    (ring_from ints_ring (x.numerator ∷ y.numerator ∷ n ∷ m ∷ pos x.denominator ∷ pos y.denominator ∷ pos d ∷ pos e ∷ [])
    (var 0 ⊗ var 1 ⊗ (var 6 ⊗ var 7)) (var 2 ⊗ var 3 ⊗ (var 4 ⊗ var 5))
    (by (var 1 ⊗ var 7) (var 0 ⊗ var 6) (var 2 ⊗ var 4) (by (var 2 ⊗ var 4) (var 1 ⊗ var 7) (var 3 ⊗ var 5) done))
    (s.cross, (t.cross, tt)) refl)

pub neg_stands : (x : ℚ) (n : ℤ) (d : ℕ) → Stands x n d → Stands (neg_ℚ x) (neg_ℤ n) d
unfolding neg_ℚ
neg_stands x n d s =
    change (neg_ℚ x) _ _ _ _ (over_stands (neg_ℤ x.numerator) x.denominator (denominator_positive x)) s.positive
    (ring_from ints_ring (x.numerator ∷ n ∷ pos x.denominator ∷ pos d ∷ []) (minus (var 0) ⊗ var 3) (minus (var 1) ⊗ var 2)
    (by (num (negsuc 0)) (var 0 ⊗ var 3) (var 1 ⊗ var 2) done) (s.cross, tt) refl)

-- ---- the fractions are a ring
pub add_assoc : (x y z : ℚ) → (x +ℚ y) +ℚ z ≡ x +ℚ (y +ℚ z)
add_assoc x y z =
    same _ _ _ _ _ _ (add_stands _ _ _ _ _ _ (add_stands _ _ _ _ _ _ (itself x) (itself y)) (itself z))
    (add_stands _ _ _ _ _ _ (itself x) (add_stands _ _ _ _ _ _ (itself y) (itself z)))
    (ring ints_ring (x.numerator ∷ pos x.denominator ∷ y.numerator ∷ pos y.denominator ∷ z.numerator ∷ pos z.denominator ∷ [])
    (((var 0 ⊗ var 3 ⊕ var 2 ⊗ var 1) ⊗ var 5 ⊕ var 4 ⊗ (var 1 ⊗ var 3)) ⊗ (var 1 ⊗ (var 3 ⊗ var 5)))
    ((var 0 ⊗ (var 3 ⊗ var 5) ⊕ (var 2 ⊗ var 5 ⊕ var 4 ⊗ var 3) ⊗ var 1) ⊗ ((var 1 ⊗ var 3) ⊗ var 5)) refl)

pub add_comm : (x y : ℚ) → x +ℚ y ≡ y +ℚ x
add_comm x y =
    same _ _ _ _ _ _ (add_stands _ _ _ _ _ _ (itself x) (itself y)) (add_stands _ _ _ _ _ _ (itself y) (itself x))
    (ring ints_ring (x.numerator ∷ pos x.denominator ∷ y.numerator ∷ pos y.denominator ∷ [])
    ((var 0 ⊗ var 3 ⊕ var 2 ⊗ var 1) ⊗ (var 3 ⊗ var 1)) ((var 2 ⊗ var 1 ⊕ var 0 ⊗ var 3) ⊗ (var 1 ⊗ var 3)) refl)

pub add-zero : (x : ℚ) → x +ℚ whole (pos 0) ≡ x
add-zero x =
    same _ _ _ _ _ _ (add_stands _ _ _ _ _ _ (itself x) (itself (whole (pos 0)))) (itself x)
    (ring ints_ring (x.numerator ∷ pos x.denominator ∷ []) ((var 0 ⊗ num (pos 1) ⊕ num (pos 0) ⊗ var 1) ⊗ var 1)
    (var 0 ⊗ (var 1 ⊗ num (pos 1))) refl)

pub mul_assoc : (x y z : ℚ) → (x *ℚ y) *ℚ z ≡ x *ℚ (y *ℚ z)
mul_assoc x y z =
    same _ _ _ _ _ _ (mul_stands _ _ _ _ _ _ (mul_stands _ _ _ _ _ _ (itself x) (itself y)) (itself z))
    (mul_stands _ _ _ _ _ _ (itself x) (mul_stands _ _ _ _ _ _ (itself y) (itself z)))
    (ring ints_ring (x.numerator ∷ pos x.denominator ∷ y.numerator ∷ pos y.denominator ∷ z.numerator ∷ pos z.denominator ∷ [])
    (((var 0 ⊗ var 2) ⊗ var 4) ⊗ (var 1 ⊗ (var 3 ⊗ var 5))) ((var 0 ⊗ (var 2 ⊗ var 4)) ⊗ ((var 1 ⊗ var 3) ⊗ var 5)) refl)

pub mul_comm : (x y : ℚ) → x *ℚ y ≡ y *ℚ x
mul_comm x y =
    same _ _ _ _ _ _ (mul_stands _ _ _ _ _ _ (itself x) (itself y)) (mul_stands _ _ _ _ _ _ (itself y) (itself x))
    (ring ints_ring (x.numerator ∷ pos x.denominator ∷ y.numerator ∷ pos y.denominator ∷ []) ((var 0 ⊗ var 2) ⊗ (var 3 ⊗ var 1))
    ((var 2 ⊗ var 0) ⊗ (var 1 ⊗ var 3)) refl)

pub mul-one : (x : ℚ) → x *ℚ whole (pos 1) ≡ x
mul-one x =
    same _ _ _ _ _ _ (mul_stands _ _ _ _ _ _ (itself x) (itself (whole (pos 1)))) (itself x)
    (ring ints_ring (x.numerator ∷ pos x.denominator ∷ []) ((var 0 ⊗ num (pos 1)) ⊗ var 1) (var 0 ⊗ (var 1 ⊗ num (pos 1))) refl)

pub mul-zero : (x : ℚ) → x *ℚ whole (pos 0) ≡ whole (pos 0)
mul-zero x =
    same _ _ _ _ _ _ (mul_stands _ _ _ _ _ _ (itself x) (itself (whole (pos 0)))) (itself (whole (pos 0)))
    (ring ints_ring (x.numerator ∷ pos x.denominator ∷ []) ((var 0 ⊗ num (pos 0)) ⊗ num (pos 1)) (num (pos 0) ⊗ (var 1 ⊗ num (pos 1))) refl)

pub mul-add : (x y z : ℚ) → x *ℚ (y +ℚ z) ≡ (x *ℚ y) +ℚ (x *ℚ z)
mul-add x y z =
    same _ _ _ _ _ _ (mul_stands _ _ _ _ _ _ (itself x) (add_stands _ _ _ _ _ _ (itself y) (itself z)))
    (add_stands _ _ _ _ _ _ (mul_stands _ _ _ _ _ _ (itself x) (itself y)) (mul_stands _ _ _ _ _ _ (itself x) (itself z)))
    (ring ints_ring (x.numerator ∷ pos x.denominator ∷ y.numerator ∷ pos y.denominator ∷ z.numerator ∷ pos z.denominator ∷ [])
    ((var 0 ⊗ (var 2 ⊗ var 5 ⊕ var 4 ⊗ var 3)) ⊗ ((var 1 ⊗ var 3) ⊗ (var 1 ⊗ var 5)))
    (((var 0 ⊗ var 2) ⊗ (var 1 ⊗ var 5) ⊕ (var 0 ⊗ var 4) ⊗ (var 1 ⊗ var 3)) ⊗ (var 1 ⊗ (var 3 ⊗ var 5))) refl)

pub neg-is : (x : ℚ) → neg_ℚ x ≡ whole (negsuc 0) *ℚ x
neg-is x =
    same _ _ _ _ _ _ (neg_stands _ _ _ (itself x)) (mul_stands _ _ _ _ _ _ (itself (whole (negsuc 0))) (itself x))
    (ring ints_ring (x.numerator ∷ pos x.denominator ∷ []) (minus (var 0) ⊗ (num (pos 1) ⊗ var 1)) ((num (negsuc 0) ⊗ var 0) ⊗ var 1) refl)

pub whole-add : (a b : ℤ) → whole (a +ℤ b) ≡ whole a +ℚ whole b
whole-add a b = same _ _ _ _ _ _ (itself (whole (a +ℤ b))) (add_stands _ _ _ _ _ _ (itself (whole a)) (itself (whole b)))
    (ring ints_ring (a ∷ b ∷ []) ((var 0 ⊕ var 1) ⊗ num (pos 1)) ((var 0 ⊗ num (pos 1) ⊕ var 1 ⊗ num (pos 1)) ⊗ num (pos 1)) refl)

pub whole-mul : (a b : ℤ) → whole (a *ℤ b) ≡ whole a *ℚ whole b
whole-mul a b = same _ _ _ _ _ _ (itself (whole (a *ℤ b))) (mul_stands _ _ _ _ _ _ (itself (whole a)) (itself (whole b)))
    (ring ints_ring (a ∷ b ∷ []) (var 0 ⊗ var 1 ⊗ num (pos 1)) (var 0 ⊗ var 1 ⊗ num (pos 1)) refl)

abbrev pub fractions : Ring
fractions = record {
  carrier = ℚ;
  add = ◌+ℚ◌;
  mul = ◌*ℚ◌;
  neg = neg_ℚ;
  of = whole;
  add_assoc = add_assoc;
  add_comm = add_comm;
  add-zero = add-zero;
  mul_assoc = mul_assoc;
  mul_comm = mul_comm;
  mul-one = mul-one;
  mul-zero = mul-zero;
  mul-add = mul-add;
  neg_is = neg-is;
  of-add = whole-add;
  of-mul = whole-mul;
}

-- a sum of three in the other order
pub add_reversed : (x y z : ℚ) → x +ℚ y +ℚ z ≡ z +ℚ y +ℚ x
add_reversed x y z = ring fractions (x ∷ y ∷ z ∷ []) (var 0 ⊕ var 1 ⊕ var 2) (var 2 ⊕ var 1 ⊕ var 0) refl

-- ---- division
mul-ratio : (n : ℤ) (d : ℕ) (x : ℚ) → Stands x n d → (n ≡ pos 0 → ⊥) → x *ℚ ratio (pos d) n ≡ whole (pos 1)
unfolding ratio
mul-ratio (pos zero) d x s h = absurd (h refl)
mul-ratio (pos (suc n)) d x s h =
    same _ _ _ _ _ _ (mul_stands _ _ _ _ _ _ s (over_stands (pos d) (suc n) (zero-lt-suc n))) (itself (whole (pos 1)))
    (ring ints_ring (pos (suc n) ∷ pos d ∷ []) (var 0 ⊗ var 1 ⊗ num (pos 1)) (num (pos 1) ⊗ (var 1 ⊗ var 0)) refl)
mul-ratio (negsuc n) d x s h =
    same _ _ _ _ _ _ (mul_stands _ _ _ _ _ _ s (over_stands (neg_ℤ (pos d)) (suc n) (zero-lt-suc n))) (itself (whole (pos 1)))
    (ring ints_ring (pos (suc n) ∷ pos d ∷ []) (minus (var 0) ⊗ minus (var 1) ⊗ num (pos 1)) (num (pos 1) ⊗ (var 1 ⊗ var 0)) refl)

pub mul-inverse : (x : ℚ) → (x.numerator ≡ pos 0 → ⊥) → x *ℚ inverse x ≡ whole (pos 1)
unfolding inverse
mul-inverse x h = mul-ratio x.numerator x.denominator x (itself x) h

-- a fraction that stands for a number above 0 has an inverse
pub inverse_stands : (x : ℚ) (n d : ℕ) → Stands x (pos n) d → 0 < n → x *ℚ inverse x ≡ whole (pos 1)
inverse_stands x n d s h =
    mul-inverse x (λ z.
    (let e : pos 0 *ℤ pos d ≡ pos n *ℤ pos x.denominator = ap (λ m. m *ℤ pos d) (sym z) ∙ s.cross in
    let p : 0 < n * x.denominator = product_positive n x.denominator h (denominator_positive x) in
    absurd (omega (arith, ints))))

-- ---- lowest terms: the denominator divides each other one of the same value, and no other numbers are less
sizes : (x : ℚ) (n : ℤ) (d : ℕ) → Stands x n d → nat_abs x.numerator * d ≡ nat_abs n * x.denominator
sizes x n d s = sym (unsigned_abs-mul x.numerator (pos d)) ∙ ap nat_abs s.cross ∙ unsigned_abs-mul n (pos x.denominator)

pub denominator_divides : (x : ℚ) (n : ℤ) (d : ℕ) → Stands x n d → x.denominator ∣ d
denominator_divides x n d s =
    divides_other (nat_abs x.numerator) x.denominator d s.positive (lowest_one x.numerator x.denominator x.lowest)
    (subst (λ (m : ℕ). x.denominator ∣ m) (sym (sizes x n d s)) (dvd-mul_left x.denominator (nat_abs n)))

pub denominator_least : (x : ℚ) (n : ℤ) (d : ℕ) → Stands x n d → x.denominator ≤ d
denominator_least x n d s = le_of_dvd s.positive (denominator_divides x n d s)

pub numerator_least : (x : ℚ) (n : ℤ) (d : ℕ) → Stands x n d → nat_abs x.numerator ≤ nat_abs n
numerator_least x n d s =
    let part : nat_abs x.numerator * x.denominator ≤ nat_abs n * x.denominator =
    omega (arith, sizes x n d s, mul-le-mul_left (nat_abs x.numerator) (denominator_least x n d s)) in
    le_of_mul-le-mul_right part (denominator_positive x)

-- a quotient by what is not 0
pub mul-div : (x y : ℚ) → (y.numerator ≡ pos 0 → ⊥) → (x *ℚ y) /ℚ y ≡ x
mul-div x y h =
    ring_from fractions (x ∷ y ∷ inverse y ∷ []) (var 0 ⊗ var 1 ⊗ var 2) (var 0) (by (var 0) (var 1 ⊗ var 2) (num (pos 1)) done)
    (mul-inverse y h, tt) refl

pub div-mul : (x y : ℚ) → (y.numerator ≡ pos 0 → ⊥) → (x /ℚ y) *ℚ y ≡ x
div-mul x y h =
    ring_from fractions (x ∷ y ∷ inverse y ∷ []) (var 0 ⊗ var 2 ⊗ var 1) (var 0) (by (var 0) (var 1 ⊗ var 2) (num (pos 1)) done)
    (mul-inverse y h, tt) refl

-- ---- over one denominator
pub common_add : (x y : ℚ) (n m : ℤ) (d : ℕ) → Stands x n d → Stands y m d → Stands (x +ℚ y) (n +ℤ m) d
common_add x y n m d s t =
    change _ _ _ _ _ (add_stands _ _ _ _ _ _ s t) s.positive
    (ring ints_ring (n ∷ m ∷ pos d ∷ []) ((var 0 ⊗ var 2 ⊕ var 1 ⊗ var 2) ⊗ var 2) ((var 0 ⊕ var 1) ⊗ (var 2 ⊗ var 2)) refl)

pub common_mul : (x : ℚ) (n z : ℤ) (d : ℕ) → Stands x n d → Stands (x *ℚ whole z) (n *ℤ z) d
common_mul x n z d s =
    change _ _ _ _ _ (mul_stands _ _ _ _ _ _ s (itself (whole z))) s.positive
    (ring ints_ring (n ∷ z ∷ pos d ∷ []) (var 0 ⊗ var 1 ⊗ var 2) (var 0 ⊗ var 1 ⊗ (var 2 ⊗ num (pos 1))) refl)

-- ---- the test of equality
pub equal_is : (x y : ℚ) → equal_ℚ x y ≡ true → x ≡ y
unfolding equal_ℚ
equal_is x y h = same_fields x y
    ((Decides-int_eq x.numerator y.numerator).0 (and_left (int_eq x.numerator y.numerator) (eqb x.denominator y.denominator) h))
    (eqb-true x.denominator y.denominator (and_right (int_eq x.numerator y.numerator) (eqb x.denominator y.denominator) h))

pub is_equal : (x y : ℚ) → x ≡ y → equal_ℚ x y ≡ true
is_equal x y e = subst (λ (z : ℚ). equal_ℚ x z ≡ true) e (equal_equivalence.refl x)
