-- The order of fractions, and the lesser and the greater of two.
use Rattle.std.proofs.Common.{◌≡◌, ℕ, zero, suc, ◌+◌, ◌*◌, ◌<◌, ◌≤◌, true, false, ℤ, pos, negsuc, ◌*ℤ◌, ◌≤ℤ◌, ◌<ℤ◌, List, [], ◌∷◌}
use Rattle.std.proofs.Common.{if◌then◌else◌, Ordering, Less, Equal, Greater, ◌⊎◌, inl, inr, refl, sym, ap, subst, arith}
use Rattle.std.proofs.lemmas.Int.{ints, by_lt_z}
use borrow.Author.Differences.{up, down, product_is, at_most_in, le_out}
use native.Mathlib.Nat.{mul-le-mul_right, le_of_mul-le-mul_right}
use Rattle.std.specs.Ordering.{MatchOrdering}
use Rattle.std.specs.Cmp.{int_ranks}
use Rattle.frac_math.specs.Fraction.{ℚ, order, whole, ratio, neg_ℚ, inverse, ◌+ℚ◌, ◌*ℚ◌, ◌-ℚ◌, ◌≤ℚ◌, ◌<ℚ◌, is_at_most, min_ℚ, max_ℚ}
use Rattle.frac_math.specs.Standing.{Stands}
use Rattle.frac_math.proofs.Ring.{Expr, var, num, ◌⊕◌, ◌⊖◌, ◌⊗◌, minus, ring, ring_from, normal, value, done, by}
use Rattle.frac_math.proofs.Integers.{ints_ring}
use Rattle.frac_math.proofs.FractionRing.{denominator_positive, itself, over_stands, add_stands, mul_stands, neg_stands, fractions}
use Rattle.frac_math.proofs.FractionRing.{product_positive, cross_same, mul-inverse}

-- ---- order
pub mono_ℤ : (a b : ℤ) (c : ℕ) → a ≤ℤ b → (a *ℤ pos c) ≤ℤ (b *ℤ pos c)
mono_ℤ a b c h = at_most_in _ _ (omega (arith, product_is a (pos c), product_is b (pos c), mul-le-mul_right c (le_out a b h)))

pub cancel_le_ℤ : (a b : ℤ) (c : ℕ) → 0 < c → (a *ℤ pos c) ≤ℤ (b *ℤ pos c) → a ≤ℤ b
cancel_le_ℤ a b c p h =
    let t : (up a + down b) * c ≤ (up b + down a) * c =
    omega (arith, product_is a (pos c), product_is b (pos c), le_out (a *ℤ pos c) (b *ℤ pos c) h) in
    at_most_in _ _ (le_of_mul-le-mul_right t p)

pub le_by_cross : (x y : ℚ) (n m : ℤ) (d e : ℕ) → Stands x n d → Stands y m e → (n *ℤ pos e) ≤ℤ (m *ℤ pos d) → x ≤ℚ y
le_by_cross x y n m d e s t h =
    let env = x.numerator ∷ y.numerator ∷ n ∷ m ∷ pos x.denominator ∷ pos y.denominator ∷ pos d ∷ pos e ∷ [] in
    record {
      at_most = cancel_le_ℤ _ _ (d * e) (product_positive d e s.positive t.positive)
          (subst (λ (z : ℤ). z ≤ℤ (y.numerator *ℤ pos x.denominator *ℤ (pos d *ℤ pos e)))
          (ring_from ints_ring env (var 2 ⊗ var 7 ⊗ (var 4 ⊗ var 5)) (var 0 ⊗ var 5 ⊗ (var 6 ⊗ var 7))
          (by (minus (var 5 ⊗ var 7)) (var 0 ⊗ var 6) (var 2 ⊗ var 4) done) (s.cross, tt) refl)
          (subst (λ (z : ℤ). (n *ℤ pos e *ℤ (pos x.denominator *ℤ pos y.denominator)) ≤ℤ z)
          (ring_from ints_ring env (var 3 ⊗ var 6 ⊗ (var 4 ⊗ var 5)) (var 1 ⊗ var 4 ⊗ (var 6 ⊗ var 7))
          (by (minus (var 4 ⊗ var 6)) (var 1 ⊗ var 7) (var 3 ⊗ var 5) done) (t.cross, tt) refl)
          (mono_ℤ (n *ℤ pos e) (m *ℤ pos d) (x.denominator * y.denominator) h)));
    }

pub cross_by_le : (x y : ℚ) (n m : ℤ) (d e : ℕ) → Stands x n d → Stands y m e → x ≤ℚ y → (n *ℤ pos e) ≤ℤ (m *ℤ pos d)
cross_by_le x y n m d e s t h =
    let env = x.numerator ∷ y.numerator ∷ n ∷ m ∷ pos x.denominator ∷ pos y.denominator ∷ pos d ∷ pos e ∷ [] in
    cancel_le_ℤ _ _ (x.denominator * y.denominator)
    (product_positive x.denominator y.denominator (denominator_positive x) (denominator_positive y))
    (subst (λ (z : ℤ). z ≤ℤ (m *ℤ pos d *ℤ (pos x.denominator *ℤ pos y.denominator)))
    (ring_from ints_ring env (var 0 ⊗ var 5 ⊗ (var 6 ⊗ var 7)) (var 2 ⊗ var 7 ⊗ (var 4 ⊗ var 5))
    (by (var 5 ⊗ var 7) (var 0 ⊗ var 6) (var 2 ⊗ var 4) done) (s.cross, tt) refl)
    (subst (λ (z : ℤ). (x.numerator *ℤ pos y.denominator *ℤ (pos d *ℤ pos e)) ≤ℤ z)
    (ring_from ints_ring env (var 1 ⊗ var 4 ⊗ (var 6 ⊗ var 7)) (var 3 ⊗ var 6 ⊗ (var 4 ⊗ var 5))
    (by (var 4 ⊗ var 6) (var 1 ⊗ var 7) (var 3 ⊗ var 5) done) (t.cross, tt) refl)
    (mono_ℤ (x.numerator *ℤ pos y.denominator) (y.numerator *ℤ pos x.denominator) (d * e) h.at_most)))

pub le_refl_ℚ : (x : ℚ) → x ≤ℚ x
le_refl_ℚ x = record { at_most = omega (arith, ints) }

pub le_antisymm_ℚ : (x y : ℚ) → x ≤ℚ y → y ≤ℚ x → x ≡ y
le_antisymm_ℚ x y p q = cross_same x y (omega (arith, ints, p.at_most, q.at_most))

pub le_or_lt_ℚ : (x y : ℚ) → (x ≤ℚ y) ⊎ (y <ℚ x)
le_or_lt_ℚ x y = by_lt_z {P = (x ≤ℚ y) ⊎ (y <ℚ x)} (y.numerator *ℤ pos x.denominator) (x.numerator *ℤ pos y.denominator)
    (λ h. inr (record { below = h })) (λ h. inl (record { at_most = h }))

pub lt_not_le_ℚ : (x y : ℚ) → x <ℚ y → y ≤ℚ x → ⊥
lt_not_le_ℚ x y p q = omega (arith, ints, p.below, q.at_most)

pub le_of_lt_ℚ : (x y : ℚ) → x <ℚ y → x ≤ℚ y
le_of_lt_ℚ x y p = record { at_most = omega (arith, ints, p.below) }

pub lt_of_not_le_ℚ : (x y : ℚ) → (y ≤ℚ x → ⊥) → x <ℚ y
lt_of_not_le_ℚ x y h = elim (le_or_lt_ℚ y x) [ inl p ↦ absurd (h p) | inr p ↦ p ]

pub lt_by_cross : (x y : ℚ) (n m : ℤ) (d e : ℕ) → Stands x n d → Stands y m e → (n *ℤ pos e) <ℤ (m *ℤ pos d) → x <ℚ y
lt_by_cross x y n m d e s t h = lt_of_not_le_ℚ x y (λ l. absurd (omega (arith, ints, h, cross_by_le y x m n e d t s l)))

pub cross_by_lt : (x y : ℚ) (n m : ℤ) (d e : ℕ) → Stands x n d → Stands y m e → x <ℚ y → (n *ℤ pos e) <ℤ (m *ℤ pos d)
cross_by_lt x y n m d e s t h = by_lt_z (n *ℤ pos e) (m *ℤ pos d) (λ l. l) (λ l. absurd (lt_not_le_ℚ x y h (le_by_cross y x m n e d t s l)))

-- the order as a test
order_from : (x y : ℚ) (r : Ordering)
    → MatchOrdering r ((x.numerator *ℤ pos y.denominator) <ℤ (y.numerator *ℤ pos x.denominator))
    (x.numerator *ℤ pos y.denominator ≡ y.numerator *ℤ pos x.denominator)
    ((y.numerator *ℤ pos x.denominator) <ℤ (x.numerator *ℤ pos y.denominator))
    → MatchOrdering r (x <ℚ y) (x ≡ y) (y <ℚ x)
order_from x y Less h = record { below = h }
order_from x y Equal h = cross_same x y h
order_from x y Greater h = record { below = h }

pub order_is : (x y : ℚ) → MatchOrdering (order x y) (x <ℚ y) (x ≡ y) (y <ℚ x)
unfolding order
order_is x y = order_from x y _ (int_ranks (x.numerator *ℤ pos y.denominator) (y.numerator *ℤ pos x.denominator))

-- the difference of two is at least 0
pub difference : (x y : ℚ) → x ≤ℚ y → whole (pos 0) ≤ℚ (y -ℚ x)
difference x y h = le_by_cross _ _ _ _ _ _ (itself (whole (pos 0))) (add_stands _ _ _ _ _ _ (itself y) (neg_stands _ _ _ (itself x)))
    (let t = ring ints_ring (x.numerator ∷ pos x.denominator ∷ y.numerator ∷ pos y.denominator ∷ [])
    ((var 2 ⊗ var 1 ⊕ minus (var 0) ⊗ var 3) ⊗ num (pos 1)) (var 2 ⊗ var 1 ⊖ var 0 ⊗ var 3) refl in
    let z = ring ints_ring (pos (y.denominator * x.denominator) ∷ []) (num (pos 0) ⊗ var 0) (num (pos 0)) refl in
    omega (arith, ints, h.at_most, t, z))

pub from_difference : (x y : ℚ) → whole (pos 0) ≤ℚ (y -ℚ x) → x ≤ℚ y
from_difference x y h = record {
  at_most =
      (let c = cross_by_le _ _ _ _ _ _ (itself (whole (pos 0))) (add_stands _ _ _ _ _ _ (itself y) (neg_stands _ _ _ (itself x))) h in
      let t = ring ints_ring (x.numerator ∷ pos x.denominator ∷ y.numerator ∷ pos y.denominator ∷ [])
      ((var 2 ⊗ var 1 ⊕ minus (var 0) ⊗ var 3) ⊗ num (pos 1)) (var 2 ⊗ var 1 ⊖ var 0 ⊗ var 3) refl in
      let z = ring ints_ring (pos (y.denominator * x.denominator) ∷ []) (num (pos 0) ⊗ var 0) (num (pos 0)) refl in
      omega (arith, ints, c, t, z));
}

natural : (z : ℤ) → pos 0 ≤ℤ z → (n : ℕ) × (z ≡ pos n)
natural (pos n) h = (n, refl)
natural (negsuc n) h = absurd (omega (arith, ints, h))

not_negative : (x : ℚ) → whole (pos 0) ≤ℚ x → (n : ℕ) × Stands x (pos n) x.denominator
not_negative x h =
    let t = natural x.numerator (omega (arith, ints, h.at_most)) in
    (t.0, record { positive = denominator_positive x; cross = ap (λ z. z *ℤ pos x.denominator) t.1 })

pub add_not_negative : (x y : ℚ) → whole (pos 0) ≤ℚ x → whole (pos 0) ≤ℚ y → whole (pos 0) ≤ℚ (x +ℚ y)
add_not_negative x y p q =
    let s = not_negative x p in let t = not_negative y q in
    le_by_cross _ _ _ _ _ _ (itself (whole (pos 0))) (add_stands _ _ _ _ _ _ s.1 t.1) (omega (arith, ints))

pub mul_not_negative : (x y : ℚ) → whole (pos 0) ≤ℚ x → whole (pos 0) ≤ℚ y → whole (pos 0) ≤ℚ (x *ℚ y)
mul_not_negative x y p q =
    let s = not_negative x p in let t = not_negative y q in
    le_by_cross _ _ _ _ _ _ (itself (whole (pos 0))) (mul_stands _ _ _ _ _ _ s.1 t.1) (omega (arith, ints))

-- ---- orders that follow from others: b - a is the sum of each r - l, some times a number that is at least 0
pub data Bounds : Type 0 where
  end : Bounds
  also : Expr → Expr → Bounds → Bounds
  times : Expr → Expr → Expr → Bounds → Bounds

abbrev pub gap : Bounds → Expr
gap end = num (pos 0)
gap (also l r rest) = (r ⊖ l) ⊕ gap rest
gap (times c l r rest) = c ⊗ (r ⊖ l) ⊕ gap rest

abbrev pub of : List ℚ → Expr → ℚ
of = value fractions

abbrev pub Bound : List ℚ → Bounds → Type 0
Bound env end = Unit {0}
Bound env (also l r rest) = (of env l ≤ℚ of env r) × Bound env rest
Bound env (times c l r rest) = (whole (pos 0) ≤ℚ of env c) × (of env l ≤ℚ of env r) × Bound env rest

gap_not_negative : (env : List ℚ) (bounds : Bounds) → Bound env bounds → whole (pos 0) ≤ℚ of env (gap bounds)
gap_not_negative env end h = le_refl_ℚ (whole (pos 0))
gap_not_negative env (also l r rest) h = add_not_negative _ _ (difference _ _ h.0) (gap_not_negative env rest h.1)
gap_not_negative env (times c l r rest) h =
    add_not_negative _ _ (mul_not_negative _ _ h.0 (difference _ _ h.1)) (gap_not_negative env rest h.2)

pub le_from : (env : List ℚ) (a b : Expr) (bounds : Bounds) → Bound env bounds → normal (b ⊖ a) ≡ normal (gap bounds) → of env a ≤ℚ of env b
le_from env a b bounds h n =
    from_difference (of env a) (of env b)
    (subst (λ (z : ℚ). whole (pos 0) ≤ℚ z) (sym (ring fractions env (b ⊖ a) (gap bounds) n)) (gap_not_negative env bounds h))

-- a < b where l < r is known, and b - a is r - l and what the bounds give
pub lt_from : (env : List ℚ) (a b l r : Expr) (bounds : Bounds) → of env l <ℚ of env r → Bound env bounds
    → normal (b ⊖ a) ≡ normal ((r ⊖ l) ⊕ gap bounds) → of env a <ℚ of env b
lt_from env a b l r bounds s h n =
    lt_of_not_le_ℚ (of env a) (of env b) (λ t. lt_not_le_ℚ (of env l) (of env r) s
    (from_difference (of env r) (of env l) (subst (λ (z : ℚ). whole (pos 0) ≤ℚ z)
    (ring_from fractions (of env a ∷ of env b ∷ of env l ∷ of env r ∷ of env (gap bounds) ∷ []) ((var 0 ⊖ var 1) ⊕ var 4) (var 2 ⊖ var 3)
    (by (num (pos 1)) ((var 3 ⊖ var 2) ⊕ var 4) (var 1 ⊖ var 0) done) (sym (ring fractions env (b ⊖ a) ((r ⊖ l) ⊕ gap bounds) n), tt) refl)
    (add_not_negative _ _ (difference (of env b) (of env a) t) (gap_not_negative env bounds h)))))

pub le_trans_ℚ : (x y z : ℚ) → x ≤ℚ y → y ≤ℚ z → x ≤ℚ z
le_trans_ℚ x y z p q = le_from (x ∷ y ∷ z ∷ []) (var 0) (var 2) (also (var 0) (var 1) (also (var 1) (var 2) end)) (p, (q, tt)) refl

pub add_le_ℚ : (x y z : ℚ) → x ≤ℚ y → (x +ℚ z) ≤ℚ (y +ℚ z)
add_le_ℚ x y z p = le_from (x ∷ y ∷ z ∷ []) (var 0 ⊕ var 2) (var 1 ⊕ var 2) (also (var 0) (var 1) end) (p, tt) refl

pub mul_le_ℚ : (x y z : ℚ) → whole (pos 0) ≤ℚ z → x ≤ℚ y → (x *ℚ z) ≤ℚ (y *ℚ z)
mul_le_ℚ x y z q p = le_from (x ∷ y ∷ z ∷ []) (var 0 ⊗ var 2) (var 1 ⊗ var 2) (times (var 2) (var 0) (var 1) end) (q, p, tt) refl

pub lt_of_lt_of_le_ℚ : (x y z : ℚ) → x <ℚ y → y ≤ℚ z → x <ℚ z
lt_of_lt_of_le_ℚ x y z p q = lt_from (x ∷ y ∷ z ∷ []) (var 0) (var 2) (var 0) (var 1) (also (var 1) (var 2) end) p (q, tt) refl

pub lt_of_le_of_lt_ℚ : (x y z : ℚ) → x ≤ℚ y → y <ℚ z → x <ℚ z
lt_of_le_of_lt_ℚ x y z p q = lt_from (x ∷ y ∷ z ∷ []) (var 0) (var 2) (var 1) (var 2) (also (var 0) (var 1) end) q (p, tt) refl

pub add_lt_ℚ : (x y z : ℚ) → x <ℚ y → (x +ℚ z) <ℚ (y +ℚ z)
add_lt_ℚ x y z p = lt_from (x ∷ y ∷ z ∷ []) (var 0 ⊕ var 2) (var 1 ⊕ var 2) (var 0) (var 1) end p tt refl

pub neg_le_ℚ : (x y : ℚ) → x ≤ℚ y → neg_ℚ y ≤ℚ neg_ℚ x
neg_le_ℚ x y p = le_from (x ∷ y ∷ []) (minus (var 1)) (minus (var 0)) (also (var 0) (var 1) end) (p, tt) refl

-- ---- above 0
above_zero : (x : ℚ) → whole (pos 0) <ℚ x → (n : ℕ) × (0 < n) × Stands x (pos n) x.denominator
above_zero x h =
    let t = natural x.numerator (omega (arith, ints, h.below)) in
    (t.0, omega (arith, ints, h.below, t.1), record { positive = denominator_positive x; cross = ap (λ z. z *ℤ pos x.denominator) t.1 })

pub not_zero : (x : ℚ) → whole (pos 0) <ℚ x → x.numerator ≡ pos 0 → ⊥
not_zero x h e = absurd (omega (arith, ints, h.below, e))

-- a fraction above 0 has an inverse
pub inverse_of_positive : (x : ℚ) → whole (pos 0) <ℚ x → x *ℚ inverse x ≡ whole (pos 1)
inverse_of_positive x h = mul-inverse x (not_zero x h)

pub stands_above_zero : (x : ℚ) (n d : ℕ) → Stands x (pos n) d → 0 < n → whole (pos 0) <ℚ x
stands_above_zero x n d s h = lt_by_cross (whole (pos 0)) x (pos 0) (pos n) 1 d (itself (whole (pos 0))) s (omega (arith, ints))

pub mul_above_zero : (x y : ℚ) → whole (pos 0) <ℚ x → whole (pos 0) <ℚ y → whole (pos 0) <ℚ (x *ℚ y)
mul_above_zero x y p q =
    let s = above_zero x p in let t = above_zero y q in
    let n : 0 < s.0 * t.0 = product_positive s.0 t.0 s.1 t.1 in
    lt_by_cross _ _ _ _ _ _ (itself (whole (pos 0))) (mul_stands _ _ _ _ _ _ s.2 t.2) (omega (arith, ints))

inverse_of : (n : ℤ) (d : ℕ) → 0 < d → pos 0 <ℤ n → whole (pos 0) <ℚ ratio (pos d) n
unfolding ratio
inverse_of (pos zero) d p h = absurd h.lt
inverse_of (pos (suc n)) d p h =
    lt_by_cross _ _ _ _ _ _ (itself (whole (pos 0))) (over_stands (pos d) (suc n) (omega arith)) (omega (arith, ints))
inverse_of (negsuc n) d p h = absurd h.lt

pub inverse_above_zero : (x : ℚ) → whole (pos 0) <ℚ x → whole (pos 0) <ℚ inverse x
unfolding inverse
inverse_above_zero x h = inverse_of x.numerator x.denominator (denominator_positive x) (omega (arith, ints, h.below))

pub mul_lt_ℚ : (x y z : ℚ) → whole (pos 0) <ℚ z → x <ℚ y → (x *ℚ z) <ℚ (y *ℚ z)
mul_lt_ℚ x y z q p =
    let above : whole (pos 0) <ℚ (y -ℚ x) = lt_from (x ∷ y ∷ []) (num (pos 0)) (var 1 ⊖ var 0) (var 0) (var 1) end p tt refl in
    subst (λ (w : ℚ). (x *ℚ z) <ℚ w) (ring fractions (x ∷ y ∷ z ∷ []) (var 0 ⊗ var 2 ⊕ (var 1 ⊖ var 0) ⊗ var 2) (var 1 ⊗ var 2) refl)
    (lt_from (x *ℚ z ∷ (y -ℚ x) *ℚ z ∷ []) (var 0) (var 0 ⊕ var 1) (num (pos 0)) (var 1) end (mul_above_zero (y -ℚ x) z above q) tt refl)

pub whole_le : (a b : ℤ) → a ≤ℤ b → whole a ≤ℚ whole b
whole_le a b h = record { at_most = mono_ℤ a b 1 h }

pub le_whole : (a b : ℤ) → whole a ≤ℚ whole b → a ≤ℤ b
le_whole a b h = cancel_le_ℤ a b 1 (omega arith) h.at_most

pub whole_lt : (a b : ℤ) → a <ℤ b → whole a <ℚ whole b
whole_lt a b h = lt_of_not_le_ℚ (whole a) (whole b) (λ l. absurd (omega (arith, ints, h, le_whole b a l)))

pub lt_whole : (a b : ℤ) → whole a <ℚ whole b → a <ℤ b
lt_whole a b h = by_lt_z a b (λ l. l) (λ l. absurd (lt_not_le_ℚ (whole a) (whole b) h (whole_le b a l)))

-- ---- the lesser and the greater
pub most_true : (x y : ℚ) → is_at_most x y ≡ true → x ≤ℚ y
unfolding is_at_most
most_true x y h = record { at_most = omega (arith, ints, h) }

pub most_false : (x y : ℚ) → is_at_most x y ≡ false → y ≤ℚ x
unfolding is_at_most
most_false x y h = record { at_most = omega (arith, ints, h) }

pub min_cases : (P : ℚ → Type 0) (x y : ℚ) → (x ≤ℚ y → P x) → (y ≤ℚ x → P y) → P (min_ℚ x y)
unfolding min_ℚ
min_cases P x y f g = (elim (is_at_most x y) as
    (λ b. is_at_most x y ≡ b → P (if b then x else y)) [ true ↦ λ e. f (most_true x y e) | false ↦ λ e. g (most_false x y e) ]) refl

pub max_cases : (P : ℚ → Type 0) (x y : ℚ) → (x ≤ℚ y → P y) → (y ≤ℚ x → P x) → P (max_ℚ x y)
unfolding max_ℚ
max_cases P x y f g = (elim (is_at_most x y) as
    (λ b. is_at_most x y ≡ b → P (if b then y else x)) [ true ↦ λ e. f (most_true x y e) | false ↦ λ e. g (most_false x y e) ]) refl
