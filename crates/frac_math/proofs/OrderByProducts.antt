-- The order of two fractions by products of sizes.
use Rattle.std.proofs.Common.{◌≡◌, ℕ, suc, ◌+◌, ◌*◌, ◌<◌, Less, Greater, ℤ, pos, negsuc, ◌*ℤ◌, ◌<ℤ◌, ◌≤ℤ◌, arith, unsigned_abs}
use Rattle.std.proofs.lemmas.Int.{ints}
use Rattle.std.proofs.lemmas.Bool.Decides.{nat_tests}
use borrow.Author.Differences.{up, down, product_is, below_in}
use native.Mathlib.Nat.{mul-pos}
use Rattle.std.specs.Ordering.{nat_cmp, int_cmp}
use Rattle.frac_math.specs.Fraction.{ℚ, order}
use Rattle.frac_math.proofs.FractionRing.{denominator_positive}

-- ---- the order, by products of 256 bits
cmp_same : (z w : ℤ) (m n : ℕ) → up z + down w + n ≡ up w + down z + m → int_cmp z w ≡ nat_cmp m n
cmp_same z w m n e = grind (arith, nat_tests, ints)

pub order_positive : (x y : ℚ) → pos 0 ≤ℤ x.numerator → pos 0 ≤ℤ y.numerator
    → order x y ≡ nat_cmp (unsigned_abs x.numerator * y.denominator) (unsigned_abs y.numerator * x.denominator)
unfolding order
order_positive x y p q = cmp_positive x.numerator y.numerator x.denominator y.denominator p q
  where
    cmp_positive : (n m : ℤ) (d e : ℕ) → pos 0 ≤ℤ n → pos 0 ≤ℤ m
        → int_cmp (n *ℤ pos e) (m *ℤ pos d) ≡ nat_cmp (unsigned_abs n * e) (unsigned_abs m * d)
    cmp_positive (pos a) (pos c) d e p q = cmp_same (pos (a * e)) (pos (c * d)) (a * e) (c * d) (omega arith)
    cmp_positive (pos a) (negsuc c) d e p q = absurd (omega (arith, ints, q))
    cmp_positive (negsuc a) m d e p q = absurd (omega (arith, ints, p))

pub order_negative : (x y : ℚ) → x.numerator <ℤ pos 0 → y.numerator <ℤ pos 0
    → order x y ≡ nat_cmp (unsigned_abs y.numerator * x.denominator) (unsigned_abs x.numerator * y.denominator)
unfolding order
order_negative x y p q = cmp_negative x.numerator y.numerator x.denominator y.denominator p q
  where
    cmp_negative : (n m : ℤ) (d e : ℕ) → n <ℤ pos 0 → m <ℤ pos 0
        → int_cmp (n *ℤ pos e) (m *ℤ pos d) ≡ nat_cmp (unsigned_abs m * d) (unsigned_abs n * e)
    cmp_negative (negsuc a) (negsuc c) d e p q =
        cmp_same (negsuc a *ℤ pos e) (negsuc c *ℤ pos d) (suc c * d) (suc a * e)
        (omega (arith, product_is (negsuc a) (pos e), product_is (negsuc c) (pos d)))
    cmp_negative (negsuc a) (pos c) d e p q = absurd (omega (arith, ints, q))
    cmp_negative (pos a) m d e p q = absurd (omega (arith, ints, p))

less_is : (n m : ℤ) (d e : ℕ) → 0 < d → 0 < e → n <ℤ pos 0 → pos 0 ≤ℤ m → (n *ℤ pos e) <ℤ (m *ℤ pos d)
less_is (pos a) m d e p q h k = absurd (omega (arith, ints, h))
less_is (negsuc a) (negsuc c) d e p q h k = absurd (omega (arith, ints, k))
less_is (negsuc a) (pos c) d e p q h k =
    (let t : 0 < suc a * e = mul-pos (omega arith) q in below_in _ _ (omega (arith, product_is (negsuc a) (pos e))))

pub order_less : (x y : ℚ) → x.numerator <ℤ pos 0 → pos 0 ≤ℤ y.numerator → order x y ≡ Less
unfolding order
order_less x y p q = let t = less_is x.numerator y.numerator x.denominator y.denominator (denominator_positive x)
    (denominator_positive y) p q in grind (arith, ints)

pub order_greater : (x y : ℚ) → pos 0 ≤ℤ x.numerator → y.numerator <ℤ pos 0 → order x y ≡ Greater
unfolding order
order_greater x y p q = let t =
    less_is y.numerator x.numerator y.denominator x.denominator (denominator_positive y) (denominator_positive x) q p in grind (arith, ints)
