-- The extents that operations make of an extent.
use Rattle.std.proofs.Common.{◌≡◌, ℕ, ◌+◌, ◌*◌, ◌^◌, ◌<◌, ◌⊎◌, inl, inr, ⊎_elim, ℤ, pos, ◌-ℤ◌, ◌+ℤ◌, ◌*ℤ◌, sym, ap, ◌∙◌, subst}
use Rattle.std.proofs.Common.{arith, FitsSigned}
use Rattle.std.specs.Prelude.{◌≤ℤ◌, ◌<ℤ◌, unsigned_abs}
use Rattle.std.specs.Int.{Width, int_max, int_min}
use Rattle.std.proofs.lemmas.Int.{ints, clamps}
use Rattle.std.proofs.Math.IntN.{*ℤ_comm, zero-*ℤ}
use Rattle.frac_math.proofs.Integers.{mul-add_ℤ, mul-one_ℤ}
use Rattle.frac_math.specs.Fraction.{ℚ, nat}
use Rattle.frac_math.proofs.FractionOrder.{mono_ℤ}
use Rattle.kernel_step.specs.declared.form.Extent.{Extent}
use Rattle.kernel_step.specs.Rules.{with_product, IsAdded, IsNextSum}
use Rattle.kernel_step.specs.ValueSteps.{IsIn, IsOver, IsScaled, IsMinimum, IsMaximum, IsDithered}
use Rattle.kernel_step.proofs.Factors.{positive_whole}
use Rattle.kernel_step.proofs.DitherSteps.{positive_unit}
use Rattle.kernel_step.proofs.Intervals.{between_fits, product_grows}

abbrev pub made_extent : ℤ → ℤ → ℤ → Extent
made_extent d lo hi = record { denominator = d; least = lo; greatest = hi }

-- ---- a factor
from_zero : (w : Width) (k n lo hi a b : ℤ) → IsNextSum w (pos 0) (pos 0) k a b lo hi → (a ≤ℤ n) × (n ≤ℤ b)
    → (lo ≤ℤ (k *ℤ n)) × ((k *ℤ n) ≤ℤ hi)
unfolding with_product
from_zero w k n lo hi a b next inside =
    let s = next.sum (pos 0) n (omega (arith, ints)) (omega (arith, ints)) (inr inside) in
    (omega (arith, ints, s.1), omega (arith, ints, s.2))

pub scaled_made : (w : Width) (old : Extent) (c : ℚ) (k d lo hi : ℤ) → pos 0 <ℤ d
    → k *ℤ pos (unsigned_abs old.denominator * c.denominator) ≡ c.numerator *ℤ pos (unsigned_abs d) → FitsSigned w k
    → IsNextSum w (pos 0) (pos 0) k old.least old.greatest lo hi → IsScaled w old c k (made_extent d lo hi)
scaled_made w old c k d lo hi positive term fits next = record {
  over = record { positive = omega (arith, ints, positive, positive_whole d positive); term = term };
  fits = fits;
  products = λ n inside. next.product n (inr inside);
  inside = λ n inside. from_zero w k n lo hi old.least old.greatest next inside;
}

-- ---- a limit
limit_over : (d lo hi : ℤ) (limit : ℚ) (l : ℤ) → pos 0 <ℤ d → l *ℤ pos limit.denominator ≡ limit.numerator *ℤ d
    → IsOver (made_extent d lo hi) limit l
limit_over d lo hi limit l positive is = is ∙ ap (λ t. limit.numerator *ℤ t) (positive_whole d positive)

-- the lesser of the greatest number and the limit
min_cut : (w : Width) (old : Extent) (limit : ℚ) (k d lo hi low high l : ℤ) → pos 0 <ℤ d → IsScaled w old (nat 1) k (made_extent d lo hi)
    → l *ℤ pos limit.denominator ≡ limit.numerator *ℤ d → high ≡ int_min hi l
    → IsOver (made_extent d low high) limit high ⊎ ((n : ℤ) → IsIn old n
    → ((k *ℤ n) ≤ℤ high) × ((k *ℤ n *ℤ pos limit.denominator) ≤ℤ (limit.numerator *ℤ pos (unsigned_abs d))))
min_cut w old limit k d lo hi low high l positive scaled is least =
    let over = limit_over d low high limit l positive is in
    ⊎_elim
    (λ (cut : high ≡ l). inl (subst (λ t. IsOver (made_extent d low high) limit t) (sym cut) over))
    (λ (whole : (high ≡ hi) × (hi ≤ℤ l)). inr (λ n inside.
    let below : (k *ℤ n) ≤ℤ hi = (scaled.inside n inside).1 in (
      omega (arith, ints, below, whole.0),
      subst (λ t. (k *ℤ n *ℤ pos limit.denominator) ≤ℤ t) over
          (mono_ℤ (k *ℤ n) l limit.denominator (omega (arith, ints, below, whole.1))),
    )))
    (cases high hi l least)
  where
    cases : (m a b : ℤ) → m ≡ int_min a b → (m ≡ b) ⊎ ((m ≡ a) × (a ≤ℤ b))
    cases m a b h = grind (arith, ints, clamps)

max_cut : (w : Width) (old : Extent) (limit : ℚ) (k d lo hi low high l : ℤ) → pos 0 <ℤ d → IsScaled w old (nat 1) k (made_extent d lo hi)
    → l *ℤ pos limit.denominator ≡ limit.numerator *ℤ d → low ≡ int_max lo l
    → IsOver (made_extent d low high) limit low ⊎ ((n : ℤ) → IsIn old n
    → (low ≤ℤ (k *ℤ n)) × ((limit.numerator *ℤ pos (unsigned_abs d)) ≤ℤ (k *ℤ n *ℤ pos limit.denominator)))
max_cut w old limit k d lo hi low high l positive scaled is greatest =
    let over = limit_over d low high limit l positive is in
    ⊎_elim
    (λ (cut : low ≡ l). inl (subst (λ t. IsOver (made_extent d low high) limit t) (sym cut) over))
    (λ (whole : (low ≡ lo) × (l ≤ℤ lo)). inr (λ n inside.
    let above : lo ≤ℤ (k *ℤ n) = (scaled.inside n inside).0 in (
      omega (arith, ints, above, whole.0),
      subst (λ t. t ≤ℤ (k *ℤ n *ℤ pos limit.denominator)) over
          (mono_ℤ l (k *ℤ n) limit.denominator (omega (arith, ints, above, whole.1))),
    )))
    (cases low lo l greatest)
  where
    cases : (m a b : ℤ) → m ≡ int_max a b → (m ≡ b) ⊎ ((m ≡ a) × (b ≤ℤ a))
    cases m a b h = grind (arith, ints, clamps)

pub min_fits : (w : Width) (m a b : ℤ) → m ≡ int_min a b → FitsSigned w a → FitsSigned w b → FitsSigned w m
min_fits w m a b h p q =
    ⊎_elim (λ (e : m ≡ a). subst (FitsSigned w) (sym e) p) (λ (e : m ≡ b). subst (FitsSigned w) (sym e) q) (cases m a b h)
  where
    cases : (m a b : ℤ) → m ≡ int_min a b → (m ≡ a) ⊎ (m ≡ b)
    cases m a b h = grind (arith, ints, clamps)

pub max_fits : (w : Width) (m a b : ℤ) → m ≡ int_max a b → FitsSigned w a → FitsSigned w b → FitsSigned w m
max_fits w m a b h p q =
    ⊎_elim (λ (e : m ≡ a). subst (FitsSigned w) (sym e) p) (λ (e : m ≡ b). subst (FitsSigned w) (sym e) q) (cases m a b h)
  where
    cases : (m a b : ℤ) → m ≡ int_max a b → (m ≡ a) ⊎ (m ≡ b)
    cases m a b h = grind (arith, ints, clamps)

pub minimum_made : (w : Width) (old : Extent) (limit : ℚ) (k d lo hi low high l : ℤ) → pos 0 <ℤ d
    → IsScaled w old (nat 1) k (made_extent d lo hi) → lo ≤ℤ hi
    → FitsSigned w lo → FitsSigned w hi → FitsSigned w l → l *ℤ pos limit.denominator ≡ limit.numerator *ℤ d → low ≡ int_min lo l
    → high ≡ int_min hi l
    → IsMinimum w old limit k (made_extent d low high)
minimum_made w old limit k d lo hi low high l positive scaled order lf hf nf is least greatest = record {
  over = record { positive = scaled.over.positive; term = scaled.over.term };
  fits = scaled.fits;
  products = scaled.products;
  above = λ n inside. let from : lo ≤ℤ (k *ℤ n) = (scaled.inside n inside).0 in let small : low ≤ℤ lo = omega (arith, ints, clamps, least)
      in omega (arith, ints, from, small);
  ordered = omega (arith, ints, clamps, least, greatest, order);
  least_fits = min_fits w low lo l least lf nf;
  greatest_fits = min_fits w high hi l greatest hf nf;
  cut = min_cut w old limit k d lo hi low high l positive scaled is greatest;
}

pub maximum_made : (w : Width) (old : Extent) (limit : ℚ) (k d lo hi low high l : ℤ) → pos 0 <ℤ d
    → IsScaled w old (nat 1) k (made_extent d lo hi) → lo ≤ℤ hi
    → FitsSigned w lo → FitsSigned w hi → FitsSigned w l → l *ℤ pos limit.denominator ≡ limit.numerator *ℤ d → low ≡ int_max lo l
    → high ≡ int_max hi l
    → IsMaximum w old limit k (made_extent d low high)
maximum_made w old limit k d lo hi low high l positive scaled order lf hf nf is least greatest = record {
  over = record { positive = scaled.over.positive; term = scaled.over.term };
  fits = scaled.fits;
  products = scaled.products;
  below = λ n inside. let to : (k *ℤ n) ≤ℤ hi = (scaled.inside n inside).1 in let large : hi ≤ℤ high =
      omega (arith, ints, clamps, greatest) in omega (arith, ints, to, large);
  ordered = omega (arith, ints, clamps, least, greatest, order);
  least_fits = max_fits w low lo l least lf nf;
  greatest_fits = max_fits w high hi l greatest hf nf;
  cut = max_cut w old limit k d lo hi low high l positive scaled is least;
}

-- ---- a dither
-- fewer units than there are parts
unit_between : (unit d : ℤ) (parts m : ℕ) → pos 0 ≤ℤ unit → unit *ℤ pos parts ≡ d → m < parts → (unit *ℤ pos m) ≤ℤ (d -ℤ unit)
unit_between unit d parts m some is below =
    let grown : (unit *ℤ pos (m + 1)) ≤ℤ (unit *ℤ pos parts) = product_grows unit (pos (m + 1)) (pos parts) some
    (omega (arith, ints, below)) in
    omega (arith, ints, grown, is, mul-add_ℤ unit (pos m) (pos 1), mul-one_ℤ unit)

pub dithered_made : (w : Width) (old : Extent) (count : ℕ) (k unit most d lo hi low high : ℤ) → pos 0 <ℤ d
    → IsScaled w old (nat 1) k (made_extent d lo hi)
    → unit *ℤ pos (2 * 4 ^ count) ≡ d → most ≡ d -ℤ unit → IsAdded w lo hi unit most low high
    → IsDithered w old count k unit (made_extent d low high)
dithered_made w old count k unit most d lo hi low high positive scaled unit_is most_is added =
    let parts = 2 * 4 ^ count in
    let whole = positive_whole d positive in
    let some : pos 1 ≤ℤ unit = positive_unit unit parts (unsigned_abs d) (omega (arith, ints, positive, whole)) (unit_is ∙ whole) in
    let zero_fits : FitsSigned w (pos 0) = omega (arith, ints, added.first) in
    let top = λ (m : ℕ) (below : m < parts). subst (λ t. (unit *ℤ pos m) ≤ℤ t) (sym most_is)
    (unit_between unit d parts m (omega (arith, ints, some)) unit_is below) in
    let low_of : (m : ℕ) → 0 < m → unit ≤ℤ (unit *ℤ pos m) =
    λ m h. subst (λ t. t ≤ℤ (unit *ℤ pos m)) (mul-one_ℤ unit)
    (product_grows unit (pos 1) (pos m) (omega (arith, ints, some)) (omega (arith, ints, h))) in
    let none : (m : ℕ) → pos 0 ≤ℤ (unit *ℤ pos m) =
    λ m. let g = product_grows (pos m) (pos 0) unit (omega (arith, ints)) (omega (arith, ints, some))
    in omega (arith, ints, g, *ℤ_comm (pos m) unit, *ℤ_comm (pos m) (pos 0), zero-*ℤ (pos m)) in
    let between : (m : ℕ) (n : ℤ) → 0 < m → m < parts → IsIn old n → IsIn (made_extent d low high) (k *ℤ n +ℤ unit *ℤ pos m) =
    λ m n h below inside. let r = scaled.inside n inside in
    (omega (arith, ints, r.0, low_of m h, added.lower_is), omega (arith, ints, r.1, top m below, added.higher_is)) in
    record {
      over = record { positive = scaled.over.positive; term = scaled.over.term };
      fits = scaled.fits;
      products = scaled.products;
      unit_is = unit_is ∙ whole;
      unit_fits = added.first;
      addends = λ m below. between_fits w (pos 0) most (unit *ℤ pos m) zero_fits added.second (none m) (top m below);
      sums = λ m n h below inside. let r = between m n h below inside in between_fits w low high (k *ℤ n +ℤ unit *ℤ pos m) added.low_fits
          added.high_fits r.0 r.1;
      inside = between;
    }
