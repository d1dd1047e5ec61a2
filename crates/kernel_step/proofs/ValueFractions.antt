-- Numerators over their own denominators: what a factor, a limit, a given number and a dither make of the fractions that they stand for.
use Rattle.std.proofs.Common.{◌≡◌, ℕ, ◌*◌, ◌^◌, ◌<◌, ⊎_elim, ℤ, pos, ◌+ℤ◌, ◌*ℤ◌, [], ◌∷◌, refl, sym, subst, arith}
use Rattle.std.specs.Prelude.{◌≤ℤ◌, unsigned_abs}
use Rattle.std.specs.Int.{Width}
use Rattle.std.proofs.lemmas.Int.{ints}
use Rattle.frac_math.specs.Fraction.{ℚ, nat, ◌+ℚ◌, ◌*ℚ◌, min_ℚ, max_ℚ, ◌≤ℚ◌}
use Rattle.frac_math.specs.Dither.{dither_at}
use Rattle.frac_math.specs.Standing.{Stands}
use Rattle.frac_math.proofs.FractionRing.{itself, change, common_add, mul_stands, mul-one}
use Rattle.frac_math.proofs.FractionOrder.{cancel_le_ℤ, le_by_cross, cross_by_le, le_antisymm_ℚ, min_cases, max_cases}
use Rattle.frac_math.proofs.Ring.{ring_from, var, ◌⊗◌, minus, by, done}
use Rattle.frac_math.proofs.Integers.{ints_ring}
use Rattle.kernel_step.specs.declared.form.Extent.{Extent}
use Rattle.kernel_step.specs.Rules.{nearest}
use Rattle.kernel_step.specs.ValueSteps.{IsIn, IsFactor, IsOver, IsMinimum, IsMaximum, IsDithered}

-- ---- a factor
pub factor_stands : (old : Extent) (c : ℚ) (k : ℤ) (new : Extent) (x : ℚ) (n : ℤ) → IsFactor old c k new
    → Stands x n (unsigned_abs old.denominator) → Stands (x *ℚ c) (k *ℤ n) (unsigned_abs new.denominator)
factor_stands old c k new x n is stands =
    let d = unsigned_abs old.denominator in
    let e = unsigned_abs new.denominator in
    change (x *ℚ c) (n *ℤ c.numerator) (k *ℤ n) (d * c.denominator) e
    (mul_stands x c n c.numerator d c.denominator stands (itself c)) is.positive
    (ring_from ints_ring (n ∷ c.numerator ∷ pos e ∷ k ∷ pos d ∷ pos c.denominator ∷ [])
    (var 0 ⊗ var 1 ⊗ var 2) (var 3 ⊗ var 0 ⊗ (var 4 ⊗ var 5))
    (by (minus (var 0)) (var 3 ⊗ (var 4 ⊗ var 5)) (var 1 ⊗ var 2) done) (is.term, tt) refl)

pub same_stands : (old : Extent) (k : ℤ) (new : Extent) (x : ℚ) (n : ℤ) → IsFactor old (nat 1) k new
    → Stands x n (unsigned_abs old.denominator) → Stands x (k *ℤ n) (unsigned_abs new.denominator)
same_stands old k new x n is stands =
    subst (λ y. Stands y (k *ℤ n) (unsigned_abs new.denominator)) (mul-one x) (factor_stands old (nat 1) k new x n is stands)

-- ---- a limit
nearest_inside : (lo hi m : ℤ) → lo ≤ℤ m → m ≤ℤ hi → nearest lo hi m ≡ m
unfolding nearest
nearest_inside lo hi m low high = grind (arith, ints)

nearest_above : (lo hi m : ℤ) → lo ≤ℤ hi → hi ≤ℤ m → nearest lo hi m ≡ hi
unfolding nearest
nearest_above lo hi m order high = grind (arith, ints)

nearest_below : (lo hi m : ℤ) → lo ≤ℤ hi → m ≤ℤ lo → nearest lo hi m ≡ lo
unfolding nearest
nearest_below lo hi m order low = grind (arith, ints)

pub nearest_low : (lo hi m : ℤ) → lo ≤ℤ hi → lo ≤ℤ nearest lo hi m
unfolding nearest
nearest_low lo hi m order = grind (arith, ints)

pub nearest_high : (lo hi m : ℤ) → nearest lo hi m ≤ℤ hi
unfolding nearest
nearest_high lo hi m = grind (arith, ints)

over_stands : (extent : Extent) (limit : ℚ) (l : ℤ) → 0 < unsigned_abs extent.denominator → IsOver extent limit l
    → Stands limit l (unsigned_abs extent.denominator)
over_stands extent limit l positive is = change limit limit.numerator l limit.denominator (unsigned_abs extent.denominator) (itself limit)
    positive (sym is)

-- the lesser of a fraction and a limit, where the limit is the greatest number
min_cut : (x limit : ℚ) (m lo hi : ℤ) (d : ℕ) → Stands x m d → Stands limit hi d → lo ≤ℤ m → lo ≤ℤ hi → Stands (min_ℚ x limit)
    (nearest lo hi m) d
min_cut x limit m lo hi d stands bound low order =
    min_cases (λ y. Stands y (nearest lo hi m) d) x limit
    (λ h. subst (λ t. Stands x t d)
    (sym (nearest_inside lo hi m low (cancel_le_ℤ m hi d stands.positive (cross_by_le x limit m hi d d stands bound h)))) stands)
    (λ h. subst (λ t. Stands limit t d)
    (sym (nearest_above lo hi m order (cancel_le_ℤ hi m d stands.positive (cross_by_le limit x hi m d d bound stands h)))) bound)

max_cut : (x limit : ℚ) (m lo hi : ℤ) (d : ℕ) → Stands x m d → Stands limit lo d → m ≤ℤ hi → lo ≤ℤ hi → Stands (max_ℚ x limit)
    (nearest lo hi m) d
max_cut x limit m lo hi d stands bound high order =
    max_cases (λ y. Stands y (nearest lo hi m) d) x limit
    (λ h. subst (λ t. Stands limit t d)
    (sym (nearest_below lo hi m order (cancel_le_ℤ m lo d stands.positive (cross_by_le x limit m lo d d stands bound h)))) bound)
    (λ h. subst (λ t. Stands x t d)
    (sym (nearest_inside lo hi m (cancel_le_ℤ lo m d stands.positive (cross_by_le limit x lo m d d bound stands h)) high)) stands)

-- a limit that cuts nothing
min_same : (x limit : ℚ) → x ≤ℚ limit → min_ℚ x limit ≡ x
min_same x limit le = min_cases (λ y. y ≡ x) x limit (λ h. refl) (λ h. le_antisymm_ℚ limit x h le)

max_same : (x limit : ℚ) → limit ≤ℚ x → max_ℚ x limit ≡ x
max_same x limit le = max_cases (λ y. y ≡ x) x limit (λ h. le_antisymm_ℚ limit x le h) (λ h. refl)

pub min_stands : (width : Width) (old : Extent) (limit : ℚ) (k : ℤ) (new : Extent) (x : ℚ) (n : ℤ) → IsMinimum width old limit k new
    → IsIn old n
    → Stands x n (unsigned_abs old.denominator) → Stands (min_ℚ x limit) (nearest new.least new.greatest (k *ℤ n))
    (unsigned_abs new.denominator)
min_stands width old limit k new x n is inside stands =
    let d = unsigned_abs new.denominator in
    let m = k *ℤ n in
    let there : Stands x m d = same_stands old k new x n is.over stands in
    let low = is.above n inside in
    ⊎_elim
    (λ (whole : IsOver new limit new.greatest). min_cut x limit m new.least new.greatest d there
    (over_stands new limit new.greatest is.over.positive whole) low is.ordered)
    (λ (free : (n : ℤ) → IsIn old n → ((k *ℤ n) ≤ℤ new.greatest) × ((k *ℤ n *ℤ pos limit.denominator) ≤ℤ (limit.numerator *ℤ pos d))).
    let below = free n inside in
    let same : min_ℚ x limit ≡ x = min_same x limit
    (le_by_cross x limit m limit.numerator d limit.denominator there (itself limit) below.1) in
    rw (same, nearest_inside new.least new.greatest m low below.0) there)
    is.cut

pub max_stands : (width : Width) (old : Extent) (limit : ℚ) (k : ℤ) (new : Extent) (x : ℚ) (n : ℤ) → IsMaximum width old limit k new
    → IsIn old n
    → Stands x n (unsigned_abs old.denominator) → Stands (max_ℚ x limit) (nearest new.least new.greatest (k *ℤ n))
    (unsigned_abs new.denominator)
max_stands width old limit k new x n is inside stands =
    let d = unsigned_abs new.denominator in
    let m = k *ℤ n in
    let there : Stands x m d = same_stands old k new x n is.over stands in
    let high = is.below n inside in
    ⊎_elim
    (λ (whole : IsOver new limit new.least). max_cut x limit m new.least new.greatest d there
    (over_stands new limit new.least is.over.positive whole) high is.ordered)
    (λ (free : (n : ℤ) → IsIn old n → (new.least ≤ℤ (k *ℤ n)) × ((limit.numerator *ℤ pos d) ≤ℤ (k *ℤ n *ℤ pos limit.denominator))).
    let above = free n inside in
    let same : max_ℚ x limit ≡ x = max_same x limit
    (le_by_cross limit x limit.numerator m limit.denominator d (itself limit) there above.1) in
    rw (same, nearest_inside new.least new.greatest m above.0 high) there)
    is.cut

-- ---- a dither
pub dithered_stands : (width : Width) (old : Extent) (count : ℕ) (k unit : ℤ) (new : Extent) (x : ℚ) (n : ℤ) (p q m : ℕ)
    → IsDithered width old count k unit new
    → Stands x n (unsigned_abs old.denominator) → Stands (dither_at count p q) (pos m) (2 * 4 ^ count)
    → Stands (x +ℚ dither_at count p q) (k *ℤ n +ℤ unit *ℤ pos m) (unsigned_abs new.denominator)
dithered_stands width old count k unit new x n p q m is stands dither =
    let d = unsigned_abs new.denominator in
    common_add x (dither_at count p q) (k *ℤ n) (unit *ℤ pos m) d (same_stands old k new x n is.over stands)
    (change (dither_at count p q) (pos m) (unit *ℤ pos m) (2 * 4 ^ count) d dither is.over.positive
    (ring_from ints_ring (pos m ∷ pos d ∷ unit ∷ pos (2 * 4 ^ count) ∷ []) (var 0 ⊗ var 1) (var 2 ⊗ var 0 ⊗ var 3)
    (by (minus (var 0)) (var 2 ⊗ var 3) (var 1) done) (is.unit_is, tt) refl))
