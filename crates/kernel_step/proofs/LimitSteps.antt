-- Value v of a block, but at most or at least a limit.
use Rattle.std.proofs.Common.{◌≡◌, ℕ, ◌+◌, ◌*◌, ◌<◌, List, ℤ, ◌*ℤ◌, slice_index_or, arith}
use Rattle.std.specs.Prelude.{◌≤ℤ◌}
use Rattle.std.proofs.lemmas.Int.{ints}
use Rattle.std.specs.Int.{Width}
use Rattle.frac_math.specs.Fraction.{ℚ, min_ℚ, max_ℚ}
use Rattle.kernel_step.specs.declared.form.Extent.{Extent}
use Rattle.kernel_step.specs.Rules.{nearest, but_at_least, but_at_most}
use Rattle.kernel_step.specs.ValueSteps.{AreIn, IsMaximum, IsMinimum, MakesValue}
use Rattle.kernel_step.proofs.ValueFractions.{max_stands, min_stands, nearest_high, nearest_low}

-- the nearest number of an interval, for a number that is not above it, or not below it
pub nearest_above : (least greatest x : ℤ) → least ≤ℤ greatest → x ≤ℤ greatest → but_at_least least x ≡ nearest least greatest x
unfolding nearest but_at_least
nearest_above least greatest x ordered below = grind (arith, ints)

pub nearest_below : (least greatest x : ℤ) → least ≤ℤ x → but_at_most greatest x ≡ nearest least greatest x
unfolding nearest but_at_most
nearest_below least greatest x above = grind (arith, ints)

-- each number times k, but in the bounds of an extent
abbrev pub Holds : {N : Type 0} → (N → ℤ) → ℤ → Extent → ℕ → List N → List N → Type 0
Holds {N} value k new v old made = (i : ℕ) (d : N) → i < 64
    → value (slice_index_or made (64 * v + i) d) ≡ nearest new.least new.greatest (k *ℤ value (slice_index_or old (64 * v + i) d))

pub minimum : {N : Type 0} (value : N → ℤ) (width : Width) (limit : ℚ) (k : ℤ) (v : ℕ) (numbers made : List N) (old new : Extent)
    → IsMinimum width old limit k new → AreIn value numbers v old → Holds value k new v numbers made
    → MakesValue value numbers made v old new (λ i x. min_ℚ x limit)
minimum {N} value width limit k v numbers made old new is within holds = record {
  inside = λ i d below.
      let m = k *ℤ value (slice_index_or numbers (64 * v + i) d) in
      rw (holds i d below) (nearest_low new.least new.greatest m is.ordered, nearest_high new.least new.greatest m);
  exact = λ i d x below stands.
      let n = value (slice_index_or numbers (64 * v + i) d) in
      rw (holds i d below) (min_stands width old limit k new x n is (within i d below) stands);
}

pub maximum : {N : Type 0} (value : N → ℤ) (width : Width) (limit : ℚ) (k : ℤ) (v : ℕ) (numbers made : List N) (old new : Extent)
    → IsMaximum width old limit k new → AreIn value numbers v old → Holds value k new v numbers made
    → MakesValue value numbers made v old new (λ i x. max_ℚ x limit)
maximum {N} value width limit k v numbers made old new is within holds = record {
  inside = λ i d below.
      let m = k *ℤ value (slice_index_or numbers (64 * v + i) d) in
      rw (holds i d below) (nearest_low new.least new.greatest m is.ordered, nearest_high new.least new.greatest m);
  exact = λ i d x below stands.
      let n = value (slice_index_or numbers (64 * v + i) d) in
      rw (holds i d below) (max_stands width old limit k new x n is (within i d below) stands);
}
