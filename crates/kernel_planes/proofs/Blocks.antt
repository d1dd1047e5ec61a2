-- One value of a block is filled.
use Rattle.std.proofs.Common.{◌≡◌, ℕ, ◌+◌, ◌-◌, ◌*◌, ◌<◌, ◌≤◌, ◌⊎◌, inl, inr, ⊎_elim, List, slice_index_or, sym, ap, ◌∙◌, arith, subst}
use Rattle.std.proofs.Common.{below_more}
use Rattle.std.proofs.lemmas.Bool.{cases_lt}
use Rattle.kernel_planes.specs.Block.{Holds, AreBelow}

pub hold_more : {W : Type 0} (number : W → ℕ) (before after : List W) (given : ℕ → ℕ → ℕ) (v n : ℕ) → n ≤ 64
    → ((i : ℕ) (d : W) → i < n → number (slice_index_or after (64 * v + i) d) ≡ given v i)
    → ((j : ℕ) (d : W) → (j < 64 * v) ⊎ (64 * v + n ≤ j) → slice_index_or after j d ≡ slice_index_or before j d)
    → Holds number before v n given → Holds number after (v + 1) n given
hold_more {W} number before after given v n few here kept done u i d below within =
    below_more (λ t. number (slice_index_or after (64 * t + i) d) ≡ given t i) v
    (λ t lt. ap number (kept (64 * t + i) d (inl (omega arith))) ∙ done t i d lt within)
    (here i d within) u below

pub below_kept : {W : Type 0} (number : W → ℕ) (before after : List W) (v n count limit : ℕ) → n ≤ 64
    → ((i : ℕ) (d : W) → i < n → number (slice_index_or after (64 * v + i) d) < limit)
    → ((j : ℕ) (d : W) → (j < 64 * v) ⊎ (64 * v + n ≤ j) → slice_index_or after j d ≡ slice_index_or before j d)
    → AreBelow number before count limit → AreBelow number after count limit
below_kept {W} number before after v n count limit few here kept low u i d below within =
    let old : ((64 * u + i < 64 * v) ⊎ (64 * v + n ≤ 64 * u + i)) → number (slice_index_or after (64 * u + i) d) < limit =
    λ (o : (64 * u + i < 64 * v) ⊎ (64 * v + n ≤ 64 * u + i)). subst (λ x. number x < limit) (sym (kept (64 * u + i) d o))
    (low u i d below within) in
    ⊎_elim
    (λ (lt : 64 * u + i < 64 * v). old (inl lt))
    (λ (le : 64 * v ≤ 64 * u + i).
    ⊎_elim
    (λ (in_part : 64 * u + i < 64 * v + n).
    let same : 64 * v + (64 * u + i - 64 * v) ≡ 64 * u + i = omega arith in
    subst (λ t. number (slice_index_or after t d) < limit) same (here (64 * u + i - 64 * v) d (omega arith)))
    (λ (past : 64 * v + n ≤ 64 * u + i). old (inr past))
    (cases_lt (64 * u + i) (64 * v + n)))
    (cases_lt (64 * u + i) (64 * v))
