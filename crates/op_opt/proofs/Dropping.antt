-- Entries of which one is dropped: which one, what stays, and that there are fewer.
use Rattle.std.proofs.Common.{◌≡◌, ℕ, zero, suc, ◌<◌, Bool, true, false, if◌then◌else◌, List, nat_eq, eqb-true, refl, sym, ◌∙◌, ap}
use Rattle.std.proofs.Common.{arith}
use Rattle.std.specs.Prelude.{Option, Some, None}
use Rattle.std.proofs.lemmas.Option.{same_Some, none-some}
use Rattle.std.proofs.lemmas.Bool.{and_from, both_ways}
use Rattle.frac_math.specs.Fraction.{ℚ}
use Rattle.op_list.proofs.GivenEntries.{fits_at}
use Rattle.op_list.specs.Typing.{entry_fits, all_fit}
use Rattle.op_list.specs.Values.{entry}
use Rattle.op_list.proofs.Four.{get_or-four}
use Rattle.op_opt.specs.OfFour.{if_so, lowest, or_else}
use Rattle.op_opt.specs.Entries.{without, is_given}
use Rattle.op_opt.specs.Weight.{entries_of}

-- ---- which one
if_so_some : (test : Bool) (k i : ℕ) → if_so test k ≡ Some i → (test ≡ true) × (k ≡ i)
if_so_some true k i h = (refl, same_Some k i h)
if_so_some false k i h = absurd (none-some i h)

or_else_of : {P : Type 0} (a b : Option ℕ) (i : ℕ) → or_else a b ≡ Some i → (a ≡ Some i → P) → (b ≡ Some i → P) → P
or_else_of None b i h here there = there h
or_else_of (Some x) b i h here there = here h

found : (test : ℕ → Bool) (k i : ℕ) → k < 4 → if_so (test k) k ≡ Some i → (i < 4) × (test i ≡ true)
found test k i below h = let s = if_so_some (test k) k i h in (omega (arith, s.1), sym (ap test s.1) ∙ s.0)

pub lowest_passes : (test : ℕ → Bool) (i : ℕ) → lowest test ≡ Some i → (i < 4) × (test i ≡ true)
lowest_passes test i h =
    or_else_of (if_so (test 0) 0) _ i h (found test 0 i (omega arith))
    (λ h1. or_else_of (if_so (test 1) 1) _ i h1 (found test 1 i (omega arith))
    (λ h2. or_else_of (if_so (test 2) 2) (if_so (test 3) 3) i h2 (found test 2 i (omega arith)) (found test 3 i (omega arith))))

-- ---- what stays
pub other_entry : (entries : List (Option ℚ)) (i j : ℕ) → j < 4 → nat_eq j i ≡ false → entry (without entries i) j ≡ entry entries j
other_entry entries i j below other = get_or-four (λ k. if nat_eq k i then None else entry entries k) j None below
    ∙ ap (λ b. if b then None else entry entries j) other

pub dropped_entry : (entries : List (Option ℚ)) (i : ℕ) → i < 4 → nat_eq i i ≡ true → entry (without entries i) i ≡ None
dropped_entry entries i below this = get_or-four (λ k. if nat_eq k i then None else entry entries k) i None below
    ∙ ap (λ b. if b then None else entry entries i) this

-- what holds of value j holds of entry j after the drop: by whether j is the value
pub by_place : {P : Type 0} (j i : ℕ) → (j ≡ i → P) → (nat_eq j i ≡ false → P) → P
by_place {P = P} j i this other = (elim (nat_eq j i) as (λ b. nat_eq j i ≡ b → P) [
  | true ↦ λ e. this (eqb-true j i e)
  | false ↦ λ e. other e
]) refl

pub one_unused : (used : ℕ → Bool) (j i : ℕ) → used j ≡ true → used i ≡ false → j ≡ i → ⊥
one_unused used j i t f e = both_ways (used i) f (sym (ap used e) ∙ t)

-- ---- the arguments are good
fits_unless : (bits : ℕ) (b : Bool) (e : Option ℚ) → entry_fits bits e ≡ true → entry_fits bits (if b then None else e) ≡ true
fits_unless bits true e h = refl
fits_unless bits false e h = h

pub without_fits : (bits i : ℕ) (entries : List (Option ℚ)) → all_fit bits entries ≡ true → all_fit bits (without entries i) ≡ true
without_fits bits i entries h =
    let each : (j : ℕ) → entry_fits bits (if nat_eq j i then None else entry entries j) ≡ true = λ j. fits_unless bits (nat_eq j i)
    (entry entries j) (fits_at bits entries j h) in
    and_from _ _ (each 0) (and_from _ _ (each 1) (and_from _ _ (each 2) (and_from _ true (each 3) refl)))

-- ---- there are fewer
one : (e : Option ℚ) → is_given e ≡ true → ◌≡◌ {A = ℕ} (if is_given e then 1 else 0) 1
one e h = ap (λ (b : Bool). let n : ℕ = if b then 1 else 0 in n) h

pub fewer_entries : (entries : List (Option ℚ)) (i : ℕ) → i < 4 → is_given (entry entries i) ≡ true
    → entries_of (without entries i) < entries_of entries
fewer_entries entries zero below h = omega (arith, one (entry entries 0) h)
fewer_entries entries (suc zero) below h = omega (arith, one (entry entries 1) h)
fewer_entries entries (suc (suc zero)) below h = omega (arith, one (entry entries 2) h)
fewer_entries entries (suc (suc (suc zero))) below h = omega (arith, one (entry entries 3) h)
fewer_entries entries (suc (suc (suc (suc i)))) below h = absurd (omega arith)
