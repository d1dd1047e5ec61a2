-- The bytes of a generator, one after the other and part after part.
use Rattle.std.proofs.Common.{◌≡◌, ℕ, zero, suc, ◌+◌, ◌*◌, ◌/◌, ◌%◌, ◌^◌, [], ◌∷◌, ◌++◌, length, length-append, add-zero, add-suc, add-one}
use Rattle.std.proofs.Common.{refl, sym, ◌∙◌, ap, ap₂, arith, append-nil}
use Rattle.std.proofs.lemmas.List.{append_assoc}
use Rattle.frame_slices.specs.Generated.{next_state, state_after, generated}

pub length-generated : (seed n : ℕ) → length (generated seed n) ≡ n
unfolding generated
length-generated seed zero = refl
length-generated seed (suc n) = length-append (generated seed n) (state_after seed (suc n) / 2 ^ 56 ∷ [])
    ∙ omega (arith, length-generated seed n)

-- one step more
pub state_more : (seed n : ℕ) → state_after seed (n + 1) ≡ next_state (state_after seed n)
unfolding state_after
state_more seed n = rw add-one refl

pub generated_more : (seed n : ℕ) → generated seed (n + 1) ≡ generated seed n ++ (next_state (state_after seed n) / 2 ^ 56 ∷ [])
unfolding generated state_after
generated_more seed n = rw add-one refl

-- steps after steps
state_add : (seed m n : ℕ) → state_after seed (m + n) ≡ state_after (state_after seed m) n
unfolding state_after
state_add seed m zero = rw add-zero refl
state_add seed m (suc n) = rw add-suc (ap next_state (state_add seed m n))

pub generated_add : (seed m n : ℕ) → generated seed (m + n) ≡ generated seed m ++ generated (state_after seed m) n
unfolding generated state_after
generated_add seed m zero = rw add-zero (sym (append-nil (generated seed m)))
generated_add seed m (suc n) =
    rw add-suc
    (ap₂ (λ l s. l ++ (next_state s / 2 ^ 56 ∷ [])) (generated_add seed m n) (state_add seed m n)
    ∙ append_assoc (generated seed m) (generated (state_after seed m) n) (next_state (state_after (state_after seed m) n) / 2 ^ 56 ∷ []))

-- a product that wraps before the sum does
pub step_wraps : (state : ℕ) → (state * 6364136223846793005 % 18446744073709551616 + 1442695040888963407) % 18446744073709551616
    ≡ next_state state
step_wraps state = omega arith

pub nothing_left : (state n : ℕ) → n ≡ 0 → generated state n ≡ []
unfolding generated
nothing_left state n none = ap (generated state) none
