-- Bytes made up from a seed, for a check without any input: of a linear congruential generator (Knuth, The Art of Computer Programming,
-- volume 2, section 3.2.1, with the multiplier and the increment of MMIX).
use Rattle.std.specs.Prelude.{ℕ, zero, suc, ◌+◌, ◌*◌, ◌/◌, ◌%◌, ◌^◌, List, [], ◌∷◌, ◌++◌, Some}
use Rattle.pix_io.specs.Shown.{Shown}

-- the state after one step
abbrev pub next_state : ℕ → ℕ
next_state state = (state * 6364136223846793005 + 1442695040888963407) % 2 ^ 64

-- the state after n steps
unfoldable pub state_after : ℕ → ℕ → ℕ
state_after seed zero = seed
state_after seed (suc n) = next_state (state_after seed n)

-- the first n bytes: of each state after a step its highest eight bits
unfoldable pub generated : ℕ → ℕ → List ℕ
generated seed zero = []
generated seed (suc n) = generated seed n ++ (state_after seed (suc n) / 2 ^ 56 ∷ [])

-- what a source of so many bytes shows, whose state is this
abbrev pub generator_shown : ℕ → ℕ → Shown
generator_shown state left = record { bytes = Some (generated state left); faults = 0; made_with = [] }
