-- What the workers of a board leave.
use Rattle.std.specs.Prelude.{◌≡◌, ℕ, ◌+◌, Option, None, Some, true}
use Rattle.slice_claim.specs.Machine.{HandState}

-- the hand has the share that it had, is spent and holds nothing
pub record HasWorked (old new : HandState) : Type 0 where
  pub share : new.share ≡ old.share
  pub spent : new.spent ≡ true
  pub idle : new.held ≡ None

-- every number that a hand may still draw is at least this, where the last one that it drew is known
abbrev pub least_next : Option ℕ → ℕ
least_next None = 0
least_next (Some last) = last + 1
