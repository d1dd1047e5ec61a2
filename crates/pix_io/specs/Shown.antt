-- What a source or a sink shows to contracts.
use Rattle.std.specs.Prelude.{ℕ, List}
use Rattle.std.specs.declared.option.Option.{Option}

-- The bytes that a source has left, or that a sink was given, where it tells them; how many of its calls failed, a u64 that never falls and
-- stays at its last value; and what it was made with, which no call changes.
pub record Shown : Type 0 where
  pub bytes : Option (List ℕ)
  pub faults : ℕ
  pub made_with : List ℕ
