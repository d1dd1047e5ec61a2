-- When a call may answer a fault of a source or a sink: by the object's own count of faults. Each word takes what the object shows before
-- and after.
use Rattle.std.specs.Prelude.{◌≡◌, ℕ, ◌-◌, ◌^◌, ◌<◌, ◌≤◌, ◌⊎◌, Result, OnOk, OnErr}
use Rattle.pix_io.specs.Shown.{Shown}

-- the count rose, or it is the last number of a u64 after the call
abbrev pub Rose : ℕ → ℕ → Type 0
Rose before now = (before < now) ⊎ (now ≡ 2 ^ 64 - 1)

-- the count never falls, a fault is answered only where it rose, no rise is passed over, and what the object was made with is as it was
pub record HasCause {T E : Type 0} (old new : Shown) (result : Result T E) : Type 0 where
  pub later : old.faults ≤ new.faults
  pub failed : OnErr result (Rose old.faults new.faults)
  pub kept : OnOk result (new.faults ≡ old.faults)
  pub made : new.made_with ≡ old.made_with

-- no call failed, and what the object was made with is as it was
pub record HasNoFault (old new : Shown) : Type 0 where
  pub faults : new.faults ≡ old.faults
  pub made : new.made_with ≡ old.made_with
