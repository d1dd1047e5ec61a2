-- What a test that passes says.
use Rattle.std.proofs.Common.{◌≡◌, ℕ, zero, suc, ◌<◌, Bool, true, false, not, ◌&&◌, ◌||◌, if◌then◌else◌, refl, arith}
use Rattle.std.specs.Prelude.{Option, Some, None}
use Rattle.std.proofs.lemmas.Option.{none-some}
use Rattle.std.proofs.lemmas.Bool.{and_parts}
use Rattle.op_opt.specs.OfFour.{all_of_four}

-- an answer that is there only where a test passes
pub chosen : {A : Type 0} (t : Bool) (o : Option A) (x : A) → (if t then o else None) ≡ Some x → (t ≡ true) × (o ≡ Some x)
chosen true o x h = (refl, h)
chosen false o x h = absurd (none-some x h)

pub from_not : (b : Bool) → not b ≡ true → b ≡ false
from_not true h = absurd (cc)
from_not false h = refl

-- what is asked of used values alone
pub if_used : (used test : Bool) → (not used || test) ≡ true → used ≡ true → test ≡ true
if_used true test h u = h
if_used false test h u = absurd (cc)

pub all_at : (test : ℕ → Bool) (i : ℕ) → i < 4 → all_of_four test ≡ true → test i ≡ true
all_at test zero below h = (and_parts (test 0) (test 1) (and_parts (test 0 && test 1) (test 2) (and_parts (test 0 && test 1
    && test 2) (test 3) h).0).0).0
all_at test (suc zero) below h = (and_parts (test 0) (test 1) (and_parts (test 0 && test 1) (test 2) (and_parts (test 0 && test 1
    && test 2) (test 3) h).0).0).1
all_at test (suc (suc zero)) below h = (and_parts (test 0 && test 1) (test 2) (and_parts (test 0 && test 1 && test 2) (test 3) h).0).1
all_at test (suc (suc (suc zero))) below h = (and_parts (test 0 && test 1 && test 2) (test 3) h).1
all_at test (suc (suc (suc (suc i)))) below h = absurd (omega arith)
