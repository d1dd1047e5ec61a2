-- What holds of the claim machine.
use Rattle.std.specs.Prelude.{◌≡◌, ◌≢◌, ℕ, ◌+◌, ◌≤◌, Some}
use mathlib.Core.Option.{some}
use lib.ListN.{get_elem?}
use Rattle.slice_claim.specs.Machine.{HandState, ClaimState, Event, Step, start, IsLawful}

-- each event leads from a lawful state to a lawful state
abbrev pub EventsKeepLawful : Type 0
EventsKeepLawful = (s t : ClaimState) (e : Event) → IsLawful s → Step s e t → IsLawful t

-- a board begins in a lawful state
abbrev pub StartIsLawful : Type 0
StartIsLawful = (count hands : ℕ) → 1 ≤ hands → IsLawful (start count hands)

-- no more numbers are drawn than there are slices and hands
abbrev pub NextIsBounded : Type 0
NextIsBounded = (s : ClaimState) → IsLawful s → s.next ≤ s.count + s.hands

-- no two hands have more shares than there are
abbrev pub SharesFit : Type 0
SharesFit =
    (s : ClaimState) (i j : ℕ) (h g : HandState)
    → IsLawful s → j ≢ i → get_elem? s.seats i ≡ some h → get_elem? s.seats j ≡ some g → h.share + g.share ≤ s.hands

-- no two hands hold one slice
abbrev pub HeldByOne : Type 0
HeldByOne =
    (s : ClaimState) (i j k : ℕ) (h g : HandState)
    → IsLawful s → get_elem? s.seats i ≡ some h → get_elem? s.seats j ≡ some g → h.held ≡ Some k → g.held ≡ Some k → ¬ (j ≢ i)
