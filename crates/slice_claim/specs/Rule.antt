-- How a table shows a state of the claim machine, and what each step tells the hand that takes it.
-- Word 0 is the number that is drawn next, and word 1 counts the jobs that came back. Slot k is the place of job k.
use Rattle.std.specs.Prelude.{◌≡◌, ℕ, ◌<◌, ◌≤◌, Option, Some, IfSome, List, [], ◌∷◌, map, length, slice_index, slice_index_or}
use mathlib.Core.Option.{some, none}
use lib.ListN.{get_elem?}
use Rattle.atomic_table.specs.Table.{State, Me, Step, rest}
use Rattle.slice_claim.specs.Machine.{HandState, ClaimState, Event, Reaches, start, IsLive, drawn, emptied, kept, fresh, joined}
use Rattle.slice_claim.specs.Machine.{times_held, times_done, IsLawful}
use Rattle.slice_claim.specs.declared.view.View.{View}
use Rattle.slice_claim.specs.declared.view.Terms.{Terms}

-- what a hand knows, with another state of the hand
abbrev pub view_with : View → HandState → View
view_with v hand = record { hand = hand; hands = v.hands; origins = v.origins }

-- what the first hand knows
abbrev pub first_view : ℕ → List (List ℕ) → View
first_view hands origins = record { hand = fresh hands; hands = hands; origins = origins }

-- what is left of a hand that was joined into another
abbrev pub ended_view : View
ended_view = first_view 0 []

-- what a hand knows that gave a part of its share away
abbrev pub kept_view : ℕ → View → View
kept_view give v = view_with v (kept give v.hand)

-- what a hand knows that got a part of a share
abbrev pub given_view : ℕ → View → View
given_view give v = view_with v (fresh give)

-- what two hands know that were made one
abbrev pub joined_view : View → View → View
joined_view v w = view_with v (joined v.hand w.hand)

-- the job of a number, as it was given
abbrev pub IsGiven : {J : Type 0} → (J → ℕ) → (J → List ℕ) → List (List ℕ) → ℕ → J → Type 0
IsGiven number_of origin origins k job = (number_of job ≡ k) × (origin job ≡ slice_index_or origins k [])

-- the slot k is at home with such a job
abbrev pub LiesAt : {J V : Type 0} → State (Option J) V → ℕ → (J → Type 0) → Type 0
LiesAt {J} s k P = (job : J) × (get_elem? s.homes k ≡ some (some (Some job))) × P job

abbrev pub hand_of : View → HandState
hand_of v = v.hand

-- The table shows this state of the machine: its word 0 is the next number, and its views are the hands, each live one with what the board
-- was made with. The slot of a number that is not drawn yet is at home, with the job as it was given; that of a done slice is at home, with
-- the job as it was given and done; that of a held slice is out
pub record Shows {J : Type 0} (number_of : J → ℕ) (origin : J → List ℕ) (done : J → Type 0)
    (hands : ℕ) (origins : List (List ℕ)) (c : ClaimState) (s : State (Option J) View) : Type 0 where
  pub wide : length s.words ≡ 2
  pub slots : length s.homes ≡ c.count
  pub count : length origins ≡ c.count
  pub hands_are : c.hands ≡ hands
  pub small : (c.count < 4294967296) × (c.hands < 4294967296)
  pub next : slice_index s.words 0 ≡ c.next
  pub seats : map hand_of s.views ≡ c.seats
  pub terms : (id : ℕ) (v : View) → get_elem? s.views id ≡ some v → IsLive v.hand → (v.hands ≡ hands) × (v.origins ≡ origins)
  pub ready : (k : ℕ) → c.next ≤ k → k < c.count → LiesAt s k (IsGiven number_of origin origins k)
  pub back : (k : ℕ) → 0 < times_done k c.done → LiesAt s k (λ job. IsGiven number_of origin origins k job × done job)
  pub out : (k : ℕ) → 0 < times_held k c.seats → get_elem? s.homes k ≡ some none

-- the table shows a lawful state of the machine, to which events led from the start
pub record ShowsLawful {J : Type 0} (number_of : J → ℕ) (origin : J → List ℕ) (done : J → Type 0)
    (hands : ℕ) (origins : List (List ℕ)) (s : State (Option J) View) : Type 0 where
  pub state : ClaimState
  pub events : List Event
  pub reached : Reaches (start (length origins) hands) events state
  pub lawful : IsLawful state
  pub shows : Shows number_of origin done hands origins state s

-- the table of a board that was made with these terms
abbrev pub IsBoard : {J : Type 0} → (J → ℕ) → (J → List ℕ) → (J → Type 0) → Terms J → State (Option J) View → Type 0
IsBoard number_of origin done terms = ShowsLawful number_of origin done terms.hands (map origin terms.jobs.value.items)

-- what its first hand knows
abbrev pub first_of : {J : Type 0} → (J → List ℕ) → Terms J → View
first_of origin terms = first_view terms.hands (map origin terms.jobs.value.items)

-- the number is above the last one, where there is one
abbrev pub IsAbove : Option ℕ → ℕ → Type 0
IsAbove last number = IfSome last (λ k. k < number)

-- a claim: the hand drew the number found, above its last one, and has the slot of that number, where there is one, with its job as given
abbrev pub Draws : {J : Type 0} → (J → ℕ) → (J → List ℕ) → Step (Option J) → Me (Option J) View → ℕ → Me (Option J) View → Type 0
Draws {J} number_of origin st m number n =
    (n.0 ≡ view_with m.0 (drawn st.slots number m.0.hand)) × IsAbove m.0.hand.last number
    × (number < st.slots → (job : J) × (n.1 ≡ (number, Some job) ∷ m.1) × IsGiven number_of origin m.0.origins number job)
    × (st.slots ≤ number → n.1 ≡ m.1)

-- a finish: the hand holds nothing any more
abbrev pub Finishes : {J : Type 0} → Step (Option J) → Me (Option J) View → ℕ → Me (Option J) View → Type 0
Finishes st m found n = (n.0 ≡ view_with m.0 (emptied m.0.hand)) × (n.1 ≡ rest m.1)
