-- Each step on the table of a board is one event of the claim machine, whatever lawful state the table shows.
use Rattle.std.specs.Prelude.{◌≡◌, ℕ, ◌+◌, ◌%◌, ◌^◌, ◌<◌, ◌≤◌, Option, Some, None, List, [], ◌∷◌, ◌++◌, length, slice_index, slice_set, min}
use mathlib.Core.Option.{some, none}
use lib.ListN.{get_elem?}
use Rattle.atomic_table.specs.Table.{State, Me, Act, gives, Valid, carried_after, stepped, step}
use Rattle.slice_claim.specs.Machine.{ClaimState, Event, claim, work, finish, split, join, Step, IsLive, IsFree, emptied, times_done}
use Rattle.slice_claim.specs.Machine.{IsLawful}
use Rattle.slice_claim.specs.Rule.{view_with, kept_view, given_view, joined_view, ended_view, IsGiven, Shows, Draws}
use Rattle.slice_claim.specs.declared.view.View.{View}

module _ {J : Type 0} (number_of : J → ℕ) (origin : J → List ℕ) (done : J → Type 0) where
  -- the table shows the state after this event
  abbrev pub Follows : ℕ → List (List ℕ) → ClaimState → Event → State (Option J) View → Type 0
  Follows hands origins c e t = (d : ClaimState) × Step c e d × Shows number_of origin done hands origins d t

  -- `fetch_add` of 1 on the claim word, by a free hand: the slot of the number found goes out, if there is one
  abbrev pub ClaimIsOneEvent : Type 0
  ClaimIsOneEvent =
      (hands : ℕ) (origins : List (List ℕ)) (slots id : ℕ) (m : Me (Option J) View) (s : State (Option J) View) (c : ClaimState)
      → IsLawful c → Shows number_of origin done hands origins c s
      → length s.homes ≡ slots → get_elem? s.views id ≡ some m.0 → IsLive m.0.hand → IsFree m.0.hand
      → (w : View) × (a : Act (Option J)) × Valid s.homes m.1 a
      × Follows hands origins c (claim id) (stepped s 0 ((slice_index s.words 0 + 1) % 2 ^ 64) id m.1 w a)
      × Draws number_of origin (step slots 0 1 0 none) m (slice_index s.words 0) (w, carried_after m.1 a)

  -- the move of the job out of a held slot, or back into it: words, slots at home and views stay as they are
  abbrev pub WorkIsOneEvent : Type 0
  WorkIsOneEvent =
      (hands : ℕ) (origins : List (List ℕ)) (id slice : ℕ) (v : View) (s : State (Option J) View) (c : ClaimState)
      → Shows number_of origin done hands origins c s → get_elem? s.views id ≡ some v → v.hand.held ≡ Some slice
      → Follows hands origins c (work id slice) s

  -- `fetch_add` of 1 on the done word, by a hand whose held job is done: its slot comes home
  abbrev pub FinishIsOneEvent : Type 0
  FinishIsOneEvent =
      (hands : ℕ) (origins : List (List ℕ)) (id slice : ℕ) (v : View) (job : J) (more : List (ℕ × Option J)) (s : State (Option J) View)
      (c : ClaimState)
      → IsLawful c → Shows number_of origin done hands origins c s
      → get_elem? s.views id ≡ some v → IsLive v.hand → v.hand.held ≡ Some slice → IsGiven number_of origin v.origins slice job → done job
      → Follows hands origins c (finish id slice)
      (stepped s 1 ((slice_index s.words 1 + 1) % 2 ^ 64) id ((slice, Some job) ∷ more) (view_with v (emptied v.hand)) gives)

  -- the split of a seat
  abbrev pub SplitIsOneEvent : Type 0
  SplitIsOneEvent =
      (hands : ℕ) (origins : List (List ℕ)) (id give : ℕ) (v : View) (s : State (Option J) View) (c : ClaimState)
      → IsLawful c → Shows number_of origin done hands origins c s
      → get_elem? s.views id ≡ some v → IsFree v.hand → 1 ≤ give → give < v.hand.share
      → Follows hands origins c (split id give)
      (record { words = s.words; homes = s.homes; views = slice_set s.views id (kept_view give v) ++ given_view give v ∷ [] })

  -- the join of two seats
  abbrev pub JoinIsOneEvent : Type 0
  JoinIsOneEvent =
      (hands : ℕ) (origins : List (List ℕ)) (into from : ℕ) (v w : View) (s : State (Option J) View) (c : ClaimState)
      → IsLawful c → Shows number_of origin done hands origins c s
      → ¬ (from ≡ into) → get_elem? s.views into ≡ some v → get_elem? s.views from ≡ some w
      → IsLive v.hand → v.hand.held ≡ None → IsLive w.hand → w.hand.held ≡ None
      → Follows hands origins c (join into from)
      (record { words = s.words; homes = s.homes; views = slice_set (slice_set s.views into (joined_view v w)) from ended_view })

  -- the slots at home below the drawn numbers are those of the done slices
  abbrev pub HomeIsDone : Type 0
  HomeIsDone =
      (hands : ℕ) (origins : List (List ℕ)) (k : ℕ) (x : Option J) (s : State (Option J) View) (c : ClaimState)
      → IsLawful c → Shows number_of origin done hands origins c s
      → k < min c.next c.count → get_elem? s.homes k ≡ some (some x) → 0 < times_done k c.done
