-- What a clause says of a board and of its hands.
use Rattle.std.specs.Prelude.{◌≡◌, ℕ, ◌<◌, ◌≤◌, Option, Some, List, map, slice_get, length, MatchOption}
use Rattle.slice_claim.specs.Machine.{HandState, fresh, drawn}
use Rattle.slice_claim.specs.Rule.{IsAbove, IsGiven}
use Rattle.slice_claim.specs.declared.board.Board.{Board}
use Rattle.slice_claim.specs.declared.hand.Hand.{Hand}
use Rattle.slice_claim.specs.declared.held.Held.{Held}

module _ {J : Type 0} where
  -- how many jobs the board was made with
  abbrev pub job_count : Board J → ℕ
  job_count board = board.count

  -- the shares of all its hands
  abbrev pub hand_count : Board J → ℕ
  hand_count board = board.table.shared.key.hands

  -- what was to be left as it was given, of each job
  abbrev pub origins_of : (J → List ℕ) → Board J → List (List ℕ)
  origins_of origin board = map origin board.table.shared.key.jobs.value.items

  -- the hand as the claim machine has it
  abbrev pub hand_state : Hand J → HandState
  hand_state hand = hand.seat.me.0.hand

  -- a hand of this board
  abbrev pub IsHandOf : (J → List ℕ) → Board J → Hand J → Type 0
  IsHandOf origin board hand =
      (hand.seat.table_id ≡ board.table.shared.table_id)
      × (hand.seat.me.0.hands ≡ hand_count board) × (hand.seat.me.0.origins ≡ origins_of origin board)

  -- the job of this number, with its origin as it was given
  abbrev pub IsJobOf : (J → ℕ) → (J → List ℕ) → Board J → ℕ → J → Type 0
  IsJobOf number_of origin board number job = IsGiven number_of origin (origins_of origin board) number job

  -- a claim: the hand drew a number above all that it drew before, and the job of that number came, exactly where there is one
  pub record IsClaim (number_of : J → ℕ) (origin : J → List ℕ) (board : Board J) (old new : Hand J) (result : Option (Held J)) : Type 0
    where
      pub number : ℕ
      pub above : IsAbove (hand_state old).last number
      pub hand : hand_state new ≡ drawn (job_count board) number (hand_state old)
      pub job : MatchOption result
          (job_count board ≤ number)
          (λ held. (held.number ≡ number) × (number < job_count board) × IsJobOf number_of origin board number held.job)

  -- a board just made, and its one hand
  pub record IsOpened (origin : J → List ℕ) (jobs : List J) (hands : ℕ) (board : Board J) (hand : Hand J) : Type 0 where
    pub count : job_count board ≡ length jobs
    pub hands_are : hand_count board ≡ hands
    pub origins : origins_of origin board ≡ map origin jobs
    pub own : IsHandOf origin board hand
    pub hand_is : hand_state hand ≡ fresh hands

  -- the jobs in order, each with its number and its origin as it was given, and done
  abbrev pub AllDone : (J → ℕ) → (J → List ℕ) → (J → Type 0) → Board J → List J → Type 0
  AllDone number_of origin done board jobs =
      (length jobs ≡ job_count board)
      × ((k : ℕ) (job : J) → slice_get jobs k ≡ Some job → IsJobOf number_of origin board k job × done job)

-- job k has the number k
abbrev pub AreNumbered : {J : Type 0} → (J → ℕ) → List J → Type 0
AreNumbered {J} number_of jobs = (k : ℕ) (job : J) → slice_get jobs k ≡ Some job → number_of job ≡ k
