-- The claim machine. Numbers are drawn one after the other. The slice of a drawn number is held by the hand that drew it, and then done.
use Rattle.std.specs.Prelude.{◌≡◌, ◌≢◌, ℕ, ◌+◌, ◌-◌, ◌<◌, ◌≤◌, Bool, true, false, ◌||◌, ◌==◌, if◌then◌else◌, nat_lt, min, max}
use Rattle.std.specs.Prelude.{Option, Some, None, IfSome, List, [], ◌∷◌, ◌++◌, slice_set}
use mathlib.Core.Option.{some}
use lib.ListN.{get_elem?}

-- a hand: its share, the last number that it drew, whether it is spent, and the slice that it holds
pub record HandState : Type 0 where
  pub share : ℕ
  pub last : Option ℕ
  pub spent : Bool
  pub held : Option ℕ

-- the number of slices, the shares in all, the number that is drawn next, the slices that are done, and the hands;
-- a hand that was joined into another stays in the list, with no share
pub record ClaimState : Type 0 where
  pub count : ℕ
  pub hands : ℕ
  pub next : ℕ
  pub done : List ℕ
  pub seats : List HandState

-- what happens; a hand is named by its place in the list of hands:
-- a hand claims; works on a slice; finishes a slice; gives a part of its share to a new hand; a second hand joins a first
pub data Event : Type 0 where
  claim : ℕ → Event
  work : ℕ → ℕ → Event
  finish : ℕ → ℕ → Event
  split : ℕ → ℕ → Event
  join : ℕ → ℕ → Event

-- a hand that has drawn nothing yet
abbrev pub fresh : ℕ → HandState
fresh share = record { share = share; last = None; spent = false; held = None }

-- a hand that was joined into another
abbrev pub ended : HandState
ended = fresh 0

-- a hand that was not joined into another
abbrev pub IsLive : HandState → Type 0
IsLive h = 0 < h.share

-- a hand that may claim
abbrev pub IsFree : HandState → Type 0
IsFree h = (h.spent ≡ false) × (h.held ≡ None)

-- the hand after it drew this number, by whether it is a slice's: it holds that slice, or is spent
abbrev pub drawn_if : Bool → ℕ → HandState → HandState
drawn_if true number h = record { share = h.share; last = Some number; spent = h.spent; held = Some number }
drawn_if false number h = record { share = h.share; last = Some number; spent = true; held = h.held }

-- the hand after it drew this number, of so many slices
abbrev pub drawn : ℕ → ℕ → HandState → HandState
drawn count number h = drawn_if (nat_lt number count) number h

-- the hand after its slice is done
abbrev pub emptied : HandState → HandState
emptied h = record { share = h.share; last = h.last; spent = h.spent; held = None }

-- the hand after it gave a part of its share away
abbrev pub kept : ℕ → HandState → HandState
kept give h = record { share = h.share - give; last = h.last; spent = h.spent; held = h.held }

-- the greater of two last numbers, where there are any
abbrev pub later : Option ℕ → Option ℕ → Option ℕ
later None b = b
later (Some a) None = Some a
later (Some a) (Some b) = Some (max a b)

-- two hands made one
abbrev pub joined : HandState → HandState → HandState
joined h g = record { share = h.share + g.share; last = later h.last g.last; spent = h.spent || g.spent; held = h.held }

-- the same state with other hands
abbrev pub with_seats : ClaimState → List HandState → ClaimState
with_seats s seats = record { count = s.count; hands = s.hands; next = s.next; done = s.done; seats = seats }

-- the hand h, at this place, drew the next number
abbrev pub after_claim : ClaimState → ℕ → HandState → ClaimState
after_claim s id h =
    record { count = s.count; hands = s.hands; next = s.next + 1; done = s.done; seats = slice_set s.seats id (drawn s.count s.next h) }

-- the slice that the hand h held is done
abbrev pub after_finish : ClaimState → ℕ → ℕ → HandState → ClaimState
after_finish s id slice h =
    record { count = s.count; hands = s.hands; next = s.next; done = slice ∷ s.done; seats = slice_set s.seats id (emptied h) }

-- the hand h gave a part of its share to a new hand, which stands last
abbrev pub after_split : ClaimState → ℕ → ℕ → HandState → ClaimState
after_split s id give h = with_seats s (slice_set s.seats id (kept give h) ++ fresh give ∷ [])

-- the hand g joined the hand h, and ended
abbrev pub after_join : ClaimState → ℕ → ℕ → HandState → HandState → ClaimState
after_join s into from h g = with_seats s (slice_set (slice_set s.seats into (joined h g)) from ended)

-- what the machine may do
abbrev pub Step : ClaimState → Event → ClaimState → Type 0
Step s (claim id) t = (h : HandState) × (get_elem? s.seats id ≡ some h) × IsLive h × IsFree h × (t ≡ after_claim s id h)
Step s (work id slice) t = (h : HandState) × (get_elem? s.seats id ≡ some h) × (h.held ≡ Some slice) × (t ≡ s)
Step s (finish id slice) t =
    (h : HandState) × (get_elem? s.seats id ≡ some h) × (h.held ≡ Some slice) × (t ≡ after_finish s id slice h)
Step s (split id give) t =
    (h : HandState) × (get_elem? s.seats id ≡ some h) × IsFree h × (1 ≤ give) × (give < h.share) × (t ≡ after_split s id give h)
Step s (join into from) t = (h : HandState) × (g : HandState) × (into ≢ from)
    × (get_elem? s.seats into ≡ some h) × IsLive h × (h.held ≡ None)
    × (get_elem? s.seats from ≡ some g) × IsLive g × (g.held ≡ None) × (t ≡ after_join s into from h g)

-- t is reached from s by these events, the last one first
abbrev pub Reaches : ClaimState → List Event → ClaimState → Type 0
Reaches s [] t = t ≡ s
Reaches s (e ∷ es) t = (between : ClaimState) × Reaches s es between × Step between e t

-- the sum of a number that each element has
abbrev pub total : {A : Type 0} → (A → ℕ) → List A → ℕ
total f [] = 0
total f (x ∷ xs) = f x + total f xs

abbrev pub share_of : HandState → ℕ
share_of h = h.share

-- the share of a hand that is spent, else 0
abbrev pub spent_share : HandState → ℕ
spent_share h = if h.spent then h.share else 0

-- 1 where the numbers are the same, else 0
abbrev pub only : ℕ → ℕ → ℕ
only k j = if j == k then 1 else 0

-- 1 where there is a number and it is k, else 0
abbrev pub only_some : ℕ → Option ℕ → ℕ
only_some k None = 0
only_some k (Some j) = only k j

-- 1 where the hand holds the slice k, else 0
abbrev pub holds_slice : ℕ → HandState → ℕ
holds_slice k h = only_some k h.held

-- how often the slice k is held
abbrev pub times_held : ℕ → List HandState → ℕ
times_held k seats = total (holds_slice k) seats

-- how often the slice k is done
abbrev pub times_done : ℕ → List ℕ → ℕ
times_done k done = total (only k) done

-- 1 where k is below n, else 0
abbrev pub once_below : ℕ → ℕ → ℕ
once_below n k = if nat_lt k n then 1 else 0

-- a hand's held slice is its last number, each last number was drawn, a spent hand drew a number that is no slice's and holds none,
-- and a hand with no share has ended
pub record IsLawfulHand (count next : ℕ) (h : HandState) : Type 0 where
  pub drawn_before : IfSome h.last (λ k. k < next)
  pub holds_last : IfSome h.held (λ k. h.last ≡ Some k)
  pub spent_past : h.spent ≡ true → (count < next) × (h.held ≡ None)
  pub ended_idle : h.share ≡ 0 → h ≡ ended

-- the shares add up; numbers beyond the slices were drawn by spent hands alone; each hand is lawful;
-- each drawn slice is held once or done once and not both, and no other slice is held or done
pub record IsLawful (s : ClaimState) : Type 0 where
  pub shares : total share_of s.seats ≡ s.hands
  pub few : s.next ≤ s.count + total spent_share s.seats
  pub each : (id : ℕ) (h : HandState) → get_elem? s.seats id ≡ some h → IsLawfulHand s.count s.next h
  pub once : (k : ℕ) → times_held k s.seats + times_done k s.done ≡ once_below (min s.next s.count) k

-- no slice is done, and one hand has all shares
abbrev pub start : ℕ → ℕ → ClaimState
start count hands = record { count = count; hands = hands; next = 0; done = []; seats = fresh hands ∷ [] }
