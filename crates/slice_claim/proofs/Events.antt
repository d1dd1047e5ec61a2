-- Each step on the table is one event of the claim machine.
use Rattle.std.proofs.Common.{◌≡◌, ◌≢◌, ℕ, ◌+◌, ◌%◌, ◌^◌, ◌<◌, ◌≤◌, min, true, false, List, [], ◌∷◌, ◌++◌, map, length, get_or, set, Option}
use Rattle.std.proofs.Common.{Some, None, IfSome, sym, refl, ap, ap₂, ◌∙◌, subst, ⊎_elim, arith, length-set, get_or-set_same}
use Rattle.std.proofs.Common.{get_or-set_other}
use Rattle.std.proofs.lemmas.List.{map-set, map-append}
use Rattle.std.proofs.lemmas.Bool.{lt-ltb, le-ltb}
use mathlib.Core.Logic.{dite}
use mathlib.Core.Option.{some, none, some-injective, some-ne-none}
use native.Mathlib.Decide.{ℕ_discrete, dec_le}
use lib.ListN.{get_elem?}
use Rattle.atomic_table.specs.Table.{State, Me, Act, Valid, carried_after, step, keeps, takes, gives, stepped}
use Rattle.atomic_table.proofs.Lists.{at_set, at_snoc, at_map, set_here, set_else}
use Rattle.slice_claim.specs.Machine.{HandState, ClaimState, claim, finish, split, join, fresh, ended, IsLive, IsFree, drawn_if, drawn}
use Rattle.slice_claim.specs.Machine.{emptied, kept, joined, after_claim, after_finish, after_split, after_join, only_some, holds_slice}
use Rattle.slice_claim.specs.Machine.{times_held, times_done, IsLawful}
use Rattle.slice_claim.specs.Rule.{view_with, ended_view, kept_view, given_view, joined_view, IsGiven, hand_of, Shows, Draws}
use Rattle.slice_claim.specs.Events.{Follows, ClaimIsOneEvent, WorkIsOneEvent, FinishIsOneEvent, SplitIsOneEvent, JoinIsOneEvent}
use Rattle.slice_claim.specs.Events.{HomeIsDone}
use Rattle.slice_claim.specs.declared.view.View.{View}
use Rattle.slice_claim.proofs.Sums.{total-append, total-set, there, only_here, only_else, once_in, once_out, once_le}
use Rattle.slice_claim.proofs.Law.{next_bounded}

-- so few numbers are drawn that the word does not wrap
few_drawn : (c : ClaimState) → IsLawful c → c.count < 4294967296 → c.hands < 4294967296 → c.next < 8589934592
few_drawn c l few_slices few_hands = omega (arith, next_bounded c l)

-- a slice beyond those drawn is not held, and not done
not_done_yet : (c : ClaimState) (k : ℕ) → IsLawful c → c.next ≤ k → (times_held k c.seats ≡ 0) × (times_done k c.done ≡ 0)
not_done_yet c k l le =
    let m : min c.next c.count ≤ k = omega arith in
    let o = l.once k in
    let z = once_out (min c.next c.count) k m in
    (omega arith, omega arith)

-- a held slice was drawn
held_below : (c : ClaimState) (k : ℕ) → IsLawful c → 0 < times_held k c.seats → (k < c.next) × (k < c.count)
held_below c k l some_hand =
    dite (dec_le (min c.next c.count) k)
    (λ le. let o = l.once k in let z = once_out (min c.next c.count) k le in absurd (omega arith))
    (λ nle. let lt : k < min c.next c.count = omega arith in (omega arith, omega arith))

-- a slice whose number was drawn is held or done, once
once_each : (c : ClaimState) (k : ℕ) → IsLawful c → times_held k c.seats + times_done k c.done ≤ 1
once_each c k l = omega (arith, l.once k, once_le (min c.next c.count) k)

module _ {J : Type 0} (number_of : J → ℕ) (origin : J → List ℕ) (done : J → Type 0) (hands : ℕ) (origins : List (List ℕ)) where
  abbrev Sat : Type 0
  Sat = Me (Option J) View

  pub seat_at : (c : ClaimState) (s : State (Option J) View) (id : ℕ) (v : View) → map hand_of s.views ≡ c.seats
      → get_elem? s.views id ≡ some v → get_elem? c.seats id ≡ some v.hand
  seat_at c s id v is at = subst (λ (l : List HandState). get_elem? l id ≡ some v.hand) is (at_map hand_of s.views id v at)

  IsTerms : View → Type 0
  IsTerms v = IsLive v.hand → (v.hands ≡ hands) × (v.origins ≡ origins)

  terms_set : (views : List View) (id : ℕ) (w : View)
      → ((j : ℕ) (u : View) → get_elem? views j ≡ some u → IsLive u.hand → (u.hands ≡ hands) × (u.origins ≡ origins))
      → (IsLive w.hand → (w.hands ≡ hands) × (w.origins ≡ origins))
      → (j : ℕ) (u : View) → get_elem? (set views id w) j ≡ some u → IsLive u.hand → (u.hands ≡ hands) × (u.origins ≡ origins)
  terms_set views id w old new j u e live = ⊎_elim
      (λ (t : (j ≡ id) × (w ≡ u)). subst (λ (x : View). IsLive x.hand → (x.hands ≡ hands) × (x.origins ≡ origins)) t.1 new live)
      (λ (t : (j ≢ id) × (get_elem? views j ≡ some u)). old j u t.1 live)
      (at_set views id j w u e)

  -- the claim word after a claim
  next_word : (c : ClaimState) (words : List ℕ) → IsLawful c → c.count < 4294967296 → c.hands < 4294967296 → length words ≡ 2
      → get_or words 0 0 ≡ c.next
      → get_or (set words 0 ((get_or words 0 0 + 1) % 2 ^ 64)) 0 0 ≡ c.next + 1
  next_word c words l few_slices few_hands wide is =
      let few = few_drawn c l few_slices few_hands in
      let n : ℕ = get_or words 0 0 in
      let same : get_or (set words 0 ((n + 1) % 2 ^ 64)) 0 0 ≡ (n + 1) % 2 ^ 64 =
      get_or-set_same words 0 ((n + 1) % 2 ^ 64) 0 (omega arith) in
      let small : (n + 1) % 2 ^ 64 ≡ n + 1 = omega arith in
      omega arith

  abbrev Claims : ℕ → ℕ → Sat → State (Option J) View → ClaimState → Type 0
  Claims slots id m s c = (w : View) × (a : Act (Option J)) × Valid s.homes m.1 a
      × Follows number_of origin done hands origins c (claim id) (stepped s 0 ((get_or s.words 0 0 + 1) % 2 ^ 64) id m.1 w a)
      × Draws number_of origin (step slots 0 1 0 none) m (get_or s.words 0 0) (w, carried_after m.1 a)

  -- a claim that draws a slice's number
  takes_one : (slots id : ℕ) (m : Sat) (s : State (Option J) View) → (c : ClaimState) → IsLawful c
      → Shows number_of origin done hands origins c s → length s.homes ≡ slots → get_elem? s.views id ≡ some m.0 → IsLive m.0.hand
      → IsFree m.0.hand
      → get_or s.words 0 0 < slots → Claims slots id m s c
  takes_one slots id m s c l sh len at live free below =
      let h = m.0.hand in
      let number : ℕ = get_or s.words 0 0 in
      let is : number ≡ c.next = sh.next in
      let slots_is : slots ≡ c.count = sym len ∙ sh.slots in
      let w : View = view_with m.0 (drawn slots number h) in
      let seat = seat_at c s id m.0 sh.seats at in
      let drew : drawn slots number h ≡ drawn c.count c.next h = ap₂ (λ a b. drawn a b h) slots_is is in
      let lies = sh.ready number (omega arith) (omega arith) in
      let job = lies.0 in
      let known = sh.terms id m.0 at live in
      let held : (k : ℕ) → times_held k (set c.seats id (drawn c.count c.next h)) + only_some k h.held
      ≡ times_held k c.seats + holds_slice k (drawn c.count c.next h) =
      λ k. total-set (holds_slice k) c.seats id h (drawn c.count c.next h) seat in
      let has : drawn c.count c.next h ≡ drawn_if true c.next h = ap (λ b. drawn_if b c.next h) (lt-ltb c.next c.count (omega arith)) in (
        w,
        takes number (Some job),
        lies.1,
        (
          after_claim c id h,
          (h, seat, live, free, refl),
          record {
            wide = length-set s.words 0 ((number + 1) % 2 ^ 64) ∙ sh.wide;
            slots = length-set s.homes number none ∙ sh.slots;
            count = sh.count;
            hands_are = sh.hands_are;
            small = sh.small;
            next = next_word c s.words l sh.small.0 sh.small.1 sh.wide is;
            seats = map-set hand_of s.views id w ∙ ap₂ (λ x (y : HandState). set x id y) sh.seats drew;
            terms = terms_set s.views id w sh.terms (λ _. known);
            ready = λ k le lt. (let old = sh.ready k (omega arith) lt in (
              old.0,
              set_else s.homes number k none (λ e. omega arith)
                  ∙ old.1,
              old.2,
            ));
            back = λ k some_done. (let old = sh.back k some_done in (
              old.0,
              set_else s.homes number k none (λ e. let z = not_done_yet c k l (omega arith) in omega (arith, z.1)) ∙ old.1,
              old.2,
            ));
            out = λ k some_held. dite (ℕ_discrete k number)
                (λ e. subst (λ j. get_elem? (set s.homes number none) j ≡ some none) (sym e) (set_here s.homes number none (omega arith)))
                (λ ne. set_else s.homes number k none ne
                ∙ sh.out k (omega (arith, held k, ap (holds_slice k) has, only_else k c.next (λ e. ne (omega arith)))));
          },
        ),
        (
          refl,
          subst (λ n. IfSome h.last (λ k. k < n)) (sym is) (l.each id h seat).drawn_before,
          (λ _. (job, refl, (lies.2.0, lies.2.1 ∙ ap (λ o. get_or o number []) (sym known.1)))),
          λ le. absurd (omega arith),
        ),
      )

  -- a claim that draws a number beyond the slices
  takes_none : (slots id : ℕ) (m : Sat) (s : State (Option J) View) → (c : ClaimState) → IsLawful c
      → Shows number_of origin done hands origins c s → length s.homes ≡ slots → get_elem? s.views id ≡ some m.0 → IsLive m.0.hand
      → IsFree m.0.hand
      → slots ≤ get_or s.words 0 0 → Claims slots id m s c
  takes_none slots id m s c l sh len at live free past =
      let h = m.0.hand in
      let number : ℕ = get_or s.words 0 0 in
      let is : number ≡ c.next = sh.next in
      let slots_is : slots ≡ c.count = sym len ∙ sh.slots in
      let w : View = view_with m.0 (drawn slots number h) in
      let seat = seat_at c s id m.0 sh.seats at in
      let drew : drawn slots number h ≡ drawn c.count c.next h = ap₂ (λ a b. drawn a b h) slots_is is in
      let known = sh.terms id m.0 at live in
      let held : (k : ℕ) → times_held k (set c.seats id (drawn c.count c.next h)) + only_some k h.held
      ≡ times_held k c.seats + holds_slice k (drawn c.count c.next h) =
      λ k. total-set (holds_slice k) c.seats id h (drawn c.count c.next h) seat in
      let has : drawn c.count c.next h ≡ drawn_if false c.next h = ap (λ b. drawn_if b c.next h) (le-ltb c.next c.count (omega arith)) in (
        w,
        keeps,
        tt,
        (
          after_claim c id h,
          (h, seat, live, free, refl),
          record {
            wide = length-set s.words 0 ((number + 1) % 2 ^ 64) ∙ sh.wide;
            slots = sh.slots;
            count = sh.count;
            hands_are = sh.hands_are;
            small = sh.small;
            next = next_word c s.words l sh.small.0 sh.small.1 sh.wide is;
            seats = map-set hand_of s.views id w ∙ ap₂ (λ x (y : HandState). set x id y) sh.seats drew;
            terms = terms_set s.views id w sh.terms (λ _. known);
            ready = λ k le lt. sh.ready k (omega arith) lt;
            back = sh.back;
            out = λ k some_held. sh.out k (omega (arith, held k, ap (holds_slice k) has));
          },
        ),
        (refl, subst (λ n. IfSome h.last (λ k. k < n)) (sym is) (l.each id h seat).drawn_before, (λ lt. absurd (omega arith)), λ _. refl),
      )

  -- a finish, of a seat that has the slot k with its job
  finishes : (id k : ℕ) (v : View) (job : J) (more : List (ℕ × Option J)) (s : State (Option J) View) (c : ClaimState) → IsLawful c
      → Shows number_of origin done hands origins c s → get_elem? s.views id ≡ some v → IsLive v.hand → v.hand.held ≡ Some k
      → IsGiven number_of origin v.origins k job → done job
      → Follows number_of origin done hands origins c (finish id k)
      (stepped s 1 ((get_or s.words 1 0 + 1) % 2 ^ 64) id ((k, Some job) ∷ more) (view_with v (emptied v.hand)) gives)
  finishes id k v job more s c l sh at live has given is_done =
      let h = v.hand in
      let new : ℕ = (get_or s.words 1 0 + 1) % 2 ^ 64 in
      let w : View = view_with v (emptied h) in
      let seat = seat_at c s id v sh.seats at in
      let known = sh.terms id v at live in
      let held : (j : ℕ) → times_held j (set c.seats id (emptied h)) + only_some j h.held ≡ times_held j c.seats + 0 =
      λ j. total-set (holds_slice j) c.seats id h (emptied h) seat in
      let mine : only_some k h.held ≡ 1 = ap (only_some k) has ∙ only_here k in
      let below = held_below c k l (omega (arith, held k)) in (
        after_finish c id k h,
        (h, seat, has, refl),
        record {
          wide = length-set s.words 1 new ∙ sh.wide;
          slots = length-set s.homes k (some (Some job)) ∙ sh.slots;
          count = sh.count;
          hands_are = sh.hands_are;
          small = sh.small;
          next = get_or-set_other s.words 1 0 new 0 (λ e. omega arith) ∙ sh.next;
          seats = map-set hand_of s.views id w ∙ ap (λ x. set x id (emptied h)) sh.seats;
          terms = terms_set s.views id w sh.terms (λ _. known);
          ready = λ j le lt. (let old = sh.ready j le lt in (
            old.0,
            set_else s.homes k j (some (Some job)) (λ e. omega (arith, below.0))
                ∙ old.1,
            old.2,
          ));
          back = λ j some_done. dite (ℕ_discrete j k)
              (λ e. (
                job,
                subst (λ i. get_elem? (set s.homes k (some (Some job))) i ≡ some (some (Some job))) (sym e)
                    (set_here s.homes k (some (Some job)) (omega (arith, below.1, sh.slots))),
                ((given.0 ∙ sym e, given.1 ∙ ap₂ (λ o (i : ℕ). get_or o i []) known.1 (sym e)), is_done),
              ))
              (λ ne. let old = sh.back j (omega (arith, only_else j k (λ e. ne (sym e)))) in (
                old.0,
                set_else s.homes k j (some (Some job)) ne ∙ old.1,
                old.2,
              ));
          out = λ j some_held. dite (ℕ_discrete j k)
              (λ e. let some_held' : 0 < times_held k (set c.seats id (emptied h)) = subst
              (λ i. 0 < times_held i (set c.seats id (emptied h))) e some_held in absurd (omega (arith, held k, once_each c k l)))
              (λ ne. set_else s.homes k j (some (Some job)) ne ∙ sh.out j (omega (arith, held j)));
        },
      )

  splits : (id give : ℕ) (v : View) (s : State (Option J) View) (c : ClaimState) → IsLawful c
      → Shows number_of origin done hands origins c s → get_elem? s.views id ≡ some v → IsFree v.hand → 1 ≤ give → give < v.hand.share
      → Follows number_of origin done hands origins c (split id give)
      (record { words = s.words; homes = s.homes; views = set s.views id (kept_view give v) ++ given_view give v ∷ [] })
  splits id give v s c l sh at free some_share less =
      let h = v.hand in
      let left = kept_view give v in
      let right = given_view give v in
      let seat = seat_at c s id v sh.seats at in
      let known = sh.terms id v at (omega arith) in
      let rest_of = set c.seats id (kept give h) in (
        after_split c id give h,
        (h, seat, free, some_share, less, refl),
        record {
          wide = sh.wide;
          slots = sh.slots;
          count = sh.count;
          hands_are = sh.hands_are;
          small = sh.small;
          next = sh.next;
          seats = map-append hand_of (set s.views id left) (right ∷ [])
              ∙ ap (λ x. x ++ fresh give ∷ []) (map-set hand_of s.views id left ∙ ap (λ x. set x id (kept give h)) sh.seats);
          terms = λ j u e live. ⊎_elim
              (λ was. terms_set s.views id left sh.terms (λ _. known) j u was live)
              (λ (same : right ≡ u). subst (λ (x : View). (x.hands ≡ hands) × (x.origins ≡ origins)) same known)
              (at_snoc (set s.views id left) right u j e);
          ready = sh.ready;
          back = sh.back;
          out = λ k some_held. sh.out k (omega (
            arith,
            total-set (holds_slice k) c.seats id h (kept give h) seat,
            total-append (holds_slice k) rest_of (fresh give ∷ []),
          ));
        },
      )

  joins : (id other : ℕ) (v w : View) (s : State (Option J) View) (c : ClaimState) → IsLawful c
      → Shows number_of origin done hands origins c s → ¬ (other ≡ id) → get_elem? s.views id ≡ some v → get_elem? s.views other ≡ some w
      → IsLive v.hand → v.hand.held ≡ None → IsLive w.hand → w.hand.held ≡ None
      → Follows number_of origin done hands origins c (join id other)
      (record { words = s.words; homes = s.homes; views = set (set s.views id (joined_view v w)) other ended_view })
  joins id other v w s c l sh apart at there live free live' free' =
      let h = v.hand in
      let g = w.hand in
      let both = joined_view v w in
      let known = sh.terms id v at live in
      let first = set c.seats id (joined h g) in
      let seat = seat_at c s id v sh.seats at in
      let seat' = seat_at c s other w sh.seats there in
      let seat'' : get_elem? first other ≡ some g = set_else c.seats id other (joined h g) apart ∙ seat' in (
        after_join c id other h g,
        (h, g, (λ e. apart (sym e)), seat, live, free, seat', live', free', refl),
        record {
          wide = sh.wide;
          slots = sh.slots;
          count = sh.count;
          hands_are = sh.hands_are;
          small = sh.small;
          next = sh.next;
          seats = map-set hand_of (set s.views id both) other ended_view
              ∙ ap (λ x. set x other ended) (map-set hand_of s.views id both ∙ ap (λ x. set x id (joined h g)) sh.seats);
          terms = terms_set (set s.views id both) other ended_view (terms_set s.views id both sh.terms (λ _. known))
              (λ none. absurd (omega arith));
          ready = sh.ready;
          back = sh.back;
          out = λ k some_held. sh.out k (omega (
            arith,
            total-set (holds_slice k) c.seats id h (joined h g) seat,
            total-set (holds_slice k) first other g ended seat'',
          ));
        },
      )

module _ {J : Type 0} (number_of : J → ℕ) (origin : J → List ℕ) (done : J → Type 0) where
  pub claim_event : ClaimIsOneEvent number_of origin done
  claim_event hands origins slots id m s c l sh len at live free = dite (dec_le slots (get_or s.words 0 0))
      (λ le. takes_none number_of origin done hands origins slots id m s c l sh len at live free le)
      (λ nle. takes_one number_of origin done hands origins slots id m s c l sh len at live free (omega arith))

  pub work_event : WorkIsOneEvent number_of origin done
  work_event hands origins id slice v s c sh at has =
      (c, (v.hand, seat_at number_of origin done hands origins c s id v sh.seats at, has, refl), sh)

  pub finish_event : FinishIsOneEvent number_of origin done
  finish_event hands origins id slice v job more s c l sh at live has given is_done =
      finishes number_of origin done hands origins id slice v job more s c l sh at live has given is_done

  pub split_event : SplitIsOneEvent number_of origin done
  split_event hands origins id give v s c l sh at free some_share less =
      splits number_of origin done hands origins id give v s c l sh at free some_share less

  pub join_event : JoinIsOneEvent number_of origin done
  join_event hands origins into from v w s c l sh apart at there live free live' free' =
      joins number_of origin done hands origins into from v w s c l sh apart at there live free live' free'

  pub home_done : HomeIsDone number_of origin done
  home_done hands origins k x s c l sh below at = dite (dec_le 1 (times_held k c.seats))
      (λ some_hand. absurd (some-ne-none x (some-injective (some x) none (sym at ∙ sh.out k some_hand))))
      (λ no_hand. omega (arith, l.once k, once_in (min c.next c.count) k below))
