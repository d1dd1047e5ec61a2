-- Each step keeps the rule of a board: it is one event of the claim machine.
use Rattle.std.proofs.Common.{◌≡◌, ℕ, ◌+◌, ◌%◌, ◌^◌, ◌<◌, ◌≤◌, min, true, List, [], ◌∷◌, ◌++◌, map, length, get_or, set, Option, Some, None}
use Rattle.std.proofs.Common.{sym, refl, ap, ◌∙◌, subst, arith}
use Rattle.std.proofs.lemmas.List.{length-map}
use mathlib.Core.Logic.{dite}
use mathlib.Core.Option.{some, none, some-injective}
use native.Mathlib.Decide.{ℕ_discrete}
use lib.ListN.{get_elem?}
use Rattle.atomic_table.specs.Table.{State, Me, step, gives, stepped, opening, Allows, Splits, Joins, Final, Seen}
use Rattle.atomic_table.proofs.Lists.{at_map, set_else}
use Rattle.slice_claim.specs.Machine.{Event, claim, finish, split, join, IsLive, IsFree, emptied, share_of, only_some, holds_slice}
use Rattle.slice_claim.specs.Machine.{times_held, once_below, start}
use Rattle.slice_claim.specs.Rule.{view_with, first_view, ended_view, kept_view, given_view, joined_view, IsGiven, ShowsLawful, Draws}
use Rattle.slice_claim.specs.Rule.{Finishes}
use Rattle.slice_claim.specs.declared.view.View.{View}
use Rattle.slice_claim.proofs.Sums.{terms_le, total_none, there, get_or-map, once_in}
use Rattle.slice_claim.specs.Events.{Follows}
use Rattle.slice_claim.proofs.Events.{seat_at, claim_event, finish_event, split_event, join_event}
use Rattle.slice_claim.proofs.Law.{keeps_lawful, start_lawful, lone}

module _ {J : Type 0} (number_of : J → ℕ) (origin : J → List ℕ) (done : J → Type 0) (hands : ℕ) (origins : List (List ℕ)) where
  abbrev Holds : State (Option J) View → Type 0
  Holds = ShowsLawful number_of origin done hands origins

  -- the rule after one event
  advances : (s t : State (Option J) View) (e : Event) (holds : Holds s) → Follows number_of origin done hands origins holds.state e t
      → Holds t
  advances s t e holds f = record {
    state = f.0;
    events = e ∷ holds.events;
    reached = (holds.state, holds.reached, f.1);
    lawful = keeps_lawful holds.state f.0 e holds.lawful f.1;
    shows = f.2;
  }

  pub claims : (slots id : ℕ) (m : Me (Option J) View) → IsLive m.0.hand → IsFree m.0.hand
      → Allows Holds slots id m 0 (λ n. (n + 1) % 2 ^ 64) (Draws number_of origin (step slots 0 1 0 none) m)
  claims slots id m live free s holds len at bound =
      let it = claim_event number_of origin done hands origins slots id m s holds.state holds.lawful holds.shows len at live free in
      (it.0, it.1, it.2, advances s (stepped s 0 ((get_or s.words 0 0 + 1) % 2 ^ 64) id m.1 it.0 it.1) (claim id) holds it.3, it.4)

  -- a finish, of a seat that has the slot k with its job
  pub lands : (slots id k : ℕ) (v : View) (job : J) (more : List (ℕ × Option J)) → IsLive v.hand → v.hand.held ≡ Some k
      → IsGiven number_of origin v.origins k job → done job
      → Allows Holds slots id (v, (k, Some job) ∷ more) 1 (λ n. (n + 1) % 2 ^ 64) (Finishes (step slots 1 1 0 none) (
        v,
        (k, Some job) ∷ more,
      ))
  lands slots id k v job more live has given is_done s holds len at bound = (
    view_with v (emptied v.hand),
    gives,
    tt,
    advances s (stepped s 1 ((get_or s.words 1 0 + 1) % 2 ^ 64) id ((k, Some job) ∷ more) (view_with v (emptied v.hand)) gives)
        (finish id k) holds
        (finish_event number_of origin done hands origins id k v job more s holds.state holds.lawful holds.shows at live has given is_done),
    (refl, refl),
  )

  pub splits : (id give : ℕ) (v : View) → IsFree v.hand → 1 ≤ give → give < v.hand.share
      → Splits Holds id v (kept_view give v) (given_view give v)
  splits id give v free some_share less s holds at =
      advances s (record { words = s.words; homes = s.homes; views = set s.views id (kept_view give v) ++ given_view give v ∷ [] })
      (split id give) holds
      (split_event number_of origin done hands origins id give v s holds.state holds.lawful holds.shows at free some_share less)

  pub joins : (id other : ℕ) (v w : View) → IsLive v.hand → v.hand.held ≡ None → IsLive w.hand → w.hand.held ≡ None
      → Joins Holds id v other w (joined_view v w) ended_view
  joins id other v w live free live' free' s holds at apart there =
      advances s (record { words = s.words; homes = s.homes; views = set (set s.views id (joined_view v w)) other ended_view })
      (join id other) holds
      (join_event number_of origin done hands origins id other v w s holds.state holds.lawful holds.shows apart at
      (sym (set_else s.views id other (joined_view v w) apart) ∙ there) live free live' free')

  -- a board at its start
  pub opens : (jobs : List J) (n : ℕ) → n ≡ length jobs → n < 4294967296 → 1 ≤ hands → hands < 4294967296 → origins ≡ map origin jobs
      → ((k : ℕ) (job : J) → get_elem? jobs k ≡ some job → number_of job ≡ k)
      → Holds (opening (0 ∷ 0 ∷ []) (map Some jobs) (first_view hands origins))
  opens jobs n n_is few some_hand few_hands is numbered = record {
    state = start n hands;
    events = [];
    reached = ap (λ (k : ℕ). start k hands) (n_is ∙ (sym (length-map jobs origin) ∙ sym (ap length is)));
    lawful = start_lawful n hands some_hand;
    shows = record {
      wide = refl;
      slots = length-map (map Some jobs) some ∙ (length-map jobs Some ∙ sym n_is);
      count = ap length is ∙ (length-map jobs origin ∙ sym n_is);
      hands_are = refl;
      small = (few, few_hands);
      next = refl;
      seats = refl;
      terms = λ j u e live. subst (λ (x : View). (x.hands ≡ hands)
          × (x.origins ≡ origins)) (lone (first_view hands origins) u j e) (refl, refl);
      ready = λ k le lt. (let it = there jobs k (omega arith) in (
        it.0,
        at_map some (map Some jobs) k (Some it.0) (at_map Some jobs k it.0 it.1),
        (numbered k it.0 it.1, sym (ap (λ o. get_or o k []) is ∙ get_or-map origin jobs k it.0 [] it.1)),
      ));
      back = λ k some_done. absurd (omega arith);
      out = λ k some_held. absurd (omega arith);
    };
  }

  -- where one hand has all shares, holds nothing and is spent, each slice is at home, done
  pub closes : (id : ℕ) (v : View) (words : List ℕ) (slots : List (Option J)) → v.hand.share ≡ hands → v.hand.spent ≡ true
      → v.hand.held ≡ None
      → Final (Seen Holds id v) words slots
      → (k : ℕ) → k < length slots → (job : J) × (get_elem? slots k ≡ some (Some job)) × IsGiven number_of origin origins k job × done job
  closes id v words slots all spent free final k lt =
      let s = final.0 in
      let holds = final.1.0 in
      let at = final.1.1 in
      let c = holds.state in
      let l = holds.lawful in
      let sh = holds.shows in
      let seat = seat_at number_of origin done hands origins c s id v sh.seats at in
      let f = l.each id v.hand seat in
      let past = (f.spent_past spent).0 in
      let nobody : times_held k c.seats ≡ 0 = total_none (holds_slice k) c.seats
      (λ j u e. dite (ℕ_discrete j id)
      (λ is. let same : u ≡ v.hand = some-injective u v.hand (sym e ∙ (ap (get_elem? c.seats) is ∙ seat)) in ap (holds_slice k) same
      ∙ ap (only_some k) free)
      (λ ne. let none_left : u.share ≡ 0 = omega (arith, terms_le share_of c.seats id j v.hand u ne seat e, l.shares, sh.hands_are) in
      ap (holds_slice k) ((l.each j u e).ended_idle none_left))) in
      let least : min c.next c.count ≡ c.count = omega arith in
      let below : k < c.count = omega (arith, final.3, sh.slots) in
      let one : once_below (min c.next c.count) k ≡ 1 = ap (λ (n : ℕ). once_below n k) least ∙ once_in c.count k below in
      let lies = sh.back k (omega (arith, l.once k)) in
      (lies.0, final.4 k (Some lies.0) lies.1, lies.2.0, lies.2.1)
