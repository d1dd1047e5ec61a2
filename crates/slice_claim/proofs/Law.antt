-- Each event leads from a lawful state to a lawful state.
use Rattle.std.proofs.Common.{◌≡◌, ◌≢◌, ℕ, zero, suc, ◌+◌, ◌<◌, ◌≤◌, min, ltb, cond, Bool, true, false, ◌||◌, List, [], ◌∷◌, set, Option}
use Rattle.std.proofs.Common.{Some, None, IfSome, sym, refl, ap, ◌∙◌, subst, ⊎_elim, arith}
use Rattle.std.proofs.lemmas.Bool.{ltb-true, ltb-false, false≢true}
use mathlib.Core.Option.{some, some-injective, some-ne-none}
use lib.ListN.{get_elem?}
use Rattle.atomic_table.proofs.Lists.{at_set, at_snoc, set_else}
use Rattle.slice_claim.specs.Machine.{HandState, ClaimState, Event, claim, work, finish, split, join, Step, fresh, ended, IsLive, IsFree}
use Rattle.slice_claim.specs.Machine.{drawn_if, emptied, kept, later, joined, after_claim, after_finish, after_split, after_join, share_of}
use Rattle.slice_claim.specs.Machine.{spent_share, only_some, holds_slice, once_below, IsLawfulHand, IsLawful, start}
use Rattle.slice_claim.proofs.Sums.{total-append, total-set, total_le, terms_le, only_here, once-more, once_out, once_le}

sooner : (last : Option ℕ) (next : ℕ) → IfSome last (λ k. k < next) → IfSome last (λ k. k < next + 1)
sooner None next h = tt
sooner (Some k) next h = omega arith

later_lawful : (count next : ℕ) (h : HandState) → IsLawfulHand count next h → IsLawfulHand count (next + 1) h
later_lawful count next h f = record {
  drawn_before = sooner h.last next f.drawn_before;
  holds_last = f.holds_last;
  spent_past = λ e. let p = f.spent_past e in (omega arith, p.1);
  ended_idle = f.ended_idle;
}

-- what is true of each hand stays so where one is changed
hands_set : (P : HandState → Type 0) (seats : List HandState) (id : ℕ) (w : HandState)
    → ((j : ℕ) (u : HandState) → get_elem? seats j ≡ some u → P u) → P w
    → (j : ℕ) (u : HandState) → get_elem? (set seats id w) j ≡ some u → P u
hands_set P seats id w old new j u e = ⊎_elim (λ (t : (j ≡ id) × (w ≡ u)). subst P t.1 new) (λ (t : (j ≢ id)
    × (get_elem? seats j ≡ some u)). old j u t.1) (at_set seats id j w u e)

holds_none : (k : ℕ) (h : HandState) → h.held ≡ None → holds_slice k h ≡ 0
holds_none k h e = ap (only_some k) e

not_spent : (h : HandState) → h.spent ≡ false → spent_share h ≡ 0
not_spent h e = ap (λ b. cond b h.share 0) e

holds_nothing : (held : Option ℕ) (P : ℕ → Type 0) → held ≡ None → IfSome held P
holds_nothing held P e = subst (λ (o : Option ℕ). IfSome o P) (sym e) tt

claimed : (s : ClaimState) (id : ℕ) (h : HandState) → IsLawful s → get_elem? s.seats id ≡ some h → IsLive h → IsFree h
    → (b : Bool) → ltb s.next s.count ≡ b
    → IsLawful (record { count = s.count; hands = s.hands; next = s.next + 1; done = s.done; seats = set s.seats id (drawn_if b s.next h) })
claimed s id h l at live free true is =
    let below : s.next < s.count = ltb-true s.next s.count is in
    let w = drawn_if true s.next h in
    let least : min s.next s.count ≡ s.next = omega arith in
    let least' : min (s.next + 1) s.count ≡ s.next + 1 = omega arith in
    record {
      shares = omega (arith, total-set share_of s.seats id h w at, l.shares);
      few = omega arith;
      each = hands_set (IsLawfulHand s.count (s.next + 1)) s.seats id w (λ j u e. later_lawful s.count s.next u (l.each j u e))
          (record {
            drawn_before = omega arith;
            holds_last = refl;
            spent_past = λ e. absurd (false≢true (sym free.0 ∙ e));
            ended_idle = λ e. absurd (omega arith);
          });
      once = λ k. omega (
        arith,
        total-set (holds_slice k) s.seats id h w at,
        holds_none k h free.1,
        l.once k,
        once-more s.next k,
        ap (λ (m : ℕ). once_below m k) least,
        ap (λ (m : ℕ). once_below m k) least',
      );
    }
claimed s id h l at live free false is =
    let past : s.count ≤ s.next = ltb-false s.next s.count is in
    let w = drawn_if false s.next h in
    let least : min s.next s.count ≡ s.count = omega arith in
    let least' : min (s.next + 1) s.count ≡ s.count = omega arith in
    record {
      shares = omega (arith, total-set share_of s.seats id h w at, l.shares);
      few = omega (arith, total-set spent_share s.seats id h w at, not_spent h free.0, l.few);
      each = hands_set (IsLawfulHand s.count (s.next + 1)) s.seats id w (λ j u e. later_lawful s.count s.next u (l.each j u e))
          (record {
            drawn_before = omega arith;
            holds_last = holds_nothing h.held _ free.1;
            spent_past = λ e. (omega arith, free.1);
            ended_idle = λ e. absurd (omega arith);
          });
      once = λ k. omega (
        arith,
        total-set (holds_slice k) s.seats id h w at,
        l.once k,
        ap (λ (m : ℕ). once_below m k) least,
        ap (λ (m : ℕ). once_below m k) least',
      );
    }

pub claim_lawful : (s : ClaimState) (id : ℕ) (h : HandState) → IsLawful s → get_elem? s.seats id ≡ some h → IsLive h → IsFree h
    → IsLawful (after_claim s id h)
claim_lawful s id h l at live free = claimed s id h l at live free (ltb s.next s.count) refl

pub finish_lawful : (s : ClaimState) (id slice : ℕ) (h : HandState) → IsLawful s → get_elem? s.seats id ≡ some h → h.held ≡ Some slice
    → IsLawful (after_finish s id slice h)
finish_lawful s id slice h l at has =
    let f = l.each id h at in
    record {
      shares = omega (arith, total-set share_of s.seats id h (emptied h) at, l.shares);
      few = omega (arith, total-set spent_share s.seats id h (emptied h) at, l.few);
      each = hands_set (IsLawfulHand s.count s.next) s.seats id (emptied h) l.each
          (record {
            drawn_before = f.drawn_before;
            holds_last = tt;
            spent_past = λ e. ((f.spent_past e).0, refl);
            ended_idle = λ e. ap emptied (f.ended_idle e);
          });
      once = λ k. omega (arith, total-set (holds_slice k) s.seats id h (emptied h) at, ap (only_some k) has, l.once k);
    }

pub split_lawful : (s : ClaimState) (id give : ℕ) (h : HandState) → IsLawful s → get_elem? s.seats id ≡ some h → IsFree h → 1 ≤ give
    → give < h.share → IsLawful (after_split s id give h)
split_lawful s id give h l at free some_share less =
    let w = kept give h in
    let f = l.each id h at in
    let rest = set s.seats id w in
    record {
      shares = omega (arith, total-set share_of s.seats id h w at, total-append share_of rest (fresh give ∷ []), l.shares);
      few = omega (
        arith,
        total-set spent_share s.seats id h w at,
        total-append spent_share rest (fresh give ∷ []),
        not_spent h free.0,
        l.few,
      );
      each = λ j u e. ⊎_elim
          (λ was. hands_set (IsLawfulHand s.count s.next) s.seats id w l.each
          (record {
            drawn_before = f.drawn_before;
            holds_last = f.holds_last;
            spent_past = λ e. absurd (false≢true (sym free.0 ∙ e));
            ended_idle = λ e. absurd (omega arith);
          }) j u was)
          (λ (same : fresh give ≡ u). subst (IsLawfulHand s.count s.next) same
          (record { drawn_before = tt; holds_last = tt; spent_past = λ e. absurd (false≢true e); ended_idle = λ e. absurd (omega arith) }))
          (at_snoc rest (fresh give) u j e);
      once = λ k. omega (arith, total-set (holds_slice k) s.seats id h w at, total-append (holds_slice k) rest (fresh give ∷ []), l.once k);
    }

spent_both : (a b : Bool) (x y : ℕ) → cond a x 0 + cond b y 0 ≤ cond (a || b) (x + y) 0
spent_both true true x y = omega arith
spent_both true false x y = omega arith
spent_both false true x y = omega arith
spent_both false false x y = omega arith

drawn_both : (a b : Option ℕ) (next : ℕ) → IfSome a (λ k. k < next) → IfSome b (λ k. k < next) → IfSome (later a b) (λ k. k < next)
drawn_both None b next p q = q
drawn_both (Some i) None next p q = p
drawn_both (Some i) (Some j) next p q = omega arith

one_spent : (a b : Bool) (P : Type 0) → (a ≡ true → P) → (b ≡ true → P) → (a || b) ≡ true → P
one_spent true b P p q e = p refl
one_spent false b P p q e = q e

pub join_lawful : (s : ClaimState) (into from : ℕ) (h g : HandState) → IsLawful s → into ≢ from
    → get_elem? s.seats into ≡ some h → IsLive h → h.held ≡ None
    → get_elem? s.seats from ≡ some g → IsLive g → g.held ≡ None → IsLawful (after_join s into from h g)
join_lawful s into from h g l apart at live free at' live' free' =
    let w = joined h g in
    let f = l.each into h at in
    let f' = l.each from g at' in
    let first = set s.seats into w in
    let there : get_elem? first from ≡ some g = set_else s.seats into from w (λ e. apart (sym e)) ∙ at' in
    record {
      shares = omega (arith, total-set share_of s.seats into h w at, total-set share_of first from g ended there, l.shares);
      few = omega (
        arith,
        total-set spent_share s.seats into h w at,
        total-set spent_share first from g ended there,
        spent_both h.spent g.spent h.share g.share,
        l.few,
      );
      each = hands_set (IsLawfulHand s.count s.next) first from ended
          (hands_set (IsLawfulHand s.count s.next) s.seats into w l.each
          (record {
            drawn_before = drawn_both h.last g.last s.next f.drawn_before f'.drawn_before;
            holds_last = holds_nothing h.held _ free;
            spent_past = λ e. (one_spent h.spent g.spent (s.count < s.next) (λ x. (f.spent_past x).0) (λ x. (f'.spent_past x).0) e, free);
            ended_idle = λ e. absurd (omega arith);
          }))
          (record { drawn_before = tt; holds_last = tt; spent_past = λ e. absurd (false≢true e); ended_idle = λ e. refl });
      once = λ k. omega (
        arith,
        total-set (holds_slice k) s.seats into h w at,
        total-set (holds_slice k) first from g ended there,
        holds_none k g free',
        l.once k,
      );
    }

-- each event leads from a lawful state to a lawful state
pub keeps_lawful : (s t : ClaimState) (e : Event) → IsLawful s → Step s e t → IsLawful t
keeps_lawful s t (claim id) l step = subst IsLawful (sym step.4) (claim_lawful s id step.0 l step.1 step.2 step.3)
keeps_lawful s t (work id slice) l step = subst IsLawful (sym step.3) l
keeps_lawful s t (finish id slice) l step = subst IsLawful (sym step.3) (finish_lawful s id slice step.0 l step.1 step.2)
keeps_lawful s t (split id give) l step = subst IsLawful (sym step.5) (split_lawful s id give step.0 l step.1 step.2 step.3 step.4)
keeps_lawful s t (join into from) l step = subst IsLawful (sym step.9)
    (join_lawful s into from step.0 step.1 l step.2 step.3 step.4 step.5 step.6 step.7 step.8)

pub lone : {A : Type 0} (x u : A) (j : ℕ) → get_elem? (x ∷ []) j ≡ some u → x ≡ u
lone x u zero e = some-injective x u e
lone x u (suc j) e = absurd (some-ne-none u (sym e))

pub start_lawful : (count hands : ℕ) → 1 ≤ hands → IsLawful (start count hands)
start_lawful count hands some_hand = record {
  shares = omega arith;
  few = omega arith;
  each = λ j u e. subst (IsLawfulHand count 0) (lone (fresh hands) u j e)
      (record { drawn_before = tt; holds_last = tt; spent_past = λ e. absurd (false≢true e); ended_idle = λ e. absurd (omega arith) });
  once = λ k. let least : min 0 count ≡ 0 = omega arith in omega (arith, once_out 0 k (omega arith), ap (λ (m : ℕ). once_below m k) least);
}

spent_le : (h : HandState) → spent_share h ≤ share_of h
spent_le h = by_spent h.spent h.share
  where
    by_spent : (b : Bool) (n : ℕ) → cond b n 0 ≤ n
    by_spent true n = omega arith
    by_spent false n = omega arith

pub next_bounded : (s : ClaimState) → IsLawful s → s.next ≤ s.count + s.hands
next_bounded s l = omega (arith, l.few, l.shares, total_le spent_share share_of spent_le s.seats)

pub shares_within : (s : ClaimState) (i j : ℕ) (h g : HandState) → IsLawful s → j ≢ i → get_elem? s.seats i ≡ some h
    → get_elem? s.seats j ≡ some g → h.share + g.share ≤ s.hands
shares_within s i j h g l apart at there = omega (arith, terms_le share_of s.seats i j h g apart at there, l.shares)

pub held_apart : (s : ClaimState) (i j k : ℕ) (h g : HandState) → IsLawful s → get_elem? s.seats i ≡ some h
    → get_elem? s.seats j ≡ some g → h.held ≡ Some k → g.held ≡ Some k → ¬ (j ≢ i)
held_apart s i j k h g l at there has has' apart =
    let mine : holds_slice k h ≡ 1 = ap (only_some k) has ∙ only_here k in
    let theirs : holds_slice k g ≡ 1 = ap (only_some k) has' ∙ only_here k in
    omega (arith, terms_le (holds_slice k) s.seats i j h g apart at there, l.once k, once_le (min s.next s.count) k)
