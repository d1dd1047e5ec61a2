-- The components of a format that passes the check are its channels in another numbering.
use Rattle.std.proofs.Common.{◌≡◌, ℕ, zero, suc, ◌<◌, Bool, true, false, not, ◌&&◌, ◌||◌, nat_eq, nat_lt, List, if◌then◌else◌, ◌≤◌, refl}
use Rattle.std.proofs.Common.{sym, subst, arith}
use Rattle.std.proofs.Common.{inl, inr}
use Rattle.std.proofs.lemmas.Bool.{and_parts, or_cases, eqb-true, ltb-true, lt-ltb, false≢true}
use Rattle.pix_desc.specs.declared.desc.Comp.{Comp}
use Rattle.pix_desc.specs.declared.desc.Desc.{Desc}
use Rattle.pix_desc.specs.Layouts.{IsValid, is_count}
use Rattle.pix_desc.proofs.Valid.{has_no_fault, laid_out}
use Rattle.pix_meaning.specs.Pairs.{has_channel, component_at, channel_of, component_count}
use Rattle.pix_meaning.specs.Laws.{HasChannels}

-- the law at a component and at a channel, as tests
abbrev component_agrees : Desc → ℕ → Bool
component_agrees desc j = not (nat_lt j (component_count desc)) ||
    (has_channel desc (channel_of desc j) && nat_eq (component_at desc (channel_of desc j)) j)

abbrev channel_agrees : Desc → ℕ → Bool
channel_agrees desc c = not (has_channel desc c) ||
    (nat_lt (component_at desc c) (component_count desc) && nat_eq (channel_of desc (component_at desc c)) c)

abbrev all_four : (ℕ → Bool) → Bool
all_four p = p 0 && p 1 && p 2 && p 3

from_all_four : (p : ℕ → Bool) → all_four p ≡ true → (j : ℕ) → j < 4 → p j ≡ true
from_all_four p h j below =
    let last = and_parts (p 0 && p 1 && p 2) (p 3) h in
    let third = and_parts (p 0 && p 1) (p 2) last.0 in
    let second = and_parts (p 0) (p 1) third.0 in
    at j below second.0 second.1 third.1 last.1
  where
    at : (j : ℕ) → j < 4 → p 0 ≡ true → p 1 ≡ true → p 2 ≡ true → p 3 ≡ true → p j ≡ true
    at zero below p0 p1 p2 p3 = p0
    at (suc zero) below p0 p1 p2 p3 = p1
    at (suc (suc zero)) below p0 p1 p2 p3 = p2
    at (suc (suc (suc zero))) below p0 p1 p2 p3 = p3
    at (suc (suc (suc (suc j)))) below p0 p1 p2 p3 = absurd (omega arith)

abbrev agrees : Desc → Bool
agrees desc = all_four (component_agrees desc) && all_four (channel_agrees desc)

abbrev shaped : List Comp → Bool → Bool → Bool → Bool → ℕ → Desc
shaped comps be rgb alpha palette count = record { count = count; comps = comps; be = be; rgb = rgb; alpha = alpha; palette = palette }

-- by the flags and the number of components
agrees_by_flags : (comps : List Comp) (be rgb alpha palette : Bool) (count : ℕ) → is_count palette rgb alpha count ≡ true
    → agrees (shaped comps be rgb alpha palette count) ≡ true
agrees_by_flags comps be true alpha true count h = absurd (false≢true h)
agrees_by_flags comps be false false true count h = absurd (false≢true h)
agrees_by_flags comps be false true true count h =
    subst (λ n. agrees (shaped comps be false true true n) ≡ true) (sym (eqb-true count 1 h)) refl
agrees_by_flags comps be true false false count h =
    subst (λ n. agrees (shaped comps be true false false n) ≡ true) (sym (eqb-true count 3 h)) refl
agrees_by_flags comps be true true false count h =
    subst (λ n. agrees (shaped comps be true true false n) ≡ true) (sym (eqb-true count 4 h)) refl
agrees_by_flags comps be false false false count h =
    elim (or_cases (nat_eq count 1) (nat_eq count 3) h) as (λ _. agrees (shaped comps be false false false count) ≡ true) [
      | inl one ↦ subst (λ n. agrees (shaped comps be false false false n) ≡ true) (sym (eqb-true count 1 one)) refl
      | inr three ↦ subst (λ n. agrees (shaped comps be false false false n) ≡ true) (sym (eqb-true count 3 three)) refl
    ]
agrees_by_flags comps be false true false count h =
    elim (or_cases (nat_eq count 2) (nat_eq count 4) h) as (λ _. agrees (shaped comps be false true false count) ≡ true) [
      | inl two ↦ subst (λ n. agrees (shaped comps be false true false n) ≡ true) (sym (eqb-true count 2 two)) refl
      | inr four ↦ subst (λ n. agrees (shaped comps be false true false n) ≡ true) (sym (eqb-true count 4 four)) refl
    ]

implied : (a b : Bool) → (not a || b) ≡ true → a ≡ true → b ≡ true
implied true b h e = h
implied false b h e = absurd (false≢true e)

pub component_count_most : (desc : Desc) → IsValid desc → component_count desc ≤ 4
component_count_most desc valid =
    elim desc.palette as (λ b. (if b then 4 else desc.count) ≤ 4) [ true ↦ omega arith | false ↦ (laid_out desc valid).most ]

pub has_channels : (desc : Desc) → IsValid desc → HasChannels desc
has_channels desc valid =
    let all = and_parts (all_four (component_agrees desc)) (all_four (channel_agrees desc))
    (agrees_by_flags desc.comps desc.be desc.rgb desc.alpha desc.palette desc.count (has_no_fault desc valid).counted) in
    let most = component_count_most desc valid in
    let of_component = λ (j : ℕ) (listed : j < component_count desc).
    and_parts (has_channel desc (channel_of desc j)) (nat_eq (component_at desc (channel_of desc j)) j)
    (implied (nat_lt j (component_count desc)) _ (from_all_four (component_agrees desc) all.0 j (omega arith))
    (lt-ltb j (component_count desc) listed)) in
    let of_channel = λ (c : ℕ) (below : c < 4) (there : has_channel desc c ≡ true).
    and_parts (nat_lt (component_at desc c) (component_count desc)) (nat_eq (channel_of desc (component_at desc c)) c)
    (implied (has_channel desc c) _ (from_all_four (channel_agrees desc) all.1 c below) there) in
    record {
      there = λ j listed. (of_component j listed).0;
      listed = λ c below there. ltb-true (component_at desc c) (component_count desc) (of_channel c below there).0;
      component = λ j listed. eqb-true (component_at desc (channel_of desc j)) j (of_component j listed).1;
      channel = λ c below there. eqb-true (channel_of desc (component_at desc c)) c (of_channel c below there).1;
    }
