-- The layout Word: the fields that the components and the runs of spare bits cut a word into.
use Rattle.std.proofs.Common.{◌≡◌, ◌≢◌, ℕ, zero, suc, ◌+◌, ◌-◌, ◌<◌, ◌≤◌, ◌⊎◌, ⊎_elim, inl, inr, Bool, true, false, not, ◌&&◌, ◌||◌, nat_le}
use Rattle.std.proofs.Common.{nat_eq, List, [], ◌∷◌, length, get_or, Option, Some, None, eqb-true, eq-eqb, eq-zero-or-pos, sym, refl, ap}
use Rattle.std.proofs.Common.{subst, ◌∙◌, arith}
use Rattle.std.specs.Prelude.{nat_lt}
use Rattle.std.specs.List.{range_with_len, count_by, find}
use Rattle.std.proofs.lemmas.Bool.{and_from, and_parts, not_from_false, not-true, false_from_ne_true, both_ways, cond-true, cond-false}
use Rattle.std.proofs.lemmas.Bool.{le-leb, lt-leb, leb-true, lt-ltb, ltb-true, or_right, or_left, cases_lt, cases_eq, cases_Bool}
use Rattle.std.proofs.lemmas.Bool.Decides.{nat_tests}
use Rattle.std.proofs.lemmas.List.FromFn.{length-range_with_len}
use Rattle.std.proofs.lemmas.Option.{none-some, same_Some}
use Rattle.pix_desc.specs.declared.desc.Comp.{Comp}
use Rattle.pix_desc.specs.declared.desc.Desc.{Desc}
use Rattle.pix_desc.specs.Component.{component_of}
use Rattle.pix_desc.specs.Layouts.{word_shift, is_spare, begins_spare, some_component}
use Rattle.pix_desc.proofs.ComponentLists.{some_component-false, some_component-at}
use Rattle.pix_desc.specs.Shape.{Field, end_of, end_below, field_for, field_below}
use Rattle.pix_desc.proofs.RangeSearch.{get_or-range, found_passes, none_passes}
use Rattle.pix_desc.proofs.RangeCounts.{count_below_more, count_below_le, count_weaker, count_more}

-- where a component begins in the word
abbrev pub low_of : Desc → ℕ → ℕ
low_of desc j = word_shift desc (component_of desc j)

-- component j has a bit of the word
pub record HasBit (desc : Desc) (j bit : ℕ) : Type 0 where
  pub listed : j < desc.count
  pub low : low_of desc j ≤ bit
  pub high : bit < end_of desc j

abbrev covers : Desc → ℕ → Comp → Bool
covers desc bit c = nat_le (word_shift desc c) bit && nat_lt bit (word_shift desc c + c.depth)

spare_free : (desc : Desc) (j bit : ℕ) → is_spare desc bit ≡ true → HasBit desc j bit → ⊥
spare_free desc j bit spare has =
    both_ways (covers desc bit (component_of desc j))
    (some_component-false desc (covers desc bit) j (not-true (some_component desc (covers desc bit)) spare) has.listed)
    (and_from (nat_le (low_of desc j) bit) (nat_lt bit (end_of desc j)) (le-leb (low_of desc j) bit has.low)
    (lt-ltb bit (end_of desc j) has.high))

spare_from : (desc : Desc) (bit : ℕ) → ((j : ℕ) → HasBit desc j bit → ⊥) → is_spare desc bit ≡ true
spare_from desc bit none =
    not_from_false (some_component desc (covers desc bit)) (false_from_ne_true (some_component desc (covers desc bit)) (λ some.
    let at = some_component-at desc (covers desc bit) some in
    let parts = and_parts (nat_le (low_of desc at.0) bit) (nat_lt bit (end_of desc at.0)) at.2 in
    none at.0 (record { listed = at.1; low = leb-true (low_of desc at.0) bit parts.0; high = ltb-true bit (end_of desc at.0) parts.1 })))

not_spare : (desc : Desc) (j bit : ℕ) → HasBit desc j bit → is_spare desc bit ≡ false
not_spare desc j bit has = false_from_ne_true (is_spare desc bit) (λ spare. spare_free desc j bit spare has)

-- ---- cutting the word, from its top down

-- components that end at or below a bit, and runs of spare bits that begin below it
abbrev pub ends : Desc → ℕ → ℕ
ends desc top = count_by (λ j. nat_le (end_of desc j) top) (range_with_len 0 desc.count)

abbrev pub runs : Desc → ℕ → ℕ
runs desc top = count_by (begins_spare desc) (range_with_len 0 top)

-- The components are not empty, and no two have a common bit.
pub record AreApart (desc : Desc) : Type 0 where
  pub some : (j : ℕ) → j < desc.count → low_of desc j < end_of desc j
  pub once : (i j bit : ℕ) → HasBit desc i bit → HasBit desc j bit → i ≡ j

-- no component has bits on both sides
abbrev pub IsBoundary : Desc → ℕ → Type 0
IsBoundary desc top = (j : ℕ) → j < desc.count → (end_of desc j ≤ top) ⊎ (top ≤ low_of desc j)

-- a field below a boundary: it ends at one, and is of one component or of spare bits
pub record IsFieldBelow (desc : Desc) (top : ℕ) (field : Field) : Type 0 where
  pub some : 0 < field.width
  pub within : field.width ≤ top
  pub boundary : IsBoundary desc (top - field.width)
  pub fewer : ends desc (top - field.width) + runs desc (top - field.width) + 1 ≤ ends desc top + runs desc top
  pub holds : (j : ℕ) → field.slot ≡ Some j → (j < desc.count) × (field.width ≡ (component_of desc j).depth) × (end_of desc j ≡ top)
  pub passed : (j : ℕ) → j < desc.count → end_of desc j ≤ top → (end_of desc j ≤ top - field.width) ⊎ (field.slot ≡ Some j)

fewer_ends : (desc : Desc) (low top : ℕ) → low ≤ top → ends desc low ≤ ends desc top
fewer_ends desc low top below =
    count_weaker (λ j. nat_le (end_of desc j) low) (λ j. nat_le (end_of desc j) top) (range_with_len 0 desc.count)
    (λ j under. le-leb (end_of desc j) top (omega (arith, leb-true (end_of desc j) low under)))

fewer_runs : (desc : Desc) (low top : ℕ) → low ≤ top → runs desc low ≤ runs desc top
fewer_runs desc low top below = count_below_le (begins_spare desc) top low below

-- the greatest end at or below a bit
end_below-le : (desc : Desc) (js : List ℕ) (top : ℕ) → end_below desc js top ≤ top
end_below-le desc [] top = omega arith
end_below-le desc (j ∷ js) top = let rest = end_below-le desc js top in grind (arith, nat_tests)

end_below-greatest : (desc : Desc) (js : List ℕ) (top i : ℕ) → i < length js → end_of desc (get_or js i 0) ≤ top
    → end_of desc (get_or js i 0) ≤ end_below desc js top
end_below-greatest desc [] top i within under = absurd (omega arith)
end_below-greatest desc (j ∷ js) top zero within under = grind (arith, nat_tests)
end_below-greatest desc (j ∷ js) top (suc i) within under =
    let rest = end_below-greatest desc js top i (omega arith) under in grind (arith, nat_tests)

end_below-component : (desc : Desc) (js : List ℕ) (top : ℕ) → 0 < end_below desc js top
    → (i : ℕ) × (i < length js) × (end_of desc (get_or js i 0) ≡ end_below desc js top)
end_below-component desc [] top some = absurd (omega arith)
end_below-component desc (j ∷ js) top some =
    let test = nat_le (end_of desc j) top && nat_lt (end_below desc js top) (end_of desc j) in
    elim (cases_Bool test) as (λ _. (i : ℕ) × (i < length (j ∷ js)) × (end_of desc (get_or (j ∷ js) i 0) ≡ end_below desc (j ∷ js) top)) [
      | inl here ↦ (0, omega arith, sym (cond-true test (end_of desc j) (end_below desc js top) here))
      | inr there ↦
          let same = cond-false test (end_of desc j) (end_below desc js top) there in
          let position = end_below-component desc js top (omega (arith, same)) in
          (suc position.0, omega (arith, position.1), position.2 ∙ sym same)
    ]

-- the component of a field that ends at a boundary
module _ (desc : Desc) (apart : AreApart desc) (top : ℕ) (boundary : IsBoundary desc top) where
  apart_from : (i j : ℕ) → j < desc.count → end_of desc j ≡ top → i < desc.count → i ≢ j → end_of desc i ≤ top
      → end_of desc i ≤ low_of desc j
  apart_from i j listed at also differ under =
      ⊎_elim
      (λ (over : low_of desc j < end_of desc i).
      let some = apart.some i also in
      let bit = end_of desc i - 1 in
      let first : HasBit desc i bit = record { listed = also; low = omega arith; high = omega arith } in
      let second : HasBit desc j bit = record { listed = listed; low = omega arith; high = omega arith } in
      absurd (differ (apart.once i j bit first second)))
      (λ below. below)
      (cases_lt (low_of desc j) (end_of desc i))

  below_low : (j : ℕ) → j < desc.count → end_of desc j ≡ top → IsBoundary desc (low_of desc j)
  below_low j listed at i also =
      ⊎_elim
      (λ (same : i ≡ j). inr (subst (λ k. low_of desc j ≤ low_of desc k) (sym same) (omega arith)))
      (λ (differ : i ≢ j). ⊎_elim
      (λ (under : end_of desc i ≤ top). inl (apart_from i j listed at also differ under))
      (λ (over : top ≤ low_of desc i). inr (omega (arith, apart.some j listed)))
      (boundary i also))
      (cases_eq i j)

  below_component : (j : ℕ) → find (λ i. nat_eq (end_of desc i) top) (range_with_len 0 desc.count) ≡ Some j
      → IsFieldBelow desc top (field_for desc top (Some j))
  below_component j found =
      let passes = found_passes (λ i. nat_eq (end_of desc i) top) desc.count j found in
      let listed : j < desc.count = passes.0 in
      let at : end_of desc j ≡ top = eqb-true (end_of desc j) top passes.1 in
      let some : low_of desc j < end_of desc j = apart.some j listed in
      let rest : top - (component_of desc j).depth ≡ low_of desc j = omega arith in
      let more = count_more (λ i. nat_le (end_of desc i) (low_of desc j)) (λ i. nat_le (end_of desc i) top) desc.count j
      (λ i under. le-leb (end_of desc i) top (omega (arith, leb-true (end_of desc i) (low_of desc j) under))) listed
      (lt-leb (end_of desc j) (low_of desc j) some) (le-leb (end_of desc j) top (omega arith)) in
      record {
        some = omega arith;
        within = omega arith;
        boundary = subst (IsBoundary desc) (sym rest) (below_low j listed at);
        fewer = omega (arith, more, ap (ends desc) rest, ap (runs desc) rest, fewer_runs desc (low_of desc j) top (omega arith));
        holds =
            λ i same. subst (λ k. (k < desc.count) × ((component_of desc j).depth ≡ (component_of desc k).depth) × (end_of desc k ≡ top))
            (same_Some j i same) (listed, refl, at);
        passed = λ i also under. ⊎_elim
            (λ (same : i ≡ j). inr (ap Some (sym same)))
            (λ (differ : i ≢ j). inl (omega (arith, apart_from i j listed at also differ under)))
            (cases_eq i j);
      }

  -- where no component ends at it
  module _ (some : 0 < top) (none : find (λ i. nat_eq (end_of desc i) top) (range_with_len 0 desc.count) ≡ None) where
    next : ℕ
    next = end_below desc (range_with_len 0 desc.count) top

    next_greatest : (i : ℕ) → i < desc.count → end_of desc i ≤ top → end_of desc i ≤ next
    unfolding next
    next_greatest i listed under =
        let at = get_or-range desc.count i listed in
        subst (λ k. end_of desc k ≤ end_below desc (range_with_len 0 desc.count) top) at
        (end_below-greatest desc (range_with_len 0 desc.count) top i (omega (arith, length-range_with_len 0 desc.count))
        (subst (λ k. end_of desc k ≤ top) (sym at) under))

    next_component : 0 < next → (i : ℕ) × (i < desc.count) × (end_of desc i ≡ next)
    unfolding next
    next_component positive =
        let position = end_below-component desc (range_with_len 0 desc.count) top positive in
        let listed : position.0 < desc.count = omega (arith, position.1, length-range_with_len 0 desc.count) in
        (position.0, listed, ap (end_of desc) (sym (get_or-range desc.count position.0 listed)) ∙ position.2)

    next_below : next < top
    unfolding next
    next_below =
        let least : next ≤ top = end_below-le desc (range_with_len 0 desc.count) top in
        ⊎_elim
        (λ (same : next ≡ top).
        let position = next_component (omega arith) in
        absurd (both_ways (nat_eq (end_of desc position.0) top)
        (none_passes (λ i. nat_eq (end_of desc i) top) desc.count position.0 none position.1)
        (eq-eqb (end_of desc position.0) top (position.2 ∙ same))))
        (λ (differ : next ≢ top). omega arith)
        (cases_eq next top)

    next_spare : (j : ℕ) → HasBit desc j next → ⊥
    next_spare j has =
        ⊎_elim
        (λ (under : end_of desc j ≤ top). omega (arith, next_greatest j has.listed under, has.high))
        (λ (over : top ≤ low_of desc j). omega (arith, next_below, has.low))
        (boundary j has.listed)

    next_begins : begins_spare desc next ≡ true
    next_begins =
        and_from (is_spare desc next) (nat_eq next 0 || not (is_spare desc (next - 1))) (spare_from desc next next_spare)
        (⊎_elim
        (λ (bottom : next ≡ 0). or_left (nat_eq next 0) (not (is_spare desc (next - 1))) (eq-eqb next 0 bottom))
        (λ (above : 0 < next).
        let position = next_component above in
        let has : HasBit desc position.0
        (next - 1) = record {
          listed = position.1;
          low = omega (arith, apart.some position.0 position.1, position.2);
          high = omega
              (arith, position.2);
        } in
        or_right (nat_eq next 0) (not (is_spare desc (next - 1)))
        (not_from_false (is_spare desc (next - 1)) (not_spare desc position.0 (next - 1) has)))
        (eq-zero-or-pos next))

    below_spare : IsFieldBelow desc top (field_for desc top None)
    unfolding next
    below_spare =
        let below : next < top = next_below in
        let rest : top - (top - next) ≡ next = omega arith in
        let more = count_below_more (begins_spare desc) top next below next_begins in
        record {
          some = omega arith;
          within = omega arith;
          boundary = subst (IsBoundary desc) (sym rest) (λ j listed. ⊎_elim
              (λ (under : end_of desc j ≤ top). inl (next_greatest j listed under))
              (λ (over : top ≤ low_of desc j). inr (omega arith))
              (boundary j listed));
          fewer = omega (arith, more, ap (ends desc) rest, ap (runs desc) rest, fewer_ends desc next top (omega arith));
          holds = λ j same. absurd (none-some j same);
          passed = λ j listed under. inl (omega (arith, next_greatest j listed under));
        }

  below_found : 0 < top → (found : Option ℕ) → find (λ i. nat_eq (end_of desc i) top) (range_with_len 0 desc.count) ≡ found
      → IsFieldBelow desc top (field_for desc top found)
  below_found some (Some j) is = below_component j is
  below_found some None is = below_spare some is

  pub is_field_below : 0 < top → IsFieldBelow desc top (field_below desc top)
  is_field_below some = below_found some (find (λ i. nat_eq (end_of desc i) top) (range_with_len 0 desc.count)) refl
