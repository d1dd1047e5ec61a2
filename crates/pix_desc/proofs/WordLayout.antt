-- The layout Word as a whole: its fields come to the bits of the word, and each component has one of them.
use Rattle.std.proofs.Common.{◌≡◌, ℕ, zero, suc, ◌+◌, ◌-◌, ◌<◌, ◌≤◌, ⊎_elim, nat_eq, List, [], ◌∷◌, drop, map, length, get_or, Some}
use Rattle.std.proofs.Common.{eq-zero-or-pos, eq-eqb, sym, subst, ◌∙◌, arith}
use Rattle.std.specs.Prelude.{sum}
use Rattle.std.proofs.lemmas.Bool.{cond-true, cond-false, ne_eqb}
use Rattle.std.proofs.lemmas.List.Sums.{sum_by-cons}
use Rattle.pix_desc.specs.declared.desc.Desc.{Desc}
use Rattle.pix_desc.specs.Component.{component_of}
use Rattle.pix_desc.specs.Shape.{Field, end_of, field_below, fields_below, no_field}
use Rattle.pix_desc.proofs.WordFields.{AreApart, IsBoundary, ends, runs, IsFieldBelow, is_field_below}

abbrev pub widths_of : List Field → List ℕ
widths_of fs = map (λ field. field.width) fs

-- fields that come to the bits below a boundary, with one for each component there
pub record AreFields (desc : Desc) (top most : ℕ) (fs : List Field) : Type 0 where
  pub few : length fs ≤ most
  pub whole : sum (widths_of fs) ≡ top
  pub some : (k : ℕ) → k < length fs → 0 < (get_or fs k no_field).width
  pub holds : (k j : ℕ) → k < length fs → (get_or fs k no_field).slot ≡ Some j
      → (j < desc.count) × ((get_or fs k no_field).width ≡ (component_of desc j).depth) × (sum (drop k (widths_of fs)) ≡ end_of desc j)
  pub found : (j : ℕ) → j < desc.count → end_of desc j ≤ top → (k : ℕ) × (k < length fs) × ((get_or fs k no_field).slot ≡ Some j)

module _ (desc : Desc) (apart : AreApart desc) where
  no_fields : (top most : ℕ) → top ≡ 0 → AreFields desc top most []
  no_fields top most bottom = record {
    few = omega arith;
    whole = sym bottom;
    some = λ k within. absurd (omega arith);
    holds = λ k j within. absurd (omega arith);
    found = λ j listed under. absurd (omega (arith, apart.some j listed));
  }

  more_fields : (top most : ℕ) (f : Field) (fs : List Field) → IsFieldBelow desc top f → AreFields desc (top - f.width) most fs
      → AreFields desc top (suc most) (f ∷ fs)
  more_fields top most f fs below rest =
      let whole : sum (widths_of (f ∷ fs)) ≡ top = omega (arith, sum_by-cons (λ n. n) f.width (widths_of fs), rest.whole, below.within) in
      record {
        few = omega (arith, rest.few);
        whole = whole;
        some = some_of;
        holds = holds_of whole;
        found = λ j listed under. ⊎_elim
            (λ (later : end_of desc j ≤ top - f.width). let position = rest.found j listed later in (
              suc position.0,
              omega
                  (arith, position.1),
              position.2,
            ))
            (λ (here : f.slot ≡ Some j). (0, omega arith, here))
            (below.passed j listed under);
      }
    where
      some_of : (k : ℕ) → k < length (f ∷ fs) → 0 < (get_or (f ∷ fs) k no_field).width
      some_of zero within = below.some
      some_of (suc k) within = rest.some k (omega arith)

      holds_of : sum (widths_of (f ∷ fs)) ≡ top → (k j : ℕ) → k < length (f ∷ fs) → (get_or (f ∷ fs) k no_field).slot ≡ Some j
          → (j < desc.count) × ((get_or (f ∷ fs) k no_field).width ≡ (component_of desc j).depth) ×
          (sum (drop k (widths_of (f ∷ fs))) ≡ end_of desc j)
      holds_of whole zero j within is = let at = below.holds j is in (at.0, at.1, whole ∙ sym at.2)
      holds_of whole (suc k) j within is = rest.holds k j (omega arith) is

  pub fields_below_are : (most top : ℕ) → IsBoundary desc top → ends desc top + runs desc top ≤ most
      → AreFields desc top most (fields_below desc most top)
  fields_below_are zero top boundary few =
      ⊎_elim
      (λ (bottom : top ≡ 0). no_fields top 0 bottom)
      (λ (some : 0 < top). absurd (omega (arith, (is_field_below desc apart top boundary some).fewer)))
      (eq-zero-or-pos top)
  fields_below_are (suc most) top boundary few =
      let field = field_below desc top in
      let rest = field ∷ fields_below desc most (top - field.width) in
      ⊎_elim
      (λ (bottom : top ≡ 0). subst (AreFields desc top (suc most)) (sym (cond-true (nat_eq top 0) [] rest (eq-eqb top 0 bottom)))
      (no_fields top (suc most) bottom))
      (λ (some : 0 < top).
      let below = is_field_below desc apart top boundary some in
      subst (AreFields desc top (suc most)) (sym (cond-false (nat_eq top 0) [] rest (ne_eqb top 0 (λ bottom. omega arith))))
      (more_fields top most field (fields_below desc most (top - field.width)) below
      (fields_below_are most (top - field.width) below.boundary (omega (arith, below.fewer)))))
      (eq-zero-or-pos top)
