-- What the numbers of a pixel hold, in either layout.
use Rattle.std.proofs.Common.{◌≡◌, ◌≢◌, ℕ, ◌*◌, ◌<◌, ◌≤◌, ◌↔◌, ⊎_elim, IsTrue, Bool, true, false, take, length, get_or, Some, None, sym}
use Rattle.std.proofs.Common.{refl, ap, ◌∙◌, arith}
use Rattle.std.specs.Prelude.{nat_lt, sum}
use Rattle.std.proofs.lemmas.Bool.{both_ways, false≢true, cases_lt, lt-ltb}
use Rattle.std.proofs.lemmas.Bool.Decides.{nat_tests}
use Rattle.std.proofs.lemmas.List.{get_or_past, take_all, length-map}
use Rattle.std.proofs.lemmas.List.Sums.{get_or-le-sum_by}
use Rattle.pix_desc.specs.declared.desc.Desc.{Desc}
use Rattle.pix_desc.specs.Component.{component_of}
use Rattle.pix_desc.specs.Layouts.{IsValid, is_elements}
use Rattle.pix_desc.proofs.Valid.{laid_out}
use Rattle.pix_desc.specs.Shape.{element_counts, element_slot, fields, fields_below, no_field, Field, slots, position_of}
use Rattle.pix_desc.proofs.ElementCounts.{length-counts}
use Rattle.pix_desc.proofs.ElementSlots as Elements
use Rattle.pix_desc.proofs.ElementSlots.{has_elements}
use Rattle.pix_desc.proofs.PixelSlots.{first_size, has_layout, has_slots}
use Rattle.pix_desc.proofs.WordLayout.{widths_of}
use Rattle.pix_desc.proofs.WordShape as Word
use Rattle.pix_desc.proofs.WordShape.{HasWord, slot_in, width_in}

pub word_of : (desc : Desc) → IsValid desc → is_elements desc ≡ false → HasWord desc
word_of desc valid word = ⊎_elim (λ is. absurd (both_ways (is_elements desc) word is.elements)) (λ is. is) (has_layout desc valid)

pub fields_are : (desc : Desc) → fields desc ≡ fields_below desc 4 (8 * (component_of desc 0).step)
unfolding fields
fields_are desc = refl

-- field p of the word
pub field_at : {A : Type 0} (pick : Field → A) (x : A) (desc : Desc) (step p : ℕ) → step ≡ (component_of desc 0).step → p < 4
    → ((most : ℕ) → p < most → x ≡ pick (get_or (fields_below desc most (8 * step)) p no_field))
    → x ≡ pick (get_or (fields desc) p no_field)
field_at pick x desc step p is within told =
    told 4 within ∙ ap (λ s. pick (get_or (fields_below desc 4 (8 * s)) p no_field)) is
    ∙ ap (λ fs. pick (get_or fs p no_field)) (sym (fields_are desc))

-- what a test that fails says
not_so : (test : Bool) (P : Type 0) → (IsTrue test ↔ P) → test ≡ false → P → ⊥
not_so true P says fails holds = absurd cc
not_so false P says fails holds = false≢true (says.1 holds)

all_counts : (desc : Desc) (n : ℕ) → n ≡ sum (take 4 (element_counts desc)) → n ≡ sum (element_counts desc)
all_counts desc n is = is ∙ ap sum (take_all 4 (element_counts desc) (omega (arith, length-counts desc)))

module _ (desc : Desc) (valid : IsValid desc) where
  slots_count : is_elements desc ≡ true → (n : ℕ) → n ≡ sum (take 4 (element_counts desc)) → n ≡ length (slots desc)
  slots_count elements n is =
      omega (arith, all_counts desc n is, Elements.length-slots desc (first_size desc) (laid_out desc valid) (has_elements desc elements))

  pub element_held : is_elements desc ≡ true → (n p : ℕ) → n ≡ sum (take 4 (element_counts desc)) → p < n
      → element_slot desc p ≡ get_or (slots desc) p None
  element_held elements n p is within =
      sym (Elements.slot_at desc (first_size desc) (laid_out desc valid) (has_elements desc elements) p
      (omega (arith, all_counts desc n is)))

  pub none_held : is_elements desc ≡ true → (n p : ℕ) → n ≡ sum (take 4 (element_counts desc)) → n ≤ p → None ≡ get_or (slots desc) p None
  none_held elements n p is past = sym (get_or_past (slots desc) p None (omega (arith, slots_count elements n is)))

  pub element_there : is_elements desc ≡ true → (n p : ℕ) → n ≡ sum (take 4 (element_counts desc))
      → nat_lt p n ≡ nat_lt p (length (slots desc))
  element_there elements n p is = ap (nat_lt p) (slots_count elements n is)

  pub field_held : is_elements desc ≡ false → (p : ℕ) → (get_or (fields desc) p no_field).slot ≡ get_or (slots desc) p None
  field_held word p = slot_in (fields desc) p ∙ ap (λ list. get_or list p None) (sym (Word.slots_are desc (word_of desc valid word)))

  pub field_there : is_elements desc ≡ false → (p : ℕ) → nat_lt 0 (get_or (fields desc) p no_field).width ≡ nat_lt p (length (slots desc))
  field_there word p =
      let is = word_of desc valid word in
      let long = Word.length-slots desc is in
      ⊎_elim
      (λ (inside : p < length (fields desc)). lt-ltb 0 (get_or (fields desc) p no_field).width (is.fields.some p inside)
      ∙ sym (lt-ltb p (length (slots desc)) (omega (arith, long))))
      (λ (past : length (fields desc) ≤ p).
      let none : (get_or (fields desc) p no_field).width ≡ 0 = ap (λ f. f.width) (get_or_past (fields desc) p no_field past) in
      grind (arith, nat_tests, none, long))
      (cases_lt p (length (fields desc)))

  pub field_small : is_elements desc ≡ false → (p : ℕ) → (get_or (fields desc) p no_field).width ≤ 32
  field_small word p =
      let is = word_of desc valid word in
      let small : 8 * (component_of desc 0).step ≤ 32 = ⊎_elim (λ one. omega arith)
      (λ more. ⊎_elim (λ two. omega arith) (λ four. omega arith) more) is.size in
      ⊎_elim
      (λ (inside : p < length (fields desc)).
      omega (
        arith,
        width_in (fields desc) p,
        is.fields.whole,
        small,
        get_or-le-sum_by (λ n. n) (widths_of (fields desc)) p 0
            (omega (arith, length-map (fields desc) (λ field. field.width))),
      ))
      (λ (past : length (fields desc) ≤ p). omega (arith, ap (λ f. f.width) (get_or_past (fields desc) p no_field past)))
      (cases_lt p (length (fields desc)))

  not_at : (p i j : ℕ) → get_or (slots desc) p None ≡ Some j → get_or (slots desc) i None ≢ Some j → p ≢ i
  not_at p i j here other = λ same. other (ap (λ k. get_or (slots desc) k None) (sym same) ∙ here)

  pub position_last : (j : ℕ) → j < desc.count → get_or (slots desc) 0 None ≢ Some j → get_or (slots desc) 1 None ≢ Some j
      → get_or (slots desc) 2 None ≢ Some j → 3 ≡ position_of desc j
  position_last j listed first second third =
      let positions = has_slots desc valid in
      let here = positions.holds j listed in
      let p = position_of desc j in
      let a : p ≢ 0 = not_at p 0 j here first in
      let b : p ≢ 1 = not_at p 1 j here second in
      let d : p ≢ 2 = not_at p 2 j here third in
      omega (arith, positions.within j listed, positions.few, a, b, d)

  pub position_rest : (j : ℕ) → j < desc.count → (first second third : Bool) → (IsTrue first ↔ (get_or (slots desc) 0 None ≡ Some j))
      → (IsTrue second ↔ (get_or (slots desc) 1 None ≡ Some j))
      → (IsTrue third ↔ (get_or (slots desc) 2 None ≡ Some j)) → first ≡ false → second ≡ false → third ≡ false → 3 ≡ position_of desc j
  position_rest j listed first second third a b d e f g =
      position_last j listed (not_so first (get_or (slots desc) 0 None ≡ Some j) a e)
      (not_so second (get_or (slots desc) 1 None ≡ Some j) b f)
      (not_so third (get_or (slots desc) 2 None ≡ Some j) d g)
