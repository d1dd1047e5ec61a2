-- The slots of a pixel of a descriptor that passes the check, in either layout.
use Rattle.std.proofs.Common.{◌≡◌, ℕ, ◌*◌, ◌<◌, ◌≤◌, ◌⊎◌, ⊎_elim, inl, inr, true, false, not, ◌&&◌, ◌||◌, if◌then◌else◌, nat_le, nat_eq}
use Rattle.std.proofs.Common.{length, get_or, sum, drop, ◌+◌, Some, None, sym, refl, ap, ◌∙◌, arith}
use Rattle.std.proofs.lemmas.Bool.{and_parts, or_parts, or_cases, not-true, not-false, cases_Bool, cases_cond, both_ways}
use Rattle.std.proofs.lemmas.List.Sums.{sum_by-drop_more}
use Rattle.pix_desc.specs.declared.desc.Desc.{Desc}
use Rattle.pix_desc.specs.Component.{component_of, is_narrow, bytes_read}
use Rattle.pix_desc.specs.Layouts.{IsValid, IsLaidOut, is_elements, is_word, is_index, some_pair, differ_in_step, word_shift}
use Rattle.pix_desc.proofs.Valid.{has_no_fault, laid_out}
use Rattle.pix_desc.specs.Shape.{element_bytes, element_index, field_widths, slots, position_of}
use Rattle.pix_desc.proofs.ElementCounts.{sum-counts}
use Rattle.pix_desc.proofs.ElementSlots.{HasElements, has_elements, element_index-below, length-slots, slot_holds, index_slot}
use Rattle.pix_desc.proofs.SlotSearch.{position_is}
use Rattle.pix_desc.proofs.WordShape.{HasWord, has_word, word_slots_few, slot_field, slot_found, rest_below, length-field_widths}

abbrev pub first_size : Desc → ℕ
first_size desc = bytes_read (component_of desc 0)

-- the layout
pub has_layout : (desc : Desc) → IsValid desc → HasElements desc (first_size desc) ⊎ HasWord desc
has_layout desc valid =
    let passed = has_no_fault desc valid in
    let some = (or_parts (some_pair desc differ_in_step) (not (is_elements desc || is_word desc))
    (or_parts (some_pair desc differ_in_step || not (is_elements desc || is_word desc))
    (desc.palette && not (is_index desc)) passed.unmixed).0).1 in
    elim (cases_Bool (is_elements desc)) as (λ _. HasElements desc (first_size desc) ⊎ HasWord desc) [
      | inl elements ↦ inl (has_elements desc elements)
      | inr none ↦ inr (has_word desc (laid_out desc valid) passed.planes none
          (⊎_elim (λ elements. absurd (both_ways (is_elements desc) none elements)) (λ word. word)
          (or_cases (is_elements desc) (is_word desc) (not-false (is_elements desc || is_word desc) some))))
    ]

-- ---- the slots of the components

-- Which slots of a pixel hold its components.
pub record HasSlots (desc : Desc) : Type 0 where
  pub few : length (slots desc) ≤ 4
  pub within : (j : ℕ) → j < desc.count → position_of desc j < length (slots desc)
  pub holds : (j : ℕ) → j < desc.count → get_or (slots desc) (position_of desc j) None ≡ Some j
  pub only : (i j : ℕ) → i < length (slots desc) → get_or (slots desc) i None ≡ Some j → (j < desc.count) × (position_of desc j ≡ i)

-- an element's position is its index
pub element_position : (desc : Desc) (j : ℕ) → IsLaidOut desc → HasElements desc (first_size desc) → j < desc.count
    → position_of desc j ≡ element_index desc j
element_position desc j laid is listed =
    let size = first_size desc in
    let within : element_index desc j < length (slots desc) = omega
    (arith, length-slots desc size laid is, element_index-below desc size laid is j listed) in
    position_is j (element_index desc j) (slots desc) within (index_slot desc size laid is j listed)
    (λ k before other. omega (arith, (slot_holds desc size laid is k j (omega arith) other).1))

element_slots : (desc : Desc) → IsLaidOut desc → HasElements desc (first_size desc) → HasSlots desc
element_slots desc laid is =
    let size = first_size desc in
    let long = length-slots desc size laid is in
    record {
      few = omega (arith, long, sum-counts desc size is.bytes, is.few);
      within = λ j listed. omega (arith, long, element_position desc j laid is listed, element_index-below desc size laid is j listed);
      holds =
          λ j listed. ap (λ i. get_or (slots desc) i None) (element_position desc j laid is listed) ∙ index_slot desc size laid is j listed;
      only =
          λ i j within here. let at = slot_holds desc size laid is i j within here in (at.0, element_position desc j laid is at.0 ∙ at.1);
    }

-- a field's position is the only one that holds its component
word_position : (desc : Desc) (i j : ℕ) → IsLaidOut desc → HasWord desc → i < length (slots desc) → get_or (slots desc) i None ≡ Some j
    → position_of desc j ≡ i
word_position desc i j laid is within here =
    position_is j i (slots desc) within here (λ k before other.
    let first = slot_field desc is k j (omega arith) other in
    let second = slot_field desc is i j within here in
    omega (
      arith,
      first.rest,
      second.rest,
      first.width,
      laid.deep j first.listed,
      rest_below (field_widths desc) k i before
          (omega (arith, length-field_widths desc, word_slots_few desc is)),
    ))

word_slots : (desc : Desc) → IsLaidOut desc → HasWord desc → HasSlots desc
word_slots desc laid is = record {
  few = word_slots_few desc is;
  within = λ j listed. let at = slot_found desc is j listed in omega (arith, at.1, word_position desc at.0 j laid is at.1 at.2);
  holds =
      λ j listed. let at = slot_found desc is j listed in ap (λ i. get_or (slots desc) i None) (word_position desc at.0 j laid is at.1 at.2)
      ∙ at.2;
  only = λ i j within here. ((slot_field desc is i j within here).listed, word_position desc i j laid is within here);
}

pub has_slots : (desc : Desc) → IsValid desc → HasSlots desc
has_slots desc valid =
    ⊎_elim (λ is. element_slots desc (laid_out desc valid) is) (λ is. word_slots desc (laid_out desc valid) is) (has_layout desc valid)

-- a component's field: as wide as the component, above as many bits
pub component_field : (desc : Desc) (j : ℕ) → IsLaidOut desc → HasWord desc → j < desc.count
    → (get_or (field_widths desc) (position_of desc j) 0 ≡ (component_of desc j).depth) ×
    (sum (drop (position_of desc j + 1) (field_widths desc)) ≡ word_shift desc (component_of desc j))
component_field desc j laid is listed =
    let positions = word_slots desc laid is in
    let at = position_of desc j in
    let field = slot_field desc is at j (positions.within j listed) (positions.holds j listed) in
    let within : at < length (field_widths desc) = omega (arith, positions.within j listed, positions.few, length-field_widths desc) in
    (field.width, omega (arith, field.width, field.rest, sum_by-drop_more (λ n. n) (field_widths desc) at 0 within))

-- ---- the bytes of an element

-- one, two or four bytes
abbrev pub IsSize : ℕ → Type 0
IsSize size = (size ≡ 1) ⊎ ((size ≡ 2) ⊎ (size ≡ 4))

pub element_size : (desc : Desc) → HasElements desc (first_size desc) → IsSize (element_bytes desc)
element_size desc is =
    ⊎_elim (λ one. inl (is.bytes ∙ one)) (λ two. inr (inl (is.bytes ∙ two)))
    (cases_cond (is_narrow (component_of desc 0)) 1 2 (first_size desc) refl)

pub word_size : (desc : Desc) → HasWord desc → IsSize (element_bytes desc)
word_size desc is =
    ⊎_elim (λ one. inl (is.bytes ∙ one))
    (λ more. ⊎_elim (λ two. inr (inl (is.bytes ∙ two))) (λ four. inr (inr (is.bytes ∙ four))) more) is.size

pub is_size : (desc : Desc) → IsValid desc → IsSize (element_bytes desc)
is_size desc valid = ⊎_elim (λ is. element_size desc is) (λ is. word_size desc is) (has_layout desc valid)

-- an element has a byte
pub has_size : (desc : Desc) → IsValid desc → 0 < element_bytes desc
has_size desc valid = ⊎_elim (λ one. omega arith) (λ more. ⊎_elim (λ two. omega arith) (λ four. omega arith) more) (is_size desc valid)
