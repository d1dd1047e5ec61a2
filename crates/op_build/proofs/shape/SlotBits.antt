-- Where the slots of a pixel have their bits, in either layout: a slot is an element, or a field of the one word.
use Rattle.std.proofs.Common.{◌≡◌, ℕ, ◌+◌, ◌*◌, ◌/◌, ◌%◌, ◌<◌, ◌≤◌, ⊎_elim, List, [], ◌∷◌, length, get_or, sym, refl, ap, subst, ◌∙◌}
use Rattle.std.proofs.Common.{arith}
use Rattle.std.specs.Prelude.{sum}
use Rattle.std.proofs.lemmas.Bool.{cases_lt}
use Rattle.std.proofs.lemmas.List.Sums.{sum_by-drop_more, sum_by-take-drop}
use Rattle.std.proofs.lemmas.Nat.{div-add-mod'}
use Rattle.pix_desc.specs.declared.desc.Desc.{Desc}
use Rattle.pix_desc.specs.Component.{component_of, first_byte, count_of}
use Rattle.pix_desc.specs.Layouts.{IsValid, word_shift}
use Rattle.pix_desc.specs.Shape.{element_bytes, element_counts, field_widths, slots, position_of}
use Rattle.pix_desc.proofs.BitPositions as Bit
use Rattle.pix_desc.proofs.ElementCounts.{length-counts}
use Rattle.pix_desc.proofs.ElementSlots.{HasElements, element_index_is, first_in_plane, length-slots}
use Rattle.pix_desc.proofs.PixelSlots.{IsSize, first_size, element_size, element_position, component_field, has_layout, has_slots}
use Rattle.pix_desc.proofs.Valid.{laid_out}
use Rattle.pix_desc.proofs.WordBits.{bit_in_order, number_bit_position, number_end, word_bit_position}
use Rattle.pix_desc.proofs.WordShape.{HasWord, length-field_widths, rest_below, sum-widths}
use Rattle.op_list.specs.Whole.{bits_below}
use Rattle.op_build.proofs.shape.ElementStarts.{IsInPlane}

-- Slot p is `width p` bits of element `element p` of the pixel, from bit `low p` up. A component stands `up` bits above the lowest bit of
-- its slot, and its element is number `rest j` of those in its plane. An element has `size` bytes.
pub record SlotBits : Type 0 where
  pub size : ℕ
  pub up : ℕ
  pub element : ℕ → ℕ
  pub low : ℕ → ℕ
  pub width : ℕ → ℕ
  pub rest : ℕ → ℕ

-- the lowest bit of a component in its element
abbrev pub lowest_bit : Desc → SlotBits → ℕ → ℕ
lowest_bit desc s j = s.low (position_of desc j) + s.up

-- The slots of a descriptor have these bits.
pub record AreSlotBits (desc : Desc) (s : SlotBits) : Type 0 where
  pub size : IsSize s.size
  pub bytes : element_bytes desc ≡ s.size
  pub step : (j : ℕ) → j < desc.count → (component_of desc j).step % s.size ≡ 0
  pub within : (p : ℕ) → p < length (slots desc) → s.element p < sum (element_counts desc)
  pub room : (p : ℕ) → p < length (slots desc) → s.low p + s.width p ≤ 8 * s.size
  pub inside : (j : ℕ) → j < desc.count → s.up + (component_of desc j).depth ≤ s.width (position_of desc j)
  pub there : (j : ℕ) → j < desc.count
      → IsInPlane (element_counts desc) (s.element (position_of desc j)) (component_of desc j).plane (s.rest j)
  pub bits : (j b : ℕ) → j < desc.count → b < (component_of desc j).depth
      → Bit.position_of desc (component_of desc j) ((component_of desc j).shift + b)
      ≡ 8 * (s.rest j * s.size) + bit_in_order desc.be s.size (lowest_bit desc s j + b)
  pub apart : (p q m : ℕ) → p < length (slots desc) → q < length (slots desc) → s.element p ≡ s.element q → s.low p ≤ m
      → m < s.low p + s.width p → s.low q ≤ m → m < s.low q + s.width q → p ≡ q

-- ---- elements

abbrev pub element_bits : Desc → SlotBits
element_bits desc = record {
  size = first_size desc;
  up = (component_of desc 0).shift;
  element = λ p. p;
  low = λ p. 0;
  width = λ p. 8 * first_size desc;
  rest = λ j. count_of (first_byte desc (component_of desc j)) / first_size desc;
}

pub are_element_bits : (desc : Desc) → IsValid desc → HasElements desc (first_size desc) → AreSlotBits desc (element_bits desc)
are_element_bits desc valid is =
    let laid = laid_out desc valid in
    let size = first_size desc in
    record {
      size = subst IsSize is.bytes (element_size desc is);
      bytes = is.bytes;
      step = is.step;
      within = λ p within. omega (arith, length-slots desc size laid is);
      room = λ p within. omega arith;
      inside = λ j listed. omega (arith, number_end desc laid j listed, is.read j listed, is.shift j listed);
      there = λ j listed.
          record {
            plane = omega (arith, length-counts desc, laid.plane j listed);
            inside = first_in_plane desc size laid is j listed;
            index = element_position desc j laid is listed ∙ element_index_is desc size laid is j;
          };
      bits = λ j b listed inside.
          let c = component_of desc j in
          let first = count_of (first_byte desc c) in
          let whole : first ≡ first / size * size = omega (arith, div-add-mod' first size, is.first j listed) in
          let low : c.shift + b ≡ lowest_bit desc (element_bits desc) j + b = omega (arith, is.shift j listed) in
          number_bit_position desc laid j listed b inside
          ∙ ap (λ s. 8 * first + bit_in_order desc.be s (c.shift + b)) (is.read j listed)
          ∙ ap (λ f. 8 * f + bit_in_order desc.be size (c.shift + b)) whole
          ∙ ap (λ m. 8 * (first / size * size) + bit_in_order desc.be size m) low;
      apart = λ p q m first second same low high also_low also_high. same;
    }

-- ---- the fields of a word

abbrev pub field_bits : Desc → SlotBits
field_bits desc = record {
  size = (component_of desc 0).step;
  up = 0;
  element = λ p. 0;
  low = bits_below (field_widths desc);
  width = λ p. get_or (field_widths desc) p 0;
  rest = λ j. 0;
}

-- two fields that have a common bit are one
same_field : (widths : List ℕ) (p q m : ℕ) → p < length widths → q < length widths → bits_below widths p ≤ m
    → m < bits_below widths p + get_or widths p 0
    → bits_below widths q ≤ m → m < bits_below widths q + get_or widths q 0 → p ≡ q
same_field widths p q m first second low high low_too high_too =
    let here = sum_by-drop_more (λ n. n) widths p 0 first in
    let there = sum_by-drop_more (λ n. n) widths q 0 second in
    ⊎_elim
    (λ (before : p < q). absurd (omega (arith, here, there, rest_below widths p q before first)))
    (λ (not_before : q ≤ p). ⊎_elim
    (λ (behind : q < p). absurd (omega (arith, here, there, rest_below widths q p behind second)))
    (λ (not_behind : p ≤ q). omega arith)
    (cases_lt q p))
    (cases_lt p q)

only_element : IsInPlane (1 ∷ 0 ∷ 0 ∷ 0 ∷ []) 0 0 0
only_element = record { plane = omega arith; inside = omega arith; index = refl }

no_rest : (size : ℕ) → IsSize size → size % size ≡ 0
no_rest size sizes =
    ⊎_elim (λ one. ap (λ s. s % s) one) (λ more. ⊎_elim (λ two. ap (λ s. s % s) two) (λ four. ap (λ s. s % s) four) more) sizes

pub are_field_bits : (desc : Desc) → IsValid desc → HasWord desc → AreSlotBits desc (field_bits desc)
are_field_bits desc valid is =
    let widths = field_widths desc in
    let laid = laid_out desc valid in
    let size = (component_of desc 0).step in
    let listed_width = λ (p : ℕ) (within : p < length (slots desc)).
    let e : p < length widths = omega (arith, length-field_widths desc, (has_slots desc valid).few) in e in
    record {
      size = is.size;
      bytes = is.bytes;
      step = λ j listed. ap (λ s. s % size) (is.step j listed) ∙ no_rest size is.size;
      within = λ p within. omega (arith, ap sum is.counts);
      room = λ p within. omega (
        arith,
        sum-widths desc is,
        sum_by-take-drop (λ n. n) widths p,
        sum_by-drop_more (λ n. n) widths p 0 (listed_width p within),
      );
      inside = λ j listed. omega (arith, (component_field desc j laid is listed).0);
      there = λ j listed. subst (λ p. IsInPlane (element_counts desc) 0 p 0) (sym (is.plane j listed))
          (subst (λ counts. IsInPlane counts 0 0 0) (sym is.counts) only_element);
      bits = λ j b listed inside.
          let m = word_shift desc (component_of desc j) + b in
          let low : m ≡ lowest_bit desc (field_bits desc) j + b = omega (arith, (component_field desc j laid is listed).1) in
          word_bit_position desc laid j listed b inside
          ∙ ap (λ s. bit_in_order desc.be s m) (is.step j listed)
          ∙ ap (bit_in_order desc.be size) low
          ∙ omega arith;
      apart = λ p q m first second same low high also_low also_high.
          same_field widths p q m (listed_width p first) (listed_width q second) low high also_low also_high;
    }

-- the bits of the slots, whichever layout it is
pub has_slot_bits : (desc : Desc) → IsValid desc → (s : SlotBits) × AreSlotBits desc s
has_slot_bits desc valid =
    ⊎_elim (λ is. (element_bits desc, are_element_bits desc valid is)) (λ is. (field_bits desc, are_field_bits desc valid is))
    (has_layout desc valid)
