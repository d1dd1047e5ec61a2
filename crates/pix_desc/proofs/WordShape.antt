-- What the layout Word says of a descriptor that passes the check.
use Rattle.std.proofs.Common.{◌≡◌, ℕ, zero, suc, ◌+◌, ◌-◌, ◌*◌, ◌/◌, ◌<◌, ◌≤◌, ◌⊎◌, ⊎_elim, inl, inr, Bool, true, false, ◌&&◌, ◌||◌, nat_le}
use Rattle.std.proofs.Common.{nat_eq, List, [], ◌∷◌, drop, map, length, get_or, get_or-drop, Some, None, eqb-true, sym, refl, ap, ◌∙◌}
use Rattle.std.proofs.Common.{arith}
use Rattle.std.specs.Prelude.{sum}
use Rattle.std.specs.List.{range_with_len, list_all, count_by}
use Rattle.std.proofs.lemmas.Bool.{and_parts, or_cases, cond-false, leb-true, cases_lt, cases_eq}
use Rattle.std.proofs.lemmas.List.{get_or_past, length-map, drop-drop}
use Rattle.std.proofs.lemmas.List.FromFn.{length-range_with_len}
use Rattle.std.proofs.lemmas.List.Sums.{sum_by-cons, count_by-le-length, sum_by-drop_more, sum_by-take-drop}
use Rattle.std.proofs.lemmas.Nat.{div-mul-add}
use Rattle.pix_desc.specs.declared.desc.Comp.{Comp}
use Rattle.pix_desc.specs.declared.desc.Desc.{Desc}
use Rattle.pix_desc.specs.Component.{components, component_of, bytes_read}
use Rattle.pix_desc.specs.Frame.{plane_step}
use Rattle.pix_desc.specs.Layouts.{IsLaidOut, is_elements, is_word, one_a_plane, begins_spare, has_all_planes}
use Rattle.pix_desc.proofs.ComponentLists.{list_all-map_true}
use Rattle.pix_desc.specs.Shape.{Field, element_bytes, element_counts, element_slot, end_of, fields, field_widths, no_field, slots}
use Rattle.pix_desc.proofs.ElementCounts.{counts_are}
use Rattle.pix_desc.proofs.PlaneSteps.{plane_zero, no_other_plane}
use Rattle.pix_desc.proofs.WordBits.{word_apart, word_end}
use Rattle.pix_desc.proofs.WordFields.{low_of, AreApart, runs}
use Rattle.pix_desc.proofs.WordLayout.{widths_of, AreFields, fields_below_are}

-- A pixel is one number of 1, 2 or 4 bytes in one plane, and up to four fields come to its bits.
pub record HasWord (desc : Desc) : Type 0 where
  pub word : is_elements desc ≡ false
  pub size : ((component_of desc 0).step ≡ 1) ⊎ (((component_of desc 0).step ≡ 2) ⊎ ((component_of desc 0).step ≡ 4))
  pub plane : (j : ℕ) → j < desc.count → (component_of desc j).plane ≡ 0
  pub step : (j : ℕ) → j < desc.count → (component_of desc j).step ≡ (component_of desc 0).step
  pub ends : (j : ℕ) → j < desc.count → end_of desc j ≤ 8 * (component_of desc 0).step
  pub bytes : element_bytes desc ≡ (component_of desc 0).step
  pub counts : element_counts desc ≡ 1 ∷ 0 ∷ 0 ∷ 0 ∷ []
  pub fields : AreFields desc (8 * (component_of desc 0).step) 4 (fields desc)

are_apart : (desc : Desc) → IsLaidOut desc → ((j : ℕ) → j < desc.count → (component_of desc j).plane ≡ 0)
    → ((j : ℕ) → j < desc.count → (component_of desc j).step ≡ (component_of desc 0).step) → AreApart desc
are_apart desc laid plane step = record {
  some = λ j listed. omega (arith, laid.deep j listed);
  once = λ i j bit first second. ⊎_elim
      (λ same. same)
      (λ differ. absurd (word_apart desc i j (bit - low_of desc i) (bit - low_of desc j) laid first.listed second.listed differ
      (plane i first.listed ∙ sym (plane j second.listed)) (step i first.listed ∙ sym (step j second.listed))
      (omega (arith, first.low, first.high)) (omega (arith, second.low, second.high)) (omega (arith, first.low, second.low))))
      (cases_eq i j);
}

one_word : (size first second third fourth : ℕ) → 0 < size → first ≡ size → second ≡ 0 → third ≡ 0 → fourth ≡ 0
    → first / size ∷ second / size ∷ third / size ∷ fourth / size ∷ [] ≡ 1 ∷ 0 ∷ 0 ∷ 0 ∷ []
one_word size first second third fourth some here p q r =
    let whole : first ≡ 1 * size + 0 = omega arith in
    let one : first / size ≡ 1 = ap (λ n. n / size) whole ∙ div-mul-add 1 size 0 some in
    let none : 0 / size ≡ 0 = omega arith in
    let e2 : second / size ≡ 0 = ap (λ n. n / size) p ∙ none in
    let e3 : third / size ≡ 0 = ap (λ n. n / size) q ∙ none in
    let e4 : fourth / size ≡ 0 = ap (λ n. n / size) r ∙ none in
    cc

abbrev is_word_size : Comp → Bool
is_word_size c = nat_eq c.step 1 || nat_eq c.step 2 || nat_eq c.step 4

abbrev has_few_fields : Desc → Comp → Bool
has_few_fields desc c = nat_le (desc.count + count_by (begins_spare desc) (range_with_len 0 (8 * c.step))) 4

word_sizes : (c : Comp) → is_word_size c ≡ true → (c.step ≡ 1) ⊎ ((c.step ≡ 2) ⊎ (c.step ≡ 4))
word_sizes c test =
    ⊎_elim
    (λ two. ⊎_elim (λ a. inl (eqb-true c.step 1 a)) (λ b. inr (inl (eqb-true c.step 2 b)))
    (or_cases (nat_eq c.step 1) (nat_eq c.step 2) two))
    (λ last. inr (inr (eqb-true c.step 4 last)))
    (or_cases (nat_eq c.step 1 || nat_eq c.step 2) (nat_eq c.step 4) test)

pub has_word : (desc : Desc) → IsLaidOut desc → has_all_planes desc ≡ true → is_elements desc ≡ false → is_word desc ≡ true → HasWord desc
unfolding fields element_bytes
has_word desc laid all no_elements word =
    let tests = and_parts (nat_eq (length (one_a_plane (components desc))) 1)
    (list_all (λ c. is_word_size c && has_few_fields desc c) (components desc)) word in
    let one = eqb-true (length (one_a_plane (components desc))) 1 tests.0 in
    let first = component_of desc 0 in
    let here = and_parts (is_word_size first) (has_few_fields desc first)
    (list_all-map_true (component_of desc) (λ c. is_word_size c && has_few_fields desc c) desc.count 0 tests.1 laid.some) in
    let plane = plane_zero desc laid all one in
    let step = λ (j : ℕ) (listed : j < desc.count).
    sym (laid.step j listed) ∙ ap (plane_step desc) (plane j listed ∙ sym (plane 0 laid.some)) ∙ laid.step 0 laid.some in
    let others = no_other_plane desc laid all one in
    let bytes : element_bytes desc ≡ first.step = cond-false (is_elements desc) (bytes_read first) first.step no_elements in
    let zero_step : plane_step desc 0 ≡ first.step = ap (plane_step desc) (sym (plane 0 laid.some)) ∙ laid.step 0 laid.some in
    let some_step : 0 < first.step = omega (arith, word_end desc laid 0 laid.some, laid.deep 0 laid.some) in
    let within = λ (j : ℕ) (listed : j < desc.count). let end : end_of desc j ≤ 8 * first.step = omega
    (arith, word_end desc laid j listed, step j listed) in end in
    record {
      word = no_elements;
      size = word_sizes first here.0;
      plane = plane;
      step = step;
      ends = within;
      bytes = bytes;
      counts =
          counts_are desc first.step bytes
          ∙ one_word first.step (plane_step desc 0) (plane_step desc 1) (plane_step desc 2) (plane_step desc 3) some_step zero_step
          (others 1 (omega arith)) (others 2 (omega arith)) (others 3 (omega arith));
      fields = fields_below_are desc (are_apart desc laid plane step) 4 (8 * first.step)
          (λ j listed. inl (within j listed))
          (omega (
            arith,
            leb-true (desc.count + runs desc (8 * first.step)) 4 here.1,
            count_by-le-length (λ j. nat_le (end_of desc j) (8 * first.step)) (range_with_len 0 desc.count),
            length-range_with_len 0 desc.count,
          ));
    }

-- ---- widths and slots by the position of a field

-- lists whose numbers agree, with 0 past their ends, have one sum
same_sums : (xs ys : List ℕ) → ((i : ℕ) → get_or xs i 0 ≡ get_or ys i 0) → sum xs ≡ sum ys
same_sums [] [] same = refl
same_sums [] (y ∷ ys) same = omega (arith, sum_by-cons (λ n. n) y ys, same 0, same_sums [] ys (λ i. same (suc i)))
same_sums (x ∷ xs) [] same = omega (arith, sum_by-cons (λ n. n) x xs, same 0, same_sums xs [] (λ i. same (suc i)))
same_sums (x ∷ xs) (y ∷ ys) same =
    omega (arith, sum_by-cons (λ n. n) x xs, sum_by-cons (λ n. n) y ys, same 0, same_sums xs ys (λ i. same (suc i)))

same_rests : (xs ys : List ℕ) (k : ℕ) → ((i : ℕ) → get_or xs i 0 ≡ get_or ys i 0) → sum (drop k xs) ≡ sum (drop k ys)
same_rests xs ys k same = same_sums (drop k xs) (drop k ys) (λ i. get_or-drop k xs i 0 ∙ same (k + i) ∙ sym (get_or-drop k ys i 0))

-- what stands behind a position is less by the number there than what stands from it on
pub rest_below : (ns : List ℕ) (k i : ℕ) → k < i → k < length ns → get_or ns k 0 + sum (drop i ns) ≤ sum (drop k ns)
rest_below ns k i before within =
    let position : k + 1 + (i - (k + 1)) ≡ i = omega arith in
    omega (
      arith,
      sum_by-drop_more (λ n. n) ns k 0 within,
      sum_by-take-drop (λ n. n) (drop (k + 1) ns) (i - (k + 1)),
      ap sum
          (drop-drop (i - (k + 1)) (k + 1) ns),
      ap (λ t. sum (drop t ns)) position,
    )

pub length-field_widths : (desc : Desc) → length (field_widths desc) ≡ 4
unfolding field_widths
length-field_widths desc = refl

pub width_at : (desc : Desc) (i : ℕ) → i < 4 → get_or (field_widths desc) i 0 ≡ (get_or (fields desc) i no_field).width
unfolding field_widths
width_at desc zero below = refl
width_at desc (suc zero) below = refl
width_at desc (suc (suc zero)) below = refl
width_at desc (suc (suc (suc zero))) below = refl
width_at desc (suc (suc (suc (suc i)))) below = absurd (omega arith)

pub width_in : (fs : List Field) (i : ℕ) → (get_or fs i no_field).width ≡ get_or (widths_of fs) i 0
width_in [] i = refl
width_in (f ∷ fs) zero = refl
width_in (f ∷ fs) (suc i) = width_in fs i

pub slot_in : (fs : List Field) (i : ℕ) → (get_or fs i no_field).slot ≡ get_or (map (λ field. field.slot) fs) i None
slot_in [] i = refl
slot_in (f ∷ fs) zero = refl
slot_in (f ∷ fs) (suc i) = slot_in fs i

module _ (desc : Desc) (is : HasWord desc) where
  widths_are : (i : ℕ) → get_or (field_widths desc) i 0 ≡ get_or (widths_of (fields desc)) i 0
  widths_are i =
      ⊎_elim
      (λ (below : i < 4). width_at desc i below ∙ width_in (fields desc) i)
      (λ (past : 4 ≤ i).
      get_or_past (field_widths desc) i 0 (omega (arith, length-field_widths desc))
      ∙ sym (get_or_past (widths_of (fields desc)) i 0 (omega (arith, length-map (fields desc) (λ field. field.width), is.fields.few))))
      (cases_lt i 4)

  -- the widths come to the bits of the word
  pub sum-widths : sum (field_widths desc) ≡ 8 * (component_of desc 0).step
  sum-widths = same_sums (field_widths desc) (widths_of (fields desc)) widths_are ∙ is.fields.whole

  pub some_before : (i : ℕ) → 0 < (get_or (fields desc) (suc i) no_field).width → 0 < (get_or (fields desc) i no_field).width
  some_before i some =
      ⊎_elim
      (λ (within : suc i < length (fields desc)). is.fields.some i (omega arith))
      (λ (past : length (fields desc) ≤ suc i). absurd (omega (arith, ap (λ f. f.width) (get_or_past (fields desc) (suc i) no_field past))))
      (cases_lt (suc i) (length (fields desc)))

  pub slots_are : slots desc ≡ map (λ field. field.slot) (fields desc)
  unfolding slots
  slots_are =
      cond-false (is_elements desc) (map (element_slot desc) (range_with_len 0 (sum (element_counts desc))))
      (map (λ field. field.slot) (fields desc)) is.word

  pub length-slots : length (slots desc) ≡ length (fields desc)
  length-slots = ap length slots_are ∙ length-map (fields desc) (λ field. field.slot)

  pub word_slots_few : length (slots desc) ≤ 4
  word_slots_few = omega (arith, length-slots, is.fields.few)

  -- A slot holds a component: its field ends where the component does, and is as wide.
  pub record HoldsField (i j : ℕ) : Type 0 where
    pub listed : j < desc.count
    pub width : get_or (field_widths desc) i 0 ≡ (component_of desc j).depth
    pub rest : sum (drop i (field_widths desc)) ≡ end_of desc j

  pub slot_field : (i j : ℕ) → i < length (slots desc) → get_or (slots desc) i None ≡ Some j → HoldsField i j
  slot_field i j within here =
      let at = is.fields.holds i j (omega (arith, length-slots))
      (slot_in (fields desc) i ∙ ap (λ list. get_or list i None) (sym slots_are) ∙ here) in
      record {
        listed = at.0;
        width = widths_are i ∙ sym (width_in (fields desc) i) ∙ at.1;
        rest = same_rests (field_widths desc) (widths_of (fields desc)) i widths_are ∙ at.2;
      }

  pub slot_found : (j : ℕ) → j < desc.count → (i : ℕ) × (i < length (slots desc)) × (get_or (slots desc) i None ≡ Some j)
  slot_found j listed =
      let position = is.fields.found j listed (is.ends j listed) in (
        position.0,
        omega (arith, length-slots, position.1),
        ap (λ list. get_or list position.0 None) slots_are
            ∙ sym (slot_in (fields desc) position.0) ∙ position.2,
      )
