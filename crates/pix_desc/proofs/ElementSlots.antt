-- The layout Elements: how many elements a pixel has in each plane, and which of them holds a component.
use Rattle.std.proofs.Common.{◌≡◌, ◌≢◌, ℕ, zero, suc, ◌+◌, ◌*◌, ◌/◌, ◌%◌, ◌<◌, ◌≤◌, ⊎_elim, inl, inr, Bool, true, false, not, ◌&&◌}
use Rattle.std.proofs.Common.{if◌then◌else◌, nat_le, nat_eq, pos, List, take, map, length, get_or, get_or-take, Some, None, eqb-true}
use Rattle.std.proofs.Common.{eq-eqb, sym, refl, ap, ◌∙◌, arith}
use Rattle.std.specs.Prelude.{sum}
use Rattle.std.specs.List.{range_with_len, list_all, sum_by}
use Rattle.std.proofs.lemmas.Bool.{and_parts, not-true, not-false, cond-true, leb-true, eq-eqb, ne_eqb, cases_lt, cases_order}
use Rattle.std.proofs.lemmas.List.{take-take, take_all, length-take-le}
use Rattle.std.proofs.lemmas.List.FromFn.{length-map-range_with_len, get_or-map-range_with_len}
use Rattle.std.proofs.lemmas.List.Sums.{sum_by_more_le}
use Rattle.std.proofs.lemmas.Nat.{le-div, div-add-mod'}
use Rattle.pix_desc.specs.declared.desc.Comp.{Comp}
use Rattle.pix_desc.specs.declared.desc.Desc.{Desc}
use Rattle.pix_desc.specs.Component.{components, component_of, no_component, is_narrow, bytes_read, first_byte, count_of, bit_position}
use Rattle.pix_desc.specs.Frame.{plane_step}
use Rattle.pix_desc.specs.Layouts.{IsLaidOut, is_elements, some_pair, one_a_plane}
use Rattle.pix_desc.proofs.ComponentLists.{some_pair-false, list_all-map_true, get_or-components, length-components}
use Rattle.pix_desc.proofs.BitsOfBytes.{byte_of}
use Rattle.pix_desc.proofs.BitPositions.{bit_position_is}
use Rattle.pix_desc.specs.Shape.{element_bytes, element_counts, element_index, element_slot, slots, fields}
use Rattle.pix_desc.proofs.RangeSearch.{find_only, found_passes}
use Rattle.pix_desc.proofs.ElementCounts.{count_at, length-counts}
use Rattle.pix_desc.proofs.PlaneSteps.{firsts_below, first_in-quotient, bytes_read-positive}

-- The components are read from numbers of so many bytes, all at the same bits, and a pixel is up to four such numbers.
pub record HasElements (desc : Desc) (size : ℕ) : Type 0 where
  pub elements : is_elements desc ≡ true
  pub bytes : element_bytes desc ≡ size
  pub shift : (j : ℕ) → j < desc.count → (component_of desc j).shift ≡ (component_of desc 0).shift
  pub depth : (j : ℕ) → j < desc.count → (component_of desc j).depth ≡ (component_of desc 0).depth
  pub read : (j : ℕ) → j < desc.count → bytes_read (component_of desc j) ≡ size
  pub first : (j : ℕ) → j < desc.count → count_of (first_byte desc (component_of desc j)) % size ≡ 0
  pub step : (j : ℕ) → j < desc.count → (component_of desc j).step % size ≡ 0
  pub few : plane_step desc 0 / size + plane_step desc 1 / size + plane_step desc 2 / size + plane_step desc 3 / size ≤ 4

abbrev unlike : Comp → Comp → Bool
unlike a b = not (nat_eq a.shift b.shift && nat_eq a.depth b.depth)

abbrev is_aligned : Desc → Comp → Bool
is_aligned desc c = nat_eq (count_of (first_byte desc c) % bytes_read c) 0 && nat_eq (c.step % bytes_read c) 0

alike : (desc : Desc) (j : ℕ) → some_pair desc unlike ≡ false → j < desc.count
    → ((component_of desc j).shift ≡ (component_of desc 0).shift) × ((component_of desc j).depth ≡ (component_of desc 0).depth)
alike desc zero same listed = (refl, refl)
alike desc (suc j) same listed =
    let a = component_of desc 0 in
    let b = component_of desc (suc j) in
    let tests = and_parts (nat_eq a.shift b.shift) (nat_eq a.depth b.depth)
    (not-false (nat_eq a.shift b.shift && nat_eq a.depth b.depth) (some_pair-false desc unlike 0 (suc j) same (omega arith) listed)) in
    (sym (eqb-true a.shift b.shift tests.0), sym (eqb-true a.depth b.depth tests.1))

same_bytes : (a b : Comp) → a.shift ≡ b.shift → a.depth ≡ b.depth → bytes_read a ≡ bytes_read b
same_bytes a b shift depth =
    ap (λ s. if nat_le (s + a.depth) 8 then 1 else 2) shift ∙ ap (λ d. if nat_le (b.shift + d) 8 then 1 else 2) depth

pub has_elements : (desc : Desc) → is_elements desc ≡ true → HasElements desc (bytes_read (component_of desc 0))
unfolding element_bytes
has_elements desc elements =
    let size = bytes_read (component_of desc 0) in
    let same = not (some_pair desc unlike) in
    let aligned = list_all (is_aligned desc) (components desc) in
    let quotient = λ (c : Comp). c.step / bytes_read c in
    let few = nat_le (sum_by quotient (one_a_plane (components desc))) 4 in
    let both = and_parts (same && aligned) few elements in
    let tests = and_parts same aligned both.0 in
    let pair : some_pair desc unlike ≡ false = not-true (some_pair desc unlike) tests.0 in
    let read = λ (j : ℕ) (listed : j < desc.count). same_bytes (component_of desc j) (component_of desc 0) (alike desc j pair listed).0
    (alike desc j pair listed).1 in
    let position = λ (j : ℕ) (listed : j < desc.count).
    and_parts (nat_eq (count_of (first_byte desc (component_of desc j)) % bytes_read (component_of desc j)) 0)
    (nat_eq ((component_of desc j).step % bytes_read (component_of desc j)) 0)
    (list_all-map_true (component_of desc) (is_aligned desc) desc.count j tests.1 listed) in
    let each = λ (i : ℕ) (within : i < length (components desc)).
    let listed : i < desc.count = omega (arith, length-components desc) in ap bytes_read (get_or-components desc i no_component listed)
    ∙ read i listed in
    record {
      elements = elements;
      bytes = cond-true (is_elements desc) size (component_of desc 0).step elements;
      shift = λ j listed. (alike desc j pair listed).0;
      depth = λ j listed. (alike desc j pair listed).1;
      read = read;
      first =
          λ j listed. ap (λ s. count_of (first_byte desc (component_of desc j)) % s) (sym (read j listed))
          ∙ eqb-true _ 0 (position j listed).0;
      step = λ j listed. ap (λ s. (component_of desc j).step % s) (sym (read j listed)) ∙ eqb-true _ 0 (position j listed).1;
      few = omega (
        arith,
        firsts_below quotient (components desc),
        leb-true _ 4 both.1,
        first_in-quotient 0 size (components desc) each,
        first_in-quotient 1 size (components desc) each,
        first_in-quotient 2 size (components desc) each,
        first_in-quotient 3 size (components desc) each,
      );
    }

-- ---- the element of a component

-- what stands before a position of a list, and at it, is a part of what stands before a later position
sum_before : (ns : List ℕ) (p q : ℕ) → p < q → p < length ns → sum (take p ns) + get_or ns p 0 ≤ sum (take q ns)
sum_before ns p q before within =
    ⊎_elim
    (λ (past : length ns < q). omega (arith, sum_by_more_le (λ n. n) ns p 0 within, ap sum (take_all q ns (omega arith))))
    (λ (inside : q ≤ length ns).
    let short : length (take q ns) ≡ q = length-take-le q ns inside in
    let more = sum_by_more_le (λ n. n) (take q ns) p 0 (omega arith) in
    omega (arith, more, ap sum (take-take p q ns (omega arith)), get_or-take q ns p 0 before))
    (cases_lt (length ns) q)

quotient_below : (first size step : ℕ) → 0 < size → first % size ≡ 0 → first + size ≤ step → first / size < step / size
quotient_below first size step some whole room =
    omega (arith, le-div (first / size + 1) step size some (omega (arith, div-add-mod' first size)))

same_quotients : (a b size : ℕ) → a % size ≡ 0 → b % size ≡ 0 → a / size ≡ b / size → a ≡ b
same_quotients a b size first second same = omega (arith, div-add-mod' a size, div-add-mod' b size, ap (λ q. q * size) same)

module _ (desc : Desc) (size : ℕ) (laid : IsLaidOut desc) (is : HasElements desc size) where
  pub element_index_is : (j : ℕ)
      → element_index desc j
      ≡ sum (take (component_of desc j).plane (element_counts desc)) + count_of (first_byte desc (component_of desc j)) / size
  element_index_is j =
      ap (λ s. sum (take (component_of desc j).plane (element_counts desc)) + count_of (first_byte desc (component_of desc j)) / s) is.bytes

  some_size : 0 < size
  some_size = omega (arith, is.read 0 laid.some, bytes_read-positive (component_of desc 0))

  plane_listed : (j : ℕ) → j < desc.count → (component_of desc j).plane < length (element_counts desc)
  plane_listed j listed = omega (arith, length-counts desc, laid.plane j listed)

  -- it is one of the elements of its plane
  pub first_in_plane : (j : ℕ) → j < desc.count
      → count_of (first_byte desc (component_of desc j)) / size < get_or (element_counts desc) (component_of desc j).plane 0
  first_in_plane j listed =
      let c = component_of desc j in
      let room : count_of (first_byte desc c) + size ≤ c.step = omega (arith, laid.inside j listed, is.read j listed) in
      omega (
        arith,
        quotient_below (count_of (first_byte desc c)) size c.step some_size (is.first j listed) room,
        count_at desc size c.plane is.bytes (laid.plane j listed),
        ap (λ s. s / size) (laid.step j listed),
      )

  pub element_index-below : (j : ℕ) → j < desc.count → element_index desc j < sum (element_counts desc)
  element_index-below j listed =
      omega (
        arith,
        element_index_is j,
        first_in_plane j listed,
        sum_by_more_le (λ n. n) (element_counts desc) (component_of desc j).plane 0
            (plane_listed j listed),
      )

  -- the elements of a plane stand before those of a later plane
  index_before : (i j : ℕ) → i < desc.count → j < desc.count → (component_of desc i).plane < (component_of desc j).plane
      → element_index desc i < element_index desc j
  index_before i j first second before =
      omega (
        arith,
        element_index_is i,
        element_index_is j,
        first_in_plane i first,
        sum_before (element_counts desc)
            (component_of desc i).plane (component_of desc j).plane before (plane_listed i first),
      )

  -- two components of one element read the same bits
  same_place : (i j : ℕ) → i < desc.count → j < desc.count
      → count_of (first_byte desc (component_of desc i)) ≡ count_of (first_byte desc (component_of desc j))
      → bit_position desc (component_of desc i) 0 ≡ bit_position desc (component_of desc j) 0
  same_place i j listed also same =
      let a = component_of desc i in
      let b = component_of desc j in
      let shift : a.shift ≡ b.shift = is.shift i listed ∙ sym (is.shift j also) in
      let depth : a.depth ≡ b.depth = is.depth i listed ∙ sym (is.depth j also) in
      let narrow : is_narrow a ≡ is_narrow b = ap (λ s. nat_le (s + a.depth) 8) shift ∙ ap (λ d. nat_le (b.shift + d) 8) depth in
      bit_position_is desc a 0 (laid.first i listed)
      ∙ ap (λ first. pos (8 * (first + byte_of (is_narrow a) desc.be (a.shift + 0)) + (a.shift + 0) % 8)) same
      ∙ ap (λ v. pos (8 * (count_of (first_byte desc b) + byte_of v desc.be (a.shift + 0)) + (a.shift + 0) % 8)) narrow
      ∙ ap (λ s. pos (8 * (count_of (first_byte desc b) + byte_of (is_narrow b) desc.be (s + 0)) + (s + 0) % 8)) shift
      ∙ sym (bit_position_is desc b 0 (laid.first j also))

  pub element_index-apart : (i j : ℕ) → i < desc.count → j < desc.count → i ≢ j → element_index desc i ≢ element_index desc j
  element_index-apart i j first second differ same =
      let a = component_of desc i in
      let b = component_of desc j in
      elim (cases_order a.plane b.plane) as (λ _. ⊥) [
        | inl here ↦
            let before = ap (λ p. sum (take p (element_counts desc))) here in
            let quotients : count_of (first_byte desc a) / size ≡ count_of (first_byte desc b) / size =
            omega (arith, element_index_is i, element_index_is j) in
            laid.apart i j 0 0 first second differ here (laid.deep i first) (laid.deep j second)
            (same_place i j first second
            (same_quotients (count_of (first_byte desc a)) (count_of (first_byte desc b)) size (is.first i first)
            (is.first j second) quotients))
        | inr (inl before) ↦ omega (arith, index_before i j first second before)
        | inr (inr behind) ↦ omega (arith, index_before j i second first behind)
      ]

  -- ---- the slots of the elements

  slots_are : slots desc ≡ map (element_slot desc) (range_with_len 0 (sum (element_counts desc)))
  unfolding slots
  slots_are =
      cond-true (is_elements desc) (map (element_slot desc) (range_with_len 0 (sum (element_counts desc))))
      (map (λ field. field.slot) (fields desc)) is.elements

  pub length-slots : length (slots desc) ≡ sum (element_counts desc)
  length-slots = ap length slots_are ∙ length-map-range_with_len (element_slot desc) 0 (sum (element_counts desc))

  pub slot_at : (i : ℕ) → i < sum (element_counts desc) → get_or (slots desc) i None ≡ element_slot desc i
  slot_at i within =
      ap (λ list. get_or list i None) slots_are
      ∙ get_or-map-range_with_len (element_slot desc) 0 (sum (element_counts desc)) i i None within (omega arith)

  -- what an element holds is the component whose index it has
  pub slot_holds : (i j : ℕ) → i < length (slots desc) → get_or (slots desc) i None ≡ Some j → (j < desc.count) × (element_index desc j ≡ i)
  slot_holds i j within holds =
      let found = found_passes (λ k. nat_eq (element_index desc k) i) desc.count j
      (sym (slot_at i (omega (arith, length-slots))) ∙ holds) in
      (found.0, eqb-true (element_index desc j) i found.1)

  pub index_slot : (j : ℕ) → j < desc.count → get_or (slots desc) (element_index desc j) None ≡ Some j
  index_slot j listed =
      slot_at (element_index desc j) (element_index-below j listed)
      ∙ find_only (λ k. nat_eq (element_index desc k) (element_index desc j)) desc.count j listed
      (eq-eqb (element_index desc j) (element_index desc j) refl)
      (λ k other differ. ne_eqb (element_index desc k) (element_index desc j) (element_index-apart k j other listed differ))
