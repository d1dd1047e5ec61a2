-- The recipe of a valid pair is a list of operations: each may follow those before it and has good arguments, and there are at most 20.
use Rattle.std.proofs.Common.{◌≡◌, ℕ, ◌+◌, ◌^◌, ◌<◌, ◌≤◌, ⊎_elim, Bool, true, false, not, if◌then◌else◌, List, [], ◌∷◌, ◌++◌}
use Rattle.std.proofs.Common.{length, get_or, Option, Some, None, sym, refl, subst, ◌∙◌, arith}
use Rattle.std.specs.Prelude.{nat_lt}
use Rattle.std.specs.List.{list_all}
use Rattle.std.proofs.lemmas.Bool.{and_from, or_right, cond_both, cond-true, cond-false, lt-ltb, le-leb, cases_lt}
use Rattle.std.proofs.lemmas.List.{get_or_past}
use Rattle.std.proofs.lemmas.Nat.{pow_pos}
use Rattle.frac_math.specs.Fraction.{ℚ, nat}
use Rattle.pix_desc.specs.declared.desc.Desc.{Desc}
use Rattle.pix_desc.specs.Component.{component_of}
use Rattle.pix_desc.specs.Layouts.{IsValid, is_elements}
use Rattle.pix_desc.proofs.Valid.{laid_out}
use Rattle.pix_meaning.specs.declared.pair.Pair.{Pair}
use Rattle.pix_meaning.specs.declared.pair.Side.{Side}
use Rattle.pix_meaning.specs.Pairs.{IsValidPair, channel_of, is_rgb}
use Rattle.op_list.specs.declared.op.Op.{Op}
use Rattle.op_list.specs.declared.op.Op.TheVariants.{Write, SwapBytes, Pack, Clear, LeftShift, Swizzle, Convert, Dither, Linear, Scale, Min}
use Rattle.op_list.specs.declared.op.Op.TheVariants.{Max}
use Rattle.op_list.specs.declared.types.PixType.{PixType}
use Rattle.op_list.specs.declared.types.PixType.TheVariants.{U8, U16, U32, Rat}
use Rattle.op_list.specs.declared.types.Stage.{Stage}
use Rattle.op_list.specs.declared.types.Stage.TheVariants.{Start, Typed, Ended}
use Rattle.op_list.specs.Types.{bits, is_whole_type, is_rational, is_same}
use Rattle.op_list.specs.Typing.{may_follow, are_good, are_counts, all_fit, entry_fits, stage_after, IsOpList}
use Rattle.op_list.proofs.Typed.{IsTyped, front_is_list, no_operations, one_more, one_more_if, both_parts}
use Rattle.pix_desc.specs.Shape.{element_counts, field_widths, slots}
use Rattle.op_build.specs.ElementType.{element_type, is_swapped}
use Rattle.op_build.specs.Codes.{decoded_type}
use Rattle.op_build.specs.Recipe.{decode, convert, encode, recipe, only_if, from_codes, to_codes, slot_channels, source_of, spare_zero}
use Rattle.op_build.specs.Recipe.{spare_zeros}
use Rattle.op_build.proofs.decode.Typed.{decode_part}
use Rattle.pix_desc.proofs.ElementSlots.{HasElements}
use Rattle.op_build.proofs.encode.Slots.{channel_below}
use Rattle.op_list.proofs.Four.{four_hold}
use Rattle.pix_desc.proofs.PixelSlots.{first_size, has_layout, has_slots}
use Rattle.op_build.proofs.shape.ElementTypes.{has_type, element_counts_are_good, field_widths_are_good}
use Rattle.pix_desc.proofs.WordBits.{number_end}
use Rattle.pix_desc.proofs.WordShape.{HasWord}

-- ---- conversion

-- of fractions
codes_step : (plain : Bool) (by : ℚ) (rows : List (List ℚ)) (last : Stage) (ops : List Op) (most : ℕ) → IsTyped (Typed Rat) ops last most
    → IsTyped (Typed Rat) ((if plain then Scale by else Linear rows) ∷ ops) last (most + 1)
unfolding may_follow are_good stage_after
codes_step true by rows last ops most rest = one_more (Typed Rat) (Typed Rat) last (Scale by) ops most refl refl refl rest
codes_step false by rows last ops most rest = one_more (Typed Rat) (Typed Rat) last (Linear rows) ops most refl refl refl rest

from_codes_step : (side : Side) (last : Stage) (ops : List Op) (most : ℕ) → IsTyped (Typed Rat) ops last most
    → IsTyped (Typed Rat) (from_codes side ∷ ops) last (most + 1)
unfolding from_codes
from_codes_step side last ops most rest = codes_step _ _ _ last ops most rest

to_codes_step : (side : Side) (last : Stage) (ops : List Op) (most : ℕ) → IsTyped (Typed Rat) ops last most
    → IsTyped (Typed Rat) (to_codes side ∷ ops) last (most + 1)
unfolding to_codes
to_codes_step side last ops most rest = codes_step _ _ _ last ops most rest

linear_step : (needed : Bool) (rows : List (List ℚ)) (last : Stage) (ops : List Op) (most : ℕ) → IsTyped (Typed Rat) ops last most
    → IsTyped (Typed Rat) (only_if needed (Linear rows) ++ ops) last (most + 1)
unfolding may_follow are_good stage_after
linear_step needed rows last ops most rest = one_more_if needed (Typed Rat) last (Linear rows) ops most (λ _. refl) refl refl rest

-- two of them
linear_steps : (needed also : Bool) (rows others : List (List ℚ)) (last : Stage) (ops : List Op) (most : ℕ)
    → IsTyped (Typed Rat) ops last most
    → IsTyped (Typed Rat) (only_if needed (Linear rows) ++ only_if also (Linear others) ++ ops) last (most + 2)
unfolding may_follow are_good stage_after
linear_steps true also rows others last ops most rest =
    let more = linear_step also others last ops most rest in
    let is = one_more (Typed Rat) (Typed Rat) last (Linear rows) (only_if also (Linear others) ++ ops) (most + 1) refl refl refl more in
    record { typed = is.typed; leaves = is.leaves; size = omega (arith, is.size) }
linear_steps false also rows others last ops most rest =
    let more = linear_step also others last ops most rest in
    record { typed = more.typed; leaves = more.leaves; size = omega (arith, more.size) }

last_steps : (k : ℕ) (low high : List (Option ℚ)) → k ≤ 4 → IsTyped (Typed Rat) (Dither k ∷ Max low ∷ Min high ∷ []) (Typed Rat) 3
unfolding may_follow are_good stage_after
last_steps k low high within =
    one_more (Typed Rat) (Typed Rat) (Typed Rat) (Dither k) (Max low ∷ Min high ∷ []) 2 refl (le-leb k 4 within) refl
    (one_more (Typed Rat) (Typed Rat) (Typed Rat) (Max low) (Min high ∷ []) 1 refl refl refl
    (one_more (Typed Rat) (Typed Rat) (Typed Rat) (Min high) [] 0 refl refl refl (no_operations (Typed Rat))))

first_convert : (elem : PixType) (ops : List Op) (last : Stage) (most : ℕ) → IsTyped (Typed Rat) ops last most
    → IsTyped (Typed elem) (Convert Rat false ∷ ops) last (most + 1)
unfolding may_follow are_good stage_after
first_convert elem ops last most rest = one_more (Typed elem) (Typed Rat) last (Convert Rat false) ops most refl refl refl rest

convert_part : (pair : Pair) (elem : PixType) → pair.dither ≤ 4 → IsTyped (Typed elem) (convert pair) (Typed Rat) 8
unfolding convert
convert_part pair elem within =
    first_convert elem _ (Typed Rat) 7
    (from_codes_step pair.from (Typed Rat) _ 6
    (linear_steps (not (is_rgb pair.from.desc)) (not (is_rgb pair.to.desc)) _ _ (Typed Rat) _ 4
    (to_codes_step pair.to (Typed Rat) _ 3 (last_steps pair.dither _ _ within))))

-- ---- encoding

source_below : (desc : Desc) (p : ℕ) (slot : Option ℕ) → p < 4 → ((j : ℕ) → slot ≡ Some j → j < 4) → nat_lt (source_of desc p slot) 4 ≡ true
source_below desc p None below held = lt-ltb p 4 below
source_below desc p (Some j) below held = lt-ltb (channel_of desc j) 4 (channel_below desc j (held j refl))

slot_below : (desc : Desc) (p j : ℕ) → IsValid desc → get_or (slots desc) p None ≡ Some j → j < 4
slot_below desc p j valid here =
    let positions = has_slots desc valid in
    ⊎_elim
    (λ (inside : p < length (slots desc)). omega (arith, (positions.only p j inside here).0, (laid_out desc valid).most))
    (λ (past : length (slots desc) ≤ p). let none : None ≡ Some j = sym (get_or_past (slots desc) p None past) ∙ here in absurd cc)
    (cases_lt p (length (slots desc)))

slot_channels_fit : (desc : Desc) → IsValid desc → list_all (λ i. nat_lt i 4) (slot_channels desc) ≡ true
slot_channels_fit desc valid =
    four_hold (λ p. nat_lt (source_of desc p (get_or (slots desc) p None)) 4)
    (λ p below. source_below desc p (get_or (slots desc) p None) below (λ j here. slot_below desc p j valid here))

zero_fits : (count : ℕ) → entry_fits count (Some (nat 0)) ≡ true
zero_fits count = lt-ltb 0 (2 ^ count) (pow_pos count)

spare_fits : (desc : Desc) (count p : ℕ) (slot : Option ℕ) → entry_fits count (spare_zero desc p slot) ≡ true
spare_fits desc count p (Some j) = refl
spare_fits desc count p None =
    cond_both (nat_lt p (length (slots desc))) (Some (nat 0)) None (λ entry. entry_fits count entry ≡ true) (λ _. zero_fits count)
    (λ _. refl)

spare_zeros_fit : (desc : Desc) (count : ℕ) → all_fit count (spare_zeros desc) ≡ true
spare_zeros_fit desc count =
    four_hold (λ p. entry_fits count (spare_zero desc p (get_or (slots desc) p None)))
    (λ p below. spare_fits desc count p (get_or (slots desc) p None))

same_type : (elem : PixType) → is_same elem elem ≡ true
same_type U8 = refl
same_type U16 = refl
same_type U32 = refl
same_type Rat = refl

module _ (desc : Desc) (valid : IsValid desc) where
  abbrev elem : PixType
  elem = element_type desc

  -- the operations behind the one that puts an element together
  abbrev rest : List Op
  rest = only_if (is_swapped desc) SwapBytes ++ Write elem (element_counts desc) ∷ []

  rest_part : IsTyped (Typed elem) rest Ended 2
  unfolding may_follow are_good stage_after
  rest_part =
      let typed = has_type desc valid in
      one_more_if (is_swapped desc) (Typed elem) Ended SwapBytes (Write elem (element_counts desc) ∷ []) 1 typed.wide refl refl
      (one_more (Typed elem) Ended Ended (Write elem (element_counts desc)) [] 0 (same_type elem)
      (and_from (is_whole_type elem) (are_counts 4 (element_counts desc)) typed.whole (element_counts_are_good desc valid)) refl
      (no_operations Ended))

  abbrev join : Op
  join = if is_elements desc then LeftShift (component_of desc 0).shift else Pack (field_widths desc)

  element_part : HasElements desc (first_size desc) → IsTyped (Typed elem) (join ∷ rest) Ended 3
  unfolding may_follow are_good stage_after
  element_part is =
      let laid = laid_out desc valid in
      let typed = has_type desc valid in
      let shift = (component_of desc 0).shift in
      let room : shift < bits elem = omega (arith, number_end desc laid 0 laid.some, typed.bits, is.bytes, laid.deep 0 laid.some) in
      subst (λ op. IsTyped (Typed elem) (op ∷ rest) Ended 3)
      (sym (cond-true (is_elements desc) (LeftShift shift) (Pack (field_widths desc)) is.elements))
      (one_more (Typed elem) (Typed elem) Ended (LeftShift shift) rest 2 typed.whole (lt-ltb shift (bits elem) room) refl rest_part)

  word_part : HasWord desc → IsTyped (Typed elem) (join ∷ rest) Ended 3
  unfolding may_follow are_good stage_after
  word_part is =
      subst (λ op. IsTyped (Typed elem) (op ∷ rest) Ended 3)
      (sym (cond-false (is_elements desc) (LeftShift (component_of desc 0).shift) (Pack (field_widths desc)) is.word))
      (one_more (Typed elem) (Typed elem) Ended (Pack (field_widths desc)) rest 2 (has_type desc valid).whole
      (field_widths_are_good desc is) refl rest_part)

  encode_part : IsTyped (Typed Rat) (encode desc) Ended 6
  unfolding encode may_follow are_good stage_after
  encode_part =
      one_more (Typed Rat) (Typed elem) Ended (Convert elem false) _ 5 refl refl refl
      (one_more (Typed elem) (Typed elem) Ended (Swizzle (slot_channels desc)) _ 4 refl (slot_channels_fit desc valid) refl
      (one_more (Typed elem) (Typed elem) Ended (Clear (spare_zeros desc)) (join ∷ rest) 3 refl
      (or_right (is_rational (Typed elem)) (all_fit (bits elem) (spare_zeros desc)) (spare_zeros_fit desc (bits elem))) refl
      (⊎_elim element_part word_part (has_layout desc valid))))

-- ---- the whole

-- decoding and conversion
pub front_typed : (pair : Pair) → IsValidPair pair → IsTyped Start (decode pair.from.desc ++ convert pair) (Typed Rat) 14
front_typed pair valid =
    let elem = decoded_type pair.from.desc in
    both_parts Start (Typed elem) (Typed Rat) (decode pair.from.desc) (convert pair) 6 8 (decode_part pair.from.desc valid.from)
    (convert_part pair elem valid.dither)

pub recipe_typed : (pair : Pair) → IsValidPair pair → IsTyped Start (recipe pair) Ended 20
unfolding recipe
recipe_typed pair valid =
    both_parts Start (Typed Rat) Ended (decode pair.from.desc ++ convert pair) (encode pair.to.desc) 14 6 (front_typed pair valid)
    (encode_part pair.to.desc valid.to)

pub recipe_is_list : (pair : Pair) → IsValidPair pair → IsOpList (recipe pair)
recipe_is_list pair valid = let is = recipe_typed pair valid in record { typed = is.typed; size = omega (arith, is.size) }

pub recipe_is_short : (pair : Pair) → IsValidPair pair → length (recipe pair) ≤ 20
recipe_is_short pair valid = (recipe_typed pair valid).size

-- The parts of the recipe, one behind the other, are lists.
pub record AreLists (pair : Pair) : Type 0 where
  pub first : IsOpList (decode pair.from.desc)
  pub second : IsOpList (decode pair.from.desc ++ convert pair)
  pub whole : IsOpList (decode pair.from.desc ++ convert pair ++ encode pair.to.desc)

pub are_lists : (pair : Pair) → IsValidPair pair → AreLists pair
unfolding recipe
are_lists pair valid =
    let whole : IsOpList (decode pair.from.desc ++ convert pair ++ encode pair.to.desc) = recipe_is_list pair valid in
    let second = front_is_list (decode pair.from.desc ++ convert pair) (encode pair.to.desc) whole in
    record { first = front_is_list (decode pair.from.desc) (convert pair) second; second = second; whole = whole }
