-- Decoding is well typed, has at most six operations and leaves whole numbers.
use Rattle.std.proofs.Common.{◌≡◌, ℕ, ◌+◌, ◌-◌, ◌^◌, ◌≤◌, ⊎_elim, Bool, true, false, ◌&&◌, if◌then◌else◌, List, [], ◌∷◌, ◌++◌, Option}
use Rattle.std.proofs.Common.{Some, None, pow_mono, sym, refl, subst, arith}
use Rattle.std.specs.Prelude.{nat_lt}
use Rattle.std.specs.List.{list_all}
use Rattle.std.proofs.lemmas.Bool.{and_from, or_right, cases_Bool, cond_both, cond-true, cond-false, lt-ltb}
use Rattle.frac_math.specs.Fraction.{ℚ, nat}
use Rattle.pix_desc.specs.declared.desc.Desc.{Desc}
use Rattle.pix_desc.specs.Component.{component_of}
use Rattle.pix_desc.specs.Layouts.{IsValid}
use Rattle.pix_desc.proofs.Valid.{laid_out}
use Rattle.pix_meaning.specs.Pairs.{has_channel, component_at, depth_of}
use Rattle.op_list.specs.declared.op.Op.{Op}
use Rattle.op_list.specs.declared.op.Op.TheVariants.{Read, SwapBytes, Unpack, Clear, LeftShift, RightShift, Swizzle}
use Rattle.op_list.specs.declared.types.PixType.{PixType}
use Rattle.op_list.specs.declared.types.PixType.TheVariants.{U8}
use Rattle.op_list.specs.declared.types.Stage.{Stage}
use Rattle.op_list.specs.declared.types.Stage.TheVariants.{Start, Typed}
use Rattle.op_list.specs.Types.{bits, is_whole_type, is_wide, is_rational}
use Rattle.op_list.specs.Typing.{may_follow, are_good, are_counts, all_fit, entry_fits, stage_after}
use Rattle.op_list.proofs.Typed.{IsTyped, no_operations, one_more, both_parts}
use Rattle.pix_desc.specs.Shape.{element_counts, field_widths, position_of}
use Rattle.op_build.specs.ElementType.{element_type, is_swapped}
use Rattle.pix_meaning.specs.Channels.{missing_code}
use Rattle.op_build.specs.Codes.{decoded_type, IsWholeTyped}
use Rattle.op_build.specs.Recipe.{decode, only_if, split, channel_slots, missing_codes}
use Rattle.pix_meaning.proofs.ChannelCodes.{missing_code-below, channel_listed}
use Rattle.op_build.proofs.decode.Plain as Plain
use Rattle.op_build.proofs.decode.Plain.{split_elements, split_word}
use Rattle.op_build.proofs.decode.Palette as Palette
use Rattle.pix_desc.proofs.ElementSlots.{HasElements}
use Rattle.op_list.proofs.Four.{four_hold}
use Rattle.pix_desc.proofs.PixelSlots.{first_size, has_layout, has_slots}
use Rattle.op_build.proofs.shape.ElementTypes.{has_type, element_counts_are_good, field_widths_are_good}
use Rattle.op_build.proofs.shape.SlotBits.{has_slot_bits}
use Rattle.pix_desc.proofs.WordBits.{number_end}
use Rattle.pix_desc.proofs.WordShape.{HasWord}

-- ---- the arguments of each operation

-- a missing code, where there is one, is a number of so many bits
pub missing_codes_fit : (desc : Desc) (count : ℕ) → IsValid desc → depth_of desc 0 ≤ count → all_fit count (missing_codes desc) ≡ true
missing_codes_fit desc count valid deep =
    four_hold (λ c. entry_fits count (if has_channel desc c then None else Some (nat (missing_code desc c))))
    (λ c below. cond_both (has_channel desc c) None (Some (nat (missing_code desc c))) (λ entry. entry_fits count entry ≡ true)
    (λ _. refl)
    (λ _. lt-ltb (missing_code desc c) (2 ^ count) (omega (arith, missing_code-below desc c valid, pow_mono deep))))

-- each channel is taken from one of the four values
pub channel_slots_fit : (desc : Desc) → IsValid desc → desc.palette ≡ false → list_all (λ i. nat_lt i 4) (channel_slots desc) ≡ true
channel_slots_fit desc valid none =
    let positions = has_slots desc valid in
    four_hold (λ c. nat_lt (if has_channel desc c then position_of desc (component_at desc c) else c) 4)
    (λ c below. lt-ltb _ 4 (⊎_elim
    (λ (there : has_channel desc c ≡ true).
    let listed = channel_listed desc c valid none below there in
    omega (
      arith,
      cond-true (has_channel desc c) (position_of desc (component_at desc c)) c there,
      positions.within
          (component_at desc c) listed,
      positions.few,
    ))
    (λ (missing : has_channel desc c ≡ false). omega
    (arith, cond-false (has_channel desc c) (position_of desc (component_at desc c)) c missing))
    (cases_Bool (has_channel desc c))))

-- the first component fits the elements
first_deep : (desc : Desc) → IsValid desc → (component_of desc 0).depth ≤ bits (element_type desc)
first_deep desc valid =
    let laid = laid_out desc valid in
    let slots = (has_slot_bits desc valid).1 in
    let position = position_of desc 0 in
    omega (
      arith,
      (has_type desc valid).bits,
      slots.bytes,
      slots.inside 0 laid.some,
      slots.room position ((has_slots desc valid).within 0 laid.some),
    )

-- ---- the operations behind one another

two_at_most : (stage last : Stage) (ops : List Op) (few most : ℕ) → few ≤ most → IsTyped stage ops last few → IsTyped stage ops last most
two_at_most stage last ops few most fewer is = record { typed = is.typed; leaves = is.leaves; size = omega (arith, is.size) }

swap_part : (elem : PixType) (swapped : Bool) → (swapped ≡ true → is_wide (Typed elem) ≡ true)
    → IsTyped (Typed elem) (only_if swapped SwapBytes) (Typed elem) 1
unfolding may_follow are_good stage_after
swap_part elem true wide = one_more (Typed elem) (Typed elem) (Typed elem) SwapBytes [] 0 (wide refl) refl refl (no_operations (Typed elem))
swap_part elem false wide = two_at_most (Typed elem) (Typed elem) [] 0 1 (omega arith) (no_operations (Typed elem))

clear_part : (elem : PixType) (entries : List (Option ℚ)) → all_fit (bits elem) entries ≡ true
    → IsTyped (Typed elem) (Clear entries ∷ []) (Typed elem) 1
unfolding may_follow are_good stage_after
clear_part elem entries fit =
    one_more (Typed elem) (Typed elem) (Typed elem) (Clear entries) [] 0 refl
    (or_right (is_rational (Typed elem)) (all_fit (bits elem) entries) fit) refl (no_operations (Typed elem))

module _ (desc : Desc) (valid : IsValid desc) (none : desc.palette ≡ false) where
  abbrev elem : PixType
  elem = element_type desc

  read_part : IsTyped Start (Read elem (element_counts desc) false ∷ only_if (is_swapped desc) SwapBytes) (Typed elem) 2
  unfolding may_follow are_good stage_after
  read_part =
      let typed = has_type desc valid in
      one_more Start (Typed elem) (Typed elem) (Read elem (element_counts desc) false) (only_if (is_swapped desc) SwapBytes) 1 refl
      (and_from (is_whole_type elem && are_counts 4 (element_counts desc)) true
      (and_from (is_whole_type elem) (are_counts 4 (element_counts desc)) typed.whole (element_counts_are_good desc valid)) refl)
      refl (swap_part elem (is_swapped desc) typed.wide)

  shift_part : HasElements desc (first_size desc) → IsTyped (Typed elem) (split desc) (Typed elem) 2
  unfolding may_follow are_good stage_after
  shift_part is =
      let laid = laid_out desc valid in
      let typed = has_type desc valid in
      let first = component_of desc 0 in
      let up = bits elem - first.shift - first.depth in
      let down = bits elem - first.depth in
      let deep = laid.deep 0 laid.some in
      let room : first.shift + first.depth ≤ bits elem = omega (arith, number_end desc laid 0 laid.some, typed.bits, is.bytes) in
      subst (λ ops. IsTyped (Typed elem) ops (Typed elem) 2) (sym (split_elements desc is.elements))
      (one_more (Typed elem) (Typed elem) (Typed elem) (LeftShift up) (RightShift down ∷ []) 1 typed.whole
      (lt-ltb up (bits elem) (omega arith)) refl
      (one_more (Typed elem) (Typed elem) (Typed elem) (RightShift down) [] 0 typed.whole
      (lt-ltb down (bits elem) (omega arith)) refl (no_operations (Typed elem))))

  field_part : HasWord desc → IsTyped (Typed elem) (split desc) (Typed elem) 2
  unfolding may_follow are_good stage_after
  field_part is =
      subst (λ ops. IsTyped (Typed elem) ops (Typed elem) 2) (sym (split_word desc is.word))
      (two_at_most (Typed elem) (Typed elem) (Unpack (field_widths desc) ∷ []) 1 2 (omega arith)
      (one_more (Typed elem) (Typed elem) (Typed elem) (Unpack (field_widths desc)) [] 0 (has_type desc valid).whole
      (field_widths_are_good desc is) refl (no_operations (Typed elem))))

  slots_part : IsTyped (Typed elem) (Swizzle (channel_slots desc) ∷ Clear (missing_codes desc) ∷ []) (Typed elem) 2
  unfolding may_follow are_good stage_after
  slots_part =
      let depth : depth_of desc 0 ≡ (component_of desc 0).depth = cond-false {A = ℕ} desc.palette 8 (component_of desc 0).depth none in
      one_more (Typed elem) (Typed elem) (Typed elem) (Swizzle (channel_slots desc)) (Clear (missing_codes desc) ∷ []) 1 refl
      (channel_slots_fit desc valid none) refl
      (clear_part elem (missing_codes desc) (missing_codes_fit desc (bits elem) valid (omega (arith, depth, first_deep desc valid))))

  plain_part : IsTyped Start (decode desc) (Typed elem) 6
  plain_part =
      let front = Read elem (element_counts desc) false ∷ only_if (is_swapped desc) SwapBytes in
      let rest = Swizzle (channel_slots desc) ∷ Clear (missing_codes desc) ∷ [] in
      subst (λ ops. IsTyped Start ops (Typed elem) 6) (sym (Plain.decode_is desc (split desc) none refl))
      (both_parts Start (Typed elem) (Typed elem) (front ++ split desc) rest 4 2
      (both_parts Start (Typed elem) (Typed elem) front (split desc) 2 2 read_part (⊎_elim shift_part field_part (has_layout desc valid)))
      slots_part)

palette_part : (desc : Desc) → IsValid desc → desc.palette ≡ true → IsTyped Start (decode desc) (Typed U8) 6
unfolding may_follow are_good stage_after
palette_part desc valid palette =
    let deep : depth_of desc 0 ≤ 8 = omega (arith, cond-true {A = ℕ} desc.palette 8 (component_of desc 0).depth palette) in
    subst (λ ops. IsTyped Start ops (Typed U8) 6) (sym (Palette.decode_is desc palette))
    (two_at_most Start (Typed U8) (Read U8 (1 ∷ 0 ∷ 0 ∷ 0 ∷ []) true ∷ Clear (missing_codes desc) ∷ []) 2 6 (omega arith)
    (one_more Start (Typed U8) (Typed U8) (Read U8 (1 ∷ 0 ∷ 0 ∷ 0 ∷ []) true) (Clear (missing_codes desc) ∷ []) 1 refl refl refl
    (clear_part U8 (missing_codes desc) (missing_codes_fit desc 8 valid deep))))

-- ---- the whole

pub decode_part : (desc : Desc) → IsValid desc → IsTyped Start (decode desc) (Typed (decoded_type desc)) 6
decode_part desc valid =
    cond_both desc.palette U8 (element_type desc) (λ elem. IsTyped Start (decode desc) (Typed elem) 6)
    (λ palette. palette_part desc valid palette) (λ none. plain_part desc valid none)

pub whole_typed : (desc : Desc) → IsWholeTyped desc
whole_typed desc = λ valid.
    record {
      stage = (decode_part desc valid).leaves;
      whole = cond_both desc.palette U8 (element_type desc) (λ elem. is_whole_type elem ≡ true) (λ _. refl)
          (λ _. (has_type desc valid).whole);
    }
