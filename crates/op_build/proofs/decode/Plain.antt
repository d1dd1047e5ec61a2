-- Decoding gives the codes of the channels of a format without a palette.
use Rattle.std.proofs.Common.{◌≡◌, ℕ, ◌+◌, ◌-◌, ◌*◌, ◌/◌, ◌%◌, ◌^◌, ◌<◌, ◌≤◌, ⊎_elim, true, false, not, ◌&&◌, nat_eq, List, [], ◌∷◌}
use Rattle.std.proofs.Common.{if◌then◌else◌, All, get_or, Some, None, sym, ap, ◌∙◌, arith}
use Rattle.std.specs.Prelude.{sum}
use Rattle.std.proofs.lemmas.Bool.{cases_Bool, cond-true, cond-false}
use Rattle.pix_desc.specs.declared.desc.Desc.{Desc}
use Rattle.pix_desc.specs.Component.{component_of}
use Rattle.pix_desc.specs.Frame.{frame_component}
use Rattle.pix_desc.specs.Layouts.{IsValid, is_elements}
use Rattle.pix_desc.proofs.BitPositions.{byte_below}
use Rattle.pix_desc.proofs.Valid.{laid_out}
use Rattle.frac_math.specs.Fraction.{nat}
use Rattle.pix_meaning.specs.Pairs.{has_channel, component_at}
use Rattle.pix_meaning.specs.Channels.{missing_code}
use Rattle.op_list.specs.declared.op.Op.{Op}
use Rattle.op_list.specs.declared.op.Op.TheVariants.{Read, Unpack, Clear, LeftShift, RightShift}
use Rattle.op_list.specs.declared.position.PixelPosition.{PixelPosition}
use Rattle.op_list.specs.declared.types.PixType.TheVariants.{U8}
use Rattle.op_list.specs.declared.types.Stage.TheVariants.{Start}
use Rattle.op_list.specs.declared.values.Values.TheVariants.{Numbers}
use Rattle.op_list.specs.Types.{bits, bytes}
use Rattle.op_list.specs.Values.{four, no_values}
use Rattle.op_list.specs.Whole.{field, bits_below}
use Rattle.op_list.specs.Pixel.{number_at, element_in, pixel_count, pixel_number}
use Rattle.op_list.specs.Apply.{cleared_number, cleared, swizzled}
use Rattle.op_list.proofs.Four.{get_or-four, same_four}
use Rattle.op_list.specs.Run.{run_from}
use Rattle.op_list.proofs.Stored.{element_of-is}
use Rattle.pix_desc.specs.Shape.{element_counts, field_widths, position_of}
use Rattle.op_build.specs.ElementType.{element_type, is_swapped}
use Rattle.op_build.specs.Recipe.{decode, split, channel_slots, missing_codes}
use Rattle.op_build.proofs.shape.ByteNumbers.{in_order, number_at-below, swap_needed}
use Rattle.pix_meaning.proofs.ChannelCodes.{code_of-there, code_of-missing, plain_component, channel_listed}
use Rattle.pix_meaning.specs.Channels.{code_of}
use Rattle.op_build.proofs.decode.Runs.{decode_by, ordered_element, run_shifts, run_fields}
use Rattle.pix_desc.proofs.ElementSlots.{HasElements}
use Rattle.op_build.proofs.shape.FieldValues.{shifted_field}
use Rattle.op_build.proofs.shape.NumberBits.{number_of, component_number}
use Rattle.op_build.proofs.shape.SlotBits.{SlotBits, AreSlotBits, lowest_bit, element_bits, are_element_bits, field_bits, are_field_bits}
use Rattle.pix_desc.proofs.PixelSlots.{first_size, has_layout, has_slots, component_field}
use Rattle.op_build.proofs.shape.ElementTypes.{has_type}
use Rattle.pix_desc.proofs.WordBits.{number_end}
use Rattle.pix_desc.proofs.WordShape.{HasWord}

module _ (desc : Desc) (frame : List ℕ) (position : PixelPosition) (valid : IsValid desc) (all_bytes : All (λ byte. byte < 256) frame) where
  component_here : ℕ → ℕ
  component_here j = frame_component desc position.width position.rows frame j position.x position.row

  small : (k : ℕ) → get_or frame k 0 < 256
  small k = byte_below frame k all_bytes

  -- an element in the format's byte order
  abbrev ordered : ℕ → ℕ
  ordered i = ordered_element (element_type desc) (element_counts desc) (is_swapped desc) frame position i

  module _ (s : SlotBits) (is : AreSlotBits desc s) where
    ordered_is : (i : ℕ) → i < sum (element_counts desc) → ordered i ≡ number_of desc valid s is frame position all_bytes i
    ordered_is i within =
        let typed = has_type desc valid in
        let elem = element_type desc in
        let size = s.size in
        let bytes_are : bytes elem ≡ size = typed.bytes ∙ is.bytes in
        let at = element_in (pixel_count position) (pixel_number position) 0 (element_counts desc) i in
        ap (in_order (is_swapped desc) (bytes elem)) (element_of-is elem (element_counts desc) frame position i within)
        ∙ ap (λ t. in_order (is_swapped desc) t (number_at t frame (at * t))) bytes_are
        ∙ ap (λ b. in_order b size (number_at size frame (at * size))) (typed.swapped ∙ ap (λ t. desc.be && not (nat_eq t 1)) is.bytes)
        ∙ swap_needed desc.be size (number_at size frame (at * size)) (number_at-below frame size (at * size) small)

    -- a component is a field of its element
    component_field_is : (j : ℕ) → j < desc.count
        → ordered (s.element (position_of desc j)) / 2 ^ lowest_bit desc s j % 2 ^ (component_of desc j).depth ≡ component_here j
    unfolding component_here
    component_field_is j listed =
        ap (λ n. n / 2 ^ lowest_bit desc s j % 2 ^ (component_of desc j).depth)
        (ordered_is (s.element (position_of desc j)) (is.within (position_of desc j) ((has_slots desc valid).within j listed)))
        ∙ component_number desc valid s is frame position all_bytes j listed

  -- ---- elements

  module _ (is : HasElements desc (first_size desc)) where
    abbrev shifted : ℕ → ℕ
    shifted i =
        ordered i * 2 ^ (bits (element_type desc) - (component_of desc 0).shift - (component_of desc 0).depth)
        % 2 ^ bits (element_type desc) / 2 ^ (bits (element_type desc) - (component_of desc 0).depth)

    shifted_is : (j : ℕ) → j < desc.count → shifted (position_of desc j) ≡ component_here j
    shifted_is j listed =
        let laid = laid_out desc valid in
        let first = component_of desc 0 in
        let number = ordered (position_of desc j) in
        let low : first.shift ≡ lowest_bit desc (element_bits desc) j = omega arith in
        let room : first.shift + first.depth ≤ bits (element_type desc) =
        omega (arith, number_end desc laid 0 laid.some, (has_type desc valid).bits, is.bytes) in
        shifted_field number first.shift first.depth (bits (element_type desc)) room
        ∙ ap (λ d. number / 2 ^ first.shift % 2 ^ d) (sym (is.depth j listed))
        ∙ ap (λ t. number / 2 ^ t % 2 ^ (component_of desc j).depth) low
        ∙ component_field_is (element_bits desc) (are_element_bits desc valid is) j listed

  -- ---- a word

  module _ (is : HasWord desc) where
    abbrev fielded : ℕ → ℕ
    fielded i = field (field_widths desc) (ordered 0) i

    fielded_is : (j : ℕ) → j < desc.count → fielded (position_of desc j) ≡ component_here j
    fielded_is j listed =
        let below = bits_below (field_widths desc) (position_of desc j) in
        let low : below ≡ below + 0 = omega arith in
        ap (λ w. ordered 0 / 2 ^ below % 2 ^ w) (component_field desc j (laid_out desc valid) is listed).0
        ∙ ap (λ t. ordered 0 / 2 ^ t % 2 ^ (component_of desc j).depth) low
        ∙ component_field_is (field_bits desc) (are_field_bits desc valid is) j listed

  -- ---- the whole

  module _ (none : desc.palette ≡ false) where
    abbrev codes : ℕ → ℕ
    codes c = code_of desc position.width position.rows frame position.x position.row c

    -- what stands at the components' positions goes to their channels
    decoded : (values : ℕ → ℕ) → ((j : ℕ) → j < desc.count → values (position_of desc j) ≡ component_here j)
        → cleared (missing_codes desc) (swizzled (channel_slots desc) (Numbers (four values))) ≡ Numbers (four codes)
    unfolding component_here
    decoded values are =
        ap Numbers (same_four
        (λ c. cleared_number (if has_channel desc c then None else Some (nat (missing_code desc c)))
        (get_or (four values) (if has_channel desc c then position_of desc (component_at desc c) else c) 0))
        codes
        (λ c below. ⊎_elim
        (λ (there : has_channel desc c ≡ true).
        let j = component_at desc c in
        let positions = has_slots desc valid in
        let listed : j < desc.count = channel_listed desc c valid none below there in
        ap (λ b. cleared_number (if b then None else Some (nat (missing_code desc c)))
        (get_or (four values) (if b then position_of desc j else c) 0)) there
        ∙ get_or-four values (position_of desc j) 0 (omega (arith, positions.within j listed, positions.few))
        ∙ are j listed
        ∙ sym (plain_component desc position.width position.rows frame j position.x position.row none)
        ∙ sym (code_of-there desc position.width position.rows frame position.x position.row c there))
        (λ (missing : has_channel desc c ≡ false).
        ap (λ b. cleared_number (if b then None else Some (nat (missing_code desc c)))
        (get_or (four values) (if b then position_of desc (component_at desc c) else c) 0)) missing
        ∙ sym (code_of-missing desc position.width position.rows frame position.x position.row c missing))
        (cases_Bool (has_channel desc c))))

pub decode_is : (desc : Desc) (splits : List Op) → desc.palette ≡ false → split desc ≡ splits
    → decode desc ≡ decode_by (element_type desc) (element_counts desc) (is_swapped desc) splits (channel_slots desc) (missing_codes desc)
unfolding decode
decode_is desc splits none are =
    let by = decode_by (element_type desc) (element_counts desc) (is_swapped desc) (split desc) (channel_slots desc) (missing_codes desc) in
    cond-false desc.palette (Read U8 (1 ∷ 0 ∷ 0 ∷ 0 ∷ []) true ∷ Clear (missing_codes desc) ∷ []) by none
    ∙ ap (λ s. decode_by (element_type desc) (element_counts desc) (is_swapped desc) s (channel_slots desc) (missing_codes desc)) are

abbrev pub shifts : Desc → List Op
shifts desc =
    LeftShift (bits (element_type desc) - (component_of desc 0).shift - (component_of desc 0).depth) ∷ RightShift
    (bits (element_type desc) - (component_of desc 0).depth) ∷ []

pub split_elements : (desc : Desc) → is_elements desc ≡ true → split desc ≡ shifts desc
split_elements desc elements = cond-true (is_elements desc) (shifts desc) (Unpack (field_widths desc) ∷ []) elements

pub split_word : (desc : Desc) → is_elements desc ≡ false → split desc ≡ Unpack (field_widths desc) ∷ []
split_word desc word = cond-false (is_elements desc) (shifts desc) (Unpack (field_widths desc) ∷ []) word

pub decode_plain : (desc : Desc) (frame : List ℕ) (position : PixelPosition) → IsValid desc → desc.palette ≡ false
    → All (λ byte. byte < 256) frame
    → run_from frame position Start (decode desc) no_values
    ≡ Numbers (four (code_of desc position.width position.rows frame position.x position.row))
decode_plain desc frame position valid none all_bytes =
    let elem = element_type desc in
    let first = component_of desc 0 in
    ⊎_elim
    (λ (is : HasElements desc (first_size desc)).
    ap (λ ops. run_from frame position Start ops no_values) (decode_is desc (shifts desc) none (split_elements desc is.elements))
    ∙ run_shifts frame position elem (element_counts desc) (is_swapped desc) (bits elem - first.shift - first.depth)
    (bits elem - first.depth) (channel_slots desc) (missing_codes desc)
    ∙ decoded desc frame position valid all_bytes none (shifted desc frame position valid all_bytes is)
    (shifted_is desc frame position valid all_bytes is))
    (λ (is : HasWord desc).
    ap (λ ops. run_from frame position Start ops no_values)
    (decode_is desc (Unpack (field_widths desc) ∷ []) none (split_word desc is.word))
    ∙ run_fields frame position elem (element_counts desc) (is_swapped desc) (field_widths desc) (channel_slots desc) (missing_codes desc)
    ∙ decoded desc frame position valid all_bytes none (fielded desc frame position valid all_bytes is)
    (fielded_is desc frame position valid all_bytes is))
    (has_layout desc valid)
