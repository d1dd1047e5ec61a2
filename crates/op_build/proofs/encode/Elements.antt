-- Encoding gives the elements of a pixel of the frame that is made of the values.
use Rattle.std.proofs.Common.{◌≡◌, ℕ, ◌*◌, ◌/◌, ◌%◌, ◌^◌, ◌<◌, ◌≤◌, ⊎_elim, false, if◌then◌else◌, pos, List, [], ◌∷◌, length, get_or}
use Rattle.std.proofs.Common.{mod-eq_of_lt, sym, ap, subst, ◌∙◌, arith}
use Rattle.std.specs.Prelude.{sum, nat_lt}
use Rattle.std.proofs.lemmas.Bool.{cases_lt, cond-true, cond-false, lt-ltb, le-ltb}
use Rattle.std.proofs.lemmas.List.{get_or_past}
use Rattle.frac_math.specs.Fraction.{ℚ, floor}
use Rattle.pix_desc.specs.declared.desc.Desc.{Desc}
use Rattle.pix_desc.specs.Component.{component_of}
use Rattle.pix_desc.specs.Frame.{frame_of, FitDepths}
use Rattle.pix_desc.specs.Layouts.{IsValid, is_elements}
use Rattle.pix_desc.specs.Shape.{element_counts, fields, no_field, field_widths, slots}
use Rattle.pix_desc.proofs.ElementSlots as Elements
use Rattle.pix_desc.proofs.ElementSlots.{HasElements}
use Rattle.pix_desc.proofs.PixelSlots.{first_size, has_layout}
use Rattle.pix_desc.proofs.Valid.{laid_out}
use Rattle.pix_desc.proofs.WordShape as Word
use Rattle.pix_desc.proofs.WordShape.{HasWord, sum-widths, length-field_widths, width_at}
use Rattle.pix_meaning.specs.Pairs.{channel_of}
use Rattle.op_list.specs.declared.op.Op.{Op}
use Rattle.op_list.specs.declared.op.Op.TheVariants.{LeftShift, Pack}
use Rattle.op_list.specs.declared.position.PixelPosition.{PixelPosition}
use Rattle.op_list.specs.declared.types.PixType.TheVariants.{Rat}
use Rattle.op_list.specs.declared.types.Stage.TheVariants.{Typed}
use Rattle.op_list.specs.declared.values.Values.TheVariants.{Numbers, Fractions}
use Rattle.op_list.specs.Types.{bits, bytes}
use Rattle.op_list.specs.Values.{four}
use Rattle.op_list.specs.Whole.{field, bits_below}
use Rattle.op_list.specs.Pixel.{element_of}
use Rattle.op_list.specs.Apply.{packed}
use Rattle.op_list.specs.Run.{run_from}
use Rattle.op_list.proofs.Four.{same_four}
use Rattle.op_list.proofs.Stored.{element_of-past}
use Rattle.op_build.specs.ElementType.{element_type, is_swapped}
use Rattle.op_build.specs.Meaning.{elements_at}
use Rattle.op_build.specs.Recipe.{encode, slot_channels, spare_zeros}
use Rattle.op_build.proofs.shape.ByteNumbers.{in_order}
use Rattle.op_build.proofs.shape.ElementTypes.{has_type}
use Rattle.op_build.proofs.encode.Packed.{packed_fields}
use Rattle.op_build.proofs.encode.Runs.{encode_by, run_shift, run_pack}
use Rattle.op_build.proofs.encode.Slots.{GivesValues, made, position_again, placed, number_of, number_below, type_bits, slot_written}
use Rattle.op_build.proofs.encode.Slots.{element_written}
use Rattle.op_build.proofs.shape.SlotBits.{element_bits, are_element_bits, field_bits, are_field_bits}

encode_is : (desc : Desc) (join : Op)
    → (if is_elements desc then LeftShift (component_of desc 0).shift else Pack (field_widths desc)) ≡ join
    → encode desc
    ≡ encode_by (element_type desc) (element_counts desc) (is_swapped desc) join (slot_channels desc) (spare_zeros desc)
unfolding encode
encode_is desc join is =
    ap (λ op. encode_by (element_type desc) (element_counts desc) (is_swapped desc) op (slot_channels desc) (spare_zeros desc)) is

module _ (desc : Desc) (position : PixelPosition) (value : ℕ → ℕ → ℕ → ℕ) (vs : ℕ → ℚ) (gives : GivesValues desc position value vs)
  where
    -- element i of the pixel of the frame that is made
    abbrev wanted : ℕ → ℕ
    wanted i =
        element_of (element_type desc) (element_counts desc) (made desc position value vs gives)
        (position_again desc position value vs gives) i

    abbrev value_at : ℕ → ℕ
    value_at p = placed desc position value vs gives p

    -- ---- elements

    module _ (is : HasElements desc (first_size desc)) where
      abbrev element_made : ℕ → ℕ
      element_made i =
          in_order (is_swapped desc) (bytes (element_type desc))
          (value_at i * 2 ^ (component_of desc 0).shift % 2 ^ bits (element_type desc))

      made_within : (i : ℕ) → i < 4 → i < sum (element_counts desc) → element_made i ≡ wanted i
      made_within i below within =
          let are = are_element_bits desc gives.valid is in
          let n = number_of desc position value vs gives (element_bits desc) are i in
          let inside : i < length (slots desc) = omega
          (arith, Elements.length-slots desc (first_size desc) (laid_out desc gives.valid) is) in
          let whole : n ≡ n / 2 ^ 0 = omega arith in
          element_written desc position value vs gives (element_bits desc) are i
          (value_at i * 2 ^ (component_of desc 0).shift % 2 ^ bits (element_type desc)) within
          (sym (mod-eq_of_lt (number_below desc position value vs gives (element_bits desc) are i))
          ∙ ap (λ m. m % 2 ^ (8 * first_size desc)) whole
          ∙ slot_written desc position value vs gives (element_bits desc) are i below inside
          ∙ ap (λ b. value_at i * 2 ^ (component_of desc 0).shift % 2 ^ b)
          (sym (type_bits desc position value vs gives (element_bits desc) are)))

      made_is : (i : ℕ) → i < 4 → (if nat_lt i (sum (element_counts desc)) then element_made i else 0) ≡ wanted i
      made_is i below =
          ⊎_elim
          (λ (within : i < sum (element_counts desc)).
          cond-true (nat_lt i (sum (element_counts desc))) (element_made i) 0 (lt-ltb i (sum (element_counts desc)) within)
          ∙ made_within i below within)
          (λ (past : sum (element_counts desc) ≤ i).
          cond-false (nat_lt i (sum (element_counts desc))) (element_made i) 0 (le-ltb i (sum (element_counts desc)) past)
          ∙ sym (element_of-past (element_type desc) (element_counts desc) (made desc position value vs gives)
          (position_again desc position value vs gives) i past))
          (cases_lt i (sum (element_counts desc)))

      encode_elements : (frame : List ℕ) → run_from frame position (Typed Rat) (encode desc) (Fractions (four vs)) ≡ Numbers (four wanted)
      encode_elements frame =
          let shift = LeftShift (component_of desc 0).shift in
          ap (λ ops. run_from frame position (Typed Rat) ops (Fractions (four vs)))
          (encode_is desc shift (cond-true (is_elements desc) shift (Pack (field_widths desc)) is.elements))
          ∙ run_shift frame position (element_type desc) (element_counts desc) (is_swapped desc) (component_of desc 0).shift
          (slot_channels desc) (spare_zeros desc) vs (has_type desc gives.valid).whole
          ∙ ap Numbers (same_four (λ i. if nat_lt i (sum (element_counts desc)) then element_made i else 0) wanted made_is)

    -- ---- a word

    module _ (is : HasWord desc) where
      abbrev word : ℕ
      word = number_of desc position value vs gives (field_bits desc) (are_field_bits desc gives.valid is) 0

      -- past the fields there are no bits
      no_field_is : (p : ℕ) → p < 4 → length (slots desc) ≤ p
          → field (field_widths desc) word p ≡ value_at p % 2 ^ get_or (field_widths desc) p 0
      no_field_is p below past =
          let width : get_or (field_widths desc) p 0 ≡ 0 =
          width_at desc p below ∙ ap (λ f. f.width) (get_or_past (fields desc) p no_field (omega (arith, Word.length-slots desc is))) in
          ap (λ w. word / 2 ^ bits_below (field_widths desc) p % 2 ^ w) width ∙ omega arith ∙ ap (λ w. value_at p % 2 ^ w) (sym width)

      field_is : (p : ℕ) → p < 4 → field (field_widths desc) word p ≡ value_at p % 2 ^ get_or (field_widths desc) p 0
      field_is p below =
          ⊎_elim
          (λ (within : p < length (slots desc)).
          let same : value_at p * 2 ^ 0 ≡ value_at p = omega arith in
          slot_written desc position value vs gives (field_bits desc) (are_field_bits desc gives.valid is) p below within
          ∙ ap (λ v. v % 2 ^ get_or (field_widths desc) p 0) same)
          (λ (past : length (slots desc) ≤ p). no_field_is p below past)
          (cases_lt p (length (slots desc)))

      word_is : word ≡ packed (field_widths desc) (Numbers (four value_at))
      word_is =
          sym (packed_fields (field_widths desc) (length-field_widths desc) word value_at
          (subst (λ b. word < 2 ^ b) (sym (sum-widths desc is))
          (number_below desc position value vs gives (field_bits desc) (are_field_bits desc gives.valid is) 0)) field_is)

      one_element : sum (element_counts desc) ≡ 1
      one_element = ap sum is.counts

      none_there : (i : ℕ) → 1 ≤ i → 0 ≡ wanted i
      none_there i past =
          sym (element_of-past (element_type desc) (element_counts desc) (made desc position value vs gives)
          (position_again desc position value vs gives) i (omega (arith, one_element)))

      four_are : (a b c d : ℕ) (g : ℕ → ℕ) → a ≡ g 0 → b ≡ g 1 → c ≡ g 2 → d ≡ g 3 → a ∷ b ∷ c ∷ d ∷ [] ≡ four g
      four_are a b c d g p q r s = cc

      encode_word : (frame : List ℕ) → run_from frame position (Typed Rat) (encode desc) (Fractions (four vs)) ≡ Numbers (four wanted)
      encode_word frame =
          let elem = element_type desc in
          let pack = Pack (field_widths desc) in
          let number = packed (field_widths desc) (Numbers (four value_at)) in
          ap (λ ops. run_from frame position (Typed Rat) ops (Fractions (four vs)))
          (encode_is desc pack (cond-false (is_elements desc) (LeftShift (component_of desc 0).shift) pack is.word)
          ∙ ap (λ counts. encode_by elem counts (is_swapped desc) pack (slot_channels desc) (spare_zeros desc)) is.counts)
          ∙ run_pack frame position elem (is_swapped desc) (field_widths desc) (slot_channels desc) (spare_zeros desc) vs
          (has_type desc gives.valid).whole
          ∙ ap Numbers (four_are (in_order (is_swapped desc) (bytes elem) number) 0 0 0 wanted
          (element_written desc position value vs gives (field_bits desc) (are_field_bits desc gives.valid is) 0 number
          (omega (arith, one_element)) word_is)
          (none_there 1 (omega arith)) (none_there 2 (omega arith)) (none_there 3 (omega arith)))

pub encode_gives : (desc : Desc) (frame : List ℕ) (position : PixelPosition) (value : ℕ → ℕ → ℕ → ℕ) (vs : ℕ → ℚ) → IsValid desc
    → desc.palette ≡ false
    → FitDepths desc position.width position.rows value
    → ((j : ℕ) → j < desc.count → floor (vs (channel_of desc j)) ≡ pos (value j position.x position.row))
    → position.x < position.width → position.row < position.rows
    → run_from frame position (Typed Rat) (encode desc) (Fractions (four vs))
    ≡ Numbers (elements_at desc (frame_of desc position.width position.rows value) position.width position.rows position.x position.row)
encode_gives desc frame position value vs valid plain fit codes column row =
    let gives : GivesValues desc position value vs = record {
      valid = valid;
      plain = plain;
      fit = fit;
      codes = codes;
      column = column;
      row = row;
    } in
    ⊎_elim
    (λ is. encode_elements desc position value vs gives is frame)
    (λ is. encode_word desc position value vs gives is frame)
    (has_layout desc valid)
