-- Decoding gives the codes of the channels of a palette's entries.
use Rattle.std.proofs.Common.{◌≡◌, ℕ, zero, suc, ◌+◌, ◌-◌, ◌*◌, ◌/◌, ◌%◌, ◌^◌, ◌<◌, ⊎_elim, pos, ◌+ℤ◌, Bool, true, false, not, ◌&&◌, ◌||◌}
use Rattle.std.proofs.Common.{if◌then◌else◌, nat_eq, nat_le, List, [], ◌∷◌, All, get_or, eqb-true, Some, None, sym, refl, ap, ◌∙◌, arith}
use Rattle.std.specs.Ordering.{int_eq}
use Rattle.std.proofs.lemmas.Bool.{and_parts, and_cases, and_left, or_parts, or_left, or_right, both_ways, not-true, not-false, cond-true}
use Rattle.std.proofs.lemmas.Bool.{cond-false}
use Rattle.std.proofs.lemmas.Bool.Decides.{Decides-int_eq}
use Rattle.frac_math.specs.Fraction.{nat}
use Rattle.pix_desc.specs.declared.desc.Comp.{Comp}
use Rattle.pix_desc.specs.declared.desc.Desc.{Desc}
use Rattle.pix_desc.specs.Component.{component_of, is_narrow, bytes_read, first_byte, count_of}
use Rattle.pix_desc.specs.Frame.{row_start, frame_component}
use Rattle.pix_desc.specs.Layouts.{IsValid, is_count, is_elements, is_word, is_index, some_component, some_pair, differ_in_step}
use Rattle.pix_desc.proofs.ComponentLists.{some_component-false}
use Rattle.pix_desc.proofs.BitPositions.{byte_below}
use Rattle.pix_desc.proofs.Valid.{has_no_fault, laid_out}
use Rattle.pix_meaning.specs.Pairs.{has_channel, component_at}
use Rattle.pix_meaning.specs.Values.{entry_component, source_component}
use Rattle.op_list.specs.declared.op.Op.TheVariants.{Read, Clear}
use Rattle.op_list.specs.declared.position.PixelPosition.{PixelPosition}
use Rattle.op_list.specs.declared.types.PixType.TheVariants.{U8}
use Rattle.op_list.specs.declared.types.Stage.TheVariants.{Start}
use Rattle.op_list.specs.declared.values.Values.TheVariants.{Numbers}
use Rattle.op_list.specs.Values.{four, no_values}
use Rattle.op_list.specs.Pixel.{number_at, palette_colours, pixel_count, pixel_number}
use Rattle.op_list.specs.Apply.{cleared_number}
use Rattle.op_list.specs.Run.{run_from}
use Rattle.pix_meaning.specs.Channels.{missing_code}
use Rattle.op_build.specs.Recipe.{decode, missing_codes, split, channel_slots}
use Rattle.pix_desc.specs.Shape.{element_counts}
use Rattle.op_build.specs.ElementType.{element_type, is_swapped}
use Rattle.op_build.proofs.shape.ByteNumbers.{in_order}
use Rattle.pix_meaning.proofs.ChannelCodes.{code_of-there}
use Rattle.pix_meaning.specs.Channels.{code_of}
use Rattle.op_build.proofs.decode.Runs.{decode_by, run_palette}
use Rattle.op_build.proofs.shape.ElementStarts.{word_begins}
use Rattle.op_build.proofs.shape.FieldValues.{element_field}
use Rattle.op_list.proofs.Four.{same_four}

-- The one component of a palette format is a byte a pixel.
pub record IsByte (desc : Desc) : Type 0 where
  pub order : desc.be ≡ false
  pub plane : (component_of desc 0).plane ≡ 0
  pub step : (component_of desc 0).step ≡ 1
  pub first : count_of (first_byte desc (component_of desc 0)) ≡ 0
  pub shift : (component_of desc 0).shift ≡ 0
  pub depth : (component_of desc 0).depth ≡ 8
  pub read : bytes_read (component_of desc 0) ≡ 1

abbrev is_byte : Comp → Bool
is_byte c = nat_eq c.plane 0 && nat_eq c.step 1 && int_eq c.offset (pos 0) && nat_eq c.shift 0 && nat_eq c.depth 8

read_of : (c : Comp) → c.shift ≡ 0 → c.depth ≡ 8 → bytes_read c ≡ 1
read_of c shift depth = ap (λ s. if nat_le (s + c.depth) 8 then 1 else 2) shift ∙ ap (λ d. if nat_le (0 + d) 8 then 1 else 2) depth

first_of : (desc : Desc) (c : Comp) → desc.be ≡ false → int_eq c.offset (pos 0) ≡ true → count_of (first_byte desc c) ≡ 0
first_of desc c order at =
    ap count_of (cond-false (desc.be && is_narrow c) (c.offset +ℤ pos 1) c.offset (and_left desc.be (is_narrow c) order))
    ∙ ap count_of ((Decides-int_eq c.offset (pos 0)).0 at)

pub is_byte_format : (desc : Desc) → IsValid desc → desc.palette ≡ true → IsByte desc
is_byte_format desc valid palette =
    let passed = has_no_fault desc valid in
    let mixed = (or_parts (some_pair desc differ_in_step || not (is_elements desc || is_word desc))
    (desc.palette && not (is_index desc)) passed.unmixed).1 in
    let index : is_index desc ≡ true =
    ⊎_elim (λ none. absurd (both_ways desc.palette none palette)) (λ has. not-false (is_index desc) has)
    (and_cases desc.palette (not (is_index desc)) mixed) in
    let c = component_of desc 0 in
    let parts = and_parts (not desc.be) (not (some_component desc (λ d. not (is_byte d)))) index in
    let order = not-true desc.be parts.0 in
    let byte = not-false (is_byte c)
    (some_component-false desc (λ d. not (is_byte d)) 0 (not-true (some_component desc (λ d. not (is_byte d))) parts.1)
    (laid_out desc valid).some) in
    let p4 = and_parts (nat_eq c.plane 0 && nat_eq c.step 1 && int_eq c.offset (pos 0) && nat_eq c.shift 0) (nat_eq c.depth 8) byte in
    let p3 = and_parts (nat_eq c.plane 0 && nat_eq c.step 1 && int_eq c.offset (pos 0)) (nat_eq c.shift 0) p4.0 in
    let p2 = and_parts (nat_eq c.plane 0 && nat_eq c.step 1) (int_eq c.offset (pos 0)) p3.0 in
    let p1 = and_parts (nat_eq c.plane 0) (nat_eq c.step 1) p2.0 in
    let shift = eqb-true c.shift 0 p3.1 in
    let depth = eqb-true c.depth 8 p4.1 in
    record {
      order = order;
      plane = eqb-true c.plane 0 p1.0;
      step = eqb-true c.step 1 p1.1;
      first = first_of desc c order p2.1;
      shift = shift;
      depth = depth;
      read = read_of c shift depth;
    }

byte_whole : (n : ℕ) → n < 256 → (n + 256 * 0) / 2 ^ 0 % 2 ^ 8 ≡ n
byte_whole n small = omega arith

module _ (desc : Desc) (frame : List ℕ) (position : PixelPosition) (valid : IsValid desc) (palette : desc.palette ≡ true)
    (all_bytes : All (λ byte. byte < 256) frame) where
  -- the index of a pixel
  index_is : frame_component desc position.width position.rows frame 0 position.x position.row ≡ get_or frame (pixel_number position) 0
  index_is =
      let laid = laid_out desc valid in
      let is = is_byte_format desc valid palette in
      let c = component_of desc 0 in
      let at = row_start desc position.width position.rows c.plane position.row + position.x * c.step + count_of (first_byte desc c) in
      let begins : at ≡ pixel_number position =
      omega (
        arith,
        word_begins desc position.width position.rows 0 position.x position.row laid laid.some is.plane,
        ap
            (λ s. (position.width * position.rows * 0 + pixel_number position * 1 + 0) * s) is.step,
        is.first,
      ) in
      let number = λ (s : ℕ). number_at s frame at in
      sym (element_field desc position.width position.rows frame 0 position.x position.row laid all_bytes laid.some)
      ∙ ap (λ s. in_order desc.be s (number s) / 2 ^ c.shift % 2 ^ c.depth) is.read
      ∙ ap (λ b. in_order b 1 (number 1) / 2 ^ c.shift % 2 ^ c.depth) is.order
      ∙ ap (λ s. number 1 / 2 ^ s % 2 ^ c.depth) is.shift
      ∙ ap (λ d. number 1 / 2 ^ 0 % 2 ^ d) is.depth
      ∙ ap (λ t. number_at 1 frame t / 2 ^ 0 % 2 ^ 8) begins
      ∙ byte_whole (get_or frame (pixel_number position) 0) (byte_below frame (pixel_number position) all_bytes)

  has_alpha : (rgb alpha : Bool) (n : ℕ) → is_count true rgb alpha n ≡ true → alpha ≡ true
  has_alpha true true n counted = refl
  has_alpha true false n counted = absurd cc
  has_alpha false true n counted = refl
  has_alpha false false n counted = absurd cc

  has_all_channels : (c : ℕ) → c < 4 → has_channel desc c ≡ true
  has_all_channels zero below = refl
  has_all_channels (suc zero) below = or_left (desc.rgb || desc.palette) (nat_le 3 desc.count) (or_right desc.rgb desc.palette palette)
  has_all_channels (suc (suc zero)) below =
      or_left (desc.rgb || desc.palette) (nat_le 3 desc.count) (or_right desc.rgb desc.palette palette)
  has_all_channels (suc (suc (suc zero))) below =
      has_alpha desc.rgb desc.alpha desc.count
      (ap (λ p. is_count p desc.rgb desc.alpha desc.count) (sym palette) ∙ (has_no_fault desc valid).counted)
  has_all_channels (suc (suc (suc (suc c)))) below = absurd (omega arith)

  component_is : (c : ℕ) → c < 4 → component_at desc c ≡ c
  component_is zero below = refl
  component_is (suc zero) below = refl
  component_is (suc (suc zero)) below = refl
  component_is (suc (suc (suc zero))) below = ap (λ (p : Bool). (if p then 4 else desc.count) - 1) palette
  component_is (suc (suc (suc (suc c)))) below = absurd (omega arith)

  colour_is : (c : ℕ) → c < 4
      → get_or (palette_colours frame position) c 0
      ≡ entry_component position.width position.rows frame (get_or frame (pixel_number position) 0) c
  unfolding palette_colours
  colour_is zero below = refl
  colour_is (suc zero) below = refl
  colour_is (suc (suc zero)) below =
      let at = pixel_count position + 4 * get_or frame (pixel_number position) 0 in
      let same : at ≡ at + 0 = omega arith in ap (λ t. get_or frame t 0) same
  colour_is (suc (suc (suc zero))) below = refl
  colour_is (suc (suc (suc (suc c)))) below = absurd (omega arith)

  entry_is : (c : ℕ) → c < 4
      → get_or (palette_colours frame position) c 0
      ≡ source_component desc position.width position.rows frame (component_at desc c) position.x position.row
  unfolding source_component
  entry_is c below =
      let index = frame_component desc position.width position.rows frame 0 position.x position.row in
      colour_is c below
      ∙ ap (λ i. entry_component position.width position.rows frame i c) (sym index_is)
      ∙ ap (entry_component position.width position.rows frame index) (sym (component_is c below))
      ∙ sym (cond-true desc.palette (entry_component position.width position.rows frame index (component_at desc c))
      (frame_component desc position.width position.rows frame (component_at desc c) position.x position.row) palette)

pub decode_is : (desc : Desc) → desc.palette ≡ true → decode desc ≡ Read U8 (1 ∷ 0 ∷ 0 ∷ 0 ∷ []) true ∷ Clear (missing_codes desc) ∷ []
unfolding decode
decode_is desc palette =
    cond-true desc.palette (Read U8 (1 ∷ 0 ∷ 0 ∷ 0 ∷ []) true ∷ Clear (missing_codes desc) ∷ [])
    (decode_by (element_type desc) (element_counts desc) (is_swapped desc) (split desc) (channel_slots desc) (missing_codes desc)) palette

pub decode_palette : (desc : Desc) (frame : List ℕ) (position : PixelPosition) → IsValid desc → desc.palette ≡ true
    → All (λ byte. byte < 256) frame
    → run_from frame position Start (decode desc) no_values
    ≡ Numbers (four (code_of desc position.width position.rows frame position.x position.row))
decode_palette desc frame position valid palette all_bytes =
    let colours = palette_colours frame position in
    ap (λ ops. run_from frame position Start ops no_values) (decode_is desc palette)
    ∙ run_palette frame position (missing_codes desc)
    ∙ ap Numbers (same_four
    (λ c. cleared_number (if has_channel desc c then None else Some (nat (missing_code desc c))) (get_or colours c 0))
    (code_of desc position.width position.rows frame position.x position.row)
    (λ c below.
    let there = has_all_channels desc frame position valid palette all_bytes c below in
    ap (λ b. cleared_number (if b then None else Some (nat (missing_code desc c))) (get_or colours c 0)) there
    ∙ entry_is desc frame position valid palette all_bytes c below
    ∙ sym (code_of-there desc position.width position.rows frame position.x position.row c there)))
