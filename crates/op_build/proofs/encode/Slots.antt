-- What encoding places in the slots of a pixel is what the numbers of its elements hold there, in the frame that is made of the values.
use Rattle.std.proofs.Common.{◌≡◌, ℕ, ◌+◌, ◌*◌, ◌/◌, ◌%◌, ◌^◌, ◌<◌, ◌≤◌, Bool, false, not, ◌&&◌, if◌then◌else◌, nat_eq, pos, List, length}
use Rattle.std.proofs.Common.{get_or, Option, Some, None, pow_mono, mod-eq_of_lt, sym, refl, ap, ◌∙◌, arith}
use Rattle.std.specs.Prelude.{sum}
use Rattle.std.proofs.lemmas.Bool.{cond_both, lt-ltb}
use Rattle.frac_math.specs.Fraction.{ℚ, nat, floor}
use Rattle.pix_desc.specs.declared.desc.Desc.{Desc}
use Rattle.pix_desc.specs.Component.{component_of}
use Rattle.pix_desc.specs.Frame.{frame_of, FitDepths, IsFrameOf}
use Rattle.pix_desc.specs.Layouts.{IsValid}
use Rattle.pix_desc.specs.Shape.{element_counts, slots, position_of}
use Rattle.pix_desc.proofs.BitPositions.{byte_below}
use Rattle.pix_desc.proofs.FrameExists.{frame_says}
use Rattle.pix_desc.proofs.PixelSlots.{has_slots}
use Rattle.pix_desc.proofs.Valid.{laid_out}
use Rattle.pix_meaning.specs.Pairs.{channel_of, component_count}
use Rattle.op_list.specs.declared.position.PixelPosition.{PixelPosition}
use Rattle.op_list.specs.Pixel.{number_at, element_in, element_of, pixel_count, pixel_number}
use Rattle.op_list.specs.Types.{bits, bytes}
use Rattle.op_list.specs.Values.{four}
use Rattle.op_list.specs.Whole.{modulo}
use Rattle.op_list.specs.Apply.{cleared_number}
use Rattle.op_list.proofs.Four.{get_or-four}
use Rattle.op_list.proofs.Stored.{element_of-is}
use Rattle.op_build.specs.ElementType.{element_type, is_swapped}
use Rattle.op_build.specs.Recipe.{source_of, slot_channels, spare_zero, spare_zeros}
use Rattle.op_build.proofs.shape.ByteNumbers.{in_order, number_at-below, in_order-below, in_order-twice, swap_needed}
use Rattle.op_build.proofs.shape.ElementTypes.{has_type}
use Rattle.op_build.proofs.encode.Runs.{whole_code, placed_code}
use Rattle.op_build.proofs.shape.NumberBits as Number
use Rattle.op_build.proofs.shape.NumberBits.{content, content_below, slot_number}
use Rattle.op_build.proofs.shape.SlotBits.{SlotBits, AreSlotBits}

-- where the last component is the alpha, it is channel 3
pub channel_below : (desc : Desc) (j : ℕ) → j < 4 → channel_of desc j < 4
channel_below desc j below =
    cond_both (desc.alpha && nat_eq (j + 1) (component_count desc)) 3 j (λ c. c < 4) (λ _. omega arith) (λ _. below)

-- the values of a pixel, as channels and as components
pub record GivesValues (desc : Desc) (position : PixelPosition) (value : ℕ → ℕ → ℕ → ℕ) (vs : ℕ → ℚ) : Type 0 where
  pub valid : IsValid desc
  pub plain : desc.palette ≡ false
  pub fit : FitDepths desc position.width position.rows value
  pub codes : (j : ℕ) → j < desc.count → floor (vs (channel_of desc j)) ≡ pos (value j position.x position.row)
  pub column : position.x < position.width
  pub row : position.row < position.rows

module _ (desc : Desc) (position : PixelPosition) (value : ℕ → ℕ → ℕ → ℕ) (vs : ℕ → ℚ) (gives : GivesValues desc position value vs) where
  abbrev pub made : List ℕ
  made = frame_of desc position.width position.rows value

  abbrev pub position_again : PixelPosition
  position_again = record { width = position.width; rows = position.rows; x = position.x; row = position.row; y = position.row }

  pub made_says : IsFrameOf desc position.width position.rows value made
  made_says = frame_says desc position.width position.rows value (laid_out desc gives.valid) gives.fit gives.plain

  small : (k : ℕ) → get_or made k 0 < 256
  small k = byte_below made k made_says.bytes

  -- what is placed in a slot
  abbrev pub placed : ℕ → ℕ
  placed p = placed_code (element_type desc) (slot_channels desc) (spare_zeros desc) vs p

  module _ (s : SlotBits) (is : AreSlotBits desc s) where
    -- the number of an element of the frame that is made
    abbrev pub number_of : ℕ → ℕ
    number_of e = Number.number_of desc gives.valid s is made position_again made_says.bytes e

    pub number_below : (e : ℕ) → number_of e < 2 ^ (8 * s.size)
    number_below e =
        let at = element_in (pixel_count position) (pixel_number position) 0 (element_counts desc) e * s.size in
        in_order-below desc.be s.size (number_at s.size made at) (number_at-below made s.size at small)

    pub type_bits : bits (element_type desc) ≡ 8 * s.size
    type_bits = (has_type desc gives.valid).bits ∙ ap (λ t. 8 * t) is.bytes

    -- the number at the position of a slot
    given : ℕ → Option ℕ → ℕ
    given p slot = cleared_number (spare_zero desc p slot) (get_or (four (whole_code (element_type desc) vs)) (source_of desc p slot) 0)

    given_is : (p : ℕ) (slot : Option ℕ) → p < 4 → p < length (slots desc) → get_or (slots desc) p None ≡ slot
        → given p slot ≡ content (λ j. value j position.x position.row) slot
    unfolding given
    given_is p None below within spare =
        ap (λ (b : Bool). cleared_number (if b then Some (nat 0) else None) (get_or (four (whole_code (element_type desc) vs)) p 0))
        (lt-ltb p (length (slots desc)) within)
    given_is p (Some j) below within holds =
        let positions = has_slots desc gives.valid in
        let v = value j position.x position.row in
        let at = positions.only p j within holds in
        let deep : (component_of desc j).depth ≤ bits (element_type desc) = omega
        (arith, type_bits, is.inside j at.0, is.room (position_of desc j) (positions.within j at.0)) in
        let small : v < 2 ^ bits (element_type desc) = omega
        (arith, gives.fit j position.x position.row at.0 gives.column gives.row, pow_mono deep) in
        get_or-four (whole_code (element_type desc) vs) (channel_of desc j) 0
        (channel_below desc j (omega (arith, at.0, (laid_out desc gives.valid).most)))
        ∙ ap (λ z. modulo z (2 ^ bits (element_type desc))) (gives.codes j at.0)
        ∙ mod-eq_of_lt small

    placed_is : (p : ℕ) → p < 4 → p < length (slots desc)
        → placed p ≡ content (λ j. value j position.x position.row) (get_or (slots desc) p None)
    unfolding given
    placed_is p below within =
        let slot = λ (q : ℕ). get_or (slots desc) q None in
        ap (λ e. cleared_number e (get_or (four (whole_code (element_type desc) vs)) (get_or (slot_channels desc) p 0) 0))
        (get_or-four (λ q. spare_zero desc q (slot q)) p None below)
        ∙ ap (λ c. cleared_number (spare_zero desc p (slot p)) (get_or (four (whole_code (element_type desc) vs)) c 0))
        (get_or-four (λ q. source_of desc q (slot q)) p 0 below)
        ∙ given_is p (slot p) below within refl

    pub slot_written : (p : ℕ) → p < 4 → p < length (slots desc)
        → number_of (s.element p) / 2 ^ s.low p % 2 ^ s.width p ≡ placed p * 2 ^ s.up % 2 ^ s.width p
    slot_written p below within =
        let slot = get_or (slots desc) p None in
        let here = placed_is p below within in
        let small_here = content_below desc gives.valid s is made position_again made_says.bytes value made_says gives.fit gives.column
        gives.row p slot within refl in
        slot_number desc gives.valid s is made position_again made_says.bytes value made_says gives.fit gives.column gives.row p within
        ∙ sym (mod-eq_of_lt small_here)
        ∙ ap (λ v. v * 2 ^ s.up % 2 ^ s.width p) (sym here)

    -- an element whose number in the format's byte order is known
    pub element_written : (e number : ℕ) → e < sum (element_counts desc) → number_of e ≡ number
        → in_order (is_swapped desc) (bytes (element_type desc)) number
        ≡ element_of (element_type desc) (element_counts desc) made position_again e
    element_written e number within is_number =
        let elem = element_type desc in
        let typed = has_type desc gives.valid in
        let size = s.size in
        let at = element_in (pixel_count position) (pixel_number position) 0 (element_counts desc) e in
        let bytes_are : bytes elem ≡ size = typed.bytes ∙ is.bytes in
        ap (in_order (is_swapped desc) (bytes elem)) (sym is_number)
        ∙ ap (λ b. in_order b (bytes elem) (number_of e)) (typed.swapped ∙ ap (λ t. desc.be && not (nat_eq t 1)) is.bytes)
        ∙ ap (λ t. in_order (desc.be && not (nat_eq size 1)) t (number_of e)) bytes_are
        ∙ swap_needed desc.be size (number_of e) (number_below e)
        ∙ in_order-twice desc.be size (number_at size made (at * size)) (number_at-below made size (at * size) small)
        ∙ ap (λ t. number_at t made (at * t)) (sym bytes_are)
        ∙ sym (element_of-is elem (element_counts desc) made position_again e within)
