-- The numbers of a pixel's elements, in the format's byte order: what their bits are, and that each slot holds its component's value or 0.
use Rattle.std.proofs.Common.{◌≡◌, ℕ, ◌+◌, ◌*◌, ◌/◌, ◌%◌, ◌^◌, ◌<◌, ◌≤◌, ⊎_elim, Bool, true, false, List, All, take, length, get_or}
use Rattle.std.proofs.Common.{Option, Some, None, pow_mono, pow_pos, mod-lt, sym, refl, ap, ◌∙◌, arith}
use Rattle.std.specs.Prelude.{sum}
use Rattle.std.specs.Int.{bit_at}
use Rattle.std.proofs.lemmas.Bool.{cases_Bool}
use Rattle.std.proofs.lemmas.Nat.{div-mul-add, mod-mul-add, mul-add-lt, pow-add}
use Rattle.std.proofs.lemmas.Nat.Bits.{same_from_bits_below, bit_at-zero}
use Rattle.pix_desc.specs.declared.desc.Desc.{Desc}
use Rattle.pix_desc.specs.Component.{component_of, bit_of}
use Rattle.pix_desc.specs.Frame.{plane_step, row_start, frame_component, reads_pixel_bit, FitDepths, IsFrameOf}
use Rattle.pix_desc.specs.Layouts.{IsValid}
use Rattle.pix_desc.specs.Shape.{element_counts, slots, position_of}
use Rattle.pix_desc.proofs.Bits.{bit_at_field, bit_at_shifted, bit_at_shifted_cases}
use Rattle.pix_desc.proofs.BitPositions.{byte_below, same_position}
use Rattle.pix_desc.proofs.ElementCounts.{count_at, length-counts}
use Rattle.pix_desc.proofs.FrameReads.{IsReadBy, read_by, frame_bit_by}
use Rattle.pix_desc.proofs.PixelSlots.{has_slots}
use Rattle.pix_desc.proofs.Valid.{laid_out}
use Rattle.pix_desc.proofs.WordBits.{bit_in_order}
use Rattle.op_list.specs.declared.position.PixelPosition.{PixelPosition}
use Rattle.op_list.specs.Pixel.{number_at, element_in, pixel_count, pixel_number}
use Rattle.op_build.proofs.shape.ByteNumbers.{in_order, bit_at_in_order}
use Rattle.op_build.proofs.shape.ElementStarts.{IsInPlane, find_in_plane, whole_steps, element_starts}
use Rattle.op_build.proofs.shape.FieldValues.{same_field}
use Rattle.op_build.proofs.shape.SlotBits.{SlotBits, AreSlotBits, lowest_bit}

-- quotient and rest are determined
same_parts : (q r a b w : ℕ) → a < w → b < w → q * w + a ≡ r * w + b → (q ≡ r) × (a ≡ b)
same_parts q r a b w p s e = (
  sym (div-mul-add q w a p) ∙ ap (λ n. n / w) e ∙ div-mul-add r w b s,
  sym (mod-mul-add q w a p) ∙ ap (λ n. n % w) e
      ∙ mod-mul-add r w b s,
)

bit_in_order-below : (be : Bool) (size m : ℕ) → m < 8 * size → bit_in_order be size m < 8 * size
bit_in_order-below true size m inside = omega arith
bit_in_order-below false size m inside = inside

bit_in_order-apart : (be : Bool) (size a b : ℕ) → a < 8 * size → b < 8 * size → bit_in_order be size a ≡ bit_in_order be size b → a ≡ b
bit_in_order-apart true size a b p q same = omega arith
bit_in_order-apart false size a b p q same = same

-- what a slot holds: its component's value, and 0 where it is spare
abbrev pub content : (ℕ → ℕ) → Option ℕ → ℕ
content values None = 0
content values (Some j) = values j

-- a value that is shifted up within so many bits
shifted_below : (v up depth width : ℕ) → v < 2 ^ depth → up + depth ≤ width → v * 2 ^ up < 2 ^ width
shifted_below v up depth width small room =
    omega (arith, mul-add-lt v (2 ^ up) 0 (2 ^ depth) small (pow_pos up), pow-add 2 up depth, pow_mono room)

module _ (desc : Desc) (valid : IsValid desc) (s : SlotBits) (is : AreSlotBits desc s) (frame : List ℕ) (position : PixelPosition)
    (bytes : All (λ byte. byte < 256) frame) where
  -- the number of element e of the pixel
  abbrev pub number_of : ℕ → ℕ
  number_of e =
      in_order desc.be s.size
      (number_at s.size frame (element_in (pixel_count position) (pixel_number position) 0 (element_counts desc) e * s.size))

  abbrev pixel_start : ℕ → ℕ
  pixel_start p = row_start desc position.width position.rows p position.row + position.x * plane_step desc p

  number_is : (e p r : ℕ) → IsInPlane (element_counts desc) e p r
      → number_of e ≡ in_order desc.be s.size (number_at s.size frame (pixel_start p + r * s.size))
  number_is e p r there =
      ap (λ at. in_order desc.be s.size (number_at s.size frame at))
      (element_starts desc s.size (laid_out desc valid) is.bytes is.step position e p r there)

  -- a component is a field of its number
  pub component_number : (j : ℕ) → j < desc.count
      → number_of (s.element (position_of desc j)) / 2 ^ lowest_bit desc s j % 2 ^ (component_of desc j).depth
      ≡ frame_component desc position.width position.rows frame j position.x position.row
  component_number j listed =
      let laid = laid_out desc valid in
      let c = component_of desc j in
      let at = pixel_start c.plane + s.rest j * s.size in
      let slot = (has_slots desc valid).within j listed in
      ap (λ n. n / 2 ^ lowest_bit desc s j % 2 ^ c.depth)
      (number_is (s.element (position_of desc j)) c.plane (s.rest j) (is.there j listed))
      ∙ same_field desc position.width position.rows frame j position.x position.row laid bytes listed s.size at (lowest_bit desc s j)
      (omega (arith, is.room (position_of desc j) slot, is.inside j listed))
      (λ b inside. omega (arith, is.bits j b listed inside, ap (λ t. position.x * t) (laid.step j listed)))

  -- bit m of a number of a plane is this bit of the pixel there
  abbrev bit_there : ℕ → ℕ → ℕ
  bit_there r m = 8 * (r * s.size) + bit_in_order desc.be s.size m

  bit_placed : (e p r m : ℕ) → IsInPlane (element_counts desc) e p r → m < 8 * s.size
      → bit_at (number_of e) m ≡ bit_of frame (8 * pixel_start p + bit_there r m)
  bit_placed e p r m there inside =
      ap (λ n. bit_at n m) (number_is e p r there)
      ∙ bit_at_in_order frame desc.be s.size (pixel_start p + r * s.size) m (λ k. byte_below frame k bytes) inside
      ∙ ap (bit_of frame) (let e : 8 * (pixel_start p + r * s.size) + bit_in_order desc.be s.size m
      ≡ 8 * pixel_start p + bit_there r m = omega arith in e)

  bit_inside : (e p r m : ℕ) → IsInPlane (element_counts desc) e p r → m < 8 * s.size → bit_there r m < 8 * plane_step desc p
  bit_inside e p r m there inside =
      let low = bit_in_order-below desc.be s.size m inside in
      let below : p < 4 = omega (arith, there.plane, length-counts desc) in
      let count : r < plane_step desc p / s.size = omega (arith, there.inside, count_at desc s.size p is.bytes below) in
      let byte : bit_in_order desc.be s.size m / 8 < s.size = omega arith in
      omega (
        arith,
        mul-add-lt r s.size (bit_in_order desc.be s.size m / 8)
            (plane_step desc p / s.size) count byte,
        whole_steps desc s.size (laid_out desc valid) is.bytes is.step p,
      )

  -- it is the component of a slot that reads a bit of the slot
  own_slot : (p q r i j b : ℕ) → p < length (slots desc) → IsInPlane (element_counts desc) (s.element p) q r → i < s.width p
      → IsReadBy desc q (bit_there r (s.low p + i)) j b → (get_or (slots desc) p None ≡ Some j) × (s.up + b ≡ i)
  own_slot p q r i j b within there inside by =
      let laid = laid_out desc valid in
      let positions = has_slots desc valid in
      let c = component_of desc j in
      let at = position_of desc j in
      let m = s.low p + i in
      let t = lowest_bit desc s j + b in
      let here = is.there j by.listed in
      let m_small : m < 8 * s.size = omega (arith, is.room p within) in
      let t_small : t < 8 * s.size =
      omega (arith, is.room at (positions.within j by.listed), is.inside j by.listed, by.inside) in
      let bit : bit_there (s.rest j) t ≡ bit_there r m =
      sym (is.bits j b by.listed by.inside) ∙ same_position desc c b (bit_there r m) (laid.first j by.listed) by.at in
      let both : s.rest j * (8 * s.size) + bit_in_order desc.be s.size t ≡ r * (8 * s.size) + bit_in_order desc.be s.size m = omega
      (arith, bit) in
      let parts = same_parts (s.rest j) r (bit_in_order desc.be s.size t) (bit_in_order desc.be s.size m) (8 * s.size)
      (bit_in_order-below desc.be s.size t t_small) (bit_in_order-below desc.be s.size m m_small) both in
      let element : s.element at ≡ s.element p =
      here.index ∙ ap (λ k. sum (take c.plane (element_counts desc)) + k) parts.0
      ∙ ap (λ k. sum (take k (element_counts desc)) + r) by.there ∙ sym there.index in
      let place : t ≡ m = bit_in_order-apart desc.be s.size t m t_small m_small parts.1 in
      let same : at ≡ p =
      is.apart at p m (positions.within j by.listed) within element (omega (arith, place))
      (omega (arith, place, is.inside j by.listed, by.inside)) (omega arith) (omega arith) in
      (ap (λ k. get_or (slots desc) k None) (sym same) ∙ positions.holds j by.listed, omega (arith, place, ap s.low same))

  -- ---- of the frame that is made of values

  module _ (value : ℕ → ℕ → ℕ → ℕ) (says : IsFrameOf desc position.width position.rows value frame)
      (fit : FitDepths desc position.width position.rows value) (column : position.x < position.width) (line : position.row < position.rows)
    where
      abbrev here : ℕ → ℕ
      here j = value j position.x position.row

      -- a bit of a component is that of its value
      component_bit : (j b : ℕ) → j < desc.count → b < (component_of desc j).depth
          → bit_at (number_of (s.element (position_of desc j))) (lowest_bit desc s j + b) ≡ bit_at (here j) b
      component_bit j b listed inside =
          let n = number_of (s.element (position_of desc j)) in
          sym (bit_at_field n (lowest_bit desc s j) (component_of desc j).depth b inside)
          ∙ ap (λ v. bit_at v b) (component_number j listed ∙ says.reads j position.x position.row listed column line)

      -- where a bit of a slot is 0, so is that of what it holds
      empty_bit : (p i : ℕ) (slot : Option ℕ) → p < length (slots desc) → get_or (slots desc) p None ≡ slot
          → bit_at (number_of (s.element p)) (s.low p + i) ≡ 0 → bit_at (content here slot * 2 ^ s.up) i ≡ 0
      empty_bit p i None within holds empty = let none : 0 * 2 ^ s.up ≡ 0 = omega arith in ap (λ n. bit_at n i) none ∙ bit_at-zero i
      empty_bit p i (Some j) within holds empty =
          let at = (has_slots desc valid).only p j within holds in
          let v = here j in
          ⊎_elim
          (λ zero. zero)
          (λ one.
          let same : s.low p + s.up + one.0 ≡ s.low p + i = omega (arith, one.2) in
          ap (bit_at (v * 2 ^ s.up)) (sym one.2)
          ∙ bit_at_shifted v s.up one.0
          ∙ sym (component_bit j one.0 at.0 one.1)
          ∙ ap (λ k. bit_at (number_of (s.element k)) (s.low k + s.up + one.0)) at.1
          ∙ ap (bit_at (number_of (s.element p))) same
          ∙ empty)
          (bit_at_shifted_cases v s.up (component_of desc j).depth i (fit j position.x position.row at.0 column line))

      -- a bit of a slot is that of what it holds: it is read by the slot's component, or 0
      slot_bit : (p i : ℕ) → p < length (slots desc) → i < s.width p
          → bit_at (number_of (s.element p)) (s.low p + i) ≡ bit_at (content here (get_or (slots desc) p None) * 2 ^ s.up) i
      slot_bit p i within inside =
          let found = find_in_plane (element_counts desc) (s.element p) (is.within p within) in
          let q = found.0 in
          let m = s.low p + i in
          let k = bit_there found.1 m in
          let bound : m < 8 * s.size = omega (arith, is.room p within) in
          let placed = bit_placed (s.element p) q found.1 m found.2 bound in
          ⊎_elim
          (λ read.
          let by = read_by desc q k read in
          let mine = own_slot p q found.1 i by.0 by.1 within found.2 inside by.2 in
          placed
          ∙ sym (frame_bit_by desc position.width position.rows frame q position.x position.row k by.0 by.1 (laid_out desc valid)
          bytes by.2)
          ∙ ap (λ v. bit_at v by.1) (says.reads by.0 position.x position.row by.2.listed column line)
          ∙ sym (bit_at_shifted (here by.0) s.up by.1)
          ∙ ap (bit_at (here by.0 * 2 ^ s.up)) mine.1
          ∙ ap (λ slot. bit_at (content here slot * 2 ^ s.up) i) (sym mine.0))
          (λ unread.
          let inside_pixel = bit_inside (s.element p) q found.1 m found.2 bound in
          let empty = placed ∙ says.spare q position.x position.row k column line inside_pixel unread in
          empty ∙ sym (empty_bit p i (get_or (slots desc) p None) within refl empty))
          (cases_Bool (reads_pixel_bit desc q k))

      pub content_below : (p : ℕ) (slot : Option ℕ) → p < length (slots desc) → get_or (slots desc) p None ≡ slot
          → content here slot * 2 ^ s.up < 2 ^ s.width p
      content_below p None within holds = omega (arith, pow_pos (s.width p))
      content_below p (Some j) within holds =
          let at = (has_slots desc valid).only p j within holds in
          let small = fit j position.x position.row at.0 column line in
          omega (
            arith,
            shifted_below (here j) s.up (component_of desc j).depth (s.width (position_of desc j)) small (is.inside j at.0),
            ap (λ k. 2 ^ s.width k) at.1,
          )

      -- a slot holds its content, in either layout
      pub slot_number : (p : ℕ) → p < length (slots desc)
          → number_of (s.element p) / 2 ^ s.low p % 2 ^ s.width p ≡ content here (get_or (slots desc) p None) * 2 ^ s.up
      slot_number p within =
          let slot = get_or (slots desc) p None in
          let n = number_of (s.element p) in
          same_from_bits_below (s.width p) (n / 2 ^ s.low p % 2 ^ s.width p) (content here slot * 2 ^ s.up)
          (mod-lt (n / 2 ^ s.low p) (pow_pos (s.width p))) (content_below p slot within refl)
          (λ i inside. bit_at_field n (s.low p) (s.width p) i inside ∙ slot_bit p i within inside)
