-- The frames of a format as a list reads and writes them: whole ones, of elements.
use Rattle.std.proofs.Common.{◌≡◌, ℕ, ◌+◌, ◌*◌, ◌<◌, ◌≤◌, ⊎_elim, Bool, true, false, ◌&&◌, List, [], ◌∷◌, ◌++◌, take, if◌then◌else◌, nat_le}
use Rattle.std.proofs.Common.{eq-zero-or-pos, eqb-true, sym, refl, ap, ◌∙◌, arith}
use Rattle.std.specs.Prelude.{sum}
use Rattle.std.proofs.lemmas.Bool.{and_parts, leb-true, cond-true, cases_Bool}
use Rattle.std.proofs.lemmas.List.{append_assoc}
use Rattle.pix_desc.specs.declared.desc.Desc.{Desc}
use Rattle.pix_desc.specs.Component.{component_of}
use Rattle.pix_desc.specs.Frame.{plane_step, plane_start, frame_length}
use Rattle.pix_desc.specs.Layouts.{IsValid, is_count, is_elements}
use Rattle.pix_desc.proofs.FrameExists.{frame_length_is}
use Rattle.pix_desc.proofs.Valid.{has_no_fault, laid_out}
use Rattle.pix_meaning.specs.declared.pair.Pair.{Pair}
use Rattle.op_list.specs.declared.op.Op.{Op}
use Rattle.op_list.specs.declared.types.PixType.{PixType}
use Rattle.op_list.specs.declared.types.PixType.TheVariants.{U8}
use Rattle.op_list.specs.Pixel as Pixel
use Rattle.op_list.specs.Types.{bytes}
use Rattle.op_list.specs.declared.op.Op.TheVariants.{Read, Write, SwapBytes, Pack, Clear, LeftShift, Swizzle, Convert}
use Rattle.op_list.specs.Run.{read_length}
use Rattle.op_list.specs.Typing.{are_counts, are_in_front, ends_with_write}
use Rattle.op_build.specs.Frames.{ReadsFrames, WritesFrames, FillsFrames}
use Rattle.op_build.specs.Recipe.{decode, convert, encode, recipe, only_if, split, slot_channels, spare_zeros}
use Rattle.pix_desc.specs.Shape.{element_bytes, element_counts, field_widths}
use Rattle.op_build.specs.ElementType.{element_type, is_swapped}
use Rattle.op_build.proofs.decode.Palette as palette
use Rattle.op_build.proofs.decode.Palette.{is_byte_format}
use Rattle.op_build.proofs.decode.Plain as plain
use Rattle.op_build.proofs.shape.ElementStarts.{plane_start_is}
use Rattle.pix_desc.proofs.PlaneSteps.{component_in}
use Rattle.op_list.specs.Run.{write_length}
use Rattle.op_list.proofs.Wholes.{ends_with_write-append, write_length-append}
use Rattle.op_build.proofs.shape.ElementTypes.{has_type, element_counts_are_good}
use Rattle.op_build.proofs.shape.SlotBits.{has_slot_bits}

-- ---- the bytes of the planes

-- where all components lie in the first plane, no other has bytes
first_alone : (desc : Desc) (plane : ℕ) → ((j : ℕ) → j < desc.count → (component_of desc j).plane ≡ 0) → 0 < plane
    → plane_step desc plane ≡ 0
first_alone desc plane first other =
    ⊎_elim
    (λ none. none)
    (λ (some : 0 < plane_step desc plane). let at = component_in desc plane some in absurd (omega (arith, at.2, first at.0 at.1)))
    (eq-zero-or-pos (plane_step desc plane))

one_plane : (desc : Desc) (width rows step : ℕ) → ((j : ℕ) → j < desc.count → (component_of desc j).plane ≡ 0) → plane_step desc 0 ≡ step
    → plane_start desc width rows 4 ≡ width * rows * (1 * step)
one_plane desc width rows step first is =
    omega (
      arith,
      ap (λ t. rows * (width * t)) is,
      ap (λ t. rows * (width * t)) (first_alone desc 1 first (omega arith)),
      ap (λ t. rows * (width * t)) (first_alone desc 2 first (omega arith)),
      ap (λ t. rows * (width * t)) (first_alone desc 3 first (omega arith)),
    )

four_taken : (desc : Desc) → sum (take 4 (element_counts desc)) ≡ sum (element_counts desc)
unfolding element_counts
four_taken desc = refl

planes_are : (desc : Desc) (width rows : ℕ) → IsValid desc
    → plane_start desc width rows 4 ≡ width * rows * (sum (element_counts desc) * element_bytes desc)
planes_are desc width rows valid =
    let slots = has_slot_bits desc valid in
    let size = slots.0.size in
    plane_start_is desc size (laid_out desc valid) slots.1.bytes slots.1.step width rows 4 (omega arith)
    ∙ ap (λ n. width * rows * (n * size)) (four_taken desc)
    ∙ ap (λ t. width * rows * (sum (element_counts desc) * t)) (sym slots.1.bytes)

counts_few : (ns : List ℕ) → are_counts 4 ns ≡ true → sum ns ≤ 4
counts_few ns good = leb-true (sum ns) 4 (and_parts (are_in_front ns && nat_le 1 (sum ns)) (nat_le (sum ns) 4) good).1

pub fills_frames : (desc : Desc) → IsValid desc → desc.palette ≡ false → FillsFrames desc
fills_frames desc valid none = record {
  whole = (has_type desc valid).whole;
  few = counts_few (element_counts desc) (element_counts_are_good desc valid);
  size = λ width rows.
      frame_length_is desc width rows none ∙ planes_are desc width rows valid
      ∙ ap (λ s. width * rows * (sum (element_counts desc) * s)) (sym (has_type desc valid).bytes) ∙ omega arith;
}

-- ---- the frames that a list reads

-- a list of three parts, of which the first begins with a Read of elements
elements_length : {rest : List Op} (elem : PixType) (counts : List ℕ) (first second third : List Op) (width rows : ℕ)
    → first ≡ Read elem counts false ∷ rest
    → read_length (first ++ second ++ third) width rows ≡ width * rows * sum counts * bytes elem
unfolding Pixel.frame_length
elements_length elem counts first second third width rows is = ap (λ ops. read_length (ops ++ second ++ third) width rows) is ∙ omega arith

-- and with that of a palette format
palette_length : {rest : List Op} (first second third : List Op) (width rows : ℕ) → first ≡ Read U8 (1 ∷ 0 ∷ 0 ∷ 0 ∷ []) true ∷ rest
    → read_length (first ++ second ++ third) width rows ≡ width * rows + 1024
unfolding Pixel.frame_length
palette_length first second third width rows is = ap (λ ops. read_length (ops ++ second ++ third) width rows) is ∙ omega arith

-- the bytes of the frame that a Write states
written_length : (elem : PixType) (counts : List ℕ) (width rows : ℕ)
    → write_length (Write elem counts ∷ []) width rows ≡ width * rows * sum counts * bytes elem
unfolding Pixel.frame_length
written_length elem counts width rows = refl

reads_elements : (pair : Pair) (width rows : ℕ) → IsValid pair.from.desc → pair.from.desc.palette ≡ false
    → read_length (recipe pair) width rows ≡ frame_length pair.from.desc width rows
unfolding recipe
reads_elements pair width rows valid none =
    let desc = pair.from.desc in
    elements_length (element_type desc) (element_counts desc) (decode desc) (convert pair) (encode pair.to.desc) width rows
    (plain.decode_is desc (split desc) none refl)
    ∙ sym ((fills_frames desc valid none).size width rows)

index_count : (rgb alpha : Bool) (n : ℕ) → is_count true rgb alpha n ≡ true → n ≡ 1
index_count false true n counted = eqb-true n 1 counted
index_count false false n counted = absurd cc
index_count true alpha n counted = absurd cc

pub palette_frame : (desc : Desc) (width rows : ℕ) → IsValid desc → desc.palette ≡ true → frame_length desc width rows ≡ width * rows + 1024
unfolding frame_length
palette_frame desc width rows valid palette =
    let laid = laid_out desc valid in
    let is = is_byte_format desc valid palette in
    let count : desc.count ≡ 1 = index_count desc.rgb desc.alpha desc.count
    (ap (λ p. is_count p desc.rgb desc.alpha desc.count) (sym palette) ∙ (has_no_fault desc valid).counted) in
    let first = λ (j : ℕ) (listed : j < desc.count). let zero : j ≡ 0 = omega arith in ap (λ i. (component_of desc i).plane) zero
    ∙ is.plane in
    let step : plane_step desc 0 ≡ 1 = ap (plane_step desc) (sym is.plane) ∙ laid.step 0 laid.some ∙ is.step in
    omega (arith, one_plane desc width rows 1 first step, cond-true {A = ℕ} desc.palette 1024 0 palette)

reads_palette : (pair : Pair) (width rows : ℕ) → IsValid pair.from.desc → pair.from.desc.palette ≡ true
    → read_length (recipe pair) width rows ≡ frame_length pair.from.desc width rows
unfolding recipe
reads_palette pair width rows valid has =
    palette_length (decode pair.from.desc) (convert pair) (encode pair.to.desc) width rows (palette.decode_is pair.from.desc has)
    ∙ sym (palette_frame pair.from.desc width rows valid has)

pub reads_frames : (pair : Pair) → ReadsFrames pair
reads_frames pair = λ valid width rows.
    ⊎_elim (reads_palette pair width rows valid.from) (reads_elements pair width rows valid.from) (cases_Bool pair.from.desc.palette)

-- ---- the last operation

-- all operations of the recipe but the last
abbrev pub before_write : Pair → List Op
before_write pair =
    let desc = pair.to.desc in
    decode pair.from.desc ++ convert pair ++ (Convert (element_type desc) false ∷ Swizzle (slot_channels desc) ∷ Clear (spare_zeros desc)
    ∷ (if is_elements desc then LeftShift (component_of desc 0).shift else Pack (field_widths desc)) ∷ only_if (is_swapped desc) SwapBytes)

abbrev pub last_write : Pair → Op
last_write pair = Write (element_type pair.to.desc) (element_counts pair.to.desc)

pub recipe_ends : (pair : Pair) → before_write pair ++ last_write pair ∷ [] ≡ recipe pair
unfolding recipe encode
recipe_ends pair =
    let desc = pair.to.desc in
    let front = Convert (element_type desc) false ∷ Swizzle (slot_channels desc) ∷ Clear (spare_zeros desc)
    ∷ (if is_elements desc then LeftShift (component_of desc 0).shift else Pack (field_widths desc)) ∷ only_if
    (is_swapped desc) SwapBytes in
    append_assoc (decode pair.from.desc ++ convert pair) front (last_write pair ∷ [])

pub is_whole : (pair : Pair) → ends_with_write (recipe pair) ≡ true
unfolding ends_with_write
is_whole pair = ap ends_with_write (sym (recipe_ends pair)) ∙ ends_with_write-append (before_write pair) (last_write pair) []

pub writes_frames : (pair : Pair) → WritesFrames pair
writes_frames pair = λ valid none width rows.
    ap (λ ops. write_length ops width rows) (sym (recipe_ends pair))
    ∙ write_length-append (before_write pair) (last_write pair) [] width rows
    ∙ written_length (element_type pair.to.desc) (element_counts pair.to.desc) width rows
    ∙ sym ((fills_frames pair.to.desc valid.to none).size width rows)
