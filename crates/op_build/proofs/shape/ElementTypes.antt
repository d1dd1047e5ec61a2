-- The type of a format's elements, and that their counts and the widths of fields are good arguments.
use Rattle.std.proofs.Common.{◌≡◌, ℕ, ◌*◌, ◌/◌, ◌<◌, ◌≤◌, ⊎_elim, true, false, not, ◌&&◌, if◌then◌else◌, nat_le, nat_eq}
use Rattle.std.proofs.Common.{get_or, sym, refl, ap, ◌∙◌, arith}
use Rattle.std.proofs.lemmas.Bool.{and_parts, not-true}
use Rattle.pix_desc.specs.declared.desc.Desc.{Desc}
use Rattle.pix_desc.specs.Component.{component_of}
use Rattle.pix_desc.specs.Frame.{plane_step}
use Rattle.pix_desc.specs.Layouts.{IsValid}
use Rattle.pix_desc.specs.Shape.{element_bytes, element_counts, fields, field_widths, no_field}
use Rattle.pix_desc.proofs.Valid.{has_no_fault, laid_out}
use Rattle.pix_desc.proofs.ElementCounts.{counts_by, counts_are, count_before, counts_some, sum-counts}
use Rattle.pix_desc.proofs.ElementSlots.{HasElements}
use Rattle.pix_desc.proofs.WordShape.{HasWord, some_before, sum-widths}
use Rattle.pix_desc.proofs.PixelSlots.{IsSize, word_size, is_size, first_size, has_layout}
use Rattle.op_list.specs.declared.types.PixType.{PixType}
use Rattle.op_list.specs.declared.types.PixType.TheVariants.{U8, U16, U32}
use Rattle.op_list.specs.declared.types.Stage.TheVariants.{Typed}
use Rattle.op_list.specs.Types.{bits, bytes, is_whole_type, is_same, is_wide}
use Rattle.op_list.specs.Typing.{are_in_front, are_counts}
use Rattle.op_list.proofs.GoodCounts.{in_front, good_counts}
use Rattle.op_build.specs.ElementType.{element_type, is_swapped}

-- Elements have 1, 2 or 4 bytes, and their type has their bits.
pub record HasType (desc : Desc) : Type 0 where
  pub size : IsSize (element_bytes desc)
  pub whole : is_whole_type (element_type desc) ≡ true
  pub bits : bits (element_type desc) ≡ 8 * element_bytes desc
  pub bytes : bytes (element_type desc) ≡ element_bytes desc
  pub swapped : is_swapped desc ≡ (desc.be && not (nat_eq (element_bytes desc) 1))
  pub wide : is_swapped desc ≡ true → is_wide (Typed (element_type desc)) ≡ true

abbrev type_for : ℕ → PixType
type_for size = if nat_le size 1 then U8 else (if nat_le size 2 then U16 else U32)

type_of : (desc : Desc) (size : ℕ) → element_bytes desc ≡ size → element_type desc ≡ type_for size
unfolding element_type
type_of desc size is = ap type_for is

swapped_of : (desc : Desc) (elem : PixType) → element_type desc ≡ elem → is_swapped desc ≡ (desc.be && not (is_same elem U8))
unfolding is_swapped
swapped_of desc elem is = ap (λ e. desc.be && not (is_same e U8)) is

type_is : (desc : Desc) (size : ℕ) (elem : PixType) → IsSize (element_bytes desc)
    → element_bytes desc ≡ size → element_type desc ≡ elem → is_whole_type elem ≡ true → bits elem ≡ 8 * size
    → is_same elem U8 ≡ nat_eq size 1
    → (is_same elem U8 ≡ false → is_wide (Typed elem) ≡ true) → HasType desc
type_is desc size elem sizes bytes_are is whole bits_are same wide = record {
  size = sizes;
  whole = ap is_whole_type is ∙ whole;
  bits = omega (arith, ap bits is);
  bytes = omega (arith, ap bytes is);
  swapped = swapped_of desc elem is ∙ ap (λ b. desc.be && not b) (same ∙ ap (λ s. nat_eq s 1) (sym bytes_are));
  wide =
      λ swapped. ap (λ e. is_wide (Typed e)) is
      ∙ wide (not-true (is_same elem U8) (and_parts desc.be (not (is_same elem U8)) (sym (swapped_of desc elem is) ∙ swapped)).1);
}

has_type_of : (desc : Desc) → IsSize (element_bytes desc) → HasType desc
has_type_of desc sizes =
    ⊎_elim
    (λ one. type_is desc 1 U8 sizes one (type_of desc 1 one) refl refl refl (λ same. absurd cc))
    (λ more. ⊎_elim
    (λ two. type_is desc 2 U16 sizes two (type_of desc 2 two) refl refl refl (λ _. refl))
    (λ four. type_is desc 4 U32 sizes four (type_of desc 4 four) refl refl refl (λ _. refl))
    more)
    sizes

pub has_type : (desc : Desc) → IsValid desc → HasType desc
has_type desc valid = has_type_of desc (is_size desc valid)

-- ---- counts and widths

elements_are_good : (desc : Desc) → IsValid desc → HasElements desc (first_size desc) → are_counts 4 (element_counts desc) ≡ true
elements_are_good desc valid is =
    let size = first_size desc in
    let laid = laid_out desc valid in
    let planes = (has_no_fault desc valid).planes in
    let before = λ (plane other : ℕ) (below : other < plane). count_before desc size laid planes is.bytes is.read plane other below in
    let front : are_in_front (counts_by desc size) ≡ true =
    in_front (plane_step desc 0 / size) (plane_step desc 1 / size) (plane_step desc 2 / size) (plane_step desc 3 / size)
    (before 1 0 (omega arith)) (before 2 1 (omega arith)) (before 3 2 (omega arith)) in
    good_counts 4 (element_counts desc) (ap are_in_front (counts_are desc size is.bytes) ∙ front)
    (counts_some desc size laid planes is.bytes is.read) (omega (arith, sum-counts desc size is.bytes, is.few))

-- the elements of a pixel are one to four, in the first planes
pub element_counts_are_good : (desc : Desc) → IsValid desc → are_counts 4 (element_counts desc) ≡ true
element_counts_are_good desc valid =
    ⊎_elim
    (λ is. elements_are_good desc valid is)
    (λ is. ap (are_counts 4) is.counts)
    (has_layout desc valid)

widths_are_good : (desc : Desc) → HasWord desc → are_counts (8 * (component_of desc 0).step) (field_widths desc) ≡ true
unfolding field_widths
widths_are_good desc is =
    let width = λ (k : ℕ). (get_or (fields desc) k no_field).width in
    let bits = 8 * (component_of desc 0).step in
    let some : 1 ≤ bits =
    ⊎_elim (λ (e : (component_of desc 0).step ≡ 1). omega arith)
    (λ more. ⊎_elim (λ (e : (component_of desc 0).step ≡ 2). omega arith)
    (λ (e : (component_of desc 0).step ≡ 4). omega arith) more) is.size in
    good_counts bits (field_widths desc)
    (in_front (width 0) (width 1) (width 2) (width 3) (some_before desc is 0) (some_before desc is 1) (some_before desc is 2))
    (omega (arith, sum-widths desc is)) (omega (arith, sum-widths desc is))

-- the fields of a word come to its bits
pub field_widths_are_good : (desc : Desc) → HasWord desc → are_counts (bits (element_type desc)) (field_widths desc) ≡ true
field_widths_are_good desc is =
    let e : bits (element_type desc) ≡ 8 * (component_of desc 0).step =
    (has_type_of desc (word_size desc is)).bits ∙ ap (λ s. 8 * s) is.bytes in
    ap (λ most. are_counts most (field_widths desc)) e ∙ widths_are_good desc is
