-- The checked run of the whole list of a pair whose sides are of the classes is there, and is the exact one.
use Rattle.std.proofs.Common.{◌≡◌, ℕ, ◌-◌, ◌^◌, ◌<◌, ◌≤◌, Bool, true, false, if◌then◌else◌, List, [], ◌∷◌, ◌++◌, refl, append_assoc, sym}
use Rattle.std.proofs.Common.{subst}
use Rattle.std.specs.Prelude.{Option, Some}
use Rattle.std.specs.List.{list_all}
use Rattle.pix_desc.specs.declared.desc.Desc.{Desc}
use Rattle.frac_math.specs.Fraction.{ℚ}
use Rattle.pix_desc.specs.Component.{component_of}
use Rattle.pix_desc.specs.Layouts.{is_elements}
use Rattle.pix_meaning.specs.declared.pair.Pair.{Pair}
use Rattle.op_list.specs.declared.types.PixType.{PixType}
use Rattle.op_list.specs.declared.types.PixType.TheVariants.{U8}
use Rattle.op_list.specs.Types.{bits}
use Rattle.op_list.specs.declared.types.Stage.TheVariants.{Start}
use Rattle.op_list.specs.declared.position.PixelPosition.{PixelPosition}
use Rattle.op_list.specs.declared.op.Op.{Op}
use Rattle.op_list.specs.declared.op.Op.TheVariants.{Read, Write, SwapBytes, Unpack, Pack, Clear, LeftShift, RightShift, Swizzle, Convert}
use Rattle.op_list.specs.declared.values.Values.{Values}
use Rattle.op_list.specs.declared.values.Values.TheVariants.{Numbers}
use Rattle.op_list.specs.Values.{four, no_values}
use Rattle.op_list.specs.Typing.{stage_from}
use Rattle.op_list.specs.Run.{run_from, checked_run_from}
use Rattle.op_list.proofs.Runs.{forms_nothing, unformed_run, checked_both}
use Rattle.pix_desc.specs.Shape.{element_counts, field_widths}
use Rattle.op_build.specs.ElementType.{element_type, is_swapped}
use Rattle.pix_meaning.specs.Channels.{channel_depth}
use Rattle.op_build.specs.Recipe.{only_if, channel_slots, missing_codes, slot_channels, spare_zeros, decode, convert, encode, recipe}
use Rattle.op_build.specs.SideClasses.{side_class, side_classes, IsOneOf}
use Rattle.op_build.proofs.bounds.Pairs.{converting_is_there}

-- ---- decoding and encoding
decode_by : (palette swapped elements : Bool) (elem : PixType) (counts widths positions : List ℕ) (left right : ℕ) (codes : List (Option ℚ))
    → list_all forms_nothing (if palette then Read U8 (1 ∷ 0 ∷ 0 ∷ 0 ∷ []) true ∷ Clear codes ∷ []
    else Read elem counts false ∷ only_if swapped SwapBytes ++ (if elements then LeftShift left ∷ RightShift right ∷ [] else Unpack widths
    ∷ []) ++ Swizzle positions ∷ Clear codes ∷ []) ≡ true
decode_by true swapped elements elem counts widths positions left right codes = refl
decode_by false true true elem counts widths positions left right codes = refl
decode_by false true false elem counts widths positions left right codes = refl
decode_by false false true elem counts widths positions left right codes = refl
decode_by false false false elem counts widths positions left right codes = refl

decode_unchecked : (desc : Desc) → list_all forms_nothing (decode desc) ≡ true
unfolding decode
decode_unchecked desc =
    let c = component_of desc 0 in
    let size = bits (element_type desc) in
    decode_by desc.palette (is_swapped desc) (is_elements desc) (element_type desc) (element_counts desc) (field_widths desc)
    (channel_slots desc)
    (size - c.shift - c.depth) (size - c.depth) (missing_codes desc)

encode_by : (swapped elements : Bool) (elem : PixType) (counts widths positions : List ℕ) (left : ℕ) (codes : List (Option ℚ))
    → list_all forms_nothing (Convert elem false ∷ Swizzle positions ∷ Clear codes ∷ (if elements then LeftShift left else Pack widths)
    ∷ only_if swapped SwapBytes ++ Write elem counts ∷ []) ≡ true
encode_by true true elem counts widths positions left codes = refl
encode_by true false elem counts widths positions left codes = refl
encode_by false true elem counts widths positions left codes = refl
encode_by false false elem counts widths positions left codes = refl

encode_unchecked : (desc : Desc) → list_all forms_nothing (encode desc) ≡ true
unfolding encode
encode_unchecked desc =
    encode_by (is_swapped desc) (is_elements desc) (element_type desc) (element_counts desc) (field_widths desc) (slot_channels desc)
    (component_of desc 0).shift (spare_zeros desc)

-- ---- the whole list, where decoding gives codes below 2 to the depths
pub recipe_parts : (pair : Pair) → recipe pair ≡ decode pair.from.desc ++ (convert pair ++ encode pair.to.desc)
unfolding recipe
recipe_parts pair = append_assoc (decode pair.from.desc) (convert pair) (encode pair.to.desc)

pub recipe_is_there : (pair : Pair) (frame : List ℕ) (position : PixelPosition) (code : ℕ → ℕ)
    → IsOneOf (side_class pair.from) side_classes → IsOneOf (side_class pair.to) side_classes → pair.dither ≤ 4
    → run_from frame position Start (decode pair.from.desc) no_values ≡ Numbers (four code)
    → ((c : ℕ) → c < 4 → code c < 2 ^ channel_depth pair.from.desc c)
    → checked_run_from frame position Start (recipe pair) no_values ≡ Some (run_from frame position Start (recipe pair) no_values)
recipe_is_there pair frame position code from to k gives h =
    let d = decode pair.from.desc in
    let c = convert pair in
    let e = encode pair.to.desc in
    let stage = stage_from Start d in
    let values = run_from frame position Start d no_values in
    let converts : checked_run_from frame position stage c values ≡ Some (run_from frame position stage c values) =
    subst (λ (v : Values). checked_run_from frame position stage c v ≡ Some (run_from frame position stage c v)) (sym gives)
    (converting_is_there pair frame position stage code from to k h) in
    let rest : checked_run_from frame position stage (c ++ e) values ≡ Some (run_from frame position stage (c ++ e) values) =
    checked_both frame position stage c e values converts
    (unformed_run frame position (stage_from stage c) e (run_from frame position stage c values) (encode_unchecked pair.to.desc)) in
    subst (λ (ops : List Op). checked_run_from frame position Start ops no_values ≡ Some (run_from frame position Start ops no_values))
    (sym (recipe_parts pair))
    (checked_both frame position Start d (c ++ e) no_values
    (unformed_run frame position Start d no_values (decode_unchecked pair.from.desc)) rest)
