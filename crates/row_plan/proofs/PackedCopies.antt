-- The meaning of every conversion, between two packed RGB formats.
use Rattle.std.proofs.Common.{◌≡◌, ℕ, ◌+◌, ◌-◌, ◌^◌, ◌<◌, ◌≤◌, Bool, true, false, ◌&&◌, ◌||◌, if◌then◌else◌, nat_eq, nat_lt, pos, List, []}
use Rattle.std.proofs.Common.{refl, sym, ◌∙◌, ap, subst, arith, ltb-true, ltb-false, eqb-true}
use Rattle.std.proofs.lemmas.Bool.{and_parts}
use Rattle.frac_math.specs.Fraction.{nat, ◌*ℚ◌, ◌+ℚ◌}
use Rattle.frac_math.proofs.Ring.{ring, num, ◌⊕◌, ◌⊗◌}
use Rattle.frac_math.proofs.FractionRing.{fractions}
use Rattle.pix_desc.specs.declared.desc.Desc.{Desc}
use Rattle.pix_desc.specs.Component.{component_of}
use Rattle.pix_desc.specs.Frame.{frame_component}
use Rattle.pix_desc.specs.Layouts.{IsValid, is_count}
use Rattle.pix_desc.proofs.Valid.{has_no_fault}
use Rattle.pix_desc.proofs.FrameOnly.{agreeing_frames}
use Rattle.pix_desc.proofs.BitPositions.{frame_component_below}
use Rattle.colour_matrix.specs.declared.class.Class.TheVariants.{Direct}
use Rattle.colour_matrix.specs.Values.{value_at}
use Rattle.colour_matrix.specs.Levels.{levels, from_code, to_code}
use Rattle.colour_matrix.specs.Colour.{to_rgb, from_rgb}
use Rattle.pix_meaning.specs.declared.pair.Pair.{Pair}
use Rattle.pix_meaning.specs.Pairs.{IsValidPair, is_rgb, component_count, depth_of, component_at, channel_of, levels_of}
use Rattle.pix_meaning.specs.Values.{entry_component, source_component, source_value, source_values, rgb_values, target_values, wanted}
use Rattle.pix_meaning.specs.Target.{result_of, target_rows}
use Rattle.pix_meaning.proofs.Passing.{passes_codes}
use Rattle.pix_meaning.proofs.TargetLaws.{keeps_codes}
use Rattle.row_plan.specs.PackedRgb.{is_packed_rgb, copied, copied_frame, CopiesPacked}
use Rattle.row_plan.proofs.Packed.{IsPacked, packed_parts, is_byte}

-- three components, or four with alpha
pub record HasColours (desc : Desc) : Type 0 where
  pub rgb : desc.rgb ≡ true
  pub parts : IsPacked desc
  pub opaque : desc.alpha ≡ false → desc.count ≡ 3
  pub alpha : desc.alpha ≡ true → desc.count ≡ 4

count_three : (count : ℕ) (alpha : Bool) → is_count false true alpha count ≡ true → alpha ≡ false → count ≡ 3
count_three count true counted none = absurd cc
count_three count false counted none = eqb-true count 3 counted

count_four : (count : ℕ) (alpha : Bool) → is_count false true alpha count ≡ true → alpha ≡ true → count ≡ 4
count_four count true counted some = eqb-true count 4 counted
count_four count false counted some = absurd cc

has_colours : (desc : Desc) → IsValid desc → is_packed_rgb desc ≡ true → HasColours desc
has_colours desc valid test =
    let rgb = (and_parts desc.rgb _ test).0 in
    let parts = packed_parts desc test in
    let counted : is_count false true desc.alpha desc.count ≡ true =
    ap (λ p. is_count p true desc.alpha desc.count) (sym parts.plain) ∙ ap (λ r. is_count desc.palette r desc.alpha desc.count) (sym rgb)
    ∙ (has_no_fault desc valid).counted in
    record {
      rgb = rgb;
      parts = parts;
      opaque = count_three desc.count desc.alpha counted;
      alpha = count_four desc.count desc.alpha counted;
    }

counts : (desc : Desc) → IsPacked desc → component_count desc ≡ desc.count
counts desc parts = ap (λ p. if p then 4 else desc.count) parts.plain

are_colours : (desc : Desc) → HasColours desc → is_rgb desc ≡ true
are_colours desc colours = ap (λ r. r || desc.palette) colours.rgb

depths : (desc : Desc) (j : ℕ) → IsPacked desc → j < desc.count → depth_of desc j ≡ 8
depths desc j parts listed = ap (λ p. if p then 8 else (component_of desc j).depth) parts.plain ∙ (is_byte desc j parts listed).depth

-- each component is the channel of its number
channel_is : (alpha last : Bool) (j : ℕ) → (alpha ≡ true → last ≡ true → j ≡ 3) → (if alpha && last then 3 else j) ≡ j
channel_is true true j h = sym (h refl refl)
channel_is true false j h = refl
channel_is false last j h = refl

channels : (desc : Desc) (j : ℕ) → HasColours desc → channel_of desc j ≡ j
channels desc j colours =
    channel_is desc.alpha (nat_eq (j + 1) (component_count desc)) j (λ some last.
    omega (arith, eqb-true (j + 1) (component_count desc) last, counts desc colours.parts, colours.alpha some))

-- what is read of a packed format
reads_plain : (desc : Desc) (width height : ℕ) (frame : List ℕ) (j x y : ℕ) → IsPacked desc
    → source_component desc width height frame j x y ≡ frame_component desc width height frame j x y
unfolding source_component
reads_plain desc width height frame j x y parts =
    ap (λ p. if p then entry_component width height frame
    (frame_component desc width height frame 0 x y) j else frame_component desc width height frame j x y) parts.plain

code_below : (desc : Desc) (width height : ℕ) (frame : List ℕ) (j x y : ℕ) → IsPacked desc → j < desc.count
    → source_component desc width height frame j x y < 2 ^ 8
code_below desc width height frame j x y parts listed =
    subst (λ v. v < 2 ^ 8) (sym (reads_plain desc width height frame j x y parts))
    (subst (λ d. frame_component desc width height frame j x y < 2 ^ d) (is_byte desc j parts listed).depth
    (frame_component_below desc width height frame j x y))

-- a colour that both have passes as it is
code_passes : (pair : Pair) (width height : ℕ) (frame : List ℕ) (j x y : ℕ) → IsValidPair pair → HasColours pair.from.desc
    → HasColours pair.to.desc → j < pair.from.desc.count → j < pair.to.desc.count
    → result_of pair width height 0 frame j x y ≡ source_component pair.from.desc width height frame j x y
code_passes pair width height frame j x y valid from to in_from in_to =
    let code = source_component pair.from.desc width height frame j x y in
    let same : channel_of pair.from.desc j ≡ channel_of pair.to.desc j =
    channels pair.from.desc j from ∙ sym (channels pair.to.desc j to) in
    let deep : depth_of pair.from.desc j ≡ depth_of pair.to.desc j =
    depths pair.from.desc j from.parts in_from ∙ sym (depths pair.to.desc j to.parts in_to) in
    keeps_codes pair width height 0 frame j x y code
    (passes_codes pair width height frame j j x y valid (are_colours pair.from.desc from) (are_colours pair.to.desc to)
    (omega (arith, in_from, counts pair.from.desc from.parts)) (omega (arith, in_to, counts pair.to.desc to.parts)) same deep)
    (subst (λ d. code < 2 ^ d) (sym (depths pair.to.desc j to.parts in_to))
    (code_below pair.from.desc width height frame j x y from.parts in_from))

-- alpha is opaque where the source has none
top_code : nat 255 *ℚ nat 1 +ℚ nat 0 ≡ nat 255
top_code = ring fractions [] (num (pos 255) ⊗ num (pos 1) ⊕ num (pos 0)) (num (pos 255)) refl

missing_alpha : (pair : Pair) (width height : ℕ) (frame : List ℕ) (x y : ℕ) → pair.from.desc.alpha ≡ false
    → source_value pair.from width height frame x y 3 ≡ nat 1
unfolding source_value
missing_alpha pair width height frame x y none =
    ap (λ b. if b then from_code (levels_of pair.from 3)
    (nat (source_component pair.from.desc width height frame (component_at pair.from.desc 3) x y)) else
    (if nat_eq 3 3 then nat 1 else nat 0)) none

alpha_levels : (pair : Pair) → HasColours pair.to.desc → pair.to.desc.count ≡ 4 → levels_of pair.to 3 ≡ levels Direct 8 pair.to.range
alpha_levels pair to four =
    let last : component_count pair.to.desc - 1 ≡ 3 = omega (arith, counts pair.to.desc to.parts, four) in
    ap (λ d. levels Direct d pair.to.range) (ap (depth_of pair.to.desc) last ∙ depths pair.to.desc 3 to.parts (omega (arith, four)))

opaque_wanted : (pair : Pair) (width height : ℕ) (frame : List ℕ) (j x y : ℕ) → HasColours pair.from.desc → HasColours pair.to.desc
    → pair.from.desc.alpha ≡ false → pair.to.desc.count ≡ 4 → j ≡ 3
    → wanted pair width height frame j x y ≡ nat 255
unfolding wanted source_values rgb_values target_values to_code levels
opaque_wanted pair width height frame j x y from to none four is =
    let values = source_values pair.from width height frame x y in
    let channel : channel_of pair.to.desc j ≡ 3 = channels pair.to.desc j to ∙ is in
    ap (λ c. to_code (levels_of pair.to c) (value_at (target_values pair.to (rgb_values pair.from values)) c)) channel
    ∙ ap (λ l. to_code l (value_at (target_values pair.to (rgb_values pair.from values)) 3)) (alpha_levels pair to four)
    ∙ ap (λ b. to_code (levels Direct 8 pair.to.range)
    (value_at (if b then rgb_values pair.from values else from_rgb pair.to.matrix (rgb_values pair.from values)) 3))
    (are_colours pair.to.desc to)
    ∙ ap (λ b. to_code (levels Direct 8 pair.to.range) (value_at (if b then values else to_rgb pair.from.matrix values) 3))
    (are_colours pair.from.desc from)
    ∙ ap (to_code (levels Direct 8 pair.to.range)) (missing_alpha pair width height frame x y none)
    ∙ top_code

-- a component of the target is the last where the source has not so many
last_missing : (pair : Pair) (j : ℕ) → HasColours pair.from.desc → HasColours pair.to.desc → pair.from.desc.count ≤ j
    → j < pair.to.desc.count → (from_alpha to_alpha : Bool) → pair.from.desc.alpha ≡ from_alpha → pair.to.desc.alpha ≡ to_alpha
    → (pair.from.desc.alpha ≡ false) × (pair.to.desc.count ≡ 4) × (j ≡ 3)
last_missing pair j from to past listed true true ef et = absurd (omega (arith, from.alpha ef, to.alpha et, past, listed))
last_missing pair j from to past listed true false ef et = absurd (omega (arith, from.alpha ef, to.opaque et, past, listed))
last_missing pair j from to past listed false true ef et = (ef, to.alpha et, omega (arith, from.opaque ef, to.alpha et, past, listed))
last_missing pair j from to past listed false false ef et = absurd (omega (arith, from.opaque ef, to.opaque et, past, listed))

opaque_result : (pair : Pair) (width height : ℕ) (frame : List ℕ) (j x y : ℕ) → HasColours pair.from.desc → HasColours pair.to.desc
    → pair.from.desc.count ≤ j → j < pair.to.desc.count → result_of pair width height 0 frame j x y ≡ 255
opaque_result pair width height frame j x y from to past listed =
    let is = last_missing pair j from to past listed pair.from.desc.alpha pair.to.desc.alpha refl refl in
    keeps_codes pair width height 0 frame j x y 255 (opaque_wanted pair width height frame j x y from to is.0 is.1 is.2)
    (subst (λ d. 255 < 2 ^ d) (sym (depths pair.to.desc j to.parts listed)) (omega arith))

agrees : (pair : Pair) (width height : ℕ) (frame : List ℕ) (j x y : ℕ) (there : Bool) → IsValidPair pair → HasColours pair.from.desc
    → HasColours pair.to.desc → j < pair.to.desc.count → nat_lt j pair.from.desc.count ≡ there
    → result_of pair width height 0 frame j x y ≡ (if there then frame_component pair.from.desc width height frame j x y else 255)
agrees pair width height frame j x y true valid from to listed test =
    code_passes pair width height frame j x y valid from to (ltb-true j pair.from.desc.count test) listed
    ∙ reads_plain pair.from.desc width height frame j x y from.parts
agrees pair width height frame j x y false valid from to listed test =
    opaque_result pair width height frame j x y from to (ltb-false j pair.from.desc.count test) listed

pub copies_packed : (pair : Pair) (width height : ℕ) (frame : List ℕ) → CopiesPacked pair width height frame
unfolding target_rows copied_frame
copies_packed pair width height frame = λ valid test test'.
    let from = has_colours pair.from.desc valid.from test in
    let to = has_colours pair.to.desc valid.to test' in
    agreeing_frames pair.to.desc width height (result_of pair width height 0 frame) (copied pair.from.desc width height frame)
    (λ j x y listed across down. agrees pair width height frame j x y (nat_lt j pair.from.desc.count) valid from to listed refl)
