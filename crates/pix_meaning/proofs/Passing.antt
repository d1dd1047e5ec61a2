-- What passes a conversion as it is.
use Rattle.std.proofs.Common.{◌≡◌, ℕ, zero, suc, ◌+◌, ◌<◌, ◌≤◌, true, false, ◌&&◌, nat_eq, if◌then◌else◌, List, refl, sym, ap, ◌∙◌, subst}
use Rattle.std.proofs.Common.{arith}
use Rattle.frac_math.specs.Fraction.{nat, ◌<ℚ◌}
use Rattle.pix_desc.specs.declared.desc.Desc.{Desc}
use Rattle.pix_desc.specs.Component.{component_of}
use Rattle.pix_desc.specs.Layouts.{IsValid}
use Rattle.pix_desc.proofs.Valid.{laid_out}
use Rattle.colour_matrix.specs.Values.{Values, value_at}
use Rattle.colour_matrix.specs.Levels.{levels, from_code, to_code}
use Rattle.colour_matrix.specs.declared.class.Class.TheVariants.{Direct}
use Rattle.colour_matrix.specs.declared.class.Range.TheVariants.{Full}
use Rattle.colour_matrix.proofs.ColourLaws.{from_rgb-to_rgb}
use Rattle.colour_matrix.proofs.LevelLaws.{scale_positive, to_code-from_code}
use Rattle.pix_meaning.specs.declared.pair.Side.{Side}
use Rattle.pix_meaning.specs.declared.pair.Pair.{Pair}
use Rattle.pix_meaning.specs.Pairs.{is_rgb, component_count, depth_of, has_channel, component_at, channel_of, class_of, levels_of}
use Rattle.pix_meaning.specs.Values.{source_component, source_value, source_values, rgb_values, target_values, wanted}
use Rattle.pix_meaning.specs.Laws.{PassesLumaAndChroma, PassesCodes}
use Rattle.pix_meaning.proofs.Channels.{has_channels, component_count_most}

pub passes_luma_and_chroma : PassesLumaAndChroma
unfolding target_values rgb_values
passes_luma_and_chroma from to v p q same h = rw (p, q, ← same) (from_rgb-to_rgb from.matrix v h)

-- between two RGB sides all values pass
passes_rgb : (from to : Side) (v : Values) → is_rgb from.desc ≡ true → is_rgb to.desc ≡ true → target_values to (rgb_values from v) ≡ v
unfolding target_values rgb_values
passes_rgb from to v p q = rw (p, q) refl

-- the value of a channel that is there
pub value_there : (side : Side) (width height : ℕ) (frame : List ℕ) (x y c : ℕ) → has_channel side.desc c ≡ true
    → source_value side width height frame x y c
    ≡ from_code (levels_of side c) (nat (source_component side.desc width height frame (component_at side.desc c) x y))
unfolding source_value
value_there side width height frame x y c there = rw there refl

value_at_channel : (side : Side) (width height : ℕ) (frame : List ℕ) (x y c : ℕ) → c < 4
    → value_at (source_values side width height frame x y) c ≡ source_value side width height frame x y c
unfolding source_values
value_at_channel side width height frame x y zero below = refl
value_at_channel side width height frame x y (suc zero) below = refl
value_at_channel side width height frame x y (suc (suc zero)) below = refl
value_at_channel side width height frame x y (suc (suc (suc zero))) below = refl
value_at_channel side width height frame x y (suc (suc (suc (suc c)))) below = absurd (omega arith)

-- where the values pass, and a channel has the same levels on both sides, the code that was read is wanted
passes_code : (pair : Pair) (width height : ℕ) (frame : List ℕ) (i j x y c : ℕ)
    → ((v : Values) → target_values pair.to (rgb_values pair.from v) ≡ v)
    → c < 4 → channel_of pair.to.desc j ≡ c → has_channel pair.from.desc c ≡ true → component_at pair.from.desc c ≡ i
    → levels_of pair.from c ≡ levels_of pair.to c → nat 0 <ℚ (levels_of pair.to c).scale
    → wanted pair width height frame j x y ≡ nat (source_component pair.from.desc width height frame i x y)
unfolding wanted
passes_code pair width height frame i j x y c passes below channel there component same positive =
    let values = source_values pair.from width height frame x y in
    let code = λ (k : ℕ). nat (source_component pair.from.desc width height frame k x y) in
    let value : value_at values c ≡ from_code (levels_of pair.to c) (code i) =
    value_at_channel pair.from width height frame x y c below
    ∙ value_there pair.from width height frame x y c there
    ∙ ap (λ l. from_code l (code (component_at pair.from.desc c))) same
    ∙ ap (λ k. from_code (levels_of pair.to c) (code k)) component in
    ap (λ d. to_code (levels_of pair.to d) (value_at (target_values pair.to (rgb_values pair.from values)) d)) channel
    ∙ ap (λ v. to_code (levels_of pair.to c) (value_at v c)) (passes values)
    ∙ ap (to_code (levels_of pair.to c)) value
    ∙ to_code-from_code (levels_of pair.to c) (code i) positive

class_of_rgb : (desc : Desc) (c : ℕ) → is_rgb desc ≡ true → class_of desc c ≡ Direct
class_of_rgb desc zero h = rw h refl
class_of_rgb desc (suc zero) h = rw h refl
class_of_rgb desc (suc (suc zero)) h = rw h refl
class_of_rgb desc (suc (suc (suc c))) h = refl

-- the levels of a channel of an RGB format go by its depth alone
levels_of_rgb : (side : Side) (c depth : ℕ) → is_rgb side.desc ≡ true → depth_of side.desc (component_at side.desc c) ≡ depth
    → levels_of side c ≡ levels Direct depth Full
unfolding levels
levels_of_rgb side c depth h same =
    ap (λ t. levels t (depth_of side.desc (component_at side.desc c)) side.range) (class_of_rgb side.desc c h)
    ∙ ap (λ d. levels Direct d Full) same

pub depth_some : (desc : Desc) (j : ℕ) → IsValid desc → j < component_count desc → 1 ≤ depth_of desc j
depth_some desc j valid =
    elim desc.palette as (λ b. j < (if b then 4 else desc.count) → 1 ≤ (if b then 8 else (component_of desc j).depth)) [
      | true ↦ λ listed. omega arith
      | false ↦ λ listed. (laid_out desc valid).deep j listed
    ]

channel_below : (desc : Desc) (j : ℕ) → IsValid desc → j < component_count desc → channel_of desc j < 4
channel_below desc j valid listed =
    let most = component_count_most desc valid in
    elim (desc.alpha && nat_eq (j + 1) (component_count desc)) as
    (λ b. (if b then 3 else j) < 4) [ true ↦ omega arith | false ↦ omega arith ]

pub passes_codes : PassesCodes
passes_codes pair width height frame i j x y valid p q in_from in_to channel depth =
    let from = has_channels pair.from.desc valid.from in
    let to = has_channels pair.to.desc valid.to in
    let c = channel_of pair.to.desc j in
    let there : has_channel pair.from.desc c ≡ true = subst (λ d. has_channel pair.from.desc d ≡ true) channel (from.there i in_from) in
    let component : component_at pair.from.desc c ≡ i = sym (ap (component_at pair.from.desc) channel) ∙ from.component i in_from in
    let from_levels = levels_of_rgb pair.from c (depth_of pair.to.desc j) p (ap (depth_of pair.from.desc) component ∙ depth) in
    let to_levels = levels_of_rgb pair.to c (depth_of pair.to.desc j) q (ap (depth_of pair.to.desc) (to.component j in_to)) in
    passes_code pair width height frame i j x y c (λ v. passes_rgb pair.from pair.to v p q)
    (channel_below pair.to.desc j valid.to in_to) refl there component
    (from_levels ∙ sym to_levels)
    (subst (λ l. nat 0 <ℚ l.scale) (sym to_levels)
    (scale_positive Direct (depth_of pair.to.desc j) Full (depth_some pair.to.desc j valid.to in_to)))
