-- The codes of a pixel: each fits its depth, and the results go by the codes that are read.
use Rattle.std.proofs.Common.{◌≡◌, ℕ, ◌+◌, ◌*◌, ◌^◌, ◌<◌, true, false, if◌then◌else◌, List, inl, inr, zero-add, refl, sym, ap, ◌∙◌, arith}
use Rattle.std.proofs.lemmas.Bool.{cases_Bool}
use Rattle.frac_math.specs.Fraction.{nat, ◌+ℚ◌, floor}
use Rattle.frac_math.specs.Dither.{dither_at}
use Rattle.pix_desc.specs.declared.desc.Desc.{Desc}
use Rattle.pix_desc.specs.Component.{component_of}
use Rattle.pix_desc.specs.Frame.{frame_component}
use Rattle.pix_desc.specs.Layouts.{IsValid}
use Rattle.pix_desc.proofs.BitPositions.{byte_below, frame_component_below}
use Rattle.colour_matrix.specs.Levels.{from_code, to_code}
use Rattle.colour_matrix.specs.Values.{Values, value_at}
use Rattle.colour_matrix.proofs.Rows.{same_values}
use Rattle.pix_meaning.specs.declared.pair.Side.{Side}
use Rattle.pix_meaning.specs.Pairs.{component_count, depth_of, has_channel, component_at, channel_of, levels_of}
use Rattle.pix_meaning.specs.Values.{entry_byte, entry_component, source_component, source_value, source_values, rgb_values, target_values}
use Rattle.pix_meaning.specs.Values.{wanted}
use Rattle.pix_meaning.specs.Target.{clamped, result_of}
use Rattle.pix_meaning.specs.Laws.{SourcesFit, SlicesAgree}
use Rattle.pix_meaning.proofs.Channels.{has_channels}
use Rattle.pix_meaning.proofs.Passing.{value_there}

-- an entry's components are bytes, and others are read by their depth
pub source_below : SourcesFit
unfolding source_component
source_below desc width height frame j x y bytes =
    elim desc.palette as (λ b. (if b then entry_component width height frame (frame_component desc width height frame 0 x y) j
    else frame_component desc width height frame j x y) < 2 ^ (if b then 8 else (component_of desc j).depth)) [
      | true ↦ byte_below frame (width * height + 4 * frame_component desc width height frame 0 x y + entry_byte j) bytes
      | false ↦ frame_component_below desc width height frame j x y
    ]

-- two pixels of one format have the same codes: the pixel at x and y of one frame, and the pixel at x and a row of another
abbrev SameCodes : Desc → ℕ → ℕ → ℕ → List ℕ → List ℕ → ℕ → ℕ → ℕ → Type 0
SameCodes desc width rows height slice frame x y row =
    (i : ℕ) → i < component_count desc → source_component desc width rows slice i x y ≡ source_component desc width height frame i x row

-- two pixels with the same codes have the same values
same_value : (side : Side) (width rows height : ℕ) (slice frame : List ℕ) (x y row c : ℕ) → IsValid side.desc
    → SameCodes side.desc width rows height slice frame x y row → c < 4
    → source_value side width rows slice x y c ≡ source_value side width height frame x row c
unfolding source_value
same_value side width rows height slice frame x y row c valid same below =
    elim (cases_Bool (has_channel side.desc c)) as
    (λ _. source_value side width rows slice x y c ≡ source_value side width height frame x row c) [
      | inl there ↦
          value_there side width rows slice x y c there
          ∙ ap (λ code. from_code (levels_of side c) (nat code))
          (same (component_at side.desc c) ((has_channels side.desc valid).listed c below there))
          ∙ sym (value_there side width height frame x row c there)
      | inr none ↦ rw none refl
    ]

same_pixel : (side : Side) (width rows height : ℕ) (slice frame : List ℕ) (x y row : ℕ) → IsValid side.desc
    → SameCodes side.desc width rows height slice frame x y row
    → source_values side width rows slice x y ≡ source_values side width height frame x row
unfolding source_values
same_pixel side width rows height slice frame x y row valid same =
    let value = λ (c : ℕ) (below : c < 4). same_value side width rows height slice frame x y row c valid same below in
    same_values _ _ (value 0 (omega arith)) (value 1 (omega arith)) (value 2 (omega arith)) (value 3 (omega arith))

pub slices_agree : SlicesAgree
unfolding result_of wanted
slices_agree pair width height first rows frame slice j x y valid same =
    let c = channel_of pair.to.desc j in
    let result = λ (values : Values) (row : ℕ).
    clamped (depth_of pair.to.desc j)
    (floor (to_code (levels_of pair.to c) (value_at (target_values pair.to (rgb_values pair.from values)) c)
    +ℚ dither_at pair.dither x row)) in
    ap (λ values. result values (first + y)) (same_pixel pair.from width rows height slice frame x y (first + y) valid.from same)
    ∙ ap (result (source_values pair.from width height frame x (first + y))) (sym (zero-add (first + y)))
