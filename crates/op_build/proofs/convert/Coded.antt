-- Converting turns the codes of a source pixel's channels into values whose floors are the results.
use Rattle.std.proofs.Common.{◌≡◌, ℕ, ◌+◌, ◌-◌, ◌^◌, ◌<◌, Bool, true, false, not, if◌then◌else◌, pos, List, [], ◌∷◌, ◌++◌, Some, None, refl}
use Rattle.std.proofs.Common.{ap, ◌∙◌, arith}
use Rattle.std.proofs.lemmas.Bool.{cond-true, cond-false}
use Rattle.frac_math.specs.Fraction.{ℚ, nat, floor, ◌+ℚ◌}
use Rattle.frac_math.specs.Dither.{dither_at}
use Rattle.pix_desc.specs.Layouts.{IsValid}
use Rattle.colour_matrix.specs.Levels.{from_code, to_code}
use Rattle.colour_matrix.specs.Values.{Values, value_at}
use Rattle.colour_matrix.specs.Colour.{to_rgb_rows, from_rgb_rows}
use Rattle.pix_meaning.specs.declared.pair.Side.{Side}
use Rattle.pix_meaning.specs.declared.pair.Pair.{Pair}
use Rattle.pix_meaning.specs.Pairs.{IsValidPair, is_rgb, component_count, depth_of, has_channel, component_at, channel_of, levels_of}
use Rattle.pix_meaning.specs.Values.{source_values, rgb_values, target_values, wanted}
use Rattle.pix_meaning.specs.Target.{result_of}
use Rattle.pix_meaning.proofs.Channels.{has_channels}
use Rattle.op_list.specs.declared.op.Op.{Op}
use Rattle.op_list.specs.declared.op.Op.TheVariants.{Convert, Dither, Linear, Min, Max}
use Rattle.op_list.specs.declared.position.PixelPosition.{PixelPosition}
use Rattle.op_list.specs.declared.types.PixType.TheVariants.{Rat}
use Rattle.op_list.specs.declared.types.Stage.{Stage}
use Rattle.op_list.specs.declared.types.Stage.TheVariants.{Typed}
use Rattle.op_list.specs.declared.values.Values.TheVariants.{Numbers, Fractions}
use Rattle.op_list.specs.Values.{four}
use Rattle.op_list.specs.Apply.{apply, at_most, at_least}
use Rattle.op_list.specs.Run.{run_from}
use Rattle.op_list.specs.Typing.{stage_after, stage_from}
use Rattle.op_list.proofs.Runs.{run_from-append}
use Rattle.pix_meaning.specs.Channels.{channel_depth, channel_levels}
use Rattle.op_build.specs.Recipe.{only_if, over_three, from_codes, to_codes, limits, convert}
use Rattle.pix_meaning.specs.Channels.{code_of}
use Rattle.pix_meaning.proofs.ChannelLevels.{levels_there, code_means}
use Rattle.op_build.proofs.convert.Steps.{same_fractions, from_codes-applied, to_codes-applied, to_rgb-run}
use Rattle.op_build.proofs.convert.Steps.{from_rgb-run}
use Rattle.op_build.proofs.convert.Clamp.{floor_limited}

-- ---- the values at the end

-- the value wanted of channel c, dithered
abbrev pub dithered : Pair → ℕ → ℕ → List ℕ → ℕ → ℕ → ℕ → ℕ → ℚ
dithered pair width rows frame x row y c =
    to_code (channel_levels pair.to c)
    (value_at
    (target_values pair.to (rgb_values pair.from (source_values pair.from width rows frame x row))) c) +ℚ dither_at pair.dither x y

-- within the codes, where the target has the channel
abbrev pub limited : Bool → ℕ → ℚ → ℚ
limited has depth value = at_most (if has then Some (nat (2 ^ depth - 1)) else None) (at_least (if has then Some (nat 0) else None) value)

unfoldable pub coded : Pair → ℕ → ℕ → List ℕ → ℕ → ℕ → ℕ → ℕ → ℚ
coded pair width rows frame x row y c =
    limited (has_channel pair.to.desc c) (channel_depth pair.to.desc c) (dithered pair width rows frame x row y c)

-- ---- their floors are the results

coded_floor : (pair : Pair) (width rows first : ℕ) (frame : List ℕ) (j x row : ℕ) → IsValidPair pair → j < component_count pair.to.desc
    → floor (coded pair width rows frame x row (first + row) (channel_of pair.to.desc j))
    ≡ pos (result_of pair width rows first frame j x row)
unfolding coded result_of wanted
coded_floor pair width rows first frame j x row valid listed =
    let desc = pair.to.desc in
    let c = channel_of desc j in
    let there : has_channel desc c ≡ true = (has_channels desc valid.to).there j listed in
    let component : component_at desc c ≡ j = (has_channels desc valid.to).component j listed in
    let depth : channel_depth desc c ≡ depth_of desc j =
    cond-true (has_channel desc c) (depth_of desc (component_at desc c)) (depth_of desc 0) there ∙ ap (depth_of desc) component in
    let value = value_at (target_values pair.to (rgb_values pair.from (source_values pair.from width rows frame x row))) c in
    let dither = dither_at pair.dither x (first + row) in
    ap (λ b. floor (limited b (channel_depth desc c) (to_code (channel_levels pair.to c) value +ℚ dither))) there
    ∙ ap (λ d. floor (limited true d (to_code (channel_levels pair.to c) value +ℚ dither))) depth
    ∙ ap (λ l. floor (limited true (depth_of desc j) (to_code l value +ℚ dither))) (levels_there pair.to c there)
    ∙ floor_limited (to_code (levels_of pair.to c) value +ℚ dither) (depth_of desc j)

-- ---- the operations one after the other

-- the last four
abbrev last_steps : Pair → List Op
last_steps pair =
    to_codes pair.to ∷ Dither pair.dither
    ∷ Max (limits pair.to.desc (λ c. nat 0)) ∷ Min (limits pair.to.desc (λ c. nat (2 ^ channel_depth pair.to.desc c - 1))) ∷ []

limited_run : (frame : List ℕ) (position : PixelPosition) (stage : Stage) (pair : Pair) (f : ℕ → ℚ)
    → run_from frame position stage
    (Dither pair.dither ∷ Max (limits pair.to.desc (λ c. nat 0)) ∷ Min
    (limits pair.to.desc (λ c. nat (2 ^ channel_depth pair.to.desc c - 1))) ∷ []) (Fractions (four f))
    ≡ Fractions
    (four (λ c. limited (has_channel pair.to.desc c) (channel_depth pair.to.desc c) (f c +ℚ dither_at pair.dither position.x position.y)))
unfolding run_from apply
limited_run frame position stage pair f = refl

last_run : (frame : List ℕ) (position : PixelPosition) (stage : Stage) (pair : Pair) (e : Values)
    → run_from frame position stage (last_steps pair) (Fractions (four (value_at e)))
    ≡ Fractions
    (four (λ c. limited (has_channel pair.to.desc c) (channel_depth pair.to.desc c)
    (to_code (channel_levels pair.to c) (value_at e c) +ℚ dither_at pair.dither position.x position.y)))
unfolding run_from
last_run frame position stage pair e =
    let rest = Dither pair.dither ∷ Max (limits pair.to.desc (λ c. nat 0)) ∷ Min
    (limits pair.to.desc (λ c. nat (2 ^ channel_depth pair.to.desc c - 1))) ∷ [] in
    ap (run_from frame position (stage_after stage (to_codes pair.to)) rest) (to_codes-applied frame position stage pair.to (value_at e))
    ∙ limited_run frame position (stage_after stage (to_codes pair.to)) pair (λ c. to_code (channel_levels pair.to c) (value_at e c))

source_read : (side : Side) (frame : List ℕ) (position : PixelPosition) → IsValid side.desc
    → Fractions
    (four (λ c. from_code (channel_levels side c) (nat (code_of side.desc position.width position.rows frame position.x position.row c))))
    ≡ Fractions (four (value_at (source_values side position.width position.rows frame position.x position.row)))
unfolding source_values
source_read side frame position valid =
    same_fractions _ _ _ _ _ _ _ _
    (code_means side position.width position.rows frame position.x position.row 0 valid (omega arith))
    (code_means side position.width position.rows frame position.x position.row 1 valid (omega arith))
    (code_means side position.width position.rows frame position.x position.row 2 valid (omega arith))
    (code_means side position.width position.rows frame position.x position.row 3 valid (omega arith))

abbrev to_rgb_step : Pair → List Op
to_rgb_step pair = only_if (not (is_rgb pair.from.desc)) (Linear (over_three (to_rgb_rows pair.from.matrix)))

abbrev from_rgb_step : Pair → List Op
from_rgb_step pair = only_if (not (is_rgb pair.to.desc)) (Linear (over_three (from_rgb_rows pair.to.matrix)))

-- the steps between the values and the codes of the target
middle_run : (frame : List ℕ) (position : PixelPosition) (stage : Stage) (pair : Pair) (e : Values) → IsValidPair pair
    → run_from frame position stage (to_rgb_step pair ++ from_rgb_step pair ++ last_steps pair) (Fractions (four (value_at e)))
    ≡ Fractions (four (λ c. limited (has_channel pair.to.desc c) (channel_depth pair.to.desc c)
    (to_code (channel_levels pair.to c)
    (value_at (target_values pair.to (rgb_values pair.from e)) c) +ℚ dither_at pair.dither position.x position.y)))
middle_run frame position stage pair e valid =
    let second = stage_from stage (to_rgb_step pair) in
    let third = stage_from stage (to_rgb_step pair ++ from_rgb_step pair) in
    let start = Fractions (four (value_at e)) in
    run_from-append frame position stage (to_rgb_step pair ++ from_rgb_step pair) (last_steps pair) start
    ∙ ap (run_from frame position third (last_steps pair))
    (run_from-append frame position stage (to_rgb_step pair) (from_rgb_step pair) start
    ∙ ap (run_from frame position second (from_rgb_step pair)) (to_rgb-run frame position stage pair.from e)
    ∙ from_rgb-run frame position second pair.to (rgb_values pair.from e) valid.to_matrix)
    ∙ last_run frame position third pair (target_values pair.to (rgb_values pair.from e))

first_steps : (frame : List ℕ) (position : PixelPosition) (stage : Stage) (side : Side) (rest : List Op) (code : ℕ → ℕ)
    → run_from frame position stage (Convert Rat Bool.false ∷ from_codes side ∷ rest) (Numbers (four code))
    ≡ run_from frame position (stage_after (Typed Rat) (from_codes side)) rest
    (apply frame position (Typed Rat) (from_codes side) (Fractions (four (λ c. nat (code c)))))
unfolding run_from apply stage_after
first_steps frame position stage side rest code = refl

-- Converting gives the coded values from the codes of the source.
pub convert_run : (pair : Pair) (frame : List ℕ) (position : PixelPosition) (stage : Stage) → IsValidPair pair
    → run_from frame position stage (convert pair)
    (Numbers (four (code_of pair.from.desc position.width position.rows frame position.x position.row)))
    ≡ Fractions (four (coded pair position.width position.rows frame position.x position.row position.y))
unfolding convert coded
convert_run pair frame position stage valid =
    let rest = to_rgb_step pair ++ from_rgb_step pair ++ last_steps pair in
    let code = code_of pair.from.desc position.width position.rows frame position.x position.row in
    let after = stage_after (Typed Rat) (from_codes pair.from) in
    first_steps frame position stage pair.from rest code
    ∙ ap (run_from frame position after rest)
    (from_codes-applied frame position (Typed Rat) pair.from (λ c. nat (code c)) ∙ source_read pair.from frame position valid.from)
    ∙ middle_run frame position after pair (source_values pair.from position.width position.rows frame position.x position.row) valid

-- and their floors are the results
pub floors_are : (pair : Pair) (frame : List ℕ) (position : PixelPosition) (first j : ℕ) → IsValidPair pair → pair.to.desc.palette ≡ false
    → position.y ≡ first + position.row → j < pair.to.desc.count
    → floor (coded pair position.width position.rows frame position.x position.row position.y (channel_of pair.to.desc j))
    ≡ pos (result_of pair position.width position.rows first frame j position.x position.row)
floors_are pair frame position first j valid none here listed =
    let counted : component_count pair.to.desc ≡ pair.to.desc.count = cond-false pair.to.desc.palette 4 pair.to.desc.count none in
    ap (λ y. floor (coded pair position.width position.rows frame position.x position.row y (channel_of pair.to.desc j))) here
    ∙ coded_floor pair position.width position.rows first frame j position.x position.row valid (omega (arith, counted))
