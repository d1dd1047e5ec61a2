-- The list of a valid pair means the target rows: decoding, conversion and encoding, one behind the other.
use Rattle.std.proofs.Common.{◌≡◌, ◌<◌, ℕ, ◌+◌, false, List, All, sym, refl, ap, ◌∙◌}
use Rattle.pix_desc.specs.Frame.{frame_of}
use Rattle.pix_meaning.specs.declared.pair.Pair.{Pair}
use Rattle.pix_meaning.specs.Pairs.{IsValidPair}
use Rattle.pix_meaning.specs.Target.{result_of, target_rows}
use Rattle.pix_meaning.proofs.TargetLaws.{results_fit}
use Rattle.op_list.specs.declared.position.PixelPosition.{PixelPosition}
use Rattle.op_list.specs.declared.types.Stage.TheVariants.{Start}
use Rattle.op_list.specs.declared.values.Values.TheVariants.{Numbers, Fractions}
use Rattle.op_list.specs.Values.{four, number, no_values}
use Rattle.op_list.specs.Typing.{stage_from}
use Rattle.op_list.specs.Run.{run, run_from}
use Rattle.op_list.proofs.Runs.{run_from-three}
use Rattle.op_list.proofs.Typed.{stage_from-append}
use Rattle.op_build.specs.Recipe.{decode, convert, encode, recipe}
use Rattle.op_build.specs.Meaning.{elements_at, MeansItsTarget}
use Rattle.op_build.proofs.decode.Codes.{decode_gives}
use Rattle.op_build.proofs.convert.Coded.{coded, convert_run, floors_are}
use Rattle.op_build.proofs.encode.Elements.{encode_gives}
use Rattle.op_build.proofs.recipe.Typed.{front_typed}

recipe_run : (pair : Pair) (frame : List ℕ) (position : PixelPosition) (first : ℕ) → IsValidPair pair → pair.to.desc.palette ≡ false
    → All (λ byte. byte < 256) frame → position.y ≡ first + position.row
    → position.x < position.width → position.row < position.rows
    → run_from frame position Start (recipe pair) no_values
    ≡ Numbers
    (elements_at pair.to.desc
    (frame_of pair.to.desc position.width position.rows
    (result_of pair position.width position.rows first frame)) position.width position.rows position.x position.row)
unfolding recipe
recipe_run pair frame position first valid none bytes dither across down =
    let stage = stage_from Start (decode pair.from.desc) in
    run_from-three frame position Start (decode pair.from.desc) (convert pair) (encode pair.to.desc) no_values
    ∙ ap (λ values. run_from frame position (stage_from stage (convert pair)) (encode pair.to.desc)
    (run_from frame position stage (convert pair) values)) (decode_gives pair.from.desc frame position valid.from bytes)
    ∙ ap (run_from frame position (stage_from stage (convert pair)) (encode pair.to.desc)) (convert_run pair frame position stage valid)
    ∙ ap (λ s. run_from frame position s (encode pair.to.desc)
    (Fractions (four (coded pair position.width position.rows frame position.x position.row position.y))))
    (sym (stage_from-append Start (decode pair.from.desc) (convert pair)) ∙ (front_typed pair valid).leaves)
    ∙ encode_gives pair.to.desc frame position (result_of pair position.width position.rows first frame)
    (coded pair position.width position.rows frame position.x position.row position.y) valid.to none
    (results_fit pair position.width position.rows first frame none)
    (λ j listed. floors_are pair frame position first j valid none dither listed) across down

pub means_target : (pair : Pair) → MeansItsTarget pair
unfolding run target_rows
means_target pair = λ valid none frame width rows first x row bytes size across down.
    ap (λ values. four (λ i. number values i))
    (recipe_run pair frame
    (record { width = width; rows = rows; x = x; row = row; y = first + row }) first valid none bytes refl across down)
