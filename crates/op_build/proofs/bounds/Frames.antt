-- At each pixel of a frame the checked run of the list of a pair whose sides are of the classes is the exact one.
use Rattle.std.proofs.Common.{◌≡◌, ℕ, ◌^◌, ◌<◌, true, false, if◌then◌else◌, List, ap}
use Rattle.std.specs.Prelude.{Some, All}
use Rattle.std.specs.Option.{option_map}
use Rattle.pix_desc.specs.declared.desc.Desc.{Desc}
use Rattle.pix_desc.specs.Layouts.{IsValid}
use Rattle.pix_meaning.specs.declared.pair.Pair.{Pair}
use Rattle.pix_meaning.specs.Pairs.{IsValidPair, has_channel, component_at, depth_of}
use Rattle.pix_meaning.proofs.PixelLaws.{source_below}
use Rattle.op_list.specs.declared.position.PixelPosition.{PixelPosition}
use Rattle.op_list.specs.Values.{four, number}
use Rattle.op_list.specs.Run.{run, checked_run}
use Rattle.op_build.specs.Meaning.{CheckedRunSucceeds}
use Rattle.pix_meaning.specs.Values.{source_component}
use Rattle.pix_meaning.specs.Channels.{channel_depth, missing_code}
use Rattle.op_build.specs.Recipe.{recipe}
use Rattle.pix_meaning.specs.Channels.{code_of}
use Rattle.op_build.specs.SideClasses.{side_class, side_classes, IsOneOf}
use Rattle.pix_meaning.proofs.ChannelCodes.{missing_code-below}
use Rattle.op_build.proofs.decode.Codes.{decode_gives}
use Rattle.op_build.proofs.bounds.Runs.{recipe_is_there}

-- the code of a channel fits its depth
pub code_below : (desc : Desc) (width rows : ℕ) (frame : List ℕ) (x row c : ℕ) → IsValid desc → All (λ byte. byte < 256) frame
    → code_of desc width rows frame x row c < 2 ^ channel_depth desc c
unfolding code_of
code_below desc width rows frame x row c valid bytes =
    elim (has_channel desc c) as
    (λ b. (if b then source_component desc width rows frame (component_at desc c) x row else missing_code desc c)
    < 2 ^ (if b then depth_of desc (component_at desc c) else depth_of desc 0)) [
      | true ↦ source_below desc width rows frame (component_at desc c) x row bytes
      | false ↦ missing_code-below desc c valid
    ]

pub checked_run_is_there : (pair : Pair) (frame : List ℕ) (width rows x row y : ℕ) → IsValidPair pair
    → IsOneOf (side_class pair.from) side_classes → IsOneOf (side_class pair.to) side_classes → All (λ byte. byte < 256) frame
    → checked_run (recipe pair) frame width rows x row y ≡ Some (run (recipe pair) frame width rows x row y)
unfolding checked_run run
checked_run_is_there pair frame width rows x row y valid from to bytes =
    let position : PixelPosition = record { width = width; rows = rows; x = x; row = row; y = y } in
    ap (λ o. option_map (λ values. four (λ i. number values i)) o)
    (recipe_is_there pair frame position (code_of pair.from.desc width rows frame x row) from to valid.dither
    (decode_gives pair.from.desc frame position valid.from bytes)
    (λ c listed. code_below pair.from.desc width rows frame x row c valid.from bytes))

pub checked_is_there : (pair : Pair) → CheckedRunSucceeds pair
checked_is_there pair =
    λ valid from to frame width rows x row y bytes. checked_run_is_there pair frame width rows x row y valid from to bytes
