-- Decoding gives the codes of the channels.
use Rattle.std.proofs.Common.{◌≡◌, ◌<◌, ℕ, ⊎_elim, List, All}
use Rattle.std.proofs.lemmas.Bool.{cases_Bool}
use Rattle.pix_desc.specs.declared.desc.Desc.{Desc}
use Rattle.pix_desc.specs.Layouts.{IsValid}
use Rattle.op_list.specs.declared.position.PixelPosition.{PixelPosition}
use Rattle.op_list.specs.declared.types.Stage.TheVariants.{Start}
use Rattle.op_list.specs.declared.values.Values.TheVariants.{Numbers}
use Rattle.op_list.specs.Values.{four, no_values}
use Rattle.op_list.specs.Run.{run_from}
use Rattle.op_build.specs.Recipe.{decode}
use Rattle.pix_meaning.specs.Channels.{code_of}
use Rattle.op_build.specs.Codes.{GivesCodes}
use Rattle.op_build.proofs.decode.Plain.{decode_plain}
use Rattle.op_build.proofs.decode.Palette.{decode_palette}

pub decode_gives : (desc : Desc) (frame : List ℕ) (position : PixelPosition) → IsValid desc → All (λ byte. byte < 256) frame
    → run_from frame position Start (decode desc) no_values
    ≡ Numbers (four (code_of desc position.width position.rows frame position.x position.row))
decode_gives desc frame position valid bytes =
    ⊎_elim
    (λ palette. decode_palette desc frame position valid palette bytes)
    (λ none. decode_plain desc frame position valid none bytes)
    (cases_Bool desc.palette)

pub gives_codes : (desc : Desc) (frame : List ℕ) (position : PixelPosition) → GivesCodes desc frame position
gives_codes desc frame position = λ valid bytes. decode_gives desc frame position valid bytes
