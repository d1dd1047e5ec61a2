-- The codes of a source pixel's channels, and that the first part of the recipe gives them.
use Rattle.std.specs.Prelude.{◌≡◌, ◌<◌, true, ℕ, if◌then◌else◌, List, All}
use Rattle.pix_desc.specs.declared.desc.Desc.{Desc}
use Rattle.pix_desc.specs.Layouts.{IsValid}
use Rattle.op_list.specs.declared.position.PixelPosition.{PixelPosition}
use Rattle.op_list.specs.declared.types.PixType.{PixType}
use Rattle.op_list.specs.declared.types.PixType.TheVariants.{U8}
use Rattle.op_list.specs.declared.types.Stage.TheVariants.{Start, Typed}
use Rattle.op_list.specs.declared.values.Values.TheVariants.{Numbers}
use Rattle.op_list.specs.Types.{is_whole_type}
use Rattle.op_list.specs.Typing.{stage_from}
use Rattle.op_list.specs.Values.{four, no_values}
use Rattle.op_list.specs.Run.{run_from}
use Rattle.op_build.specs.ElementType.{element_type}
use Rattle.pix_meaning.specs.Channels.{code_of}
use Rattle.op_build.specs.Recipe.{decode}

-- decoding gives the codes of the channels at a pixel
abbrev pub GivesCodes : Desc → List ℕ → PixelPosition → Type 0
GivesCodes desc frame position = IsValid desc → All (λ byte. byte < 256) frame
    → run_from frame position Start (decode desc) no_values
    ≡ Numbers (four (code_of desc position.width position.rows frame position.x position.row))

-- the type of the codes
abbrev pub decoded_type : Desc → PixType
decoded_type desc = if desc.palette then U8 else element_type desc

-- decoding leaves values of that type, and it is a whole one
pub record HasWholeType (desc : Desc) : Type 0 where
  pub stage : stage_from Start (decode desc) ≡ Typed (decoded_type desc)
  pub whole : is_whole_type (decoded_type desc) ≡ true

abbrev pub IsWholeTyped : Desc → Type 0
IsWholeTyped desc = IsValid desc → HasWholeType desc
