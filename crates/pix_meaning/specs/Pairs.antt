-- What a pair of formats is, and how the components of a format are taken for colours.
use Rattle.std.specs.Prelude.{ℕ, zero, suc, ◌+◌, ◌-◌, ◌≤◌, Bool, ◌&&◌, ◌||◌, nat_eq, nat_le, if◌then◌else◌}
use Rattle.pix_desc.specs.declared.desc.Desc.{Desc}
use Rattle.pix_desc.specs.Component.{component_of}
use Rattle.pix_desc.specs.Layouts.{IsValid}
use Rattle.colour_matrix.specs.Matrix.{IsMatrix}
use Rattle.colour_matrix.specs.Levels.{levels}
use Rattle.colour_matrix.specs.declared.class.Class.{Class}
use Rattle.colour_matrix.specs.declared.class.Class.TheVariants.{Direct, Luma, Chroma}
use Rattle.colour_matrix.specs.declared.class.Levels.{Levels}
use Rattle.pix_meaning.specs.declared.pair.Side.{Side}
use Rattle.pix_meaning.specs.declared.pair.Pair.{Pair}

-- A pair is valid where both descriptors pass the check, both matrices are within their bounds, and the dither is 0 to 4. A matrix is three
-- plain numbers in the code, so its bounds are a part of a valid pair.
pub record IsValidPair (pair : Pair) : Type 0 where
  pub from : IsValid pair.from.desc
  pub to : IsValid pair.to.desc
  pub from_matrix : IsMatrix pair.from.matrix
  pub to_matrix : IsMatrix pair.to.matrix
  pub dither : pair.dither ≤ 4

-- A format of red, green and blue. A palette format is one too, by its entries: its own component is an index, and its flag for RGB is not
-- set (FFmpeg's libavutil/pixdesc.h, AV_PIX_FMT_FLAG_RGB and AV_PIX_FMT_FLAG_PAL).
abbrev pub is_rgb : Desc → Bool
is_rgb desc = desc.rgb || desc.palette

-- the components of a pixel: those of the descriptor, or the red, green, blue and alpha of a palette's entry
abbrev pub component_count : Desc → ℕ
component_count desc = if desc.palette then 4 else desc.count

-- the bits of component j, where each part of a palette's entry has 8
abbrev pub depth_of : Desc → ℕ → ℕ
depth_of desc j = if desc.palette then 8 else (component_of desc j).depth

-- A channel is one of a pixel's four values: 0 to 3 are R, G, B and alpha, or Y, U, V and alpha. Gray has no channels 1 and 2
-- (pixdesc.h, AVPixFmtDescriptor, comp).
abbrev pub has_channel : Desc → ℕ → Bool
has_channel desc zero = Bool.true
has_channel desc (suc zero) = is_rgb desc || nat_le 3 desc.count
has_channel desc (suc (suc zero)) = is_rgb desc || nat_le 3 desc.count
has_channel desc (suc (suc (suc c))) = desc.alpha

-- the component that gives a channel which is there: alpha is the last component, and the others are numbered as their channels
abbrev pub component_at : Desc → ℕ → ℕ
component_at desc c = if nat_eq c 3 then component_count desc - 1 else c

-- the channel that a component gives
abbrev pub channel_of : Desc → ℕ → ℕ
channel_of desc j = if desc.alpha && nat_eq (j + 1) (component_count desc) then 3 else j

-- R, G, B and alpha are direct; the first component of any other format is luma, and its second and third are chroma
abbrev pub class_of : Desc → ℕ → Class
class_of desc zero = if is_rgb desc then Direct else Luma
class_of desc (suc zero) = if is_rgb desc then Direct else Chroma
class_of desc (suc (suc zero)) = if is_rgb desc then Direct else Chroma
class_of desc (suc (suc (suc c))) = Direct

-- the scale and base of a channel (ITU-T H.273 section 8.3)
abbrev pub levels_of : Side → ℕ → Levels
levels_of side c = levels (class_of side.desc c) (depth_of side.desc (component_at side.desc c)) side.range
