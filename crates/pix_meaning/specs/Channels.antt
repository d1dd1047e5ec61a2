-- The four channels of a pixel, also those that the format has not: their depths, levels and codes.
use Rattle.std.specs.Prelude.{ℕ, ◌-◌, ◌^◌, if◌then◌else◌, nat_eq, List}
use Rattle.pix_desc.specs.declared.desc.Desc.{Desc}
use Rattle.colour_matrix.specs.declared.class.Levels.{Levels}
use Rattle.colour_matrix.specs.Levels.{levels}
use Rattle.pix_meaning.specs.declared.pair.Side.{Side}
use Rattle.pix_meaning.specs.Pairs.{has_channel, component_at, class_of, depth_of}
use Rattle.pix_meaning.specs.Values.{source_component}

-- the depth by which a channel goes that the format has not: that of component 0
abbrev pub channel_depth : Desc → ℕ → ℕ
channel_depth desc c = if has_channel desc c then depth_of desc (component_at desc c) else depth_of desc 0

-- the levels by which the code of a channel stands for its value
abbrev pub channel_levels : Side → ℕ → Levels
channel_levels side c = levels (class_of side.desc c) (channel_depth side.desc c) side.range

-- a missing chroma is in the middle of the codes, and a missing alpha is the greatest code
abbrev pub missing_code : Desc → ℕ → ℕ
missing_code desc c = if nat_eq c 3 then 2 ^ depth_of desc 0 - 1 else 2 ^ (depth_of desc 0 - 1)

-- the code of a channel: its component's, and that of a missing channel where the format has it not
unfoldable pub code_of : Desc → ℕ → ℕ → List ℕ → ℕ → ℕ → ℕ → ℕ
code_of desc width rows frame x row c =
    if has_channel desc c then source_component desc width rows frame (component_at desc c) x row else missing_code desc c
