-- The formats of a stream, and their C tags (yuv4mpeg(5), "STREAM HEADER", colour space; those of 4:4:4 and of luma alone).
use Prim.Native.String.{String}
use Rattle.std.specs.Prelude.{ℕ, Bool, List, [], ◌∷◌, Option, Some, find, codes, if◌then◌else◌}
use Rattle.std.specs.Option.{option_map, option_and_then, is_some}
use Rattle.std.specs.Result.{result_ok}
use Rattle.std.specs.Str.{bytes_eq}
use Rattle.desc_table.specs.Format.{name_of}
use Rattle.desc_table.specs.Refused.{lookup}

-- a colour space: the text of its C tag, and the name of its format
pub record ColourSpace : Type 0 where
  pub text : List ℕ
  pub name : List ℕ

abbrev pub space : String → String → ColourSpace
space text name = record { text = codes text; name = codes name }

-- the colour spaces of a stream
unfoldable pub colour_spaces : List ColourSpace
colour_spaces =
    space "444" "yuv444p"
    ∷ space "444p9" "yuv444p9le"
    ∷ space "444p10" "yuv444p10le"
    ∷ space "444p12" "yuv444p12le"
    ∷ space "444p14" "yuv444p14le"
    ∷ space "444p16" "yuv444p16le"
    ∷ space "mono" "gray"
    ∷ space "mono10" "gray10le"
    ∷ space "mono12" "gray12le"
    ∷ space "mono16" "gray16le"
    ∷ []

-- the colour space with this C tag
abbrev pub space_with_text : List ℕ → Option ColourSpace
space_with_text text = find (λ space. bytes_eq space.text text) colour_spaces

-- the colour space of the format with this name
abbrev pub space_with_name : List ℕ → Option ColourSpace
space_with_name name = find (λ space. bytes_eq space.name name) colour_spaces

-- the format with this C tag
unfoldable pub format_of_text : List ℕ → Option ℕ
format_of_text text = option_and_then (λ space. result_ok (lookup space.name)) (space_with_text text)

-- the C tag of the format with this name; yuvj444p has that of yuv444p
unfoldable pub text_of_name : List ℕ → Option (List ℕ)
text_of_name name = if bytes_eq name (codes "yuvj444p") then Some (codes "444") else option_map (λ space. space.text) (space_with_name name)

-- the C tag of a format
abbrev pub text_of_format : ℕ → Option (List ℕ)
text_of_format id = text_of_name (name_of id)

-- the formats that a stream can have
abbrev pub is_stream_format : ℕ → Bool
is_stream_format id = is_some (text_of_format id)
