-- The tags of a header line (yuv4mpeg(5), "STREAM HEADER").
use Prim.Native.String.{String}
use Rattle.std.specs.Prelude.{ℕ, Bool, false, List, [], ◌∷◌, length, drop, filter, filter_map, Option, None, Some, codes, slice_index}
use Rattle.std.specs.Prelude.{nat_lt, ◌==◌, if◌then◌else◌}
use Rattle.std.specs.List.{slice_split, list_any, last_or}
use Rattle.std.specs.Option.{option_map}
use Rattle.std.specs.Str.{bytes_eq}
use Rattle.colour_matrix.specs.declared.class.Range.{Range}
use Rattle.colour_matrix.specs.declared.class.Range.TheVariants.{Full, Limited}

-- what a header line begins with
abbrev pub magic : List ℕ
magic = codes "YUV4MPEG2"

-- the byte that stands between tags
abbrev pub is_space : ℕ → Bool
is_space byte = byte == 32

-- a tag has a byte or more
abbrev pub is_tag : List ℕ → Bool
is_tag part = nat_lt 0 (length part)

-- the parts of a text between its spaces, without the empty ones
abbrev pub tags_in : List ℕ → List (List ℕ)
tags_in text = filter is_tag (slice_split is_space text)

-- the tags of a header line: those behind its first word
abbrev pub tags_of : List ℕ → List (List ℕ)
tags_of line = tags_in (drop (length magic) line)

-- the code of a letter
abbrev pub letter : String → ℕ
letter text = slice_index (codes text) 0

-- the tag begins with this letter
abbrev pub has_letter : ℕ → List ℕ → Bool
has_letter code [] = false
has_letter code (first ∷ text) = first == code

-- the letters that a tag may begin with
abbrev pub is_known_tag : List ℕ → Bool
is_known_tag tag = list_any (λ code. has_letter code tag) (codes "WHFIACX")

-- the text behind the letter of the last tag that has it
abbrev pub text_of : ℕ → List (List ℕ) → Option (List ℕ)
text_of code tags = option_map (drop 1) (last_or None (filter (has_letter code) tags))

-- the range that a tag names
abbrev pub range_named : List ℕ → Option Range
range_named tag =
    if bytes_eq tag (codes "XCOLORRANGE=FULL") then Some Full
    else (if bytes_eq tag (codes "XCOLORRANGE=LIMITED") then Some Limited else None)

-- the last of the ranges that the tags name
abbrev pub range_of : List (List ℕ) → Option Range
range_of tags = last_or None (filter_map range_named tags)
