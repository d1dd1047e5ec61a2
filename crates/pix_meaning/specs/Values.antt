-- From the codes of a source pixel to the value that is wanted of each component of the target. Nothing is rounded or clamped on the way.
use Rattle.std.specs.Prelude.{ℕ, zero, suc, ◌+◌, ◌*◌, List, slice_index, nat_eq, if◌then◌else◌}
use Rattle.frac_math.specs.Fraction.{ℚ, nat}
use Rattle.pix_desc.specs.Frame.{frame_component}
use Rattle.pix_desc.specs.declared.desc.Desc.{Desc}
use Rattle.colour_matrix.specs.Values.{Values, value_at}
use Rattle.colour_matrix.specs.Levels.{from_code, to_code}
use Rattle.colour_matrix.specs.Colour.{to_rgb, from_rgb}
use Rattle.pix_meaning.specs.declared.pair.Side.{Side}
use Rattle.pix_meaning.specs.declared.pair.Pair.{Pair}
use Rattle.pix_meaning.specs.Pairs.{is_rgb, has_channel, component_at, channel_of, levels_of}

-- An entry of a palette is a little-endian number of four bytes with alpha highest, then red, green and blue. These are the bytes of its
-- components red, green, blue and alpha.
abbrev pub entry_byte : ℕ → ℕ
entry_byte zero = 2
entry_byte (suc zero) = 1
entry_byte (suc (suc zero)) = 0
entry_byte (suc (suc (suc j))) = 3

-- component j of an entry; the 256 entries stand behind the indices of all pixels (FFmpeg's libavutil/pixdesc.h, AV_PIX_FMT_FLAG_PAL)
abbrev pub entry_component : ℕ → ℕ → List ℕ → ℕ → ℕ → ℕ
entry_component width height frame index j = slice_index frame (width * height + 4 * index + entry_byte j)

-- the code of component j of the pixel at x and y
unfoldable pub source_component : Desc → ℕ → ℕ → List ℕ → ℕ → ℕ → ℕ → ℕ
source_component desc width height frame j x y =
    if desc.palette then entry_component width height frame (frame_component desc width height frame 0 x y) j
    else frame_component desc width height frame j x y

-- the value of channel c of the pixel at x and y; gray has the chroma 0, and a missing alpha is 1
unfoldable pub source_value : Side → ℕ → ℕ → List ℕ → ℕ → ℕ → ℕ → ℚ
source_value side width height frame x y c =
    if has_channel side.desc c then
    from_code (levels_of side c) (nat (source_component side.desc width height frame (component_at side.desc c) x y))
    else (if nat_eq c 3 then nat 1 else nat 0)

-- the values of all channels of the pixel at x and y
unfoldable pub source_values : Side → ℕ → ℕ → List ℕ → ℕ → ℕ → Values
source_values side width height frame x y = record {
  first = source_value side width height frame x y 0;
  second = source_value side width height frame x y 1;
  third = source_value side width height frame x y 2;
  fourth = source_value side width height frame x y 3;
}

-- R, G, B and alpha, by the source's matrix (ITU-T H.273 section 8.3, matrix coefficients)
unfoldable pub rgb_values : Side → Values → Values
rgb_values from v = if is_rgb from.desc then v else to_rgb from.matrix v

-- the values of the target's channels, by the target's matrix
unfoldable pub target_values : Side → Values → Values
target_values to v = if is_rgb to.desc then v else from_rgb to.matrix v

-- the value wanted of the target's component j at x and y, as a code that is not yet rounded
unfoldable pub wanted : Pair → ℕ → ℕ → List ℕ → ℕ → ℕ → ℕ → ℚ
wanted pair width height frame j x y =
    let c = channel_of pair.to.desc j in
    to_code (levels_of pair.to c) (value_at
    (target_values pair.to (rgb_values pair.from (source_values pair.from width height frame x y))) c)
