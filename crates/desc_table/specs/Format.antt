-- The pixel formats, their names and descriptors (FFmpeg, libavutil/pixdesc.c, av_pix_fmt_descriptors).
use Prim.Native.String.{String}
use Rattle.std.specs.Prelude.{ℕ, ◌-◌, ◌*◌, ℤ, pos, negsuc, Bool, true, false, List, [], ◌∷◌, ◌++◌, map, length, replicate, slice_index_or}
use Rattle.std.specs.Prelude.{nat_le, codes, if◌then◌else◌}
use Rattle.pix_desc.specs.declared.desc.Comp.{Comp}
use Rattle.pix_desc.specs.declared.desc.Desc.{Desc}
use Rattle.pix_desc.specs.Component.{no_component}

-- a pixel format: the bytes of its name, and its descriptor
pub record Format : Type 0 where
  pub name : List ℕ
  pub desc : Desc

-- a component: its plane, the bytes from one pixel to the next, the bytes before it in its pixel, the bits below it, and its bits
abbrev pub comp : ℕ → ℕ → ℤ → ℕ → ℕ → Comp
comp plane step offset shift depth = record { plane = plane; step = step; offset = offset; shift = shift; depth = depth }

-- a component of plane 0
abbrev pub field : ℕ → ℤ → ℕ → ℕ → Comp
field step offset shift depth = comp 0 step offset shift depth

-- the bytes of a number of so many bits
abbrev pub bytes_of : ℕ → ℕ
bytes_of depth = if nat_le depth 8 then 1 else 2

-- components of this depth, each alone in one of these planes
abbrev pub planar : ℕ → List ℕ → List Comp
planar depth planes = map (λ plane. comp plane (bytes_of depth) (pos 0) 0 depth) planes

-- components of this depth in one plane, where a pixel has so many bytes and they begin at these
abbrev pub packed : ℕ → ℕ → List ℕ → List Comp
packed depth step offsets = map (λ offset. comp 0 step (pos offset) 0 depth) offsets

-- Y alone in plane 0, and U and V together in plane 1, where they begin at these bytes
abbrev pub semi_planar : ℕ → ℕ → ℕ → ℕ → List Comp
semi_planar shift depth u v =
    let bytes = bytes_of depth in
    comp 0 bytes (pos 0) shift depth
    ∷ comp 1 (2 * bytes) (pos u) shift depth
    ∷ comp 1 (2 * bytes) (pos v) shift depth
    ∷ []

-- the four entries of a descriptor: its components, and zeros behind them
abbrev pub four_entries : List Comp → List Comp
four_entries comps = comps ++ replicate (4 - length comps) no_component

-- the little-endian descriptor with these flags (RGB, alpha, palette) and components
abbrev pub described : Bool → Bool → Bool → List Comp → Desc
described rgb alpha palette comps = record {
  count = length comps;
  comps = four_entries comps;
  be = false;
  rgb = rgb;
  alpha = alpha;
  palette = palette;
}

-- Y, or Y, U and V
abbrev pub yuv : List Comp → Desc
yuv = described false false false

-- Y and alpha, or Y, U, V and alpha
abbrev pub yuv_alpha : List Comp → Desc
yuv_alpha = described false true false

-- R, G and B
abbrev pub rgb : List Comp → Desc
rgb = described true false false

-- R, G, B and alpha
abbrev pub rgb_alpha : List Comp → Desc
rgb_alpha = described true true false

-- an index into a palette of 256 entries
abbrev pub indexed : List Comp → Desc
indexed = described false true true

-- a descriptor with big-endian numbers
abbrev pub big_endian : Desc → Desc
big_endian desc = record desc { be = true }

-- a format of this name
abbrev pub one : String → Desc → List Format
one name desc = record { name = codes name; desc = desc } ∷ []

-- a format in both byte orders, little-endian first
abbrev pub both : String → Desc → List Format
both name desc =
    record { name = codes name ++ codes "le"; desc = desc }
    ∷ record { name = codes name ++ codes "be"; desc = big_endian desc }
    ∷ []

-- the table of formats
unfoldable pub formats : List Format
formats =
    one "gray" (yuv (planar 8 (0 ∷ [])))
    ++ both "gray9" (yuv (planar 9 (0 ∷ [])))
    ++ both "gray10" (yuv (planar 10 (0 ∷ [])))
    ++ both "gray12" (yuv (planar 12 (0 ∷ [])))
    ++ both "gray14" (yuv (planar 14 (0 ∷ [])))
    ++ both "gray16" (yuv (planar 16 (0 ∷ [])))
    ++ one "ya8" (yuv_alpha (packed 8 2 (0 ∷ 1 ∷ [])))
    ++ both "ya16" (yuv_alpha (packed 16 4 (0 ∷ 2 ∷ [])))
    ++ one "rgb24" (rgb (packed 8 3 (0 ∷ 1 ∷ 2 ∷ [])))
    ++ one "bgr24" (rgb (packed 8 3 (2 ∷ 1 ∷ 0 ∷ [])))
    ++ one "argb" (rgb_alpha (packed 8 4 (1 ∷ 2 ∷ 3 ∷ 0 ∷ [])))
    ++ one "rgba" (rgb_alpha (packed 8 4 (0 ∷ 1 ∷ 2 ∷ 3 ∷ [])))
    ++ one "abgr" (rgb_alpha (packed 8 4 (3 ∷ 2 ∷ 1 ∷ 0 ∷ [])))
    ++ one "bgra" (rgb_alpha (packed 8 4 (2 ∷ 1 ∷ 0 ∷ 3 ∷ [])))
    ++ one "0rgb" (rgb (packed 8 4 (1 ∷ 2 ∷ 3 ∷ [])))
    ++ one "rgb0" (rgb (packed 8 4 (0 ∷ 1 ∷ 2 ∷ [])))
    ++ one "0bgr" (rgb (packed 8 4 (3 ∷ 2 ∷ 1 ∷ [])))
    ++ one "bgr0" (rgb (packed 8 4 (2 ∷ 1 ∷ 0 ∷ [])))
    ++ both "rgb48" (rgb (packed 16 6 (0 ∷ 2 ∷ 4 ∷ [])))
    ++ both "bgr48" (rgb (packed 16 6 (4 ∷ 2 ∷ 0 ∷ [])))
    ++ both "rgba64" (rgb_alpha (packed 16 8 (0 ∷ 2 ∷ 4 ∷ 6 ∷ [])))
    ++ both "bgra64" (rgb_alpha (packed 16 8 (4 ∷ 2 ∷ 0 ∷ 6 ∷ [])))
    ++ one "rgb565le" (rgb (field 2 (pos 1) 3 5 ∷ field 2 (pos 0) 5 6 ∷ field 2 (pos 0) 0 5 ∷ []))
    ++ one "rgb565be" (big_endian (rgb (field 2 (negsuc 0) 3 5 ∷ field 2 (pos 0) 5 6 ∷ field 2 (pos 0) 0 5 ∷ [])))
    ++ one "rgb555le" (rgb (field 2 (pos 1) 2 5 ∷ field 2 (pos 0) 5 5 ∷ field 2 (pos 0) 0 5 ∷ []))
    ++ one "rgb555be" (big_endian (rgb (field 2 (negsuc 0) 2 5 ∷ field 2 (pos 0) 5 5 ∷ field 2 (pos 0) 0 5 ∷ [])))
    ++ one "rgb444le" (rgb (field 2 (pos 1) 0 4 ∷ field 2 (pos 0) 4 4 ∷ field 2 (pos 0) 0 4 ∷ []))
    ++ one "rgb444be" (big_endian (rgb (field 2 (negsuc 0) 0 4 ∷ field 2 (pos 0) 4 4 ∷ field 2 (pos 0) 0 4 ∷ [])))
    ++ one "bgr565le" (rgb (field 2 (pos 0) 0 5 ∷ field 2 (pos 0) 5 6 ∷ field 2 (pos 1) 3 5 ∷ []))
    ++ one "bgr565be" (big_endian (rgb (field 2 (pos 0) 0 5 ∷ field 2 (pos 0) 5 6 ∷ field 2 (negsuc 0) 3 5 ∷ [])))
    ++ one "bgr555le" (rgb (field 2 (pos 0) 0 5 ∷ field 2 (pos 0) 5 5 ∷ field 2 (pos 1) 2 5 ∷ []))
    ++ one "bgr555be" (big_endian (rgb (field 2 (pos 0) 0 5 ∷ field 2 (pos 0) 5 5 ∷ field 2 (negsuc 0) 2 5 ∷ [])))
    ++ one "bgr444le" (rgb (field 2 (pos 0) 0 4 ∷ field 2 (pos 0) 4 4 ∷ field 2 (pos 1) 0 4 ∷ []))
    ++ one "bgr444be" (big_endian (rgb (field 2 (pos 0) 0 4 ∷ field 2 (pos 0) 4 4 ∷ field 2 (negsuc 0) 0 4 ∷ [])))
    ++ one "rgb8" (rgb (field 1 (pos 0) 5 3 ∷ field 1 (pos 0) 2 3 ∷ field 1 (pos 0) 0 2 ∷ []))
    ++ one "bgr8" (rgb (field 1 (pos 0) 0 3 ∷ field 1 (pos 0) 3 3 ∷ field 1 (pos 0) 6 2 ∷ []))
    ++ one "rgb4_byte" (rgb (field 1 (pos 0) 3 1 ∷ field 1 (pos 0) 1 2 ∷ field 1 (pos 0) 0 1 ∷ []))
    ++ one "bgr4_byte" (rgb (field 1 (pos 0) 0 1 ∷ field 1 (pos 0) 1 2 ∷ field 1 (pos 0) 3 1 ∷ []))
    ++ one "x2rgb10le" (rgb (field 4 (pos 2) 4 10 ∷ field 4 (pos 1) 2 10 ∷ field 4 (pos 0) 0 10 ∷ []))
    ++ one "x2rgb10be" (big_endian (rgb (field 4 (pos 0) 4 10 ∷ field 4 (pos 1) 2 10 ∷ field 4 (pos 2) 0 10 ∷ [])))
    ++ one "x2bgr10le" (rgb (field 4 (pos 0) 0 10 ∷ field 4 (pos 1) 2 10 ∷ field 4 (pos 2) 4 10 ∷ []))
    ++ one "x2bgr10be" (big_endian (rgb (field 4 (pos 2) 0 10 ∷ field 4 (pos 1) 2 10 ∷ field 4 (pos 0) 4 10 ∷ [])))
    ++ one "yuv444p" (yuv (planar 8 (0 ∷ 1 ∷ 2 ∷ [])))
    ++ one "yuvj444p" (yuv (planar 8 (0 ∷ 1 ∷ 2 ∷ [])))
    ++ both "yuv444p9" (yuv (planar 9 (0 ∷ 1 ∷ 2 ∷ [])))
    ++ both "yuv444p10" (yuv (planar 10 (0 ∷ 1 ∷ 2 ∷ [])))
    ++ both "yuv444p12" (yuv (planar 12 (0 ∷ 1 ∷ 2 ∷ [])))
    ++ both "yuv444p14" (yuv (planar 14 (0 ∷ 1 ∷ 2 ∷ [])))
    ++ both "yuv444p16" (yuv (planar 16 (0 ∷ 1 ∷ 2 ∷ [])))
    ++ one "yuva444p" (yuv_alpha (planar 8 (0 ∷ 1 ∷ 2 ∷ 3 ∷ [])))
    ++ both "yuva444p9" (yuv_alpha (planar 9 (0 ∷ 1 ∷ 2 ∷ 3 ∷ [])))
    ++ both "yuva444p10" (yuv_alpha (planar 10 (0 ∷ 1 ∷ 2 ∷ 3 ∷ [])))
    ++ both "yuva444p12" (yuv_alpha (planar 12 (0 ∷ 1 ∷ 2 ∷ 3 ∷ [])))
    ++ both "yuva444p16" (yuv_alpha (planar 16 (0 ∷ 1 ∷ 2 ∷ 3 ∷ [])))
    ++ one "gbrp" (rgb (planar 8 (2 ∷ 0 ∷ 1 ∷ [])))
    ++ both "gbrp9" (rgb (planar 9 (2 ∷ 0 ∷ 1 ∷ [])))
    ++ both "gbrp10" (rgb (planar 10 (2 ∷ 0 ∷ 1 ∷ [])))
    ++ both "gbrp12" (rgb (planar 12 (2 ∷ 0 ∷ 1 ∷ [])))
    ++ both "gbrp14" (rgb (planar 14 (2 ∷ 0 ∷ 1 ∷ [])))
    ++ both "gbrp16" (rgb (planar 16 (2 ∷ 0 ∷ 1 ∷ [])))
    ++ one "gbrap" (rgb_alpha (planar 8 (2 ∷ 0 ∷ 1 ∷ 3 ∷ [])))
    ++ both "gbrap10" (rgb_alpha (planar 10 (2 ∷ 0 ∷ 1 ∷ 3 ∷ [])))
    ++ both "gbrap12" (rgb_alpha (planar 12 (2 ∷ 0 ∷ 1 ∷ 3 ∷ [])))
    ++ both "gbrap14" (rgb_alpha (planar 14 (2 ∷ 0 ∷ 1 ∷ 3 ∷ [])))
    ++ both "gbrap16" (rgb_alpha (planar 16 (2 ∷ 0 ∷ 1 ∷ 3 ∷ [])))
    ++ both "ayuv64" (yuv_alpha (packed 16 8 (2 ∷ 4 ∷ 6 ∷ 0 ∷ [])))
    ++ one "vuya" (yuv_alpha (packed 8 4 (2 ∷ 1 ∷ 0 ∷ 3 ∷ [])))
    ++ one "vuyx" (yuv (packed 8 4 (2 ∷ 1 ∷ 0 ∷ [])))
    ++ one "ayuv" (yuv_alpha (packed 8 4 (1 ∷ 2 ∷ 3 ∷ 0 ∷ [])))
    ++ one "uyva" (yuv_alpha (packed 8 4 (1 ∷ 0 ∷ 2 ∷ 3 ∷ [])))
    ++ one "vyu444" (yuv (packed 8 3 (1 ∷ 2 ∷ 0 ∷ [])))
    ++ one "nv24" (yuv (semi_planar 0 8 0 1))
    ++ one "nv42" (yuv (semi_planar 0 8 1 0))
    ++ both "p410" (yuv (semi_planar 6 10 0 2))
    ++ both "p412" (yuv (semi_planar 4 12 0 2))
    ++ both "p416" (yuv (semi_planar 0 16 0 2))
    ++ one "pal8" (indexed (field 1 (pos 0) 0 8 ∷ []))

-- how many formats there are
abbrev pub format_count : ℕ
format_count = length formats

-- a format of no name and no component
abbrev pub no_format : Format
no_format = record { name = []; desc = yuv [] }

-- the format at a row, counted from 0
unfoldable pub format_at : ℕ → Format
format_at row = slice_index_or formats row no_format

-- the name of the format at a row
abbrev pub name_of : ℕ → List ℕ
name_of row = (format_at row).name

-- the descriptor of the format at a row
abbrev pub desc_of : ℕ → Desc
desc_of row = (format_at row).desc
