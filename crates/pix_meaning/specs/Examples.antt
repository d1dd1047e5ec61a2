-- Worked conversions: some formats, and frames with their target frames byte by byte.
use Rattle.std.specs.Prelude.{◌≡◌, ℕ, Bool, true, false, ℤ, pos, negsuc, List, [], ◌∷◌, ◌++◌, replicate}
use Rattle.pix_desc.specs.declared.desc.Comp.{Comp}
use Rattle.pix_desc.specs.declared.desc.Desc.{Desc}
use Rattle.pix_desc.specs.Component.{no_component}
use Rattle.colour_matrix.specs.Matrix.{bt601, bt709}
use Rattle.colour_matrix.specs.declared.class.Range.TheVariants.{Full, Limited}
use Rattle.pix_meaning.specs.declared.pair.Side.{Side}
use Rattle.pix_meaning.specs.declared.pair.Pair.{Pair}
use Rattle.pix_meaning.specs.Target.{target_rows, target_frame}

-- the plane, step, offset, shift and depth of a component
abbrev pub comp : ℕ → ℕ → ℤ → ℕ → ℕ → Comp
comp plane step offset shift depth = record { plane = plane; step = step; offset = offset; shift = shift; depth = depth }

-- gray, of one component
abbrev pub luma_alone : Comp → Desc
luma_alone y = record {
  count = 1;
  comps = y ∷ no_component ∷ no_component ∷ no_component ∷ [];
  be = false;
  rgb = false;
  alpha = false;
  palette = false;
}

-- three components in little-endian order, without alpha
abbrev pub opaque : Bool → Comp → Comp → Comp → Desc
opaque rgb a b c = record { count = 3; comps = a ∷ b ∷ c ∷ no_component ∷ []; be = false; rgb = rgb; alpha = false; palette = false }

-- gray of 8 bits
abbrev pub gray : Desc
gray = luma_alone (comp 0 1 (pos 0) 0 8)

-- gray of 10 bits in two bytes
abbrev pub gray10le : Desc
gray10le = luma_alone (comp 0 2 (pos 0) 0 10)

-- gray of 16 bits
abbrev pub gray16le : Desc
gray16le = luma_alone (comp 0 2 (pos 0) 0 16)

-- red, green and blue, a byte each
abbrev pub rgb24 : Desc
rgb24 = opaque true (comp 0 3 (pos 0) 0 8) (comp 0 3 (pos 1) 0 8) (comp 0 3 (pos 2) 0 8)

-- red, green and blue of 5, 6 and 5 bits in two bytes, the high byte first
abbrev pub rgb565be : Desc
rgb565be = record (opaque true (comp 0 2 (negsuc 0) 3 5) (comp 0 2 (pos 0) 5 6) (comp 0 2 (pos 0) 0 5)) { be = true }

-- red, green, blue and alpha, a byte each
abbrev pub rgba : Desc
rgba = record {
  count = 4;
  comps = comp 0 4 (pos 0) 0 8 ∷ comp 0 4 (pos 1) 0 8 ∷ comp 0 4 (pos 2) 0 8 ∷ comp 0 4 (pos 3) 0 8 ∷ [];
  be = false;
  rgb = true;
  alpha = true;
  palette = false;
}

-- planes of Y, U and V of 8 bits
abbrev pub yuv444p : Desc
yuv444p = opaque false (comp 0 1 (pos 0) 0 8) (comp 1 1 (pos 0) 0 8) (comp 2 1 (pos 0) 0 8)

-- planes of Y, U and V of 10 bits in two bytes
abbrev pub yuv444p10le : Desc
yuv444p10le = opaque false (comp 0 2 (pos 0) 0 10) (comp 1 2 (pos 0) 0 10) (comp 2 2 (pos 0) 0 10)

-- a plane of Y and a plane of U and V, of 10 bits above 6 spare bits
abbrev pub p410le : Desc
p410le = opaque false (comp 0 2 (pos 0) 6 10) (comp 1 4 (pos 0) 6 10) (comp 1 4 (pos 2) 6 10)

-- an index of 8 bits into a palette
abbrev pub pal8 : Desc
pal8 = record gray { alpha = true; palette = true }

-- entry 1 of the palette is B 10, G 40, R FF and alpha 80, and all others are 0
abbrev pub palette : List ℕ
palette = replicate 4 0 ++ (0x10 ∷ 0x40 ∷ 0xFF ∷ 0x80 ∷ []) ++ replicate 1016 0

-- a side of full range with the matrix bt601
abbrev pub full : Desc → Side
full desc = record { desc = desc; matrix = bt601; range = Full }

-- a side of limited range with the matrix bt601
abbrev pub limited : Desc → Side
limited desc = record { desc = desc; matrix = bt601; range = Limited }

-- a pair of two sides with a dither
abbrev pub with_dither : ℕ → Side → Side → Pair
with_dither dither from to = record { from = from; to = to; dither = dither }

-- the target frame of a frame of one pixel, rounded to the nearest
abbrev pub converted : Side → Side → List ℕ → List ℕ
converted from to frame = target_frame (with_dither 0 from to) 1 1 frame

-- a frame of 2 by 2 pixels of gray, each the half of 65536
abbrev pub halves : List ℕ
halves = 0x00 ∷ 0x80 ∷ 0x00 ∷ 0x80 ∷ 0x00 ∷ 0x80 ∷ 0x00 ∷ 0x80 ∷ []

-- Some conversions, byte by byte.
pub record WorkedConversions : Type 0 where
  -- 32768/257 is above 127.5, and 32767/257 is below
  pub rounded_up : converted (full gray16le) (full gray) (0x00 ∷ 0x80 ∷ []) ≡ 0x80 ∷ []
  pub rounded_down : converted (full gray16le) (full gray) (0xFF ∷ 0x7F ∷ []) ≡ 0x7F ∷ []
  -- red to luma and chroma, and back
  pub red : converted (full rgb24) (limited yuv444p) (0xFF ∷ 0x00 ∷ 0x00 ∷ []) ≡ 0x51 ∷ 0x5A ∷ 0xF0 ∷ []
  pub red_back : converted (limited yuv444p) (full rgb24) (0x51 ∷ 0x5A ∷ 0xF0 ∷ []) ≡ 0xFE ∷ 0x00 ∷ 0x00 ∷ []
  -- the chroma 255.5 rounds to 256, and is clamped to 255
  pub blue_clamped : converted (full rgb24) (full yuv444p) (0x00 ∷ 0x00 ∷ 0xFF ∷ []) ≡ 0x1D ∷ 0xFF ∷ 0x6B ∷ []
  -- green is another gray by another matrix
  pub green : converted (full rgb24) (full gray) (0x00 ∷ 0xFF ∷ 0x00 ∷ []) ≡ 0x96 ∷ []
  pub green_bt709 : converted (full rgb24) (record (full gray) { matrix = bt709 }) (0x00 ∷ 0xFF ∷ 0x00 ∷ []) ≡ 0xB6 ∷ []
  -- gray has neutral chroma, and a missing alpha is the greatest
  pub neutral_chroma : converted (full gray) (limited yuv444p) (0x80 ∷ []) ≡ 0x7E ∷ 0x80 ∷ 0x80 ∷ []
  pub missing_alpha : converted (full rgb24) (full rgba) (0x01 ∷ 0x02 ∷ 0x03 ∷ []) ≡ 0x01 ∷ 0x02 ∷ 0x03 ∷ 0xFF ∷ []
  -- the bits above the depth are ignored, and the spare bits of the target are 0
  pub bits_above : converted (full yuv444p10le) (full gray10le) (0x01 ∷ 0xFC ∷ 0x01 ∷ 0xFC ∷ 0x01 ∷ 0xFC ∷ []) ≡ 0x01 ∷ 0x00 ∷ []
  pub spare_bits : converted (limited yuv444p) (limited p410le) (0x10 ∷ 0x80 ∷ 0x80 ∷ []) ≡ 0x00 ∷ 0x10 ∷ 0x00 ∷ 0x80 ∷ 0x00 ∷ 0x80 ∷ []
  -- 16/31, 32/63 and 16/31 of a pixel of two bytes in big-endian order
  pub packed : converted (full rgb565be) (full rgb24) (0x84 ∷ 0x10 ∷ []) ≡ 0x84 ∷ 0x82 ∷ 0x84 ∷ []
  -- a palette's entry
  pub index : converted (full pal8) (full rgba) (0x01 ∷ palette) ≡ 0xFF ∷ 0x40 ∷ 0x10 ∷ 0x80 ∷ []
  -- 127.502 with the ordered dither of 2 by 2, in a whole frame, and in its second row alone
  pub dithered : target_frame (with_dither 1 (full gray16le) (full gray)) 2 2 halves ≡ 0x7F ∷ 0x80 ∷ 0x80 ∷ 0x7F ∷ []
  pub dithered_row : target_rows (with_dither 1 (full gray16le) (full gray)) 2 1 1 (0x00 ∷ 0x80 ∷ 0x00 ∷ 0x80 ∷ []) ≡ 0x80 ∷ 0x7F ∷ []
