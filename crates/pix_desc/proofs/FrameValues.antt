-- Raw frames with known bytes, by computation.
use Rattle.std.proofs.Common.{◌≡◌, ℕ, Bool, true, false, ℤ, pos, negsuc, List, [], ◌∷◌, get_or, refl}
use Rattle.pix_desc.specs.declared.desc.Comp.{Comp}
use Rattle.pix_desc.specs.declared.desc.Desc.{Desc}
use Rattle.pix_desc.specs.Component.{no_component}
use Rattle.pix_desc.specs.Frame.{frame_of, frame_length, row_start, frame_component}

-- a component: plane, step, offset, shift, depth
abbrev comp : ℕ → ℕ → ℤ → ℕ → ℕ → Comp
comp plane step offset shift depth = record { plane = plane; step = step; offset = offset; shift = shift; depth = depth }

abbrev opaque : Comp → Comp → Comp → Bool → Bool → Desc
opaque first second third be rgb =
    record { count = 3; comps = first ∷ second ∷ third ∷ no_component ∷ []; be = be; rgb = rgb; alpha = false; palette = false }

-- one value for each component, in a frame of one pixel
abbrev values : List ℕ → ℕ → ℕ → ℕ → ℕ
values vs j x y = get_or vs j 0

abbrev rgb565be : Desc
rgb565be = opaque (comp 0 2 (negsuc 0) 3 5) (comp 0 2 (pos 0) 5 6) (comp 0 2 (pos 0) 0 5) true true

rgb565be_frame : frame_of rgb565be 1 1 (values (16 ∷ 32 ∷ 16 ∷ [])) ≡ 0x84 ∷ 0x10 ∷ []
unfolding frame_of
rgb565be_frame = refl

-- the upper two bits are spare, and are 0
abbrev x2rgb10le : Desc
x2rgb10le = opaque (comp 0 4 (pos 2) 4 10) (comp 0 4 (pos 1) 2 10) (comp 0 4 (pos 0) 0 10) false true

x2rgb10le_frame : frame_of x2rgb10le 1 1 (values (1023 ∷ 1023 ∷ 1023 ∷ [])) ≡ 0xFF ∷ 0xFF ∷ 0xFF ∷ 0x3F ∷ []
unfolding frame_of
x2rgb10le_frame = refl

abbrev vuya : Desc
vuya = record {
  count = 4;
  comps = comp 0 4 (pos 2) 0 8 ∷ comp 0 4 (pos 1) 0 8 ∷ comp 0 4 (pos 0) 0 8 ∷ comp 0 4 (pos 3) 0 8 ∷ [];
  be = false;
  rgb = false;
  alpha = true;
  palette = false;
}

vuya_frame : frame_of vuya 1 1 (values (0x10 ∷ 0x80 ∷ 0x81 ∷ 0xFF ∷ [])) ≡ 0x81 ∷ 0x80 ∷ 0x10 ∷ 0xFF ∷ []
unfolding frame_of
vuya_frame = refl

-- one plane of luma, and one of both chroma components, each 6 bits up in a number of two bytes
abbrev p410le : Desc
p410le = opaque (comp 0 2 (pos 0) 6 10) (comp 1 4 (pos 0) 6 10) (comp 1 4 (pos 2) 6 10) false false

p410le_frame : frame_of p410le 1 1 (values (64 ∷ 512 ∷ 512 ∷ [])) ≡ 0x00 ∷ 0x10 ∷ 0x00 ∷ 0x80 ∷ 0x00 ∷ 0x80 ∷ []
unfolding frame_of
p410le_frame = refl

-- three planes, two pixels wide: 51 5A F0 and FF 80 80
abbrev yuv444p : Desc
yuv444p = opaque (comp 0 1 (pos 0) 0 8) (comp 1 1 (pos 0) 0 8) (comp 2 1 (pos 0) 0 8) false false

abbrev two_pixels : ℕ → ℕ → ℕ → ℕ
two_pixels j x y = get_or (get_or ((0x51 ∷ 0xFF ∷ []) ∷ (0x5A ∷ 0x80 ∷ []) ∷ (0xF0 ∷ 0x80 ∷ []) ∷ []) j []) x 0

yuv444p_frame : frame_of yuv444p 2 1 two_pixels ≡ 0x51 ∷ 0xFF ∷ 0x5A ∷ 0x80 ∷ 0xF0 ∷ 0x80 ∷ []
unfolding frame_of
yuv444p_frame = refl

-- the row of V begins behind the rows of Y and U, and a component is read there
yuv444p_row : row_start yuv444p 2 1 2 0 ≡ 4
unfolding row_start
yuv444p_row = refl

yuv444p_component : frame_component yuv444p 2 1 (0x51 ∷ 0xFF ∷ 0x5A ∷ 0x80 ∷ 0xF0 ∷ 0x80 ∷ []) 2 0 0 ≡ 0xF0
unfolding frame_component row_start
yuv444p_component = refl

-- two rows of two indexes, and the palette
abbrev pal8 : Desc
pal8 = record {
  count = 1;
  comps = comp 0 1 (pos 0) 0 8 ∷ no_component ∷ no_component ∷ no_component ∷ [];
  be = false;
  rgb = false;
  alpha = true;
  palette = true;
}

pal8_length : frame_length pal8 2 2 ≡ 1028
unfolding frame_length
pal8_length = refl
