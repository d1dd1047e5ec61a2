-- Between two RGB formats of one plane whose components are whole bytes a conversion copies: each component of the target is the source's
-- of the same
-- colour.
use Rattle.std.specs.Prelude.{◌≡◌, true, ℕ, ◌&&◌, Bool, not, if◌then◌else◌, nat_lt, nat_eq, List, [], ◌∷◌, map, filter, codes}
use Rattle.std.specs.List.{list_all}
use Rattle.pix_desc.specs.declared.desc.Comp.{Comp}
use Rattle.pix_desc.specs.declared.desc.Desc.{Desc}
use Rattle.pix_desc.specs.Component.{components}
use Rattle.pix_desc.specs.Frame.{frame_component, frame_of}
use Rattle.pix_meaning.specs.declared.pair.Pair.{Pair}
use Rattle.pix_meaning.specs.Pairs.{IsValidPair}
use Rattle.pix_meaning.specs.Target.{target_frame}
use Rattle.desc_table.specs.Format.{formats}

-- a component that is a byte of plane 0
abbrev pub is_whole_byte : Comp → Bool
is_whole_byte c = nat_eq c.plane 0 && nat_eq c.shift 0 && nat_eq c.depth 8

-- a little-endian RGB format of one plane, without a palette, whose components are whole bytes
abbrev pub is_packed_rgb : Desc → Bool
is_packed_rgb desc = desc.rgb && (not desc.be && (not desc.palette && list_all is_whole_byte (components desc)))

-- the formats of the table that are
abbrev pub packed_names : List (List ℕ)
packed_names =
    codes "rgb24" ∷ codes "bgr24" ∷ codes "argb" ∷ codes "rgba" ∷ codes "abgr" ∷ codes "bgra" ∷ codes "0rgb" ∷ codes "rgb0" ∷ codes
    "0bgr" ∷ codes "bgr0" ∷ []

abbrev pub ArePackedFormats : Type 0
ArePackedFormats = map (λ format. format.name) (filter (λ format. is_packed_rgb format.desc) formats) ≡ packed_names

-- the value of the target's component j at a pixel: that of the source's component j, which is the same colour, or opaque alpha where the
-- source has none
abbrev pub copied : Desc → ℕ → ℕ → List ℕ → ℕ → ℕ → ℕ → ℕ
copied source width height frame j x y = if nat_lt j source.count then frame_component source width height frame j x y else 255

-- the frame of these values; all other bits are 0
unfoldable pub copied_frame : Desc → Desc → ℕ → ℕ → List ℕ → List ℕ
copied_frame source target width height frame = frame_of target width height (copied source width height frame)

-- it is the target frame, whatever the matrices, the ranges and the dither
abbrev pub CopiesPacked : Pair → ℕ → ℕ → List ℕ → Type 0
CopiesPacked pair width height frame = IsValidPair pair → is_packed_rgb pair.from.desc ≡ true → is_packed_rgb pair.to.desc ≡ true
    → target_frame pair width height frame ≡ copied_frame pair.from.desc pair.to.desc width height frame
