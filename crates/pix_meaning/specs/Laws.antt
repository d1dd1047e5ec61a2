-- The laws of the definitions, which the functions of src/laws.rt prove.
use Rattle.std.specs.Prelude.{◌≡◌, ℕ, ◌<◌, ◌^◌, ◌+◌, List, All, true, false}
use Rattle.frac_math.specs.Fraction.{nat}
use Rattle.pix_desc.specs.declared.desc.Desc.{Desc}
use Rattle.colour_matrix.specs.Matrix.{IsMatrix}
use Rattle.colour_matrix.specs.Values.{Values}
use Rattle.pix_meaning.specs.declared.pair.Side.{Side}
use Rattle.pix_meaning.specs.declared.pair.Pair.{Pair}
use Rattle.pix_meaning.specs.Pairs.{IsValidPair, is_rgb, component_count, depth_of, has_channel, component_at, channel_of}
use Rattle.pix_meaning.specs.Values.{source_component, rgb_values, target_values, wanted}
use Rattle.pix_meaning.specs.Target.{result_of, IsTargetRows, target_rows}

-- Each component gives one channel, which is there, and each channel that is there comes from one component.
pub record HasChannels (desc : Desc) : Type 0 where
  pub there : (j : ℕ) → j < component_count desc → has_channel desc (channel_of desc j) ≡ true
  pub listed : (c : ℕ) → c < 4 → has_channel desc c ≡ true → component_at desc c < component_count desc
  pub component : (j : ℕ) → j < component_count desc → component_at desc (channel_of desc j) ≡ j
  pub channel : (c : ℕ) → c < 4 → has_channel desc c ≡ true → channel_of desc (component_at desc c) ≡ c

-- between two sides that are not RGB and have one matrix luma and chroma pass as they are
abbrev pub PassesLumaAndChroma : Type 0
PassesLumaAndChroma = (from to : Side) (v : Values) → is_rgb from.desc ≡ false → is_rgb to.desc ≡ false → from.matrix
    ≡ to.matrix → IsMatrix from.matrix
    → target_values to (rgb_values from v) ≡ v

-- between two RGB sides a component of the same channel and the same depth passes as it is: the code that was read is wanted
abbrev pub PassesCodes : Type 0
PassesCodes = (pair : Pair) (width height : ℕ) (frame : List ℕ) (i j x y : ℕ) → IsValidPair pair
    → is_rgb pair.from.desc ≡ true → is_rgb pair.to.desc ≡ true → i < component_count pair.from.desc → j < component_count pair.to.desc
    → channel_of pair.from.desc i ≡ channel_of pair.to.desc j → depth_of pair.from.desc i ≡ depth_of pair.to.desc j
    → wanted pair width height frame j x y ≡ nat (source_component pair.from.desc width height frame i x y)

-- a wanted value that is a code of its component is the result, whatever the dither
abbrev pub KeepsCodes : Type 0
KeepsCodes = (pair : Pair) (width height first : ℕ) (frame : List ℕ) (j x y code : ℕ) → wanted pair width height frame j x y
    ≡ nat code → code < 2 ^ depth_of pair.to.desc j
    → result_of pair width height first frame j x y ≡ code

-- each code that is read of a frame of bytes fits the depth of its component
abbrev pub SourcesFit : Type 0
SourcesFit = (desc : Desc) (width height : ℕ) (frame : List ℕ) (j x y : ℕ) → All (λ byte. byte < 256) frame
    → source_component desc width height frame j x y < 2 ^ depth_of desc j

-- each result fits the depth of its component
abbrev pub ResultsFit : Type 0
ResultsFit = (pair : Pair) (width height first : ℕ) (frame : List ℕ)
    (j x y : ℕ) → result_of pair width height first frame j x y < 2 ^ depth_of pair.to.desc j

-- A pixel of a slice, which begins at the row `first` of a frame, has the results that it has in the whole frame, where the same codes are
-- read.
abbrev pub SlicesAgree : Type 0
SlicesAgree = (pair : Pair) (width height first rows : ℕ) (frame slice : List ℕ) (j x y : ℕ) → IsValidPair pair
    → ((i : ℕ) → i < component_count pair.from.desc
    → source_component pair.from.desc width rows slice i x y ≡ source_component pair.from.desc width height frame i x (first + y))
    → result_of pair width rows first slice j x y ≡ result_of pair width height 0 frame j x (first + y)

-- A source frame has exactly one target frame: the rows that are made of the results, and no other bytes.
pub record HasOneTargetFrame (pair : Pair) (width height first : ℕ) (frame : List ℕ) : Type 0 where
  pub made : IsTargetRows pair width height first frame (target_rows pair width height first frame)
  pub only : (target : List ℕ) → IsTargetRows pair width height first frame target → target ≡ target_rows pair width height first frame
