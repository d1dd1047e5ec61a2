-- The target frame: each wanted value is rounded once, by the ordered dither, and clamped; every bit that no component reads is 0.
use Rattle.std.specs.Prelude.{ℕ, ◌+◌, ◌-◌, ◌^◌, ℤ, pos, List}
use Rattle.std.specs.Int.{int_min, int_max}
use Rattle.frac_math.specs.Fraction.{◌+ℚ◌, floor}
use Rattle.frac_math.specs.Dither.{dither_at}
use Rattle.pix_desc.specs.Component.{count_of}
use Rattle.pix_desc.specs.Frame.{IsFrameOf, frame_of}
use Rattle.pix_meaning.specs.declared.pair.Pair.{Pair}
use Rattle.pix_meaning.specs.Pairs.{depth_of}
use Rattle.pix_meaning.specs.Values.{wanted}

-- the nearest number of 0 to 2^depth - 1
unfoldable pub clamped : ℕ → ℤ → ℕ
clamped depth z = count_of (int_min (int_max z (pos 0)) (pos (2 ^ depth - 1)))

-- The code of the target's component j at x and y. A slice of rows is converted as a frame of its own, and `first` is the row of the whole
-- frame at which it begins: the dither goes by the pixel's row and column in the whole frame.
unfoldable pub result_of : Pair → ℕ → ℕ → ℕ → List ℕ → ℕ → ℕ → ℕ → ℕ
result_of pair width height first frame j x y =
    clamped (depth_of pair.to.desc j) (floor (wanted pair width height frame j x y +ℚ dither_at pair.dither x (first + y)))

-- These are the target's rows, where the target has no palette: each component reads as its result, and every bit that no component reads
-- is 0.
abbrev pub IsTargetRows : Pair → ℕ → ℕ → ℕ → List ℕ → List ℕ → Type 0
IsTargetRows pair width height first frame target = IsFrameOf pair.to.desc width height (result_of pair width height first frame) target

-- these bytes are the whole target frame
abbrev pub IsTargetFrame : Pair → ℕ → ℕ → List ℕ → List ℕ → Type 0
IsTargetFrame pair width height frame target = IsTargetRows pair width height 0 frame target

-- the target's rows, made of the results
unfoldable pub target_rows : Pair → ℕ → ℕ → ℕ → List ℕ → List ℕ
target_rows pair width height first frame = frame_of pair.to.desc width height (result_of pair width height first frame)

-- the target frame, made of the results
abbrev pub target_frame : Pair → ℕ → ℕ → List ℕ → List ℕ
target_frame pair width height frame = target_rows pair width height 0 frame
