-- What the operations of a decoding make of a pixel's elements, one after the other.
use Rattle.std.proofs.Common.{◌≡◌, ℕ, ◌*◌, ◌/◌, ◌%◌, ◌^◌, Bool, true, false, List, [], ◌∷◌, ◌++◌, Option, refl}
use Rattle.frac_math.specs.Fraction.{ℚ}
use Rattle.op_list.specs.declared.op.Op.{Op}
use Rattle.op_list.specs.declared.op.Op.TheVariants.{Read, SwapBytes, Unpack, Clear, LeftShift, RightShift, Swizzle}
use Rattle.op_list.specs.declared.position.PixelPosition.{PixelPosition}
use Rattle.op_list.specs.declared.types.PixType.{PixType}
use Rattle.op_list.specs.declared.types.PixType.TheVariants.{U8}
use Rattle.op_list.specs.declared.types.Stage.TheVariants.{Start}
use Rattle.op_list.specs.declared.values.Values.TheVariants.{Numbers}
use Rattle.op_list.specs.Types.{bits, bytes}
use Rattle.op_list.specs.Values.{four, no_values}
use Rattle.op_list.specs.Whole.{field}
use Rattle.op_list.specs.Pixel.{element_of, palette_colours}
use Rattle.op_list.specs.Apply.{apply, cleared, swizzled}
use Rattle.op_list.specs.Run.{run_from}
use Rattle.op_list.specs.Typing.{stage_after}
use Rattle.op_build.specs.Recipe.{only_if}
use Rattle.op_build.proofs.shape.ByteNumbers.{in_order}

-- elements, and the values behind them
abbrev pub decode_by : PixType → List ℕ → Bool → List Op → List ℕ → List (Option ℚ) → List Op
decode_by elem counts swapped splits positions entries =
    Read elem counts false ∷ only_if swapped SwapBytes ++ splits ++ Swizzle positions ∷ Clear entries ∷ []

-- element i of a pixel, in the format's byte order
abbrev pub ordered_element : PixType → List ℕ → Bool → List ℕ → PixelPosition → ℕ → ℕ
ordered_element elem counts swapped frame position i = in_order swapped (bytes elem) (element_of elem counts frame position i)

pub run_shifts : (frame : List ℕ) (position : PixelPosition) (elem : PixType) (counts : List ℕ) (swapped : Bool) (up down : ℕ)
    (positions : List ℕ) (entries : List (Option ℚ))
    → run_from frame position Start (decode_by elem counts swapped (LeftShift up ∷ RightShift down ∷ []) positions entries) no_values
    ≡ cleared entries
    (swizzled positions (Numbers (four (λ i. ordered_element elem counts swapped frame position i * 2 ^ up % 2 ^ bits elem / 2 ^ down))))
unfolding run_from apply stage_after
run_shifts frame position elem counts true up down positions entries = refl
run_shifts frame position elem counts false up down positions entries = refl

pub run_fields : (frame : List ℕ) (position : PixelPosition) (elem : PixType) (counts : List ℕ) (swapped : Bool) (widths : List ℕ)
    (positions : List ℕ) (entries : List (Option ℚ))
    → run_from frame position Start (decode_by elem counts swapped (Unpack widths ∷ []) positions entries) no_values
    ≡ cleared entries (swizzled positions (Numbers (four (λ i. field widths (ordered_element elem counts swapped frame position 0) i))))
unfolding run_from apply stage_after
run_fields frame position elem counts true widths positions entries = refl
run_fields frame position elem counts false widths positions entries = refl

pub run_palette : (frame : List ℕ) (position : PixelPosition) (entries : List (Option ℚ))
    → run_from frame position Start (Read U8 (1 ∷ 0 ∷ 0 ∷ 0 ∷ []) true ∷ Clear entries ∷ []) no_values
    ≡ cleared entries (Numbers (palette_colours frame position))
unfolding run_from apply stage_after
run_palette frame position entries = refl
