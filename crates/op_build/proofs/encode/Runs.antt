-- What the operations of an encoding make of the values of a pixel's channels, one after the other.
use Rattle.std.proofs.Common.{◌≡◌, ℕ, ◌*◌, ◌%◌, ◌^◌, Bool, true, false, if◌then◌else◌, List, [], ◌∷◌, ◌++◌, get_or, Option, refl}
use Rattle.std.specs.Prelude.{sum, nat_lt}
use Rattle.frac_math.specs.Fraction.{ℚ, floor}
use Rattle.op_list.specs.declared.op.Op.{Op}
use Rattle.op_list.specs.declared.op.Op.TheVariants.{Write, SwapBytes, Pack, Clear, LeftShift, Swizzle, Convert}
use Rattle.op_list.specs.declared.position.PixelPosition.{PixelPosition}
use Rattle.op_list.specs.declared.types.PixType.{PixType}
use Rattle.op_list.specs.declared.types.PixType.TheVariants.{U8, U16, U32, Rat}
use Rattle.op_list.specs.declared.types.Stage.TheVariants.{Typed}
use Rattle.op_list.specs.declared.values.Values.TheVariants.{Numbers, Fractions}
use Rattle.op_list.specs.Types.{bits, bytes, is_whole_type}
use Rattle.op_list.specs.Values.{four, entry}
use Rattle.op_list.specs.Whole.{modulo}
use Rattle.op_list.specs.Apply.{apply, cleared_number, packed}
use Rattle.op_list.specs.Run.{run_from}
use Rattle.op_list.specs.Typing.{stage_after}
use Rattle.op_build.specs.Recipe.{only_if}
use Rattle.op_build.proofs.shape.ByteNumbers.{in_order}

-- channels to positions, the positions' values to elements, and the elements
abbrev pub encode_by : PixType → List ℕ → Bool → Op → List ℕ → List (Option ℚ) → List Op
encode_by elem counts swapped join positions entries =
    Convert elem false ∷ Swizzle positions ∷ Clear entries ∷ join ∷ only_if swapped SwapBytes ++ Write elem counts ∷ []

-- the whole number of a channel
abbrev pub whole_code : PixType → (ℕ → ℚ) → ℕ → ℕ
whole_code elem vs c = modulo (floor (vs c)) (2 ^ bits elem)

-- the number at a position
abbrev pub placed_code : PixType → List ℕ → List (Option ℚ) → (ℕ → ℚ) → ℕ → ℕ
placed_code elem positions entries vs i = cleared_number (entry entries i) (get_or (four (whole_code elem vs)) (get_or positions i 0) 0)

pub run_shift : (frame : List ℕ) (position : PixelPosition) (elem : PixType) (counts : List ℕ) (swapped : Bool) (up : ℕ)
    (positions : List ℕ) (entries : List (Option ℚ)) (vs : ℕ → ℚ)
    → is_whole_type elem ≡ true
    → run_from frame position (Typed Rat) (encode_by elem counts swapped (LeftShift up) positions entries) (Fractions (four vs))
    ≡ Numbers
    (four (λ i. if nat_lt i (sum counts) then in_order swapped (bytes elem)
    (placed_code elem positions entries vs i * 2 ^ up % 2 ^ bits elem) else 0))
unfolding run_from apply stage_after
run_shift frame position U8 counts true up positions entries vs whole = refl
run_shift frame position U8 counts false up positions entries vs whole = refl
run_shift frame position U16 counts true up positions entries vs whole = refl
run_shift frame position U16 counts false up positions entries vs whole = refl
run_shift frame position U32 counts true up positions entries vs whole = refl
run_shift frame position U32 counts false up positions entries vs whole = refl
run_shift frame position Rat counts swapped up positions entries vs whole = absurd cc

-- a word is the first element, and the only one
pub run_pack : (frame : List ℕ) (position : PixelPosition) (elem : PixType) (swapped : Bool) (widths : List ℕ) (positions : List ℕ)
    (entries : List (Option ℚ)) (vs : ℕ → ℚ)
    → is_whole_type elem ≡ true
    → run_from frame position (Typed Rat) (encode_by elem (1 ∷ 0 ∷ 0 ∷ 0 ∷ []) swapped (Pack widths) positions entries)
    (Fractions (four vs))
    ≡ Numbers (in_order swapped (bytes elem) (packed widths (Numbers (four (placed_code elem positions entries vs)))) ∷ 0 ∷ 0 ∷ 0 ∷ [])
unfolding run_from apply stage_after
run_pack frame position U8 true widths positions entries vs whole = refl
run_pack frame position U8 false widths positions entries vs whole = refl
run_pack frame position U16 true widths positions entries vs whole = refl
run_pack frame position U16 false widths positions entries vs whole = refl
run_pack frame position U32 true widths positions entries vs whole = refl
run_pack frame position U32 false widths positions entries vs whole = refl
run_pack frame position Rat swapped widths positions entries vs whole = absurd cc
