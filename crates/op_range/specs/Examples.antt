-- A list whose width is known from outside: words to bytes, as the optimiser leaves them.
use Rattle.std.specs.Prelude.{◌≡◌, ℕ, false, List, [], ◌∷◌, Some, None, pos}
use Rattle.frac_math.specs.Fraction.{ℚ, nat, over}
use Rattle.op_list.specs.declared.types.PixType.TheVariants.{U8, U16, Rat}
use Rattle.op_list.specs.declared.op.Op.{Op}
use Rattle.op_list.specs.declared.op.Op.TheVariants.{Read, Write, Convert, Dither, Linear, Min}
use Rattle.op_range.specs.Width.{own_width, width}

abbrev unit_row : ℕ → ℕ → ℕ → ℕ → List ℚ
unit_row a b c d = nat a ∷ nat b ∷ nat c ∷ nat d ∷ nat 0 ∷ []

abbrev pub words_to_bytes : List Op
words_to_bytes =
    Read U16 (1 ∷ 0 ∷ 0 ∷ 0 ∷ []) false ∷ Convert Rat false
    ∷ Linear ((over (pos 1) 257 ∷ nat 0 ∷ nat 0 ∷ nat 0 ∷ nat 0 ∷ []) ∷ unit_row 0 1 0 0 ∷ unit_row 0 0 1 0 ∷ unit_row 0 0 0 1 ∷ [])
    ∷ Dither 0 ∷ Min (Some (nat 255) ∷ None ∷ None ∷ None ∷ []) ∷ Convert U8 false ∷ Write U8 (1 ∷ 0 ∷ 0 ∷ 0 ∷ []) ∷ []

-- the denominator 257 becomes 514 under the dither: 2 (257 * 65535) + 514
pub record WordsToBytes : Type 0 where
  pub first : own_width words_to_bytes 0 ≡ 131584
  pub second : own_width words_to_bytes 1 ≡ 33685504
  pub all : width words_to_bytes ≡ 33685504
