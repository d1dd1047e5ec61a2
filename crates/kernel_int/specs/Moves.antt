-- Lists of operations that only move values.
use Rattle.std.specs.Prelude.{◌≡◌, ℕ, ◌<◌, ◌⊎◌, false, List, [], ◌∷◌, sum, slice_index}
use Rattle.op_list.specs.declared.op.Op.{Op}
use Rattle.op_list.specs.declared.op.Op.TheVariants.{Read, Write, Swizzle}
use Rattle.kernel_int.specs.declared.moves.Moves.{Moves}

-- the values in another order between what reads them and what writes them
abbrev pub with_swizzle : Moves → List Op
with_swizzle moves = Read moves.elem moves.planes false ∷ Swizzle moves.from ∷ Write moves.elem moves.to ∷ []

-- the values written as they are read
abbrev pub without_swizzle : Moves → List Op
without_swizzle moves = Read moves.elem moves.planes false ∷ Write moves.elem moves.to ∷ []

-- each value that is written is one that is read
abbrev pub AreThere : Moves → Type 0
AreThere moves = (v : ℕ) → v < sum moves.to → slice_index moves.from v < sum moves.planes

-- A list that only moves values: value v of a written pixel is value from[v] of the one that is read.
pub record IsMove (ops : List Op) (moves : Moves) : Type 0 where
  pub list : (ops ≡ with_swizzle moves) ⊎ ((ops ≡ without_swizzle moves) × (moves.from ≡ 0 ∷ 1 ∷ 2 ∷ 3 ∷ []))
  pub there : AreThere moves
