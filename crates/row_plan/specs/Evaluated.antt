-- Which pairs have a plan: those that fit, as all pairs of formats of the table do.
use Rattle.std.specs.Prelude.{◌≡◌, ◌<◌, ◌≤◌, false, ℕ, ◌^◌, List, All, Some}
use Rattle.colour_matrix.specs.declared.class.Range.{Range}
use Rattle.colour_matrix.specs.declared.matrix.Matrix.{Matrix}
use Rattle.colour_matrix.specs.Matrix.{matrix_named}
use Rattle.desc_table.specs.Format.{desc_of, format_count}
use Rattle.pix_meaning.specs.declared.pair.Side.{Side}
use Rattle.pix_meaning.specs.declared.pair.Pair.{Pair}
use Rattle.pix_meaning.specs.Pairs.{IsValidPair}
use Rattle.op_list.specs.Run.{run, checked_run}
use Rattle.op_range.specs.Width.{width}
use Rattle.op_opt.specs.Normal.{normal}
use Rattle.op_build.specs.Recipe.{recipe}

-- one of the matrices that have names
pub record IsNamed (matrix : Matrix) : Type 0 where
  pub name : List ℕ
  pub found : matrix_named name ≡ Some matrix

-- a side of a row of the table
abbrev pub side_at : ℕ → Matrix → Range → Side
side_at id matrix range = record { desc = desc_of id; matrix = matrix; range = range }

-- the checked evaluation of every pixel has an answer, which is the exact one
abbrev pub IsEvaluated : Pair → Type 0
IsEvaluated pair = (frame : List ℕ) (columns rows x row y : ℕ) → All (λ byte. byte < 256) frame
    → checked_run (recipe pair) frame columns rows x row y ≡ Some (run (recipe pair) frame columns rows x row y)

-- A pair fits where its recipe is evaluated at every pixel, and the numbers of its normal list over a common denominator are below 2^126.
pub record Fits (pair : Pair) : Type 0 where
  pub evaluated : IsEvaluated pair
  pub narrow : width (normal (recipe pair)) < 2 ^ 126

-- A pair that a plan may be asked for.
pub record IsPlannable (pair : Pair) : Type 0 where
  pub valid : IsValidPair pair
  pub fits : pair.to.desc.palette ≡ false → Fits pair

-- a side whose format is a row of the table, with a matrix that has a name
pub record IsTableSide (side : Side) : Type 0 where
  pub id : ℕ
  pub known : id < format_count
  pub desc : side.desc ≡ desc_of id
  pub matrix : IsNamed side.matrix

-- every pair of two such sides fits
abbrev pub TablePairsFit : Type 0
TablePairsFit = (pair : Pair) → IsTableSide pair.from → IsTableSide pair.to → pair.dither ≤ 4 → Fits pair

-- and has a plan
abbrev pub TablePairsHavePlans : Type 0
TablePairsHavePlans = (pair : Pair) → IsTableSide pair.from → IsTableSide pair.to → pair.dither ≤ 4 → IsPlannable pair
