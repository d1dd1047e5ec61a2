-- Every pair of formats of the table fits, and so has a plan.
use Rattle.std.proofs.Common.{◌≡◌, ◌≤◌, sym, ap, subst, arith}
use Rattle.desc_table.proofs.Rows.{valid_at}
use Rattle.pix_desc.specs.declared.desc.Desc.{Desc}
use Rattle.pix_desc.specs.Layouts.{IsValid}
use Rattle.pix_meaning.specs.declared.pair.Side.{Side}
use Rattle.pix_meaning.specs.declared.pair.Pair.{Pair}
use Rattle.pix_meaning.specs.Pairs.{IsValidPair, is_rgb}
use Rattle.op_list.specs.Types.{bits}
use Rattle.op_opt.proofs.PeakLaws.{normal_narrow}
use Rattle.op_build.specs.Codes.{decoded_type}
use Rattle.op_build.specs.Recipe.{recipe}
use Rattle.op_build.specs.SideClasses.{side_class, side_classes, IsOneOf}
use Rattle.op_build.proofs.bounds.Frames.{checked_is_there}
use Rattle.op_build.proofs.recipe.Frames.{is_whole}
use Rattle.op_build.proofs.recipe.Typed.{recipe_is_list}
use Rattle.row_plan.specs.Evaluated.{side_at, IsTableSide, TablePairsFit, TablePairsHavePlans}
use Rattle.row_plan.proofs.NamedMatrices.{named_is_matrix}
use Rattle.row_plan.proofs.TableClasses.{side_at_there, few_bits_at}
use Rattle.row_plan.proofs.PeakTests.{bits_of}
use Rattle.row_plan.proofs.PeakPairs.{recipe_is_low}

-- ---- a side of the table, by its row
valid_side : (side : Side) (is : IsTableSide side) → IsValid side.desc
valid_side side is = subst IsValid (sym is.desc) (valid_at is.id is.known)

side_is : (side : Side) (is : IsTableSide side) → side_at is.id side.matrix side.range ≡ side
side_is side is =
    ap (λ (desc : Desc). let with_desc : Side = record { desc = desc; matrix = side.matrix; range = side.range } in with_desc) (sym is.desc)

listed_side : (side : Side) (is : IsTableSide side) → IsOneOf (side_class side) side_classes
listed_side side is =
    subst (λ (s : Side). IsOneOf (side_class s) side_classes) (side_is side is)
    (side_at_there is.id side.matrix side.range is.known is.matrix)

few_bits : (side : Side) (is : IsTableSide side) → bits (decoded_type side.desc) ≤ bits_of (is_rgb side.desc)
few_bits side is = subst (λ (desc : Desc). bits (decoded_type desc) ≤ bits_of (is_rgb desc)) (sym is.desc) (few_bits_at is.id is.known)

-- ---- pairs
valid_pair : (pair : Pair) → IsTableSide pair.from → IsTableSide pair.to → pair.dither ≤ 4 → IsValidPair pair
valid_pair pair from to small = record {
  from = valid_side pair.from from;
  to = valid_side pair.to to;
  from_matrix = named_is_matrix pair.from.matrix from.matrix;
  to_matrix = named_is_matrix pair.to.matrix to.matrix;
  dither = small;
}

-- the normal list is at most as wide as the peak of the recipe
pub table_pairs_fit : TablePairsFit
table_pairs_fit pair from to small =
    let valid = valid_pair pair from to small in
    let listed = listed_side pair.from from in
    let other = listed_side pair.to to in
    let wide = normal_narrow (recipe pair) (recipe_is_list pair valid) (is_whole pair) in
    let low = recipe_is_low pair valid listed other (few_bits pair.from from) in
    record { evaluated = checked_is_there pair valid listed other; narrow = omega (arith, wide, low) }

pub table_pairs_have_plans : TablePairsHavePlans
table_pairs_have_plans pair from to small =
    record { valid = valid_pair pair from to small; fits = λ _. table_pairs_fit pair from to small }
