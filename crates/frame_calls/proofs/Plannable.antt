-- A conversion whose numbers are right has a plan.
use Rattle.std.proofs.Common.{◌≡◌, ◌≤◌, Bool, true, false, refl, sym, ap}
use Rattle.std.specs.Prelude.{◌||◌, nat_eq, nat_lt, codes, Some}
use Rattle.std.proofs.lemmas.Bool.{eqb-true, ltb-true}
use Rattle.frac_math.proofs.FractionRing.{and_left, and_right}
use Rattle.colour_matrix.specs.declared.matrix.Matrix.{Matrix}
use Rattle.colour_matrix.specs.Matrix.{bt601, bt709, bt2020, smpte240m, fcc}
use Rattle.desc_table.specs.Format.{format_count}
use Rattle.row_plan.specs.Evaluated.{IsNamed, IsTableSide, IsPlannable}
use Rattle.row_plan.proofs.Evaluated.{table_pairs_have_plans}
use Rattle.frame_calls.specs.declared.conversion.ConversionSide.{ConversionSide}
use Rattle.frame_calls.specs.declared.conversion.Conversion.{Conversion}
use Rattle.frame_calls.specs.Conversion.{has_parts, matrix_of, is_named, side_of, pair_of, has_formats, has_matrices}

same : (m n : Matrix) → has_parts m n ≡ true → m ≡ n
same m n is =
    let q = eqb-true m.q n.q (and_left _ _ is) in
    let rest = and_right (nat_eq m.q n.q) _ is in
    let r = eqb-true m.r n.r (and_left _ _ rest) in
    let b = eqb-true m.b n.b (and_right (nat_eq m.r n.r) _ rest) in
    λ i. record { q = q i; r = r i; b = b i }

either : (P : Type 0) (a b : Bool) → (a ≡ true → P) → (b ≡ true → P) → (a || b) ≡ true → P
either P true b first second is = first refl
either P false b first second is = second is

named : (m : Matrix) → is_named m ≡ true → IsNamed m
named m is =
    either (IsNamed m) (has_parts m bt601) _ (λ t. record { name = codes "bt601"; found = ap Some (sym (same m bt601 t)) }) (
    either (IsNamed m) (has_parts m bt709) _ (λ t. record { name = codes "bt709"; found = ap Some (sym (same m bt709 t)) }) (
    either (IsNamed m) (has_parts m bt2020) _ (λ t. record { name = codes "bt2020"; found = ap Some (sym (same m bt2020 t)) }) (
    either (IsNamed m) (has_parts m smpte240m) _ (λ t. record { name = codes "smpte240m"; found = ap Some (sym (same m smpte240m t)) })
    (λ t. record { name = codes "fcc"; found = ap Some (sym (same m fcc t)) })))) is

table_side : (side : ConversionSide) → nat_lt side.format format_count ≡ true → is_named (matrix_of side) ≡ true
    → IsTableSide (side_of side)
table_side side known matrix =
    record { id = side.format; known = ltb-true side.format format_count known; desc = refl; matrix = named (matrix_of side) matrix }

pub has_plan : (conversion : Conversion) → has_formats conversion ≡ true → has_matrices conversion ≡ true → conversion.dither ≤ 4
    → IsPlannable (pair_of conversion)
has_plan conversion formats matrices dither =
    let from = conversion.from in
    let to = conversion.to in
    table_pairs_have_plans (pair_of conversion)
    (table_side from (and_left _ _ formats) (and_left _ _ matrices))
    (table_side to (and_right (nat_lt from.format format_count) _ formats) (and_right (is_named (matrix_of from)) _ matrices))
    dither
