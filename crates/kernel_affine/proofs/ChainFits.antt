-- All that a chain works out fits.
use Rattle.std.proofs.Common.{◌≡◌, ℕ, zero, suc, ◌+◌, ◌-◌, ◌<◌, ◌≤◌, Bool, true, List, ℤ, ◌+ℤ◌, length, refl, sym, subst}
use Rattle.std.proofs.Common.{arith, FitsSigned}
use Rattle.std.specs.Prelude.{Option, Some, None, IfSome}
use Rattle.std.specs.Int.{Width}
use Rattle.std.proofs.lemmas.Bool.{eqb-true}
use Rattle.std.proofs.Math.IntN.{+ℤ_idr}
use Rattle.frac_math.specs.Fraction.{ℚ}
use Rattle.op_list.specs.declared.types.Stage.{Stage}
use Rattle.op_list.specs.declared.op.Op.{Op}
use Rattle.op_list.specs.declared.op.Op.TheVariants.{Dither, Linear, Scale, Min, Max}
use Rattle.op_list.specs.Values.{entry}
use Rattle.kernel_step.specs.declared.form.Form.{Form}
use Rattle.kernel_step.specs.Rules.{row_sum, RowFits}
use Rattle.kernel_step.specs.Forms.{IsInside, IsKernel, IsStep, extent_at, factor, factors_at, form_at, op_at, stage_before}
use Rattle.kernel_step.specs.ValueSteps.{IsAtLeast, IsAtMost, IsIn, is_by_value}
use Rattle.kernel_step.proofs.ScaleSteps.{scaling_fits, scaling_product}
use Rattle.kernel_step.proofs.ValueBlocks.{step_made}
use Rattle.kernel_affine.specs.declared.chain.Chain.{Chain}
use Rattle.kernel_affine.specs.Affine.{AreFitting, AreTaken, whole_lane}
use Rattle.kernel_affine.specs.Chain.{IsAt, IsReadyChain, IsUnscaled, behind, bound_for, greatest_at, greatest_of, is_half, is_map, is_max}
use Rattle.kernel_affine.specs.Chain.{is_min, least_at, least_of, map_row, products_at, unit_at}
use Rattle.kernel_affine.proofs.CarriedNumbers.{half_sum, scaling_carried}
use Rattle.kernel_affine.proofs.ChainWalks.{are_inside, step_at}
use Rattle.kernel_affine.proofs.SingleRows.{single_entries, single_fits, single_sum, zero_fits}

-- ---- the values that are left
half_by_value : (op : Op) → is_half op ≡ true → is_by_value op ≡ true
half_by_value (Dither count) h = refl
half_by_value op h = absurd (cc h)

max_by_value : (op : Op) → is_max op ≡ true → is_by_value op ≡ true
max_by_value (Max limits) h = refl
max_by_value op h = absurd (cc h)

min_by_value : (op : Op) → is_min op ≡ true → is_by_value op ≡ true
min_by_value (Min limits) h = refl
min_by_value op h = absurd (cc h)

behind_count : (bits : ℕ) (width : Width) (ops : List Op) (forms : List Form) (kind : Op → Bool) (m : ℕ) (found : Option ℕ)
    → ((op : Op) → kind op ≡ true → is_by_value op ≡ true) → IsKernel ops forms bits width → 0 < m → behind found m < length ops
    → IsAt ops forms kind m found → (v : ℕ) → v < (form_at forms (behind found m - 1)).count → v < (form_at forms (m - 1)).count
behind_count bits width ops forms kind m None by_value kernel some inside is v below = below
behind_count bits width ops forms kind m (Some h) by_value kernel some inside is v below =
    let place : h + 1 - 1 ≡ m = omega (arith, is.0) in
    (step_made bits width (stage_before ops m) (form_at forms (m - 1)) (op_at ops m) (form_at forms m)
    (by_value (op_at ops m) (subst (λ t. kind (op_at ops t) ≡ true) is.0 is.1))
    (step_at bits width ops forms m kernel some (omega (arith, inside, is.0))) v
    (subst (λ t. v < (form_at forms t).count) place below)).0

-- value v is there after each operation
pub record IsThere (forms : List Form) (chain : Chain) (v : ℕ) : Type 0 where
  pub min : v < (form_at forms (behind chain.min (behind chain.max (behind chain.half (chain.map + 1))) - 1)).count
  pub max : v < (form_at forms (behind chain.max (behind chain.half (chain.map + 1)) - 1)).count
  pub half : v < (form_at forms (behind chain.half (chain.map + 1) - 1)).count
  pub map : v < (form_at forms chain.map).count

pub is_there : {W : Type 0} (digits : W → ℕ) (bits : ℕ) (width : Width) (ops : List Op) (forms : List Form) (k : ℕ) (chain : Chain)
    (values : List W) → IsReadyChain digits bits width ops forms k chain values → (v : ℕ)
    → v < (form_at forms (chain.next - 1)).count → IsThere forms chain v
is_there digits bits width ops forms k chain values is v below =
    let inside = are_inside digits bits width ops forms k chain values is in
    let first = chain.map + 1 in
    let second = behind chain.half first in
    let third = behind chain.max second in
    let last = subst (λ t. v < (form_at forms (t - 1)).count) is.there.next below in
    let max : v < (form_at forms (third - 1)).count =
    behind_count bits width ops forms is_min third chain.min min_by_value is.kernel (omega (arith, inside.half, inside.max)) inside.last
    is.there.min v last in
    let half : v < (form_at forms (second - 1)).count =
    behind_count bits width ops forms is_max second chain.max max_by_value is.kernel (omega (arith, inside.half)) inside.third
    is.there.max v max in
    let map : v < (form_at forms (first - 1)).count =
    behind_count bits width ops forms is_half first chain.half half_by_value is.kernel (omega arith) inside.second is.there.half v half in
    let place : first - 1 ≡ chain.map = omega arith in
    record { min = last; max = max; half = half; map = subst (λ t. v < (form_at forms t).count) place map }

-- ---- the map
map_entries : (bits : ℕ) (width : Width) (stage : Stage) (before : Form) (op : Op) (after : Form) → is_map op ≡ true
    → IsStep bits width stage before op after → after.count ≤ 4 → (v : ℕ) → v < after.count → (j : ℕ) → j < 5
    → FitsSigned width (factor (map_row op after v) j)
map_entries bits width stage before (Linear rows) after kind step few v below = (step v below).entries
map_entries bits width stage before (Scale by) after kind step few v below =
    single_entries width (factor (factors_at after v) 0) v (omega (arith, below, few))
    (scaling_fits width (extent_at before v) (extent_at after v) by (factor (factors_at after v) 0) (step v below).1)
map_entries bits width stage before op after kind step few v below = absurd (cc kind)

map_fits : (bits : ℕ) (width : Width) (stage : Stage) (before : Form) (op : Op) (after : Form) → is_map op ≡ true
    → IsStep bits width stage before op after → after.count ≤ 4 → (v : ℕ) → v < after.count → (numbers : ℕ → ℤ)
    → IsInside before numbers → RowFits width (map_row op after v) numbers
map_fits bits width stage before (Linear rows) after kind step few v below numbers inside = (step v below).fits numbers inside
map_fits bits width stage before (Scale by) after kind step few v below numbers inside =
    single_fits width (factor (factors_at after v) 0) v numbers (omega (arith, below, few))
    (scaling_product width (extent_at before v) (extent_at after v) by (factor (factors_at after v) 0) (step v below).1 (numbers v)
    (inside v (step v below).0))
map_fits bits width stage before op after kind step few v below numbers inside = absurd (cc kind)

map_inside : (bits : ℕ) (width : Width) (stage : Stage) (before : Form) (op : Op) (after : Form) → is_map op ≡ true
    → IsStep bits width stage before op after → after.count ≤ 4 → (v : ℕ) → v < after.count → (numbers : ℕ → ℤ)
    → IsInside before numbers → IsIn (extent_at after v) (row_sum (map_row op after v) numbers 4)
map_inside bits width stage before (Linear rows) after kind step few v below numbers inside = (step v below).inside numbers inside
map_inside bits width stage before (Scale by) after kind step few v below numbers inside =
    subst (IsIn (extent_at after v)) (sym (single_sum (factor (factors_at after v) 0) v numbers (omega (arith, below, few))))
    (scaling_carried width (extent_at before v) (extent_at after v) by (factor (factors_at after v) 0) (numbers v) (step v below).1
    (inside v (step v below).0)).inside
map_inside bits width stage before op after kind step few v below numbers inside = absurd (cc kind)

-- ---- the unit
half_fits : (bits : ℕ) (width : Width) (stage : Stage) (before : Form) (op : Op) (after : Form) → is_half op ≡ true
    → IsStep bits width stage before op after → (v : ℕ) → v < after.count → FitsSigned width (factor (factors_at after v) 1)
half_fits bits width stage before (Dither count) after kind step v below = (step v below).1.unit_fits
half_fits bits width stage before op after kind step v below = absurd (cc kind)

half_adds : (bits : ℕ) (width : Width) (stage : Stage) (before : Form) (op : Op) (after : Form) → is_half op ≡ true → IsUnscaled after
    → IsStep bits width stage before op after → (v : ℕ) → v < after.count → (n : ℤ) → IsIn (extent_at before v) n
    → FitsSigned width (n +ℤ factor (factors_at after v) 1)
half_adds bits width stage before (Dither zero) after kind one step v below n within =
    let unit = factor (factors_at after v) 1 in
    subst (FitsSigned width) (half_sum (factor (factors_at after v) 0) n unit (one v below))
    ((step v below).1.sums 1 n (omega arith) (omega arith) within)
half_adds bits width stage before (Dither (suc count)) after kind one step v below n within =
    absurd (omega (arith, eqb-true (suc count) 0 kind))
half_adds bits width stage before op after kind one step v below n within = absurd (cc kind)

unit_fits : (bits : ℕ) (width : Width) (ops : List Op) (forms : List Form) (m : ℕ) (half : Option ℕ)
    → IsKernel ops forms bits width → 0 < m → behind half m < length ops → IsAt ops forms is_half m half → (v : ℕ)
    → v < (form_at forms (behind half m - 1)).count → FitsSigned width (unit_at forms half v)
unit_fits bits width ops forms m None kernel some inside is v below = zero_fits width
unit_fits bits width ops forms m (Some h) kernel some inside is v below =
    let place : h + 1 - 1 ≡ m = omega (arith, is.0) in
    subst (λ t. FitsSigned width (factor (factors_at (form_at forms t) v) 1)) (sym is.0)
    (half_fits bits width (stage_before ops m) (form_at forms (m - 1)) (op_at ops m) (form_at forms m)
    (subst (λ t. is_half (op_at ops t) ≡ true) is.0 is.1) (step_at bits width ops forms m kernel some (omega (arith, inside, is.0))) v
    (subst (λ t. v < (form_at forms t).count) place below))

unit_adds : (bits : ℕ) (width : Width) (ops : List Op) (forms : List Form) (m : ℕ) (half : Option ℕ)
    → IsKernel ops forms bits width → 0 < m → behind half m < length ops → IsAt ops forms is_half m half → (v : ℕ)
    → v < (form_at forms (behind half m - 1)).count → (n : ℤ) → FitsSigned width n → IsIn (extent_at (form_at forms (m - 1)) v) n
    → FitsSigned width (n +ℤ unit_at forms half v)
unit_adds bits width ops forms m None kernel some inside is v below n fits within = subst (FitsSigned width) (sym (+ℤ_idr n)) fits
unit_adds bits width ops forms m (Some h) kernel some inside is v below n fits within =
    let place : h + 1 - 1 ≡ m = omega (arith, is.0) in
    subst (λ t. FitsSigned width (n +ℤ factor (factors_at (form_at forms t) v) 1)) (sym is.0)
    (half_adds bits width (stage_before ops m) (form_at forms (m - 1)) (op_at ops m) (form_at forms m)
    (subst (λ t. is_half (op_at ops t) ≡ true) is.0 is.1) (subst (λ t. IsUnscaled (form_at forms t)) is.0 is.2)
    (step_at bits width ops forms m kernel some (omega (arith, inside, is.0))) v
    (subst (λ t. v < (form_at forms t).count) place below) n within)

-- ---- the limits
max_fits : (bits : ℕ) (width : Width) (stage : Stage) (before : Form) (op : Op) (after : Form) → is_max op ≡ true
    → IsStep bits width stage before op after → (v : ℕ) → v < after.count → IfSome (least_of op after v) (FitsSigned width)
max_fits bits width stage before (Max limits) after kind step v below = limited (entry limits v) (step v below).1
  where
    limited : (limit : Option ℚ)
        → IsAtLeast width (extent_at before v) limit (factor (factors_at after v) 0) (extent_at after v)
        → IfSome (bound_for limit (extent_at after v).least) (FitsSigned width)
    limited None is = tt
    limited (Some x) is = is.least_fits
max_fits bits width stage before op after kind step v below = absurd (cc kind)

min_fits : (bits : ℕ) (width : Width) (stage : Stage) (before : Form) (op : Op) (after : Form) → is_min op ≡ true
    → IsStep bits width stage before op after → (v : ℕ) → v < after.count → IfSome (greatest_of op after v) (FitsSigned width)
min_fits bits width stage before (Min limits) after kind step v below = limited (entry limits v) (step v below).1
  where
    limited : (limit : Option ℚ)
        → IsAtMost width (extent_at before v) limit (factor (factors_at after v) 0) (extent_at after v)
        → IfSome (bound_for limit (extent_at after v).greatest) (FitsSigned width)
    limited None is = tt
    limited (Some x) is = is.greatest_fits
min_fits bits width stage before op after kind step v below = absurd (cc kind)

least_fits : (bits : ℕ) (width : Width) (ops : List Op) (forms : List Form) (m : ℕ) (max : Option ℕ)
    → IsKernel ops forms bits width → 0 < m → behind max m < length ops → IsAt ops forms is_max m max → (v : ℕ)
    → v < (form_at forms (behind max m - 1)).count → IfSome (least_at ops forms max v) (FitsSigned width)
least_fits bits width ops forms m None kernel some inside is v below = tt
least_fits bits width ops forms m (Some h) kernel some inside is v below =
    let place : h + 1 - 1 ≡ m = omega (arith, is.0) in
    subst (λ t. IfSome (least_of (op_at ops t) (form_at forms t) v) (FitsSigned width)) (sym is.0)
    (max_fits bits width (stage_before ops m) (form_at forms (m - 1)) (op_at ops m) (form_at forms m)
    (subst (λ t. is_max (op_at ops t) ≡ true) is.0 is.1) (step_at bits width ops forms m kernel some (omega (arith, inside, is.0))) v
    (subst (λ t. v < (form_at forms t).count) place below))

greatest_fits : (bits : ℕ) (width : Width) (ops : List Op) (forms : List Form) (m : ℕ) (min : Option ℕ)
    → IsKernel ops forms bits width → 0 < m → behind min m < length ops → IsAt ops forms is_min m min → (v : ℕ)
    → v < (form_at forms (behind min m - 1)).count → IfSome (greatest_at ops forms min v) (FitsSigned width)
greatest_fits bits width ops forms m None kernel some inside is v below = tt
greatest_fits bits width ops forms m (Some h) kernel some inside is v below =
    let place : h + 1 - 1 ≡ m = omega (arith, is.0) in
    subst (λ t. IfSome (greatest_of (op_at ops t) (form_at forms t) v) (FitsSigned width)) (sym is.0)
    (min_fits bits width (stage_before ops m) (form_at forms (m - 1)) (op_at ops m) (form_at forms m)
    (subst (λ t. is_min (op_at ops t) ≡ true) is.0 is.1) (step_at bits width ops forms m kernel some (omega (arith, inside, is.0))) v
    (subst (λ t. v < (form_at forms t).count) place below))

-- ---- a chain
map_step : {W : Type 0} (digits : W → ℕ) (bits : ℕ) (width : Width) (ops : List Op) (forms : List Form) (k : ℕ) (chain : Chain)
    (values : List W) → IsReadyChain digits bits width ops forms k chain values
    → IsStep bits width (stage_before ops chain.map) (form_at forms k) (op_at ops chain.map) (form_at forms chain.map)
map_step digits bits width ops forms k chain values is =
    let inside = are_inside digits bits width ops forms k chain values is in
    let place : chain.map - 1 ≡ k = omega (arith, is.there.map) in
    subst (λ t. IsStep bits width (stage_before ops chain.map) (form_at forms t) (op_at ops chain.map) (form_at forms chain.map)) place
    (step_at bits width ops forms chain.map is.kernel (omega (arith, is.there.map)) inside.first)

lanes_inside : {W : Type 0} (digits : W → ℕ) (bits : ℕ) (width : Width) (ops : List Op) (forms : List Form) (k : ℕ) (chain : Chain)
    (values : List W) → IsReadyChain digits bits width ops forms k chain values → (i : ℕ) (d : W) → i < 64
    → IsInside (form_at forms k) (whole_lane digits values i d)
lanes_inside digits bits width ops forms k chain values is i d within j below =
    (is.ready is.whole is.there.widens j i d below within).bounds

-- all that is asked of value v
pub record FitsChain {W : Type 0} (digits : W → ℕ) (width : Width) (ops : List Op) (forms : List Form) (k : ℕ) (chain : Chain)
    (values : List W) (v : ℕ) : Type 0 where
  pub taken : AreTaken (products_at chain.products v) (map_row (op_at ops chain.map) (form_at forms chain.map) v) (form_at forms k).count
  pub fitting : AreFitting width digits values (form_at forms k).count
  pub entries : (j : ℕ) → j < 5 → FitsSigned width (factor (map_row (op_at ops chain.map) (form_at forms chain.map) v) j)
  pub unit : FitsSigned width (unit_at forms chain.half v)
  pub fits : (i : ℕ) (d : W) → i < 64
      → RowFits width (map_row (op_at ops chain.map) (form_at forms chain.map) v) (whole_lane digits values i d)
  pub sums : (i : ℕ) (d : W) → i < 64
      → FitsSigned width (row_sum (map_row (op_at ops chain.map) (form_at forms chain.map) v) (whole_lane digits values i d) 4
      +ℤ unit_at forms chain.half v)
  pub least : IfSome (least_at ops forms chain.max v) (FitsSigned width)
  pub greatest : IfSome (greatest_at ops forms chain.min v) (FitsSigned width)
  pub small : v < 4

pub fits_chain : {W : Type 0} (digits : W → ℕ) (bits : ℕ) (width : Width) (ops : List Op) (forms : List Form) (k : ℕ) (chain : Chain)
    (values : List W) → IsReadyChain digits bits width ops forms k chain values → (v : ℕ)
    → v < (form_at forms (chain.next - 1)).count → FitsChain digits width ops forms k chain values v
fits_chain {W} digits bits width ops forms k chain values is v below =
    let inside = are_inside digits bits width ops forms k chain values is in
    let there = is_there digits bits width ops forms k chain values is v below in
    let step = map_step digits bits width ops forms k chain values is in
    let stage = stage_before ops chain.map in
    let before = form_at forms k in
    let op = op_at ops chain.map in
    let after = form_at forms chain.map in
    let few = is.kernel.few chain.map in
    let place : chain.map ≡ chain.map + 1 - 1 = omega arith in
    let fits = λ (i : ℕ) (d : W) (within : i < 64).
    map_fits bits width stage before op after is.there.kind step few v there.map (whole_lane digits values i d)
    (lanes_inside digits bits width ops forms k chain values is i d within) in
    record {
      taken = is.there.products v there.map;
      fitting = λ j i d some within. (is.ready is.whole is.there.widens j i d some within).fits;
      entries = map_entries bits width stage before op after is.there.kind step few v there.map;
      unit = unit_fits bits width ops forms (chain.map + 1) chain.half is.kernel (omega arith) inside.second is.there.half v there.half;
      fits = fits;
      sums = λ i d within.
          unit_adds bits width ops forms (chain.map + 1) chain.half is.kernel (omega arith) inside.second is.there.half v there.half
          (row_sum (map_row op after v) (whole_lane digits values i d) 4) ((fits i d within).sums 4 (omega arith))
          (subst (λ t. IsIn (extent_at (form_at forms t) v) (row_sum (map_row op after v) (whole_lane digits values i d) 4)) place
          (map_inside bits width stage before op after is.there.kind step few v there.map (whole_lane digits values i d)
          (lanes_inside digits bits width ops forms k chain values is i d within)));
      least = least_fits bits width ops forms (behind chain.half (chain.map + 1)) chain.max is.kernel (omega (arith, inside.half))
          inside.third is.there.max v there.max;
      greatest = greatest_fits bits width ops forms (behind chain.max (behind chain.half (chain.map + 1))) chain.min is.kernel
          (omega (arith, inside.half, inside.max)) inside.last is.there.min v there.min;
      small = omega (arith, few, there.map);
    }
