-- The operations of a chain on the numbers of a block, one after the other.
use Rattle.std.proofs.Common.{◌≡◌, ℕ, zero, suc, ◌+◌, ◌-◌, ◌*◌, ◌<◌, ◌≤◌, true, List, ℤ, ◌+ℤ◌, ◌*ℤ◌, length}
use Rattle.std.proofs.Common.{slice_index_or, refl, sym, ap, ◌∙◌, subst, arith}
use Rattle.std.specs.Int.{Width}
use Rattle.std.proofs.lemmas.Bool.{eqb-true}
use Rattle.frac_math.specs.Dither.{dither_at}
use Rattle.frac_math.specs.Fraction.{ℚ, nat, ◌+ℚ◌, ◌*ℚ◌}
use Rattle.frac_math.specs.Standing.{Stands}
use Rattle.op_list.specs.declared.types.Stage.{Stage}
use Rattle.op_list.specs.declared.types.Stage.TheVariants.{Start, Typed}
use Rattle.op_list.specs.declared.types.PixType.TheVariants.{Rat}
use Rattle.op_list.specs.declared.op.Op.{Op}
use Rattle.op_list.specs.declared.op.Op.TheVariants.{Convert, Dither, Linear, Scale, Min, Max}
use Rattle.op_list.specs.declared.position.PixelPosition.{PixelPosition}
use Rattle.op_list.specs.Types.{is_rational, is_whole}
use Rattle.op_list.specs.Typing.{are_typed, stage_after}
use Rattle.op_list.specs.Values.{entry, fraction}
use Rattle.op_list.specs.Apply.{apply, at_least, at_most, row_of, row_value}
use Rattle.op_list.proofs.Applied.{whole_not_rational}
use Rattle.kernel_planes.specs.Block.{pixel_at}
use Rattle.kernel_step.specs.declared.form.Form.{Form}
use Rattle.kernel_step.specs.Rules.{row_sum}
use Rattle.kernel_step.specs.Forms.{AreReady, IsBounded, IsState, IsStep, denominator, extent_at, factor, factors_at}
use Rattle.kernel_step.specs.Forms.{AreMade, form_at, makes_fractions, op_at, stage_before, values_before}
use Rattle.kernel_step.specs.ValueSteps.{IsIn, is_by_value}
use Rattle.kernel_step.proofs.Fours.{four_at}
use Rattle.kernel_step.proofs.Kernels.{kind_before, stage_more, values_more}
use Rattle.kernel_step.proofs.Rationals.{row_stands, widened_stands}
use Rattle.kernel_step.proofs.RationalSteps.{AreRows}
use Rattle.kernel_step.proofs.Swizzles.{rational_not_whole}
use Rattle.kernel_affine.specs.Affine.{whole_lane}
use Rattle.kernel_affine.specs.Chain.{from_least, greatest_of, is_half, is_map, is_max, is_min, least_of, map_row, single_row, to_greatest}
use Rattle.kernel_affine.specs.Chain.{IsUnscaled}
use Rattle.kernel_affine.proofs.CarriedNumbers.{IsCarried, greatest_carried, half_carried, least_carried}
use Rattle.kernel_affine.proofs.CarriedNumbers.{scaling_carried}
use Rattle.kernel_affine.proofs.SingleRows.{single_sum}

-- Where the first pixels of a block have the values before operation k, these are numbers for the values before operation m.
pub record IsWalked {W N : Type 0} (digits : W → ℕ) (value : N → ℤ) (ops : List Op) (forms : List Form) (position : PixelPosition) (k m : ℕ)
    (values : List W) (old : List N) (f : ℕ → ℕ → ℤ) : Type 0 where
  pub rational : stage_before ops m ≡ Typed Rat
  pub within : (v i : ℕ) → v < (form_at forms (m - 1)).count → i < 64 → IsIn (extent_at (form_at forms (m - 1)) v) (f v i)
  pub stands : (frames : ℕ → List ℕ) (n : ℕ) → n ≤ 64
      → IsState digits value (stage_before ops k) (form_at forms (k - 1)) values old n (λ i. values_before ops (frames i) position k i)
      → (v i : ℕ) → v < (form_at forms (m - 1)).count → i < n
      → Stands (fraction (values_before ops (frames i) position m i) v) (f v i) (denominator (form_at forms (m - 1)) v)

-- ---- what a block then holds
abbrev pub AreNumbers : {N : Type 0} → (N → ℤ) → ℕ → List N → (ℕ → ℕ → ℤ) → Type 0
AreNumbers {N} value count numbers f = (v i : ℕ) (d : N) → v < count → i < 64 → value (slice_index_or numbers (64 * v + i) d) ≡ f v i

typed_rational : (stage : Stage) → stage ≡ Typed Rat → is_rational stage ≡ true
typed_rational stage is = ap is_rational is

pub walked_bounded : {W N : Type 0} (digits : W → ℕ) (value : N → ℤ) (ops : List Op) (forms : List Form) (position : PixelPosition)
    (k m : ℕ) (values : List W) (old numbers : List N) (f : ℕ → ℕ → ℤ)
    → IsWalked digits value ops forms position k m values old f → AreNumbers value (form_at forms (m - 1)).count numbers f
    → IsBounded digits value (stage_before ops m) (form_at forms (m - 1)) values numbers
walked_bounded {W} {N} digits value ops forms position k m values old numbers f walked are = record {
  small = λ whole. absurd (rational_not_whole (stage_before ops m) (typed_rational (stage_before ops m) walked.rational) whole);
  bound = λ is v i d below inside. rw (are v i d below inside) (walked.within v i below inside);
}

pub walked_holds : {W N : Type 0} (digits : W → ℕ) (value : N → ℤ) (ops : List Op) (forms : List Form) (position : PixelPosition)
    (k m : ℕ) (values : List W) (old numbers : List N) (f : ℕ → ℕ → ℤ)
    → IsWalked digits value ops forms position k m values old f → AreNumbers value (form_at forms (m - 1)).count numbers f
    → (frames : ℕ → List ℕ) (n : ℕ) → n ≤ 64
    → IsState digits value (stage_before ops k) (form_at forms (k - 1)) values old n (λ i. values_before ops (frames i) position k i)
    → IsState digits value (stage_before ops m) (form_at forms (m - 1)) values numbers n
    (λ i. values_before ops (frames i) position m i)
walked_holds {W} {N} digits value ops forms position k m values old numbers f walked are frames n most start = record {
  whole = λ whole. absurd (rational_not_whole (stage_before ops m) (typed_rational (stage_before ops m) walked.rational) whole);
  exact = λ is v i d below inside. rw (are v i d below (omega (arith, inside, most)))
      (walked.stands frames n most start v i below inside);
}

-- ---- one operation more
-- what becomes of a value
fraction_more : (ops : List Op) (frame : List ℕ) (position : PixelPosition) (m i v : ℕ) (op : Op) → op_at ops m ≡ op → m < length ops
    → fraction (values_before ops frame position (m + 1) i) v
    ≡ fraction (apply frame (pixel_at position i) (stage_before ops m) op (values_before ops frame position m i)) v
fraction_more ops frame position m i v op is inside =
    ap (λ t. fraction t v) (values_more ops frame position m i inside)
    ∙ ap (λ o. fraction (apply frame (pixel_at position i) (stage_before ops m) o (values_before ops frame position m i)) v) is

-- an operation that makes each value of that value alone
abbrev Makes : List Op → PixelPosition → ℕ → (ℕ → ℕ → ℚ → ℚ) → Type 0
Makes ops position m makes = (frame : List ℕ) (v i : ℕ) → v < 4
    → fraction (values_before ops frame position (m + 1) i) v ≡ makes v i (fraction (values_before ops frame position m i) v)

abbrev Carries : Form → Form → (ℕ → ℕ → ℤ) → (ℕ → ℕ → ℤ) → (ℕ → ℕ → ℚ → ℚ) → Type 0
Carries before after f g makes = (v i : ℕ) → v < after.count → i < 64
    → (v < before.count) × (IsIn (extent_at before v) (f v i) → IsCarried (extent_at before v) (extent_at after v) (f v i) (g v i)
    (makes v i))

value_walked : {W N : Type 0} (digits : W → ℕ) (value : N → ℤ) (ops : List Op) (forms : List Form) (position : PixelPosition) (k m : ℕ)
    (values : List W) (old : List N) (f g : ℕ → ℕ → ℤ) (makes : ℕ → ℕ → ℚ → ℚ)
    → (form_at forms m).count ≤ 4 → stage_before ops (m + 1) ≡ stage_before ops m → Makes ops position m makes
    → Carries (form_at forms (m - 1)) (form_at forms m) f g makes
    → IsWalked digits value ops forms position k m values old f → IsWalked digits value ops forms position k (m + 1) values old g
value_walked digits value ops forms position k m values old f g makes few same made each walked =
    let place : m + 1 - 1 ≡ m = omega arith in
    record {
      rational = same ∙ walked.rational;
      within = rw place (λ v i below inside.
          let one = each v i below inside in (one.1 (walked.within v i one.0 inside)).inside);
      stands = rw place (λ frames n most start v i below inside.
          let one = each v i below (omega (arith, inside, most)) in
          rw (made (frames i) v i (omega (arith, below, few)))
          ((one.1 (walked.within v i one.0 (omega (arith, inside, most)))).exact
          (fraction (values_before ops (frames i) position m i) v) (walked.stands frames n most start v i one.0 inside)));
    }

-- the same numbers
walked_alike : {W N : Type 0} (digits : W → ℕ) (value : N → ℤ) (ops : List Op) (forms : List Form) (position : PixelPosition) (k m : ℕ)
    (values : List W) (old : List N) (f g : ℕ → ℕ → ℤ)
    → ((v i : ℕ) → v < 4 → g v i ≡ f v i) → (form_at forms m).count ≤ 4
    → IsWalked digits value ops forms position k (m + 1) values old f → IsWalked digits value ops forms position k (m + 1) values old g
walked_alike digits value ops forms position k m values old f g same few walked =
    let place : m + 1 - 1 ≡ m = omega arith in
    record {
      rational = walked.rational;
      within = λ v i below inside.
          let small : v < 4 = let here = rw place at below in omega (arith, here, few) in
          subst (IsIn (extent_at (form_at forms (m + 1 - 1)) v)) (sym (same v i small)) (walked.within v i below inside);
      stands = λ frames n most start v i below inside.
          let small : v < 4 = let here = rw place at below in omega (arith, here, few) in
          subst (λ x. Stands (fraction (values_before ops (frames i) position (m + 1) i) v) x (denominator (form_at forms (m + 1 - 1)) v))
          (sym (same v i small)) (walked.stands frames n most start v i below inside);
    }

-- ---- each kind of operation
-- whole numbers become fractions
pub widened_walked : {W N : Type 0} (digits : W → ℕ) (value : N → ℤ) (bits : ℕ) (width : Width) (ops : List Op) (forms : List Form)
    (position : PixelPosition) (k : ℕ) (op : Op) (values : List W) (old : List N) (some : W)
    → are_typed Start ops ≡ true → k < length ops → (form_at forms k).count ≤ 4 → op_at ops k ≡ op → makes_fractions op ≡ true
    → is_whole (stage_before ops k) ≡ true → IsStep bits width (stage_before ops k) (form_at forms (k - 1)) op (form_at forms k)
    → AreReady digits width (stage_before ops k) op (form_at forms k) values
    → IsWalked digits value ops forms position k (k + 1) values old (λ v i. whole_lane digits values i some v)
unfolding stage_after apply
widened_walked digits value bits width ops forms position k (Convert Rat expand) values old some typed inside few is makes whole step ready =
    let place : k + 1 - 1 ≡ k = omega arith in
    let wide = step.widened whole refl in
    record {
      rational = stage_more ops k inside ∙ ap (stage_after (stage_before ops k)) is;
      within = rw place (λ v i below within. (ready whole refl v i some below within).bounds);
      stands = rw place (λ frames n most start v i below within.
          let one = wide.1 v below in
          rw (fraction_more ops (frames i) position k i v (Convert Rat expand) is inside, start.whole whole v i some one.0 within, one.1)
          (widened_stands (values_before ops (frames i) position k i) expand v (omega (arith, below, few))
          (kind_before ops (frames i) position k i typed (omega (arith, inside)) ∙ whole_not_rational (stage_before ops k) whole)));
    }
widened_walked digits value bits width ops forms position k op values old some typed inside few is makes whole step ready = absurd (cc makes)

-- a row of factors
linear_walked : {W N : Type 0} (digits : W → ℕ) (value : N → ℤ) (width : Width) (ops : List Op) (forms : List Form)
    (position : PixelPosition) (k m : ℕ) (rows : List (List ℚ)) (values : List W) (old : List N) (f : ℕ → ℕ → ℤ)
    → m < length ops → (form_at forms m).count ≤ 4 → op_at ops m ≡ Linear rows
    → AreRows width (form_at forms (m - 1)) rows (form_at forms m) → IsWalked digits value ops forms position k m values old f
    → IsWalked digits value ops forms position k (m + 1) values old (λ v i. row_sum (factors_at (form_at forms m) v) (λ j. f j i) 4)
unfolding stage_after apply
linear_walked digits value width ops forms position k m rows values old f inside few is step walked =
    let place : m + 1 - 1 ≡ m = omega arith in
    record {
      rational = stage_more ops m inside ∙ ap (stage_after (stage_before ops m)) is ∙ walked.rational;
      within = rw place (λ v i below within. (step v below).inside (λ j. f j i) (λ j some. walked.within j i some within));
      stands = rw place (λ frames n most start v i below within.
          rw (
            fraction_more ops (frames i) position m i v (Linear rows) is inside,
            four_at (λ u. row_value (row_of rows u) (values_before ops (frames i) position m i)) v (nat 0) (omega (arith, below, few)),
          )
          (row_stands width (form_at forms (m - 1)) (row_of rows v) (factors_at (form_at forms m) v) (extent_at (form_at forms m) v)
          (values_before ops (frames i) position m i) (λ j. f j i) (step v below)
          (λ j some. walked.stands frames n most start j i some within)
          (λ j some. walked.within j i some (omega (arith, within, most)))));
    }

-- an operation that leaves fractions
stays : (ops : List Op) (m : ℕ) (op : Op) → m < length ops → op_at ops m ≡ op → is_by_value op ≡ true
    → stage_before ops (m + 1) ≡ stage_before ops m
unfolding stage_after
stays ops m op inside is kind = stage_more ops m inside ∙ ap (stage_after (stage_before ops m)) is ∙ kept op kind
  where
    kept : (op : Op) → is_by_value op ≡ true → stage_after (stage_before ops m) op ≡ stage_before ops m
    kept (Scale by) kind = refl
    kept (Min limits) kind = refl
    kept (Max limits) kind = refl
    kept (Dither count) kind = refl
    kept op kind = absurd (cc kind)

scale_walked : {W N : Type 0} (digits : W → ℕ) (value : N → ℤ) (width : Width) (ops : List Op) (forms : List Form)
    (position : PixelPosition) (k m : ℕ) (by : ℚ) (values : List W) (old : List N) (f : ℕ → ℕ → ℤ)
    → m < length ops → (form_at forms m).count ≤ 4 → op_at ops m ≡ Scale by
    → AreMade width (form_at forms (m - 1)) (Scale by) (form_at forms m) → IsWalked digits value ops forms position k m values old f
    → IsWalked digits value ops forms position k (m + 1) values old (λ v i. factor (factors_at (form_at forms m) v) 0 *ℤ f v i)
unfolding apply
scale_walked digits value width ops forms position k m by values old f inside few is step walked =
    value_walked digits value ops forms position k m values old f (λ v i. factor (factors_at (form_at forms m) v) 0 *ℤ f v i)
    (λ v i x. x *ℚ by) few (stays ops m (Scale by) inside is refl)
    (λ frame v i below. fraction_more ops frame position m i v (Scale by) is inside
    ∙ four_at (λ u. fraction (values_before ops frame position m i) u *ℚ by) v (nat 0) below)
    (λ v i below within. (
      (step v below).0,
      scaling_carried width (extent_at (form_at forms (m - 1)) v) (extent_at (form_at forms m) v) by
          (factor (factors_at (form_at forms m) v) 0) (f v i) (step v below).1,
    ))
    walked

-- the same, as the row of a linear map
pub map_walked : {W N : Type 0} (digits : W → ℕ) (value : N → ℤ) (bits : ℕ) (width : Width) (ops : List Op) (forms : List Form)
    (position : PixelPosition) (k m : ℕ) (op : Op) (values : List W) (old : List N) (f : ℕ → ℕ → ℤ)
    → m < length ops → (form_at forms m).count ≤ 4 → op_at ops m ≡ op → is_map op ≡ true
    → IsStep bits width (stage_before ops m) (form_at forms (m - 1)) op (form_at forms m)
    → IsWalked digits value ops forms position k m values old f
    → IsWalked digits value ops forms position k (m + 1) values old (λ v i. row_sum (map_row op (form_at forms m) v) (λ j. f j i) 4)
map_walked digits value bits width ops forms position k m (Linear rows) values old f inside few is kind step walked =
    linear_walked digits value width ops forms position k m rows values old f inside few is step walked
map_walked digits value bits width ops forms position k m (Scale by) values old f inside few is kind step walked =
    walked_alike digits value ops forms position k m values old (λ v i. factor (factors_at (form_at forms m) v) 0 *ℤ f v i)
    (λ v i. row_sum (single_row (factor (factors_at (form_at forms m) v) 0) v) (λ j. f j i) 4)
    (λ v i small. single_sum (factor (factors_at (form_at forms m) v) 0) v (λ j. f j i) small) few
    (scale_walked digits value width ops forms position k m by values old f inside few is step walked)
map_walked digits value bits width ops forms position k m op values old f inside few is kind step walked = absurd (cc kind)

pub half_walked : {W N : Type 0} (digits : W → ℕ) (value : N → ℤ) (bits : ℕ) (width : Width) (ops : List Op) (forms : List Form)
    (position : PixelPosition) (k m : ℕ) (op : Op) (values : List W) (old : List N) (f : ℕ → ℕ → ℤ)
    → m < length ops → (form_at forms m).count ≤ 4 → op_at ops m ≡ op → is_half op ≡ true → IsUnscaled (form_at forms m)
    → IsStep bits width (stage_before ops m) (form_at forms (m - 1)) op (form_at forms m)
    → IsWalked digits value ops forms position k m values old f
    → IsWalked digits value ops forms position k (m + 1) values old (λ v i. f v i +ℤ factor (factors_at (form_at forms m) v) 1)
unfolding apply
half_walked digits value bits width ops forms position k m (Dither zero) values old f inside few is kind one step walked =
    value_walked digits value ops forms position k m values old f (λ v i. f v i +ℤ factor (factors_at (form_at forms m) v) 1)
    (λ v i x. x +ℚ dither_at 0 (position.x + i) position.y) few (stays ops m (Dither 0) inside is refl)
    (λ frame v i below. fraction_more ops frame position m i v (Dither 0) is inside
    ∙ four_at (λ u. fraction (values_before ops frame position m i) u +ℚ dither_at 0 (position.x + i) position.y) v (nat 0) below)
    (λ v i below within. (
      (step v below).0,
      half_carried width (extent_at (form_at forms (m - 1)) v) (extent_at (form_at forms m) v)
          (factor (factors_at (form_at forms m) v) 0) (factor (factors_at (form_at forms m) v) 1) (f v i) (position.x + i) position.y
          (step v below).1 (one v below),
    ))
    walked
half_walked digits value bits width ops forms position k m (Dither (suc count)) values old f inside few is kind one step walked =
    absurd (omega (arith, eqb-true (suc count) 0 kind))
half_walked digits value bits width ops forms position k m op values old f inside few is kind one step walked = absurd (cc kind)

pub max_walked : {W N : Type 0} (digits : W → ℕ) (value : N → ℤ) (bits : ℕ) (width : Width) (ops : List Op) (forms : List Form)
    (position : PixelPosition) (k m : ℕ) (op : Op) (values : List W) (old : List N) (f : ℕ → ℕ → ℤ)
    → m < length ops → (form_at forms m).count ≤ 4 → op_at ops m ≡ op → is_max op ≡ true → IsUnscaled (form_at forms m)
    → IsStep bits width (stage_before ops m) (form_at forms (m - 1)) op (form_at forms m)
    → IsWalked digits value ops forms position k m values old f
    → IsWalked digits value ops forms position k (m + 1) values old (λ v i. from_least (least_of op (form_at forms m) v) (f v i))
unfolding apply
max_walked digits value bits width ops forms position k m (Max limits) values old f inside few is kind one step walked =
    value_walked digits value ops forms position k m values old f
    (λ v i. from_least (least_of (Max limits) (form_at forms m) v) (f v i))
    (λ v i x. at_least (entry limits v) x) few (stays ops m (Max limits) inside is refl)
    (λ frame v i below. fraction_more ops frame position m i v (Max limits) is inside
    ∙ four_at (λ u. at_least (entry limits u) (fraction (values_before ops frame position m i) u)) v (nat 0) below)
    (λ v i below within. (
      (step v below).0,
      least_carried width (extent_at (form_at forms (m - 1)) v) (extent_at (form_at forms m) v) (entry limits v)
          (factor (factors_at (form_at forms m) v) 0) (f v i) (step v below).1 (one v below),
    ))
    walked
max_walked digits value bits width ops forms position k m op values old f inside few is kind one step walked = absurd (cc kind)

pub min_walked : {W N : Type 0} (digits : W → ℕ) (value : N → ℤ) (bits : ℕ) (width : Width) (ops : List Op) (forms : List Form)
    (position : PixelPosition) (k m : ℕ) (op : Op) (values : List W) (old : List N) (f : ℕ → ℕ → ℤ)
    → m < length ops → (form_at forms m).count ≤ 4 → op_at ops m ≡ op → is_min op ≡ true → IsUnscaled (form_at forms m)
    → IsStep bits width (stage_before ops m) (form_at forms (m - 1)) op (form_at forms m)
    → IsWalked digits value ops forms position k m values old f
    → IsWalked digits value ops forms position k (m + 1) values old (λ v i. to_greatest (greatest_of op (form_at forms m) v) (f v i))
unfolding apply
min_walked digits value bits width ops forms position k m (Min limits) values old f inside few is kind one step walked =
    value_walked digits value ops forms position k m values old f
    (λ v i. to_greatest (greatest_of (Min limits) (form_at forms m) v) (f v i))
    (λ v i x. at_most (entry limits v) x) few (stays ops m (Min limits) inside is refl)
    (λ frame v i below. fraction_more ops frame position m i v (Min limits) is inside
    ∙ four_at (λ u. at_most (entry limits u) (fraction (values_before ops frame position m i) u)) v (nat 0) below)
    (λ v i below within. (
      (step v below).0,
      greatest_carried width (extent_at (form_at forms (m - 1)) v) (extent_at (form_at forms m) v) (entry limits v)
          (factor (factors_at (form_at forms m) v) 0) (f v i) (step v below).1 (one v below),
    ))
    walked
min_walked digits value bits width ops forms position k m op values old f inside few is kind one step walked = absurd (cc kind)
