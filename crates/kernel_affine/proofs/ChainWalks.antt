-- A whole chain on the numbers of a block.
use Rattle.std.proofs.Common.{◌≡◌, ℕ, ◌+◌, ◌-◌, ◌<◌, ◌≤◌, Bool, true, List, ℤ, ◌+ℤ◌, length, refl, sym, subst, arith}
use Rattle.std.specs.Prelude.{Option, Some, None}
use Rattle.std.specs.Int.{Width}
use Rattle.std.proofs.Math.IntN.{+ℤ_idr}
use Rattle.op_list.specs.declared.op.Op.{Op}
use Rattle.op_list.specs.declared.position.PixelPosition.{PixelPosition}
use Rattle.kernel_step.specs.declared.form.Form.{Form}
use Rattle.kernel_step.specs.Rules.{row_sum}
use Rattle.kernel_step.specs.Forms.{AreReady, IsKernel, IsStep, factor, factors_at, form_at, op_at, stage_before}
use Rattle.kernel_affine.specs.declared.chain.Chain.{Chain}
use Rattle.kernel_affine.specs.declared.chain.Placed.{Placed}
use Rattle.kernel_affine.specs.Affine.{whole_lane}
use Rattle.kernel_affine.specs.Chain.{IsAt, IsPlaced, IsReadyChain, IsUnscaled, behind, chain_number, from_least, greatest_at, greatest_of, is_half}
use Rattle.kernel_affine.specs.Chain.{is_max, is_min, least_at, least_of, map_row, to_greatest, unit_at}
use Rattle.kernel_affine.proofs.WalkedSteps.{IsWalked, half_walked, map_walked, max_walked, min_walked, widened_walked}

-- the numbers of an operation are its own
pub step_at : (bits : ℕ) (width : Width) (ops : List Op) (forms : List Form) (m : ℕ) → IsKernel ops forms bits width → 0 < m
    → m + 1 < length ops → IsStep bits width (stage_before ops m) (form_at forms (m - 1)) (op_at ops m) (form_at forms m)
step_at bits width ops forms m kernel some inside = (kernel.steps m some (omega (arith, inside))).step

pub behind_grows : (ops : List Op) (forms : List Form) (kind : Op → Bool) (m : ℕ) (found : Option ℕ) → IsAt ops forms kind m found
    → m ≤ behind found m
behind_grows ops forms kind m None is = omega arith
behind_grows ops forms kind m (Some h) is = omega (arith, is.0)

-- ---- an operation that may stand at a place
half_behind : {W N : Type 0} (digits : W → ℕ) (value : N → ℤ) (bits : ℕ) (width : Width) (ops : List Op) (forms : List Form)
    (position : PixelPosition) (k m : ℕ) (half : Option ℕ) (values : List W) (old : List N) (f : ℕ → ℕ → ℤ)
    → IsKernel ops forms bits width → 0 < m → behind half m < length ops → IsAt ops forms is_half m half
    → IsWalked digits value ops forms position k m values old f
    → IsWalked digits value ops forms position k (behind half m) values old (λ v i. f v i +ℤ unit_at forms half v)
half_behind digits value bits width ops forms position k m None values old f kernel some inside is walked =
    subst (λ g. IsWalked digits value ops forms position k m values old g) (λ j v i. sym (+ℤ_idr (f v i)) j) walked
half_behind digits value bits width ops forms position k m (Some h) values old f kernel some inside is walked =
    let kind : is_half (op_at ops m) ≡ true = subst (λ t. is_half (op_at ops t) ≡ true) is.0 is.1 in
    let one : IsUnscaled (form_at forms m) = subst (λ t. IsUnscaled (form_at forms t)) is.0 is.2 in
    subst (λ t. IsWalked digits value ops forms position k (t + 1) values old
    (λ v i. f v i +ℤ factor (factors_at (form_at forms t) v) 1)) (sym is.0)
    (half_walked digits value bits width ops forms position k m (op_at ops m) values old f (omega (arith, inside, is.0)) (kernel.few m) refl
    kind one (step_at bits width ops forms m kernel some (omega (arith, inside, is.0))) walked)

max_behind : {W N : Type 0} (digits : W → ℕ) (value : N → ℤ) (bits : ℕ) (width : Width) (ops : List Op) (forms : List Form)
    (position : PixelPosition) (k m : ℕ) (max : Option ℕ) (values : List W) (old : List N) (f : ℕ → ℕ → ℤ)
    → IsKernel ops forms bits width → 0 < m → behind max m < length ops → IsAt ops forms is_max m max
    → IsWalked digits value ops forms position k m values old f
    → IsWalked digits value ops forms position k (behind max m) values old (λ v i. from_least (least_at ops forms max v) (f v i))
max_behind digits value bits width ops forms position k m None values old f kernel some inside is walked = walked
max_behind digits value bits width ops forms position k m (Some h) values old f kernel some inside is walked =
    let kind : is_max (op_at ops m) ≡ true = subst (λ t. is_max (op_at ops t) ≡ true) is.0 is.1 in
    let one : IsUnscaled (form_at forms m) = subst (λ t. IsUnscaled (form_at forms t)) is.0 is.2 in
    subst (λ t. IsWalked digits value ops forms position k (t + 1) values old
    (λ v i. from_least (least_of (op_at ops t) (form_at forms t) v) (f v i))) (sym is.0)
    (max_walked digits value bits width ops forms position k m (op_at ops m) values old f (omega (arith, inside, is.0)) (kernel.few m) refl
    kind one (step_at bits width ops forms m kernel some (omega (arith, inside, is.0))) walked)

min_behind : {W N : Type 0} (digits : W → ℕ) (value : N → ℤ) (bits : ℕ) (width : Width) (ops : List Op) (forms : List Form)
    (position : PixelPosition) (k m : ℕ) (min : Option ℕ) (values : List W) (old : List N) (f : ℕ → ℕ → ℤ)
    → IsKernel ops forms bits width → 0 < m → behind min m < length ops → IsAt ops forms is_min m min
    → IsWalked digits value ops forms position k m values old f
    → IsWalked digits value ops forms position k (behind min m) values old (λ v i. to_greatest (greatest_at ops forms min v) (f v i))
min_behind digits value bits width ops forms position k m None values old f kernel some inside is walked = walked
min_behind digits value bits width ops forms position k m (Some h) values old f kernel some inside is walked =
    let kind : is_min (op_at ops m) ≡ true = subst (λ t. is_min (op_at ops t) ≡ true) is.0 is.1 in
    let one : IsUnscaled (form_at forms m) = subst (λ t. IsUnscaled (form_at forms t)) is.0 is.2 in
    subst (λ t. IsWalked digits value ops forms position k (t + 1) values old
    (λ v i. to_greatest (greatest_of (op_at ops t) (form_at forms t) v) (f v i))) (sym is.0)
    (min_walked digits value bits width ops forms position k m (op_at ops m) values old f (omega (arith, inside, is.0)) (kernel.few m) refl
    kind one (step_at bits width ops forms m kernel some (omega (arith, inside, is.0))) walked)

-- ---- the operations of a chain
-- the places behind the map are in the list
pub record AreInside (ops : List Op) (forms : List Form) (k : ℕ) (chain : Chain) : Type 0 where
  pub last : behind chain.min (behind chain.max (behind chain.half (chain.map + 1))) < length ops
  pub third : behind chain.max (behind chain.half (chain.map + 1)) < length ops
  pub second : behind chain.half (chain.map + 1) < length ops
  pub first : chain.map + 1 < length ops
  pub half : chain.map + 1 ≤ behind chain.half (chain.map + 1)
  pub max : behind chain.half (chain.map + 1) ≤ behind chain.max (behind chain.half (chain.map + 1))

pub are_inside : {W : Type 0} (digits : W → ℕ) (bits : ℕ) (width : Width) (ops : List Op) (forms : List Form) (k : ℕ) (chain : Chain)
    (values : List W) → IsReadyChain digits bits width ops forms k chain values → AreInside ops forms k chain
are_inside digits bits width ops forms k chain values is =
    let last : behind chain.min (behind chain.max (behind chain.half (chain.map + 1))) < length ops =
    subst (λ t. t < length ops) is.there.next is.there.end in
    let first = behind_grows ops forms is_half (chain.map + 1) chain.half is.there.half in
    let second = behind_grows ops forms is_max (behind chain.half (chain.map + 1)) chain.max is.there.max in
    let third = behind_grows ops forms is_min (behind chain.max (behind chain.half (chain.map + 1))) chain.min is.there.min in
    record {
      last = last;
      third = omega (arith, last, third);
      second = omega (arith, last, second, third);
      first = omega (arith, last, first, second, third);
      half = first;
      max = second;
    }

-- the map of whole numbers
lanes_walked : {W N : Type 0} (digits : W → ℕ) (value : N → ℤ) (bits : ℕ) (width : Width) (ops : List Op) (forms : List Form)
    (position : PixelPosition) (k : ℕ) (chain : Chain) (values : List W) (old : List N) (some : W)
    → IsReadyChain digits bits width ops forms k chain values
    → IsWalked digits value ops forms position k chain.map values old (λ v i. whole_lane digits values i some v)
lanes_walked digits value bits width ops forms position k chain values old some is =
    let inside = are_inside digits bits width ops forms k chain values is in
    subst (λ t. IsWalked digits value ops forms position k t values old (λ v i. whole_lane digits values i some v)) (sym is.there.map)
    (widened_walked digits value bits width ops forms position k (op_at ops k) values old some is.kernel.typed
    (omega (arith, inside.first, is.there.map)) (is.kernel.few k) refl is.there.widens is.whole
    (step_at bits width ops forms k is.kernel is.some (omega (arith, inside.first, is.there.map))) is.ready)

pub sums_walked : {W N : Type 0} (digits : W → ℕ) (value : N → ℤ) (bits : ℕ) (width : Width) (ops : List Op) (forms : List Form)
    (position : PixelPosition) (k : ℕ) (chain : Chain) (values : List W) (old : List N) (some : W)
    → IsReadyChain digits bits width ops forms k chain values
    → IsWalked digits value ops forms position k (chain.map + 1) values old
    (λ v i. row_sum (map_row (op_at ops chain.map) (form_at forms chain.map) v) (whole_lane digits values i some) 4)
sums_walked digits value bits width ops forms position k chain values old some is =
    let inside = are_inside digits bits width ops forms k chain values is in
    map_walked digits value bits width ops forms position k chain.map (op_at ops chain.map) values old
    (λ v i. whole_lane digits values i some v) (omega (arith, inside.first)) (is.kernel.few chain.map) refl is.there.kind
    (step_at bits width ops forms chain.map is.kernel (omega (arith, is.there.map)) inside.first)
    (lanes_walked digits value bits width ops forms position k chain values old some is)

pub chain_walked : {W N : Type 0} (digits : W → ℕ) (value : N → ℤ) (bits : ℕ) (width : Width) (ops : List Op) (forms : List Form)
    (position : PixelPosition) (k : ℕ) (chain : Chain) (values : List W) (old : List N) (some : W)
    → IsReadyChain digits bits width ops forms k chain values
    → IsWalked digits value ops forms position k chain.next values old
    (λ v i. chain_number ops forms chain (whole_lane digits values i some) v)
chain_walked digits value bits width ops forms position k chain values old some is =
    let inside = are_inside digits bits width ops forms k chain values is in
    let sums = λ (v i : ℕ). row_sum (map_row (op_at ops chain.map) (form_at forms chain.map) v) (whole_lane digits values i some) 4 in
    let halves = λ (v i : ℕ). sums v i +ℤ unit_at forms chain.half v in
    let above = λ (v i : ℕ). from_least (least_at ops forms chain.max v) (halves v i) in
    subst (λ t. IsWalked digits value ops forms position k t values old
    (λ v i. chain_number ops forms chain (whole_lane digits values i some) v)) (sym is.there.next)
    (min_behind digits value bits width ops forms position k (behind chain.max (behind chain.half (chain.map + 1))) chain.min values old
    above is.kernel (omega (arith, inside.half, inside.max)) inside.last is.there.min
    (max_behind digits value bits width ops forms position k (behind chain.half (chain.map + 1)) chain.max values old halves is.kernel
    (omega (arith, inside.half)) inside.third is.there.max
    (half_behind digits value bits width ops forms position k (chain.map + 1) chain.half values old sums is.kernel (omega arith)
    inside.second is.there.half (sums_walked digits value bits width ops forms position k chain values old some is))))

-- a chain of a list, before which the values are ready
pub placed_ready : {W : Type 0} (digits : W → ℕ) (bits : ℕ) (width : Width) (ops : List Op) (forms : List Form) (placed : Placed)
    (values : List W) → IsKernel ops forms bits width → IsPlaced ops forms placed
    → AreReady digits width (stage_before ops placed.at) (op_at ops placed.at) (form_at forms placed.at) values
    → IsReadyChain digits bits width ops forms placed.at placed.chain values
placed_ready digits bits width ops forms placed values kernel there ready =
    record { kernel = kernel; some = there.some; there = there.there; whole = there.whole; ready = ready }
