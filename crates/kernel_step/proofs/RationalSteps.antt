-- The steps between fractions: what a block holds, and its bounds.
use Rattle.std.proofs.Common.{◌≡◌, ℕ, ◌+◌, ◌*◌, ◌/◌, ◌%◌, ◌<◌, ◌≤◌, Bool, true, List, ℤ, pos, length, slice_index_or, FitsSigned, ◌∙◌}
use Rattle.std.proofs.Common.{arith, refl, subst}
use Rattle.std.specs.Int.{Width}
use Rattle.frac_math.specs.Fraction.{ℚ, nat}
use Rattle.op_list.specs.declared.types.Stage.{Stage}
use Rattle.op_list.specs.declared.types.PixType.TheVariants.{Rat}
use Rattle.op_list.specs.declared.op.Op.TheVariants.{Convert, Linear}
use Rattle.op_list.specs.declared.position.PixelPosition.{PixelPosition}
use Rattle.op_list.specs.Types.{is_rational}
use Rattle.op_list.specs.Typing.{stage_after, may_follow}
use Rattle.op_list.specs.Apply.{apply, row_of, row_value}
use Rattle.op_list.proofs.Applied.{whole_not_rational}
use Rattle.kernel_step.specs.declared.form.Form.{Form}
use Rattle.kernel_step.specs.Rules.{row_sum, lane_numbers}
use Rattle.kernel_step.specs.Forms.{extent_at, factors_at, AreReady, AreWidened, IsBounded, IsRow, Performs}
use Rattle.kernel_step.proofs.Fours.{four_at}
use Rattle.kernel_step.proofs.Kernels.{some_element}
use Rattle.kernel_step.proofs.Swizzles.{rational_not_whole}
use Rattle.kernel_step.proofs.Rationals.{row_stands, widened_stands}

-- ---- whole numbers become fractions
abbrev pub Widens : {W N : Type 0} → (W → ℕ) → (N → ℤ) → ℕ → List W → List N → Type 0
Widens {W} {N} digits value n values numbers = (j : ℕ) (d : W) (e : N) → j < n
    → value (slice_index_or numbers j e) ≡ pos (digits (slice_index_or values j d))

pub widened_fit : {W : Type 0} (digits : W → ℕ) (width : Width) (stage : Stage) (expand : Bool) (before after : Form) (values : List W)
    → AreWidened stage before after → AreReady digits width stage (Convert Rat expand) after values
    → (j : ℕ) (d : W) → j < 64 * after.count → FitsSigned width (pos (digits (slice_index_or values j d)))
widened_fit digits width stage expand before after values is ready j d below =
    let v = j / 64 in
    let i = j % 64 in
    let same : 64 * v + i ≡ j = omega arith in
    let within : v < after.count = omega arith in
    subst (λ t. FitsSigned width (pos (digits (slice_index_or values t d)))) same (ready is.0 refl v i d within (omega arith)).fits

pub widened_bounded : {W N : Type 0} (digits : W → ℕ) (value : N → ℤ) (width : Width) (stage : Stage) (expand : Bool) (before after : Form)
    (values : List W) (new : List N)
    → AreWidened stage before after → AreReady digits width stage (Convert Rat expand) after values
    → after.count ≤ 4 → length values ≡ 256 → Widens digits value (64 * after.count) values new
    → IsBounded digits value (stage_after stage (Convert Rat expand)) after values new
unfolding stage_after
widened_bounded {W} {N} digits value width stage expand before after values new is ready few size widens = record {
  small = λ whole. cc;
  bound = λ rational v i d below within.
      let some : W = some_element values (omega (arith, size)) in
      rw (widens (64 * v + i) some d (omega (arith, below, within))) (ready is.0 refl v i some below within).bounds;
}

pub widened_performs : {W N : Type 0} (digits : W → ℕ) (value : N → ℤ) (stage : Stage) (expand : Bool) (before after : Form)
    (position : PixelPosition) (values : List W) (old new : List N)
    → AreWidened stage before after → after.count ≤ 4 → length values ≡ 256 → Widens digits value (64 * after.count) values new
    → Performs digits value stage before (Convert Rat expand) after position values old values new
unfolding stage_after apply
widened_performs {W} {N} digits value stage expand before after position values old new is few size widens frame n given most kinds
    state = record {
      whole = λ whole. cc;
      exact = λ rational v i d below within.
          let one = is.1 v below in
          let some : W = some_element values (omega (arith, size)) in
          let lane_below : 64 * v + i < 64 * after.count = omega (arith, below, within, most) in
          rw (widens (64 * v + i) some d lane_below, state.whole is.0 v i some one.0 within, one.1)
          (widened_stands (given i) expand v (omega (arith, below, few)) (kinds i ∙ whole_not_rational stage is.0));
    }

-- ---- rows of factors
abbrev pub AreRows : Width → Form → List (List ℚ) → Form → Type 0
AreRows width before rows after = (v : ℕ) → v < after.count → IsRow width before (row_of rows v) (factors_at after v) (extent_at after v)

abbrev pub Sums : {N : Type 0} → (N → ℤ) → Form → List N → List N → Type 0
Sums {N} value after old new = (v i : ℕ) (d : N) → v < after.count → i < 64
    → value (slice_index_or new (64 * v + i) d) ≡ row_sum (factors_at after v) (lane_numbers value old i d) 4

pub rows_bounded : {W N : Type 0} (digits : W → ℕ) (value : N → ℤ) (width : Width) (stage : Stage) (rows : List (List ℚ))
    (before after : Form) (values : List W) (old new : List N)
    → is_rational stage ≡ true → AreRows width before rows after → Sums value after old new
    → IsBounded digits value stage before values old → IsBounded digits value (stage_after stage (Linear rows)) after values new
unfolding stage_after
rows_bounded {W} {N} digits value width stage rows before after values old new kind is sums bounded = record {
  small = λ whole. absurd (rational_not_whole stage kind whole);
  bound = λ rational v i d below within.
      rw (sums v i d below within) ((is v below).inside (lane_numbers value old i d) (λ j some. bounded.bound kind j i d some within));
}

pub rows_perform : {W N : Type 0} (digits : W → ℕ) (value : N → ℤ) (width : Width) (stage : Stage) (rows : List (List ℚ))
    (before after : Form) (position : PixelPosition) (values : List W) (old new : List N)
    → is_rational stage ≡ true → after.count ≤ 4 → AreRows width before rows after → Sums value after old new
    → IsBounded digits value stage before values old
    → Performs digits value stage before (Linear rows) after position values old values new
unfolding stage_after apply
rows_perform {W} {N} digits value width stage rows before after position values old new kind few is sums bounded frame n given most kinds
    state = record {
      whole = λ whole. absurd (rational_not_whole stage kind whole);
      exact = λ rational v i d below within.
          rw (
            four_at (λ u. row_value (row_of rows u) (given i)) v (nat 0) (omega (arith, below, few)),
            sums v i d below (omega (arith, within, most)),
          )
          (row_stands width before (row_of rows v) (factors_at after v) (extent_at after v) (given i) (lane_numbers value old i d)
          (is v below)
          (λ j some. state.exact kind j i d some within)
          (λ j some. bounded.bound kind j i d some (omega (arith, within, most))));
    }

pub linear_rational : (stage : Stage) (rows : List (List ℚ)) → may_follow stage (Linear rows) ≡ true → is_rational stage ≡ true
unfolding may_follow
linear_rational stage rows h = h
