-- Operations that make each value from that value alone: what a block holds, and its bounds.
use Rattle.std.proofs.Common.{◌≡◌, ℕ, ◌+◌, ◌*◌, ◌<◌, ◌≤◌, true, List, ℤ, slice_index_or, refl, ◌∙◌, arith}
use Rattle.std.proofs.lemmas.Bool.{leb-true}
use Rattle.std.specs.Int.{Width}
use Rattle.frac_math.specs.Fraction.{ℚ, nat, ◌+ℚ◌, ◌*ℚ◌}
use Rattle.frac_math.specs.Dither.{dither_at}
use Rattle.op_list.specs.declared.types.Stage.{Stage}
use Rattle.op_list.specs.declared.op.Op.{Op}
use Rattle.op_list.specs.declared.op.Op.TheVariants.{Read, Write, SwapBytes, Unpack, Pack, Clear, LeftShift, RightShift, Swizzle, Convert}
use Rattle.op_list.specs.declared.op.Op.TheVariants.{Dither, Linear, Scale, Min, Max}
use Rattle.op_list.specs.declared.position.PixelPosition.{PixelPosition}
use Rattle.op_list.specs.declared.values.Values.{Values}
use Rattle.op_list.specs.Types.{is_rational}
use Rattle.op_list.specs.Typing.{are_good, may_follow, stage_after}
use Rattle.op_list.specs.Values.{fraction, entry, are_fractions}
use Rattle.op_list.specs.Apply.{apply, at_least, at_most}
use Rattle.kernel_step.specs.declared.form.Extent.{Extent}
use Rattle.kernel_step.specs.declared.form.Form.{Form}
use Rattle.kernel_planes.specs.Block.{pixel_at}
use Rattle.kernel_step.specs.Forms.{extent_at, AreMade, IsBounded, IsStep, Performs}
use Rattle.kernel_step.specs.ValueSteps.{MakesValue, is_by_value, makes}
use Rattle.kernel_step.proofs.Fours.{four_at}
use Rattle.kernel_step.proofs.Swizzles.{rational_not_whole}

pub dither_small : (stage : Stage) (k : ℕ) → are_good stage (Dither k) ≡ true → k ≤ 4
unfolding are_good
dither_small stage k h = leb-true _ _ h

-- what the operation makes of value v
made_fraction : (frame : List ℕ) (position : PixelPosition) (stage : Stage) (op : Op) (values : Values) (v : ℕ) → is_by_value op ≡ true
    → v < 4 → are_fractions values ≡ true
    → fraction (apply frame position stage op values) v ≡ makes op v position (fraction values v)
unfolding apply
made_fraction frame position stage (Clear entries) values v h small kind = cc
made_fraction frame position stage (Scale by) values v h small kind = four_at (λ i. fraction values i *ℚ by) v (nat 0) small
made_fraction frame position stage (Min limits) values v h small kind = four_at (λ i. at_most (entry limits i) (fraction values i)) v
    (nat 0) small
made_fraction frame position stage (Max limits) values v h small kind = four_at (λ i. at_least (entry limits i) (fraction values i)) v
    (nat 0) small
made_fraction frame position stage (Dither k) values v h small kind = four_at (λ i. fraction values i +ℚ dither_at k position.x position.y)
    v (nat 0) small
made_fraction frame position stage (Read elem planes palette) values v h small kind = cc
made_fraction frame position stage (Write elem planes) values v h small kind = cc
made_fraction frame position stage SwapBytes values v h small kind = cc
made_fraction frame position stage (Unpack widths) values v h small kind = cc
made_fraction frame position stage (Pack widths) values v h small kind = cc
made_fraction frame position stage (LeftShift n) values v h small kind = cc
made_fraction frame position stage (RightShift n) values v h small kind = cc
made_fraction frame position stage (Swizzle from) values v h small kind = cc
made_fraction frame position stage (Convert to expand) values v h small kind = cc
made_fraction frame position stage (Linear rows) values v h small kind = cc

stays_rational : (stage : Stage) (op : Op) → is_by_value op ≡ true → stage_after stage op ≡ stage
unfolding stage_after
stays_rational stage (Clear entries) h = cc
stays_rational stage (Scale by) h = refl
stays_rational stage (Min limits) h = refl
stays_rational stage (Max limits) h = refl
stays_rational stage (Dither k) h = refl
stays_rational stage (Read elem planes palette) h = cc
stays_rational stage (Write elem planes) h = cc
stays_rational stage SwapBytes h = cc
stays_rational stage (Unpack widths) h = cc
stays_rational stage (Pack widths) h = cc
stays_rational stage (LeftShift n) h = cc
stays_rational stage (RightShift n) h = cc
stays_rational stage (Swizzle from) h = cc
stays_rational stage (Convert to expand) h = cc
stays_rational stage (Linear rows) h = cc

-- all values below a count are made
abbrev pub Makes : {N : Type 0} → (N → ℤ) → Form → Op → Form → PixelPosition → List N → List N → ℕ → Type 0
Makes value before op after position numbers made count = (v : ℕ) → v < count
    → MakesValue value numbers made v (extent_at before v) (extent_at after v) (λ i x. makes op v (pixel_at position i) x)

pub made_bounded : {W N : Type 0} (digits : W → ℕ) (value : N → ℤ) (stage : Stage) (op : Op) (before after : Form)
    (position : PixelPosition) (values : List W) (numbers made : List N)
    → is_by_value op ≡ true → is_rational stage ≡ true → Makes value before op after position numbers made after.count
    → IsBounded digits value (stage_after stage op) after values made
made_bounded {W} {N} digits value stage op before after position values numbers made kind rational each =
    rw (stays_rational stage op kind)
    (record {
      small = λ whole. absurd (rational_not_whole stage rational whole);
      bound = λ is v i d below within. (each v below).inside i d within;
    })

pub made_performs : {W N : Type 0} (digits : W → ℕ) (value : N → ℤ) (width : Width) (stage : Stage) (op : Op) (before after : Form)
    (position : PixelPosition) (values : List W) (numbers made : List N)
    → is_by_value op ≡ true → is_rational stage ≡ true → after.count ≤ 4 → AreMade width before op after
    → Makes value before op after position numbers made after.count
    → Performs digits value stage before op after position values numbers values made
made_performs {W} {N} digits value width stage op before after position values numbers made kind rational few step each frame n given most
    kinds state =
    rw (stays_rational stage op kind)
    (record {
      whole = λ whole. absurd (rational_not_whole stage rational whole);
      exact = λ is v i d below within.
          rw (made_fraction frame (pixel_at position i) stage op (given i) v kind (omega (arith, below, few)) (kinds i ∙ rational))
          ((each v below).exact i d (fraction (given i) v) (omega (arith, within, most))
          (state.exact rational v i d (step v below).0 within));
    })

-- where the numbers of value v are the same, before and after
pub made_same : {N : Type 0} (value : N → ℤ) (numbers made others other_made : List N) (v : ℕ) (old new : Extent) (fraction_at : ℕ → ℚ → ℚ)
    → ((i : ℕ) (d : N) → i < 64 → slice_index_or others (64 * v + i) d ≡ slice_index_or numbers (64 * v + i) d)
    → ((i : ℕ) (d : N) → i < 64 → slice_index_or other_made (64 * v + i) d ≡ slice_index_or made (64 * v + i) d)
    → MakesValue value numbers made v old new fraction_at → MakesValue value others other_made v old new fraction_at
made_same {N} value numbers made others other_made v old new fraction_at before after is = record {
  inside = λ i d below. rw (after i d below) (is.inside i d below);
  exact = λ i d x below stands. rw (after i d below) (is.exact i d x below (rw (before i d below) at stands));
}

-- such an operation stands at fractions
pub by_value_rational : (stage : Stage) (op : Op) → is_by_value op ≡ true → may_follow stage op ≡ true → is_rational stage ≡ true
unfolding may_follow
by_value_rational stage (Clear entries) kind follows = cc
by_value_rational stage (Scale by) kind follows = follows
by_value_rational stage (Min limits) kind follows = follows
by_value_rational stage (Max limits) kind follows = follows
by_value_rational stage (Dither k) kind follows = follows
by_value_rational stage (Read elem planes palette) kind follows = cc
by_value_rational stage (Write elem planes) kind follows = cc
by_value_rational stage SwapBytes kind follows = cc
by_value_rational stage (Unpack widths) kind follows = cc
by_value_rational stage (Pack widths) kind follows = cc
by_value_rational stage (LeftShift n) kind follows = cc
by_value_rational stage (RightShift n) kind follows = cc
by_value_rational stage (Swizzle from) kind follows = cc
by_value_rational stage (Convert to expand) kind follows = cc
by_value_rational stage (Linear rows) kind follows = cc

-- its numbers are made
pub step_made : (bits : ℕ) (width : Width) (stage : Stage) (before : Form) (op : Op) (after : Form) → is_by_value op ≡ true
    → IsStep bits width stage before op after → AreMade width before op after
step_made bits width stage before (Clear entries) after kind step = cc
step_made bits width stage before (Scale by) after kind step = step
step_made bits width stage before (Min limits) after kind step = step
step_made bits width stage before (Max limits) after kind step = step
step_made bits width stage before (Dither k) after kind step = step
step_made bits width stage before (Read elem planes palette) after kind step = cc
step_made bits width stage before (Write elem planes) after kind step = cc
step_made bits width stage before SwapBytes after kind step = cc
step_made bits width stage before (Unpack widths) after kind step = cc
step_made bits width stage before (Pack widths) after kind step = cc
step_made bits width stage before (LeftShift n) after kind step = cc
step_made bits width stage before (RightShift n) after kind step = cc
step_made bits width stage before (Swizzle from) after kind step = cc
step_made bits width stage before (Convert to expand) after kind step = cc
step_made bits width stage before (Linear rows) after kind step = cc
