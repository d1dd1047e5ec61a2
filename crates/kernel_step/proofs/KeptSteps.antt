-- Fractions that become fractions: what a block holds, and its bounds.
use Rattle.std.proofs.Common.{◌≡◌, ℕ, Bool, true, false, List, ℤ, refl, ◌∙◌}
use Rattle.op_list.specs.declared.types.PixType.{PixType}
use Rattle.op_list.specs.declared.types.PixType.TheVariants.{U8, U16, U32, Rat}
use Rattle.op_list.specs.declared.types.Stage.{Stage}
use Rattle.op_list.specs.declared.types.Stage.TheVariants.{Start, Typed, Ended}
use Rattle.op_list.specs.declared.op.Op.TheVariants.{Convert}
use Rattle.op_list.specs.declared.position.PixelPosition.{PixelPosition}
use Rattle.op_list.specs.declared.values.Values.{Values}
use Rattle.op_list.specs.declared.values.Values.TheVariants.{Numbers, Fractions}
use Rattle.op_list.specs.Types.{is_whole, is_rational, is_typed}
use Rattle.op_list.specs.Typing.{may_follow, stage_after}
use Rattle.op_list.specs.Values.{fraction, are_fractions}
use Rattle.op_list.specs.Apply.{apply, converted}
use Rattle.kernel_step.specs.declared.form.Form.{Form}
use Rattle.kernel_step.specs.Forms.{AreKept, IsBounded, Performs}

-- values of a type are whole numbers or fractions
typed_kind : (stage : Stage) → is_typed stage ≡ true → is_whole stage ≡ false → is_rational stage ≡ true
typed_kind (Typed U8) t h = cc
typed_kind (Typed U16) t h = cc
typed_kind (Typed U32) t h = cc
typed_kind (Typed Rat) t h = refl
typed_kind Start t h = cc
typed_kind Ended t h = cc

typed_whole : (stage : Stage) → is_typed stage ≡ true → is_rational stage ≡ false → is_whole stage ≡ true
typed_whole (Typed U8) t h = refl
typed_whole (Typed U16) t h = refl
typed_whole (Typed U32) t h = refl
typed_whole (Typed Rat) t h = cc
typed_whole Start t h = cc
typed_whole Ended t h = cc

pub convert_rational : (stage : Stage) (to : PixType) (expand : Bool) → may_follow stage (Convert to expand) ≡ true → is_whole stage ≡ false
    → is_rational stage ≡ true
unfolding may_follow
convert_rational stage to expand follows none = typed_kind stage follows none

pub convert_whole : (stage : Stage) (to : PixType) (expand : Bool) → may_follow stage (Convert to expand) ≡ true → is_rational stage ≡ false
    → is_whole stage ≡ true
unfolding may_follow
convert_whole stage to expand follows none = typed_whole stage follows none

same_fraction : (expand : Bool) (values : Values) (v : ℕ) → are_fractions values ≡ true
    → fraction (converted Rat expand values) v ≡ fraction values v
same_fraction expand (Fractions values) v kind = refl
same_fraction expand (Numbers values) v kind = cc

pub kept_bounded : {W N : Type 0} (digits : W → ℕ) (value : N → ℤ) (stage : Stage) (expand : Bool) (before after : Form) (values : List W)
    (numbers : List N)
    → is_rational stage ≡ true → AreKept before after
    → IsBounded digits value stage before values numbers
    → IsBounded digits value (stage_after stage (Convert Rat expand)) after values numbers
unfolding stage_after
kept_bounded {W} {N} digits value stage expand before after values numbers kind kept bounded = record {
  small = λ whole. cc;
  bound = λ rational v i d below within. let one = kept v below in rw one.same (bounded.bound kind v i d one.there within);
}

pub kept_performs : {W N : Type 0} (digits : W → ℕ) (value : N → ℤ) (stage : Stage) (expand : Bool) (before after : Form)
    (position : PixelPosition) (values : List W) (numbers : List N)
    → is_rational stage ≡ true → AreKept before after
    → Performs digits value stage before (Convert Rat expand) after position values numbers values numbers
unfolding stage_after apply
kept_performs {W} {N} digits value stage expand before after position values numbers kind kept frame n given most kinds state = record {
  whole = λ whole. cc;
  exact = λ rational v i d below within.
      let one = kept v below in rw (same_fraction expand (given i) v (kinds i ∙ kind), one.same) (state.exact kind v i d one.there within);
}
