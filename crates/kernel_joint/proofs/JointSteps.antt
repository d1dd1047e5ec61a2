-- One operation, within the width of a list.
use Rattle.std.proofs.Common.{◌≡◌, ℕ, Bool, inl, ◌-◌, ◌^◌, ◌<◌, ◌≤◌, true, false, List, ℤ, pos, refl, sym, ap, arith, subst}
use Rattle.std.specs.Prelude.{Option, Some, None, IfSome, All, if◌then◌else◌, ◌<ℤ◌, unsigned_abs, slice_index, FitsSigned}
use Rattle.std.proofs.lemmas.Bool.{not-true}
use Rattle.std.proofs.lemmas.Int.{ints}
use Rattle.frac_math.specs.Fraction.{ℚ}
use Rattle.op_list.specs.declared.types.PixType.{PixType}
use Rattle.op_list.specs.declared.types.PixType.TheVariants.{U8, U16, U32, Rat}
use Rattle.op_list.specs.declared.types.Stage.{Stage}
use Rattle.op_list.specs.declared.types.Stage.TheVariants.{Start, Typed, Ended}
use Rattle.op_list.specs.declared.op.Op.{Op}
use Rattle.op_list.specs.declared.op.Op.TheVariants.{Read, SwapBytes, Unpack, Pack, Clear, LeftShift, RightShift, Swizzle, Convert}
use Rattle.op_list.specs.Types.{bits_at, is_rational, is_whole, is_wide, is_typed, is_whole_type}
use Rattle.op_list.specs.Types.{bits as type_bits}
use Rattle.op_list.specs.Typing.{may_follow, stage_after}
use Rattle.op_list.proofs.Applied.{swizzle_lanes}
use Rattle.op_range.proofs.UsedSteps.{index_below}
use Rattle.op_list.specs.Values.{entry}
use Rattle.op_range.specs.declared.width.Width.{Width}
use Rattle.op_range.specs.Width.{size_in, width_after, fractions_width, whole_width}
use Rattle.kernel_step.specs.declared.form.Extent.{Extent}
use Rattle.kernel_step.specs.declared.form.Form.{Form}
use Rattle.kernel_step.specs.declared.form.NumberWidth.{NumberWidth}
use Rattle.kernel_step.specs.Forms.{AreKept, IsCleared, IsMoved, IsNarrowed, IsStep, IsWidened, extent_at, factor, factors_at}
use Rattle.kernel_step.specs.Forms.{makes_fractions, width_of}
use Rattle.kernel_joint.specs.Joint.{AreSame, HasWidth, IsGiven, IsJoint, IsJointStep, extent_size, room}
use Rattle.kernel_joint.proofs.JointClears.{clear_width, entry_small}
use Rattle.kernel_joint.proofs.JointMade.{width_same, size_of_value, old_small}
use Rattle.kernel_joint.proofs.Rooms.{small_fits}

-- ---- kinds of stages
pub not_wide : (stage : Stage) → is_wide stage ≡ true → is_rational stage ≡ false
not_wide (Typed U8) h = refl
not_wide (Typed U16) h = refl
not_wide (Typed U32) h = refl
not_wide (Typed Rat) h = cc
not_wide Start h = refl
not_wide Ended h = refl

pub not_whole : (stage : Stage) → is_whole stage ≡ true → is_rational stage ≡ false
not_whole (Typed U8) h = refl
not_whole (Typed U16) h = refl
not_whole (Typed U32) h = refl
not_whole (Typed Rat) h = cc
not_whole Start h = refl
not_whole Ended h = refl

-- a Read stands before there are values
pub no_read : (stage : Stage) (elem : PixType) (planes : List ℕ) (palette : Bool) → is_typed stage ≡ true
    → may_follow stage (Read elem planes palette) ≡ true → ⊥
unfolding may_follow
no_read (Typed elem) of planes palette typed h = cc
no_read Start of planes palette typed h = cc
no_read Ended of planes palette typed h = cc

-- ---- whole numbers owe no width
pub whole_joint : (stage : Stage) (form : Form) (next : Width) → is_rational stage ≡ false → form.count ≡ 4 → IsJoint stage form next
whole_joint stage form next kind count = record { count = count; extents = λ rational. absurd (cc (rational, kind)) }

-- ---- the next width, where the values are fractions and where they are not
pub same_fractions : (stage : Stage) (op : Op) (w next : Width) → is_rational stage ≡ true → AreSame next (width_after stage op w)
    → AreSame next (fractions_width op w)
unfolding width_after
same_fractions stage op w next kind same =
    subst (λ (b : Bool). AreSame next (if b then fractions_width op w else whole_width (bits_at stage))) kind same

same_numbers : (stage : Stage) (op : Op) (w next : Width) → is_rational stage ≡ false → AreSame next (width_after stage op w)
    → AreSame next (whole_width (bits_at stage))
unfolding width_after
same_numbers stage op w next kind same =
    subst (λ (b : Bool). AreSame next (if b then fractions_width op w else whole_width (bits_at stage))) kind same

pub positive_denominator : (new : Extent) (n : ℕ) → new.denominator ≡ pos n → 0 < n → pos 0 <ℤ new.denominator
positive_denominator new n is some = rw is (above n some)
  where
    above : (n : ℕ) → 0 < n → pos 0 <ℤ pos n
    above n h = omega (arith, ints, h)

-- ---- operations on whole numbers
-- where whole numbers become fractions, a stage of fractions follows
fractions_made : (stage : Stage) (op : Op) → makes_fractions op ≡ true → is_rational (stage_after stage op) ≡ true
unfolding stage_after
fractions_made stage (Convert Rat expand) h = refl
fractions_made stage (Convert U8 expand) h = cc
fractions_made stage (Convert U16 expand) h = cc
fractions_made stage (Convert U32 expand) h = cc
fractions_made stage op h = cc

whole_step : (number_width : NumberWidth) (bits : ℕ) (op : Op) (stage : Stage) (before after : Form) (next : Width)
    → is_rational (stage_after stage op) ≡ false → after.count ≡ 4 → IsStep bits (width_of number_width) stage before op after
    → IsJointStep number_width bits stage before op after next
whole_step number_width bits op stage before after next kind count step = record {
  few = omega (arith, count);
  step = step;
  held = λ whole makes. absurd (let made = fractions_made stage op makes in cc (kind, made));
  joint = whole_joint (stage_after stage op) after next kind count;
}

pub swap_bytes_step : (number_width : NumberWidth) (bits : ℕ) (stage : Stage) (before after : Form) (w next : Width)
    → IsGiven number_width stage SwapBytes before w next → after.count ≡ 4 → IsJointStep number_width bits stage before SwapBytes after next
unfolding may_follow stage_after
swap_bytes_step number_width bits stage before after w next given count =
    whole_step number_width bits SwapBytes stage before after next (not_wide stage given.follows) count
    (omega (arith, count, given.joint.count))

pub unpack_step : (number_width : NumberWidth) (bits : ℕ) (widths : List ℕ) (stage : Stage) (before after : Form) (w next : Width)
    → IsGiven number_width stage (Unpack widths) before w next → after.count ≡ 4
    → IsJointStep number_width bits stage before (Unpack widths) after next
unfolding may_follow stage_after
unpack_step number_width bits widths stage before after w next given count =
    whole_step number_width bits (Unpack widths) stage before after next (not_whole stage given.follows) count
    (omega (arith, given.joint.count))

pub pack_step : (number_width : NumberWidth) (bits : ℕ) (widths : List ℕ) (stage : Stage) (before after : Form) (w next : Width)
    → IsGiven number_width stage (Pack widths) before w next → after.count ≡ 4
    → IsJointStep number_width bits stage before (Pack widths) after next
unfolding may_follow stage_after
pack_step number_width bits widths stage before after w next given count =
    whole_step number_width bits (Pack widths) stage before after next (not_whole stage given.follows) count
    (λ j below. inl (omega (arith, below, given.joint.count)))

pub left_shift_step : (number_width : NumberWidth) (bits n : ℕ) (stage : Stage) (before after : Form) (w next : Width)
    → IsGiven number_width stage (LeftShift n) before w next → after.count ≡ 4
    → IsJointStep number_width bits stage before (LeftShift n) after next
unfolding may_follow stage_after
left_shift_step number_width bits n stage before after w next given count =
    whole_step number_width bits (LeftShift n) stage before after next (not_whole stage given.follows) count
    (omega (arith, count, given.joint.count))

pub right_shift_step : (number_width : NumberWidth) (bits n : ℕ) (stage : Stage) (before after : Form) (w next : Width)
    → IsGiven number_width stage (RightShift n) before w next → after.count ≡ 4
    → IsJointStep number_width bits stage before (RightShift n) after next
unfolding may_follow stage_after
right_shift_step number_width bits n stage before after w next given count =
    whole_step number_width bits (RightShift n) stage before after next (not_whole stage given.follows) count
    (omega (arith, count, given.joint.count))

-- ---- Clear and Swizzle
pub clear_entries : (number_width : NumberWidth) (entries : List (Option ℚ)) (stage : Stage) (before : Form) (w next : Width)
    → IsGiven number_width stage (Clear entries) before w next → is_rational stage ≡ true → (v : ℕ) → v < 4
    → IfSome (entry entries v) (λ x. unsigned_abs x.numerator < room number_width)
unfolding fractions_width
clear_entries number_width entries stage before w next given kind = entry_small number_width entries w next given.small given.next_small
    (same_fractions stage (Clear entries) w next kind given.same)

pub clear_step : (number_width : NumberWidth) (bits : ℕ) (entries : List (Option ℚ)) (stage : Stage) (before after : Form) (w next : Width)
    → IsGiven number_width stage (Clear entries) before w next → after.count ≡ 4
    → ((v : ℕ) → v < 4 → IsCleared (width_of number_width) (is_rational stage) before v (entry entries v) (factor (factors_at after v) 0)
    (extent_at after v))
    → IsJointStep number_width bits stage before (Clear entries) after next
unfolding stage_after fractions_width
clear_step number_width bits entries stage before after w next given count cleared = record {
  few = omega (arith, count);
  step = λ v below. cleared v (omega (arith, below, count));
  held = λ whole makes. cc;
  joint = record {
    count = count;
    extents = λ kind v below. clear_width number_width entries v before (factor (factors_at after v) 0) (extent_at after v) w next
        (same_fractions stage (Clear entries) w next kind given.same) below (given.joint.extents kind v below)
        (subst (λ (b : Bool). IsCleared (width_of number_width) b before v (entry entries v) (factor (factors_at after v) 0)
        (extent_at after v)) kind (cleared v below));
  };
}

pub swizzle_from : (number_width : NumberWidth) (from : List ℕ) (stage : Stage) (before : Form) (w next : Width)
    → IsGiven number_width stage (Swizzle from) before w next
    → All (λ i. i < 4) from
swizzle_from number_width from stage before w next given = swizzle_lanes stage from given.good

pub swizzle_step : (number_width : NumberWidth) (bits : ℕ) (from : List ℕ) (stage : Stage) (before after : Form) (w next : Width)
    → IsGiven number_width stage (Swizzle from) before w next → after.count ≡ 4
    → ((v : ℕ) → v < 4 → IsMoved before (slice_index from v) after v) → IsJointStep number_width bits stage before (Swizzle from) after next
unfolding stage_after fractions_width
swizzle_step number_width bits from stage before after w next given count moved = record {
  few = omega (arith, count);
  step = λ v below. moved v (omega (arith, below, count));
  held = λ whole makes. cc;
  joint = record { count = count; extents = each };
}
  where
    each : is_rational stage ≡ true → (v : ℕ) → v < 4 → HasWidth (extent_at after v) next.denominator (size_in next v)
    each kind v below =
        let u = slice_index from v in
        let same = same_fractions stage (Swizzle from) w next kind given.same in
        let size = size_of_value _ (λ i. size_in w (slice_index from i)) next v below same in
        rw (moved v below).same
        (width_same (extent_at before u) w.denominator next.denominator (size_in w u) (size_in next v)
        (given.joint.extents kind u (index_below from (swizzle_from number_width from stage before w next given) v)) (sym same.denominator)
        (sym size))

-- ---- Convert
-- each denominator fits
denominator_fits : (number_width : NumberWidth) (old : Extent) (d size : ℕ) → 0 < d → d < room number_width → HasWidth old d size
    → FitsSigned (width_of number_width) old.denominator
denominator_fits number_width old d size some small has =
    small_fits number_width old.denominator (unsigned_abs old.denominator) (omega arith)
    (omega (arith, (old_small old d size some has).0, small))

pub divisors_fit : (number_width : NumberWidth) (to : PixType) (expand : Bool) (stage : Stage) (before : Form) (w next : Width)
    → IsGiven number_width stage (Convert to expand) before w next → is_rational stage ≡ true → (v : ℕ) → v < 4
    → (pos 0 <ℤ (extent_at before v).denominator) × FitsSigned (width_of number_width) (extent_at before v).denominator
divisors_fit number_width to expand stage before w next given kind v below =
    let has = given.joint.extents kind v below in (
      has.positive,
      denominator_fits number_width (extent_at before v) w.denominator
          (size_in w v) given.small.positive given.small.denominator has,
    )

-- whole numbers that become fractions have small numerators
pub widened_small : (number_width : NumberWidth) (to : PixType) (expand : Bool) (stage : Stage) (before : Form) (w next : Width)
    → IsGiven number_width stage (Convert to expand) before w next → is_rational stage ≡ false → 2 ^ bits_at stage ≤ room number_width
widened_small number_width to expand stage before w next given kind =
    let same = same_numbers stage (Convert to expand) w next kind given.same in
    let size = size_of_value 1 (λ i. 2 ^ bits_at stage - 1) next 0 (omega arith) same in
    omega (arith, size, given.next_small.sizes 0 (omega arith))

-- fractions that stay fractions
kept_width : (number_width : NumberWidth) (expand : Bool) (stage : Stage) (before after : Form) (w next : Width) → is_rational stage ≡ true
    → IsGiven number_width stage (Convert Rat expand) before w next → after.count ≡ 4 → AreKept before after → (v : ℕ) → v < 4
    → HasWidth (extent_at after v) next.denominator (size_in next v)
unfolding fractions_width
kept_width number_width expand stage before after w next kind given count kept v below =
    let same = same_fractions stage (Convert Rat expand) w next kind given.same in
    rw (kept v (omega (arith, below, count))).same
    (width_same (extent_at before v) w.denominator next.denominator (size_in w v) (size_in next v)
    (given.joint.extents kind v below) (sym same.denominator) (sym (same.sizes v below)))

-- whole numbers that become fractions
widened_width : (number_width : NumberWidth) (expand : Bool) (stage : Stage) (before after : Form) (w next : Width)
    → is_rational stage ≡ false
    → IsGiven number_width stage (Convert Rat expand) before w next → (v : ℕ) → v < 4
    → IsWidened (width_of number_width) (2 ^ bits_at stage) (extent_at after v)
    → extent_size (extent_at after v) ≡ 2 ^ bits_at stage - 1 → HasWidth (extent_at after v) next.denominator (size_in next v)
widened_width number_width expand stage before after w next kind given v below widened sized =
    let same = same_numbers stage (Convert Rat expand) w next kind given.same in
    let size = size_of_value 1 (λ i. 2 ^ bits_at stage - 1) next v below same in
    record {
      positive = positive_denominator (extent_at after v) 1 widened.one (omega arith);
      factor = 1;
      over = omega (arith, ap unsigned_abs widened.one, same.denominator);
      most = omega (arith, sized, size);
    }

-- what a Convert does to a form
pub record IsRetyped (number_width : NumberWidth) (stage : Stage) (to : PixType) (before after : Form) : Type 0 where
  pub count : after.count ≡ 4
  pub kept : is_rational stage ≡ true → is_whole_type to ≡ false → AreKept before after
  pub narrowed : is_rational stage ≡ true → is_whole_type to ≡ true → (bits v : ℕ) → v < 4
      → IsNarrowed (width_of number_width) bits before after v
  pub widened : is_rational stage ≡ false → is_whole_type to ≡ false → (v : ℕ) → v < 4
      → IsWidened (width_of number_width) (2 ^ bits_at stage) (extent_at after v) ×
      (extent_size (extent_at after v) ≡ 2 ^ bits_at stage - 1)

retyped_width : (number_width : NumberWidth) (to : PixType) (expand : Bool) (stage : Stage) (before after : Form) (w next : Width)
    → IsGiven number_width stage (Convert to expand) before w next → IsRetyped number_width stage to before after
    → is_rational (Typed to) ≡ true
    → (v : ℕ) → v < 4 → HasWidth (extent_at after v) next.denominator (size_in next v)
retyped_width number_width U8 expand stage before after w next given retyped to v below = absurd (cc to)
retyped_width number_width U16 expand stage before after w next given retyped to v below = absurd (cc to)
retyped_width number_width U32 expand stage before after w next given retyped to v below = absurd (cc to)
retyped_width number_width Rat expand stage before after w next given retyped to v below = either (is_rational stage) refl
  where
    either : (b : Bool) → is_rational stage ≡ b → HasWidth (extent_at after v) next.denominator (size_in next v)
    either true kind = kept_width number_width expand stage before after w next kind given retyped.count (retyped.kept kind refl) v below
    either false kind =
        let widened = retyped.widened kind refl v below in
        widened_width number_width expand stage before after w next kind given v below widened.0 widened.1

pub convert_step : (number_width : NumberWidth) (bits : ℕ) (to : PixType) (expand : Bool) (stage : Stage) (before after : Form)
    (w next : Width)
    → IsGiven number_width stage (Convert to expand) before w next → IsRetyped number_width stage to before after
    → 2 ^ bits_at (stage_after stage (Convert to expand)) ≤ 2 ^ bits
    → IsJointStep number_width bits stage before (Convert to expand) after next
unfolding stage_after
convert_step number_width bits to expand stage before after w next given retyped stored = record {
  few = omega (arith, retyped.count);
  step = record {
    there = omega (arith, retyped.count, given.joint.count);
    widened = λ whole rational. (
      whole,
      λ v below. (
        omega (arith, below, retyped.count, given.joint.count),
        (retyped.widened (not_whole stage whole) rational v (omega (arith, below, retyped.count))).0.one,
      ),
    );
    narrowed = λ kind whole. (kind, stored, λ v below. retyped.narrowed kind whole (type_bits to) v (omega (arith, below, retyped.count)));
    same = retyped.kept;
  };
  held = λ whole makes v below.
      (retyped.widened (not_whole stage whole) (not-true (is_whole_type to) makes) v (omega (arith, below, retyped.count))).0;
  joint = record { count = retyped.count; extents = retyped_width number_width to expand stage before after w next given retyped };
}
