-- Operations on fractions that work out new numbers, within the width of a list.
use Rattle.std.proofs.Common.{◌≡◌, ℕ, ◌*◌, ◌/◌, ◌<◌, ◌≤◌, true, List, ℤ, pos, refl, sym, ap, ◌∙◌, arith, subst}
use Rattle.std.specs.Prelude.{Option, Some, None, IfSome, unsigned_abs}
use Rattle.frac_math.specs.Fraction.{ℚ}
use Rattle.frac_math.proofs.FractionRing.{denominator_positive, product_positive}
use Rattle.op_list.specs.declared.types.Stage.{Stage}
use Rattle.op_list.specs.declared.op.Op.{Op}
use Rattle.op_list.specs.declared.op.Op.TheVariants.{Dither, Linear, Scale, Min, Max}
use Rattle.op_list.specs.Types.{is_rational}
use Rattle.op_list.specs.Typing.{may_follow, stage_after}
use Rattle.op_list.specs.Values.{entry}
use Rattle.op_list.specs.Apply.{row_of}
use Rattle.op_list.proofs.Applied.{dither_levels}
use Rattle.op_range.specs.declared.width.Width.{Width}
use Rattle.op_range.specs.Width.{size_in, fractions_width, limited_width, mapped_width}
use Rattle.op_range.specs.Width.{rows_denominator, entries_denominator, limited_size}
use Rattle.op_range.proofs.Multiples.{rows_positive, entries_positive}
use Rattle.kernel_step.specs.declared.form.Extent.{Extent}
use Rattle.kernel_step.specs.declared.form.Form.{Form}
use Rattle.kernel_step.specs.declared.form.NumberWidth.{NumberWidth}
use Rattle.kernel_step.specs.Forms.{AreMade, IsStep, extent_at, factors_at, width_of}
use Rattle.kernel_step.specs.ValueSteps.{is_by_value}
use Rattle.kernel_joint.specs.Joint.{AreSame, HasWidth, IsGiven, IsJointStep, IsSmall, MadeFits, MadeWithin, RowMade, RowWithin}
use Rattle.kernel_joint.specs.Joint.{extent_size}
use Rattle.kernel_step.proofs.ByValue.{by_value, made_is}
use Rattle.kernel_joint.proofs.JointMade.{grown, row_fits, row_width, scale_fits, scale_width}
use Rattle.kernel_joint.proofs.JointMade.{limit_fits, limit_width, dither_fits, dither_width}
use Rattle.kernel_joint.proofs.JointMade.{LimitFits}
use Rattle.kernel_joint.proofs.JointValues.{abs_positive}
use Rattle.kernel_joint.proofs.JointSteps.{not_whole, positive_denominator, same_fractions}

-- ---- Linear
mapped_same : (number_width : NumberWidth) (rows : List (List ℚ)) (stage : Stage) (before : Form) (w next : Width)
    → IsGiven number_width stage (Linear rows) before w next
    → AreSame next (mapped_width rows w)
unfolding may_follow fractions_width
mapped_same number_width rows stage before w next given = same_fractions stage (Linear rows) w next given.follows given.same

mapped_extents : (number_width : NumberWidth) (rows : List (List ℚ)) (stage : Stage) (before : Form) (w next : Width)
    → IsGiven number_width stage (Linear rows) before w next
    → (j : ℕ) → j < 4 → HasWidth (extent_at before j) w.denominator (size_in w j)
unfolding may_follow
mapped_extents number_width rows stage before w next given j below = given.joint.extents given.follows j below

-- the joint denominator grows by the least common denominator of the rows
rows_growth : (number_width : NumberWidth) (rows : List (List ℚ)) (stage : Stage) (before : Form) (w next : Width)
    → IsGiven number_width stage (Linear rows) before w next
    → next.denominator / w.denominator ≡ rows_denominator rows
rows_growth number_width rows stage before w next given = grown w.denominator (rows_denominator rows) next.denominator given.small.positive
    (mapped_same number_width rows stage before w next given).denominator

pub rows_fit : (number_width : NumberWidth) (rows : List (List ℚ)) (stage : Stage) (before : Form) (w next : Width) (e : ℕ)
    → IsGiven number_width stage (Linear rows) before w next
    → e ≡ next.denominator / w.denominator → (v : ℕ) → v < 4 → RowWithin number_width e w.denominator (row_of rows v) before
rows_fit number_width rows stage before w next e given is v below =
    subst (λ (g : ℕ). RowWithin number_width g w.denominator (row_of rows v) before)
    (sym (is ∙ rows_growth number_width rows stage before w next given))
    (row_fits number_width rows v before w next given.joint.count
    (mapped_same number_width rows stage before w next given) given.small given.next_small below
    (mapped_extents number_width rows stage before w next given))

pub rows_step : (number_width : NumberWidth) (bits : ℕ) (rows : List (List ℚ)) (stage : Stage) (before after : Form) (w next : Width)
    (e : ℕ)
    → IsGiven number_width stage (Linear rows) before w next → e ≡ next.denominator / w.denominator → after.count ≡ 4
    → ((v : ℕ) → v < 4 → RowMade number_width e w.denominator (row_of rows v) before (factors_at after v) (extent_at after v))
    → IsJointStep number_width bits stage before (Linear rows) after next
unfolding stage_after
rows_step number_width bits rows stage before after w next e given is count made = record {
  few = omega (arith, count);
  step = λ v below. (made v (omega (arith, below, count))).0;
  held = λ whole makes. cc;
  joint = record { count = count; extents = λ kind v below. each v below };
}
  where
    each : (v : ℕ) → v < 4 → HasWidth (extent_at after v) next.denominator (size_in next v)
    each v below =
        let same = mapped_same number_width rows stage before w next given in
        let is_e = is ∙ rows_growth number_width rows stage before w next given in
        let m : RowMade number_width (rows_denominator rows) w.denominator (row_of rows v) before (factors_at after v) (extent_at after v) =
        subst (λ (g : ℕ). RowMade number_width g w.denominator (row_of rows v) before (factors_at after v) (extent_at after v)) is_e
        (made v below) in
        row_width number_width rows v before (extent_at after v) w next same given.small below
        (mapped_extents number_width rows stage before w next given)
        (positive_denominator (extent_at after v) (w.denominator * rows_denominator rows) m.1
        (product_positive w.denominator (rows_denominator rows) given.small.positive (rows_positive rows)))
        (ap unsigned_abs m.1) m.2

rational_before : (stage : Stage) (op : Op) → is_by_value op ≡ true → may_follow stage op ≡ true → is_rational stage ≡ true
unfolding may_follow
rational_before stage = by_value (λ op. may_follow stage op ≡ true → is_rational stage ≡ true)
    (λ by h. h) (λ limits h. h) (λ limits h. h) (λ k h. h)

made_extents : (number_width : NumberWidth) (op : Op) (stage : Stage) (before : Form) (w next : Width) → is_by_value op ≡ true
    → IsGiven number_width stage op before w next
    → (v : ℕ) → v < 4 → HasWidth (extent_at before v) w.denominator (size_in w v)
made_extents number_width op stage before w next kind given v below =
    given.joint.extents (rational_before stage op kind given.follows) v below

made_same : (number_width : NumberWidth) (op : Op) (stage : Stage) (before : Form) (w next : Width) → is_by_value op ≡ true
    → IsGiven number_width stage op before w next
    → AreSame next (fractions_width op w)
made_same number_width op stage before w next kind given =
    same_fractions stage op w next (rational_before stage op kind given.follows) given.same

-- the joint denominator grows by the least common denominator of the limits
limits_growth : (number_width : NumberWidth) (limits : List (Option ℚ)) (w next : Width) (e : ℕ) → IsSmall number_width w
    → AreSame next (limited_width limits w)
    → e ≡ next.denominator / w.denominator → e ≡ entries_denominator limits
limits_growth number_width limits w next e small same is =
    is ∙ grown w.denominator (entries_denominator limits) next.denominator small.positive same.denominator

min_fits : (number_width : NumberWidth) (limits : List (Option ℚ)) (v e d : ℕ) (old : Extent) → e ≡ entries_denominator limits
    → LimitFits number_width limits v old
    → MadeFits number_width (Min limits) v old e d
min_fits number_width limits v e d old is fits = subst (λ (g : ℕ). MadeFits number_width (Min limits) v old g d) (sym is)
    (record { by_value = refl; positive = fits.positive; denominator = fits.denominator; size = fits.size; factors = fits.factors })

max_fits : (number_width : NumberWidth) (limits : List (Option ℚ)) (v e d : ℕ) (old : Extent) → e ≡ entries_denominator limits
    → LimitFits number_width limits v old
    → MadeFits number_width (Max limits) v old e d
max_fits number_width limits v e d old is fits = subst (λ (g : ℕ). MadeFits number_width (Max limits) v old g d) (sym is)
    (record { by_value = refl; positive = fits.positive; denominator = fits.denominator; size = fits.size; factors = fits.factors })

pub made_fit : (number_width : NumberWidth) (op : Op) (stage : Stage) (before : Form) (w next : Width) (e : ℕ) → is_by_value op ≡ true
    → IsGiven number_width stage op before w next
    → e ≡ next.denominator / w.denominator → (v : ℕ) → v < 4 → MadeFits number_width op v (extent_at before v) e next.denominator
unfolding fractions_width
made_fit number_width op stage before w next e kind given is v below = by_value
    (λ op. is_by_value op ≡ true → IsGiven number_width stage op before w next → MadeFits number_width op v
    (extent_at before v) e next.denominator)
    (λ by h g. scale_fits number_width by v (extent_at before v) w next e next.denominator
    (made_same number_width (Scale by) stage before w next h g) g.small
    g.next_small below (made_extents number_width (Scale by) stage before w next h g v below))
    (λ limits h g. let same = made_same number_width (Min limits) stage before w next h g in
    min_fits number_width limits v e next.denominator (extent_at before v) (limits_growth number_width limits w next e g.small same is)
    (limit_fits number_width limits v (extent_at before v) w next same g.small g.next_small below
    (made_extents number_width (Min limits) stage before w next h g v below)))
    (λ limits h g. let same = made_same number_width (Max limits) stage before w next h g in
    max_fits number_width limits v e next.denominator (extent_at before v) (limits_growth number_width limits w next e g.small same is)
    (limit_fits number_width limits v (extent_at before v) w next same g.small g.next_small below
    (made_extents number_width (Max limits) stage before w next h g v below)))
    (λ k h g. dither_fits number_width k v (extent_at before v) w next e (dither_levels stage k g.good)
    (made_same number_width (Dither k) stage before w next h g)
    g.small g.next_small below (made_extents number_width (Dither k) stage before w next h g v below))
    op kind kind given

-- the width of each new value
limited_made : (limits : List (Option ℚ)) (v e : ℕ) (old new : Extent) (w next : Width) → AreSame next (limited_width limits w)
    → v < 4 → HasWidth old w.denominator (size_in w v) → e ≡ entries_denominator limits
    → new.denominator ≡ pos (unsigned_abs old.denominator * e)
    → extent_size new ≤ limited_size e (unsigned_abs old.denominator) (entry limits v) (extent_size old)
    → HasWidth new next.denominator (size_in next v)
limited_made limits v e old new w next same below has is denominator size =
    let d = unsigned_abs old.denominator in
    let over : new.denominator ≡ pos (d * entries_denominator limits) = denominator ∙ ap (λ g. pos (d * g)) is in
    limit_width limits v old new w next same below has
    (positive_denominator new (d * entries_denominator limits) over
    (product_positive d (entries_denominator limits) (abs_positive old.denominator has.positive) (entries_positive limits)))
    (ap unsigned_abs over)
    (subst (λ (g : ℕ). extent_size new ≤ limited_size g d (entry limits v) (extent_size old)) is size)

made_width : (number_width : NumberWidth) (op : Op) (stage : Stage) (before : Form) (w next : Width) (e v : ℕ) (factors : List ℤ)
    (new : Extent) → is_by_value op ≡ true
    → IsGiven number_width stage op before w next → e ≡ next.denominator / w.denominator → v < 4
    → MadeWithin number_width op v (extent_at before v) e next.denominator factors new → HasWidth new next.denominator (size_in next v)
unfolding fractions_width
made_width number_width op stage before w next e v factors new kind given is below made = by_value
    (λ op. is_by_value op ≡ true → IsGiven number_width stage op before w next → MadeWithin number_width op v
    (extent_at before v) e next.denominator factors new
    → HasWidth new next.denominator (size_in next v))
    (λ by h g m. let old = extent_at before v in
    let has = made_extents number_width (Scale by) stage before w next h g v below in
    scale_width by v old new w next (made_same number_width (Scale by) stage before w next h g) below has
    (positive_denominator new (unsigned_abs old.denominator * by.denominator) m.1
    (product_positive (unsigned_abs old.denominator) by.denominator (abs_positive old.denominator has.positive) (denominator_positive by)))
    (ap unsigned_abs m.1) m.2)
    (λ limits h g m. let same = made_same number_width (Min limits) stage before w next h g in
    limited_made limits v e (extent_at before v) new w next same below (made_extents number_width
    (Min limits) stage before w next h g v below)
    (limits_growth number_width limits w next e g.small same is) m.1 m.2)
    (λ limits h g m. let same = made_same number_width (Max limits) stage before w next h g in
    limited_made limits v e (extent_at before v) new w next same below (made_extents number_width
    (Max limits) stage before w next h g v below)
    (limits_growth number_width limits w next e g.small same is) m.1 m.2)
    (λ k h g m. dither_width number_width k v (extent_at before v) new w next
    (made_same number_width (Dither k) stage before w next h g) g.small g.next_small below
    (made_extents number_width (Dither k) stage before w next h g v below)
    (positive_denominator new next.denominator m.1 g.next_small.positive)
    (ap unsigned_abs m.1) m.2)
    op kind kind given made

pub made_step : (number_width : NumberWidth) (bits : ℕ) (op : Op) (stage : Stage) (before after : Form) (w next : Width) (e : ℕ)
    → is_by_value op ≡ true
    → IsGiven number_width stage op before w next → e ≡ next.denominator / w.denominator → after.count ≡ 4
    → ((v : ℕ) → v < 4 → MadeWithin number_width op v (extent_at before v) e next.denominator (factors_at after v) (extent_at after v))
    → IsJointStep number_width bits stage before op after next
made_step number_width bits op stage before after w next e kind given is count made = record {
  few = omega (arith, count);
  step = made_is number_width bits op stage before after kind
      (λ v below. (omega (arith, below, count, given.joint.count), (made v (omega (arith, below, count))).0));
  held = λ whole. absurd (let no = rational_before stage op kind given.follows in cc (no, not_whole stage whole));
  joint = record {
    count = count;
    extents = λ rational v below. made_width number_width op stage before w next e v (factors_at after v)
        (extent_at after v) kind given is below
        (made v below);
  };
}
