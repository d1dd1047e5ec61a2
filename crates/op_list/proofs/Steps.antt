-- A list runs: each operation of it may be applied to what those before it leave.
use Rattle.std.proofs.Common.{◌≡◌, ℕ, ◌+◌, ◌-◌, ◌<◌, Bool, true, false, ◌&&◌, List, [], ◌∷◌, length, get_or, drop, suc, add-one, drop-cons}
use Rattle.std.proofs.Common.{subst, refl, sym, ◌∙◌, ap, arith}
use Rattle.std.specs.Prelude.{Option, Some, None, slice_get, IsTrue, ◌↔◌}
use Rattle.std.proofs.lemmas.Bool.{and_parts}
use Rattle.std.proofs.lemmas.Option.{same_Some, none-some, option_and_then_some}
use Rattle.frac_math.specs.Fraction.{ℚ}
use Rattle.op_list.specs.declared.types.PixType.{PixType}
use Rattle.op_list.specs.declared.types.PixType.TheVariants.{U8, U16, U32, Rat}
use Rattle.op_list.specs.declared.types.Stage.{Stage}
use Rattle.op_list.specs.declared.types.Stage.TheVariants.{Start, Typed, Ended}
use Rattle.op_list.specs.declared.position.PixelPosition.{PixelPosition}
use Rattle.op_list.specs.declared.op.Op.{Op}
use Rattle.op_list.specs.declared.op.Op.TheVariants.{Read, Write, SwapBytes, Unpack, Pack, Clear, LeftShift, RightShift, Swizzle, Convert}
use Rattle.op_list.specs.declared.op.Op.TheVariants.{Dither, Linear, Scale, Min, Max}
use Rattle.op_list.specs.declared.values.Values.{Values}
use Rattle.op_list.specs.declared.values.Values.TheVariants.{Numbers, Fractions}
use Rattle.op_list.specs.Types.{is_start, is_rational, is_whole_type}
use Rattle.op_list.specs.Typing.{may_follow, are_good, stage_after, stage_from, are_counts, is_write, ends_with_write, IsOpList}
use Rattle.op_list.specs.Values.{are_fractions, no_values, four, number}
use Rattle.op_list.specs.Apply.{apply, cleared, swizzled, converted}
use Rattle.op_list.specs.Checked.{checked_apply}
use Rattle.op_list.specs.Run.{MayApply, MayRun, checked_run_from, checked_run, read_length}
use Rattle.op_list.proofs.Applied.{whole_not_rational, whole_before}
use Rattle.op_list.proofs.Exact.{checked_apply-exact}
use Rattle.op_list.proofs.Typed.{typed_parts}
use Rattle.op_list.proofs.Wholes.{whole_ended}

-- ---- the kind of the values
cleared_kind : (entries : List (Option ℚ)) (values : Values) → are_fractions (cleared entries values) ≡ are_fractions values
cleared_kind entries (Numbers values) = refl
cleared_kind entries (Fractions values) = refl

swizzled_kind : (from : List ℕ) (values : Values) → are_fractions (swizzled from values) ≡ are_fractions values
swizzled_kind from (Numbers values) = refl
swizzled_kind from (Fractions values) = refl

converted_kind : (to : PixType) (expand : Bool) (values : Values) → are_fractions (converted to expand values) ≡ is_rational (Typed to)
converted_kind Rat expand (Numbers values) = refl
converted_kind Rat expand (Fractions values) = refl
converted_kind U8 expand (Numbers values) = refl
converted_kind U8 expand (Fractions values) = refl
converted_kind U16 expand (Numbers values) = refl
converted_kind U16 expand (Fractions values) = refl
converted_kind U32 expand (Numbers values) = refl
converted_kind U32 expand (Fractions values) = refl

-- the values after an operation are of the type that it leaves
pub apply_kind : (frame : List ℕ) (position : PixelPosition) (stage : Stage) (op : Op) (values : Values)
    → are_fractions values ≡ is_rational stage
    → may_follow stage op ≡ true → are_good stage op ≡ true
    → are_fractions (apply frame position stage op values) ≡ is_rational (stage_after stage op)
unfolding apply may_follow are_good stage_after
apply_kind frame position stage (Read elem planes palette) values kind follows good =
    sym (whole_not_rational (Typed elem)
    (and_parts (is_whole_type elem) (are_counts 4 planes) (and_parts (is_whole_type elem && are_counts 4 planes) _ good).0).0)
apply_kind frame position stage (Write elem planes) values kind follows good = refl
apply_kind frame position stage SwapBytes values kind follows good =
    sym (whole_not_rational stage (whole_before stage SwapBytes refl follows good))
apply_kind frame position stage (Unpack widths) values kind follows good = sym (whole_not_rational stage follows)
apply_kind frame position stage (Pack widths) values kind follows good = sym (whole_not_rational stage follows)
apply_kind frame position stage (Clear entries) values kind follows good = cleared_kind entries values ∙ kind
apply_kind frame position stage (LeftShift n) values kind follows good = sym (whole_not_rational stage follows)
apply_kind frame position stage (RightShift n) values kind follows good = sym (whole_not_rational stage follows)
apply_kind frame position stage (Swizzle from) values kind follows good = swizzled_kind from values ∙ kind
apply_kind frame position stage (Convert to expand) values kind follows good = converted_kind to expand values
apply_kind frame position stage (Dither k) values kind follows good = sym follows
apply_kind frame position stage (Linear rows) values kind follows good = sym follows
apply_kind frame position stage (Scale by) values kind follows good = sym follows
apply_kind frame position stage (Min limits) values kind follows good = sym follows
apply_kind frame position stage (Max limits) values kind follows good = sym follows

-- ---- the stage
-- no operation that may follow leaves an empty list
started : (stage : Stage) (op : Op) → may_follow stage op ≡ true → is_start (stage_after stage op) ≡ false
unfolding may_follow stage_after
started stage (Read elem planes palette) h = refl
started stage (Write elem planes) h = refl
started stage (Convert to expand) h = refl
started (Typed elem) SwapBytes h = refl
started (Typed elem) (Unpack widths) h = refl
started (Typed elem) (Pack widths) h = refl
started (Typed elem) (Clear values) h = refl
started (Typed elem) (LeftShift n) h = refl
started (Typed elem) (RightShift n) h = refl
started (Typed elem) (Swizzle from) h = refl
started (Typed elem) (Dither k) h = refl
started (Typed elem) (Linear rows) h = refl
started (Typed elem) (Scale by) h = refl
started (Typed elem) (Min limits) h = refl
started (Typed elem) (Max limits) h = refl
started Start SwapBytes h = cc
started Start (Unpack widths) h = cc
started Start (Pack widths) h = cc
started Start (Clear values) h = cc
started Start (LeftShift n) h = cc
started Start (RightShift n) h = cc
started Start (Swizzle from) h = cc
started Start (Dither k) h = cc
started Start (Linear rows) h = cc
started Start (Scale by) h = cc
started Start (Min limits) h = cc
started Start (Max limits) h = cc
started Ended SwapBytes h = refl
started Ended (Unpack widths) h = refl
started Ended (Pack widths) h = refl
started Ended (Clear values) h = refl
started Ended (LeftShift n) h = refl
started Ended (RightShift n) h = refl
started Ended (Swizzle from) h = refl
started Ended (Dither k) h = refl
started Ended (Linear rows) h = refl
started Ended (Scale by) h = refl
started Ended (Min limits) h = refl
started Ended (Max limits) h = refl

-- ---- one step of a run
pub first_may_apply : (frame : List ℕ) (position : PixelPosition) (stage : Stage) (op : Op) (ops : List Op) (values : Values)
    → MayRun frame position stage (op ∷ ops) values → MayApply frame position stage op values
first_may_apply frame position stage op ops values h =
    let t = typed_parts stage op ops h.typed in
    record { follows = t.0; good = t.1; kind = h.kind; column = h.column; row = h.row; size = h.size }

pub rest_may_run : (frame : List ℕ) (position : PixelPosition) (stage : Stage) (op : Op) (ops : List Op) (values next : Values)
    → MayRun frame position stage (op ∷ ops) values → checked_apply frame position stage op values ≡ Some next
    → MayRun frame position (stage_after stage op) ops next
rest_may_run frame position stage op ops values next h is =
    let t = typed_parts stage op ops h.typed in
    record {
      typed = t.2;
      kind =
          ap are_fractions (sym (checked_apply-exact frame position stage op values next is))
          ∙ apply_kind frame position stage op values h.kind t.0 t.1;
      column = h.column;
      row = h.row;
      size = λ s. (let no = started stage op t.0 in cc);
    }

-- the values that a run ends with
pub last_kind : (frame : List ℕ) (position : PixelPosition) (stage : Stage) (ops : List Op) (values last : Values)
    → MayRun frame position stage ops values → checked_run_from frame position stage ops values ≡ Some last
    → are_fractions last ≡ is_rational (stage_from stage ops)
unfolding checked_run_from stage_from
last_kind frame position stage [] values last h is = ap are_fractions (sym (same_Some values last is)) ∙ h.kind
last_kind frame position stage (op ∷ ops) values last h is =
    option_and_then_some _ (checked_apply frame position stage op values) last is
    (λ next first rest. last_kind frame position (stage_after stage op) ops next last
    (rest_may_run frame position stage op ops values next h first) rest)

-- ---- the loop over a list
pub next_op : {A : Type 0} (ops : List A) (k : ℕ) (op : A) → k < length ops → op ≡ get_or ops k op → drop k ops ≡ op ∷ drop (k + 1) ops
next_op ops k op within is = rw add-one (subst (λ o. drop k ops ≡ o ∷ drop (suc k) ops) (sym is) (drop-cons ops k op within))

-- ---- a whole list
pub whole_numbers : (ops : List Op) (frame : List ℕ) (position : PixelPosition) (last : Values) → IsOpList ops → ends_with_write ops ≡ true
    → position.x < position.width → position.row < position.rows
    → length frame ≡ read_length ops position.width position.rows → checked_run_from frame position Start ops no_values ≡ Some last
    → are_fractions last ≡ false
whole_numbers ops frame position last sound whole column row size is =
    last_kind frame position Start ops no_values last
    (record { typed = sound.typed; kind = refl; column = column; row = row; size = λ s. size }) is
    ∙ ap is_rational (whole_ended Start ops whole)

pub checked_run-some : (ops : List Op) (frame : List ℕ) (width rows x row y : ℕ) (last : Values)
    → checked_run_from frame (record { width = width; rows = rows; x = x; row = row; y = y }) Start ops no_values ≡ Some last
    → checked_run ops frame width rows x row y ≡ Some (four (λ i. number last i))
unfolding checked_run
checked_run-some ops frame width rows x row y last is = rw is refl

pub checked_run-none : (ops : List Op) (frame : List ℕ) (width rows x row y : ℕ)
    → checked_run_from frame (record { width = width; rows = rows; x = x; row = row; y = y }) Start ops no_values ≡ None
    → checked_run ops frame width rows x row y ≡ None
unfolding checked_run
checked_run-none ops frame width rows x row y is = rw is refl

-- ---- the last operation
last_of : (ops : List Op) (last : Op) → Some last ≡ slice_get ops (length ops - 1) → ends_with_write ops ≡ is_write last
unfolding ends_with_write
last_of [] last h = absurd (none-some last (sym h))
last_of (op ∷ []) last h = ap is_write (sym (same_Some last op h))
last_of (op ∷ next ∷ ops) last h =
    let index : length (op ∷ next ∷ ops) - 1 ≡ suc (length (next ∷ ops) - 1) = omega arith in
    last_of (next ∷ ops) last (rw index at h)

pub whole_is : (ops : List Op) (last : Op) (b : Bool) → Some last ≡ slice_get ops (length ops - 1) → b ≡ is_write last
    → IsTrue b ↔ (ends_with_write ops ≡ true)
whole_is ops last b h is =
    let same = is ∙ sym (last_of ops last h) in
    (λ yes. sym same ∙ yes, λ yes. same ∙ yes)

pub whole_none : (ops : List Op) → None ≡ slice_get ops (length ops - 1) → IsTrue false ↔ (ends_with_write ops ≡ true)
unfolding ends_with_write
whole_none [] h = (λ no. no, λ no. no)
whole_none (op ∷ []) h = absurd (none-some op h)
whole_none (op ∷ next ∷ ops) h =
    let index : length (op ∷ next ∷ ops) - 1 ≡ suc (length (next ∷ ops) - 1) = omega arith in
    whole_none (next ∷ ops) (rw index at h)
