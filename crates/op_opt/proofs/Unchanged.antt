-- Values, and operations that leave the used ones as they are.
use Rattle.std.proofs.Common.{◌≡◌, ℕ, ◌<◌, ◌≤◌, Bool, true, false, not, List, [], ◌∷◌, refl, sym, ◌∙◌, ap, arith}
use Rattle.std.specs.Prelude.{None}
use Rattle.std.proofs.lemmas.Bool.{and_from}
use Rattle.frac_math.specs.Fraction.{ℚ, nat}
use Rattle.op_list.specs.declared.types.Stage.{Stage}
use Rattle.op_list.specs.declared.position.PixelPosition.{PixelPosition}
use Rattle.op_list.specs.declared.op.Op.{Op}
use Rattle.op_list.specs.declared.op.Op.TheVariants.{Read, Write, SwapBytes, Unpack, Pack, Clear, LeftShift, RightShift, Swizzle, Convert}
use Rattle.op_list.specs.declared.op.Op.TheVariants.{Dither, Linear, Scale, Min, Max}
use Rattle.op_list.specs.declared.values.Values.{Values}
use Rattle.op_list.specs.declared.values.Values.TheVariants.{Numbers, Fractions}
use Rattle.op_list.specs.Typing.{stage_after, stage_from, is_write}
use Rattle.op_list.specs.Values.{four, number, fraction, are_fractions}
use Rattle.op_list.specs.Apply.{apply}
use Rattle.op_list.specs.Run.{run_from}
use Rattle.op_list.proofs.Four.{get_or-four}
use Rattle.op_list.proofs.Typed.{typed_none}
use Rattle.op_list.proofs.Wholes.{last_behind}
use Rattle.op_range.specs.declared.range.ValueRange.{ValueRange}
use Rattle.op_range.specs.Used.{is_used, used_from, Agree}
use Rattle.op_opt.specs.Weight.{weight, weight_of}
use Rattle.op_opt.proofs.Ends.{is_read}
use Rattle.op_opt.proofs.Replacing.{Replaces, At, same_by_agreement}

pub no_fraction : (v : Values) (i : ℕ) → are_fractions v ≡ false → fraction v i ≡ nat 0
no_fraction (Numbers v) i h = refl
no_fraction (Fractions v) i h = absurd (cc)

no_number : (v : Values) (i : ℕ) → are_fractions v ≡ true → number v i ≡ 0
no_number (Numbers v) i h = absurd (cc)
no_number (Fractions v) i h = refl

-- ---- values that agree with four others
pub agree_with_numbers : (used : List Bool) (v : Values) (f : ℕ → ℕ) → are_fractions v ≡ false → ((i : ℕ) → i < 4
    → is_used used i ≡ true → number v i ≡ f i)
    → Agree used v (Numbers (four f))
agree_with_numbers used v f kind same = record {
  kind = kind;
  numbers = λ i below u. same i below u ∙ sym (get_or-four f i 0 below);
  fractions = λ i below u. no_fraction v i kind;
}

pub agree_with_fractions : (used : List Bool) (v : Values) (f : ℕ → ℚ) → are_fractions v ≡ true → ((i : ℕ) → i < 4
    → is_used used i ≡ true → fraction v i ≡ f i)
    → Agree used v (Fractions (four f))
agree_with_fractions used v f kind same = record {
  kind = kind;
  numbers = λ i below u. no_number v i kind;
  fractions = λ i below u. same i below u ∙ sym (get_or-four f i (nat 0) below);
}

-- ---- an operation that is dropped
pub weighs : (op : Op) → 64 ≤ weight_of op
unfolding weight_of
weighs (Read elem planes palette) = omega arith
weighs (Write elem planes) = omega arith
weighs SwapBytes = omega arith
weighs (Unpack widths) = omega arith
weighs (Pack widths) = omega arith
weighs (Clear values) = omega arith
weighs (LeftShift n) = omega arith
weighs (RightShift n) = omega arith
weighs (Swizzle from) = omega arith
weighs (Convert to expand) = omega arith
weighs (Dither k) = omega arith
weighs (Linear rows) = omega arith
weighs (Scale by) = omega arith
weighs (Min limits) = omega arith
weighs (Max limits) = omega arith

dropped_lighter : (op : Op) → weight [] < weight (op ∷ [])
unfolding weight
dropped_lighter op = omega (arith, weighs op)

-- the values behind no operation, and behind one
behind_one : (frame : List ℕ) (position : PixelPosition) (stage : Stage) (op : Op) (used : List Bool) (v : Values)
    → Agree used v (apply frame position stage op v) → Agree used (run_from frame position stage [] v) (run_from frame position stage
    (op ∷ []) v)
unfolding run_from
behind_one frame position stage op used v h = h

stays : (stage : Stage) (op : Op) → stage_after stage op ≡ stage → stage_from stage [] ≡ stage_from stage (op ∷ [])
unfolding stage_from
stays stage op is = sym is

-- where the values that it leaves agree with those before it
pub dropped : (stage : Stage) (ranges : List ValueRange) (op : Op) (rest : List Op) → is_write op ≡ false
    → is_read op ≡ false → stage_after stage op ≡ stage
    → ((frame : List ℕ) (position : PixelPosition) (v : Values) → At stage ranges (op ∷ rest) frame v
    → Agree (used_from rest) v (apply frame position stage op v))
    → Replaces stage ranges (op ∷ []) None rest
dropped stage ranges op rest inner unread same agrees = record {
  inner = and_from _ true (ap not inner) refl;
  unread = and_from _ true (ap not unread) refl;
  lighter = dropped_lighter op;
  typed = λ h. (typed_none stage, stays stage op same);
  same = λ frame position v at.
      same_by_agreement frame position stage (op ∷ []) rest None v at.typed (last_behind op rest inner at.last) (stays stage op same)
      (behind_one frame position stage op (used_from rest) v (agrees frame position v at));
}
