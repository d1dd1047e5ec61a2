-- The widths on the way through a list whose width is below the room of a width of numbers stay below it.
use Rattle.std.proofs.Common.{◌≡◌, ℕ, zero, suc, ◌+◌, ◌-◌, ◌^◌, ◌<◌, ◌≤◌, Bool, true, false, List, [], ◌∷◌, length, drop}
use Rattle.std.proofs.Common.{if◌then◌else◌, refl, ap, arith, subst, add-one}
use Rattle.std.specs.Prelude.{Some, None}
use Rattle.op_list.specs.declared.types.PixType.TheVariants.{U8, U16, U32, Rat}
use Rattle.op_list.specs.declared.types.Stage.{Stage}
use Rattle.op_list.specs.declared.types.Stage.TheVariants.{Start, Typed, Ended}
use Rattle.op_list.specs.declared.op.Op.{Op}
use Rattle.op_list.specs.declared.op.Op.TheVariants.{Read, Write, Convert}
use Rattle.op_list.specs.Types.{bits_at, is_rational}
use Rattle.op_list.specs.Typing.{are_typed, stage_after, stage_from}
use Rattle.op_list.proofs.Typed.{typed_parts}
use Rattle.op_list.proofs.Four.{get_or-four}
use Rattle.op_range.specs.declared.width.Width.{Width}
use Rattle.op_range.specs.Width.{size_in, own_size, own_width_from, own_width, has_fractions, width, whole_width, width_after}
use Rattle.op_range.specs.Width.{fractions_width}
use Rattle.op_range.specs.Capped.{capped, capped_width}
use Rattle.op_range.proofs.Widths.{SameCapped, same_own, after_positive}
use Rattle.op_range.proofs.Reaching.{no_fractions, is_capped, is_too_wide}
use Rattle.kernel_step.specs.Forms.{op_at, stage_before}
use Rattle.kernel_step.specs.declared.form.NumberWidth.{NumberWidth}
use Rattle.kernel_joint.specs.Joint.{IsSmall, AreSame, IsWalked, room}
use Rattle.kernel_joint.proofs.Rooms.{room_below}
use Rattle.kernel_step.proofs.Kernels.{stage_more}

-- ---- one operation
bits_few : (stage : Stage) → 2 ^ bits_at stage ≤ 2 ^ 32
bits_few (Typed U8) = omega arith
bits_few (Typed U16) = omega arith
bits_few (Typed U32) = omega arith
bits_few (Typed Rat) = omega arith
bits_few Start = omega arith
bits_few Ended = omega arith

pub whole_small : (number_width : NumberWidth) (stage : Stage) → 2 ^ 32 ≤ room number_width
    → IsSmall number_width (whole_width (bits_at stage))
whole_small number_width stage wide = record {
  positive = omega arith;
  denominator = omega (arith, wide);
  sizes = λ i below. rw (get_or-four (λ j. 2 ^ bits_at stage - 1) i 0 below) (omega (arith, wide, bits_few stage));
}

-- ---- an operation that leaves no fractions keeps a width of fractions
left_alone : (stage : Stage) (op : Op) (w : Width) → is_rational stage ≡ true → is_rational (stage_after stage op) ≡ false
    → fractions_width op w ≡ w
unfolding fractions_width stage_after
left_alone stage (Read elem planes palette) w kind after = refl
left_alone stage (Write elem planes) w kind after = refl
left_alone stage (Convert to expand) w kind after = refl
left_alone stage op w kind after = absurd (cc)

small_from : (number_width : NumberWidth) (w : Width) → 0 < w.denominator → ((i : ℕ) → i < 4 → own_size w i < room number_width)
    → IsSmall number_width w
small_from number_width w positive own = record {
  positive = positive;
  denominator = omega (arith, own 0 (omega arith));
  sizes = λ i below. omega (arith, own i below);
}

-- the part of the first operation
own_first : (number_width : NumberWidth) (stage : Stage) (op : Op) (ops : List Op) (w : Width) (i : ℕ)
    → own_width_from stage (op ∷ ops) w i < room number_width
    → ((if is_rational (stage_after stage op) then own_size (width_after stage op w) i else 0) < room number_width)
    × (own_width_from (stage_after stage op) ops (width_after stage op w) i < room number_width)
unfolding own_width_from
own_first number_width stage op ops w i h = (omega (arith, h), omega (arith, h))

small_after : (number_width : NumberWidth) (stage : Stage) (op : Op) (w : Width) → 2 ^ 32 ≤ room number_width → IsSmall number_width w
    → ((i : ℕ) → i < 4 → (if is_rational (stage_after stage op) then own_size (width_after stage op w) i else 0) < room number_width)
    → IsSmall number_width (width_after stage op w)
unfolding width_after
small_after number_width stage op w wide small own = by_stage (is_rational (stage_after stage op)) refl
  where
    whole_or : (t : Bool) → is_rational stage ≡ t → is_rational (stage_after stage op) ≡ false
        → IsSmall number_width (width_after stage op w)
    whole_or true kind after = rw (kind, left_alone stage op w kind after) small
    whole_or false kind after = rw kind (whole_small number_width stage wide)

    by_stage : (t : Bool) → is_rational (stage_after stage op) ≡ t → IsSmall number_width (width_after stage op w)
    by_stage true after = small_from number_width (width_after stage op w) (after_positive stage op w small.positive)
        (λ i below. subst (λ (b : Bool). (if b then own_size (width_after stage op w) i else 0) < room number_width) after (own i below))
    by_stage false after = whole_or (is_rational stage) refl after

-- ---- the width that the code works out
same_capped : (v w : Width) → AreSame v w → SameCapped v w
same_capped v w same = record { denominator = same.denominator; sizes = λ i below. ap capped (same.sizes i below) }

uncapped : (number_width : NumberWidth) (a b : ℕ) → b < room number_width → capped a ≡ capped b → a ≡ b
uncapped number_width a b small h = omega (arith, small, h, room_below number_width)

pub same_when_small : (number_width : NumberWidth) (w after : Width) → IsSmall number_width w → capped_width w ≡ Some after
    → AreSame after w
same_when_small number_width w after small h =
    let c = is_capped w after h in
    record {
      denominator = c.same.denominator;
      sizes = λ i below. uncapped number_width (size_in after i) (size_in w i) (small.sizes i below) (c.same.sizes i below);
    }

pub none_too_wide : (number_width : NumberWidth) (w : Width) → IsSmall number_width w → capped_width w ≡ None → ⊥
none_too_wide number_width w small h = omega (arith, small.denominator, is_too_wide w h, room_below number_width)

own_same : (number_width : NumberWidth) (stage : Stage) (ops : List Op) (v w : Width) (i : ℕ) → i < 4 → are_typed stage ops ≡ true
    → AreSame v w
    → own_width_from stage ops w i < room number_width
    → own_width_from stage ops v i < room number_width
own_same number_width stage ops v w i below typed same fits = omega (
  arith,
  fits,
  room_below number_width,
  same_own stage ops v w i below typed (same_capped v w same),
)

-- ---- a list
rest_behind : (ops : List Op) (k : ℕ) → k < length ops → drop k ops ≡ op_at ops k ∷ drop (suc k) ops
rest_behind [] k within = absurd (omega (arith, within))
rest_behind (op ∷ ops) zero within = refl
rest_behind (op ∷ ops) (suc k) within = rest_behind ops k (omega (arith, within))

rest_at : (ops : List Op) (k : ℕ) → k < length ops → drop k ops ≡ op_at ops k ∷ drop (k + 1) ops
rest_at ops k within = rw add-one (rest_behind ops k within)

-- the width after operation k is small, if that of the list is
pub walked_small : (number_width : NumberWidth) (ops : List Op) (k : ℕ) (w : Width) → k < length ops → IsWalked number_width ops k w
    → 2 ^ 32 ≤ room number_width → width ops < room number_width
    → IsSmall number_width (width_after (stage_before ops k) (op_at ops k) w)
walked_small number_width ops k w within walked wide fits =
    small_after number_width (stage_before ops k) (op_at ops k) w wide walked.small
    (λ i below. (own_first number_width (stage_before ops k) (op_at ops k) (drop (k + 1) ops) w i
    (rw (← rest_at ops k within) (walked.fits fits i below))).0)

pub walked_more : (number_width : NumberWidth) (ops : List Op) (k : ℕ) (w next : Width) → k < length ops → IsWalked number_width ops k w
    → AreSame next (width_after (stage_before ops k) (op_at ops k) w) → IsSmall number_width next
    → IsWalked number_width ops (k + 1) next
walked_more number_width ops k w next within walked same small =
    let stage = stage_before ops k in
    let op = op_at ops k in
    let after = width_after stage op w in
    let typed : are_typed (stage_after stage op) (drop (k + 1) ops) ≡ true =
    (typed_parts stage op (drop (k + 1) ops) (rw (← rest_at ops k within) walked.typed)).2 in
    record {
      typed = rw (stage_more ops k within) typed;
      small = small;
      fits = λ fits i below. rw (stage_more ops k within)
          (own_same number_width (stage_after stage op) (drop (k + 1) ops) next after i below typed same
          (own_first number_width stage op (drop (k + 1) ops) w i (rw (← rest_at ops k within) (walked.fits fits i below))).1);
    }

-- the own width of each value, from the start
own_fits : (number_width : NumberWidth) (ops : List Op) (i : ℕ) → own_width ops i < room number_width
    → own_width_from Start ops (whole_width 0) i < room number_width
unfolding own_width
own_fits number_width ops i h = (elim (has_fractions Start ops) as
    (λ t. has_fractions Start ops ≡ t → (if t then own_width_from Start ops (whole_width 0) i else 2 ^ 32) < room number_width
    → own_width_from Start ops (whole_width 0) i < room number_width) [
      | true ↦ λ t fits. fits
      | false ↦ λ t fits. omega (arith, no_fractions Start ops (whole_width 0) i t)
    ]) refl h

each_own : (number_width : NumberWidth) (ops : List Op) (i : ℕ) → i < 4 → width ops < room number_width
    → own_width ops i < room number_width
unfolding width
each_own number_width ops zero below h = omega (arith, h)
each_own number_width ops (suc zero) below h = omega (arith, h)
each_own number_width ops (suc (suc zero)) below h = omega (arith, h)
each_own number_width ops (suc (suc (suc zero))) below h = omega (arith, h)
each_own number_width ops (suc (suc (suc (suc i)))) below h = absurd (omega (arith, below))

pub walked_first : (number_width : NumberWidth) (ops : List Op) → are_typed Start ops ≡ true → 2 ^ 32 ≤ room number_width
    → IsWalked number_width ops 0 (whole_width 0)
unfolding stage_from
walked_first number_width ops typed wide = record {
  typed = typed;
  small = whole_small number_width Start wide;
  fits = λ fits i below. own_fits number_width ops i (each_own number_width ops i below fits);
}

-- the first operation leaves whole numbers, of no bits yet
pub start_same : (op : Op) → AreSame (whole_width 0) (width_after Start op (whole_width 0))
unfolding width_after
start_same op = record { denominator = refl; sizes = λ i below. refl }
