-- Which operations make each whole number of one.
use Rattle.std.proofs.Common.{◌≡◌, ℕ, ◌*◌, ◌/◌, ◌%◌, ◌^◌, ◌<◌, ◌≤◌, ◌⊎◌, ⊎_elim, Bool, true, false, slice_index, refl, sym}
use Rattle.std.proofs.Common.{arith, subst}
use Rattle.std.specs.Prelude.{if◌then◌else◌}
use Rattle.std.proofs.lemmas.Bool.{ltb-true}
use Rattle.std.proofs.lemmas.Nat.{pow_pos}
use Rattle.std.proofs.Math.Nat.{mod-lt, div-le_self}
use Rattle.op_list.specs.declared.types.PixType.{PixType}
use Rattle.op_list.specs.declared.types.PixType.TheVariants.{U8, U16, U32, Rat}
use Rattle.op_list.specs.declared.types.Stage.{Stage}
use Rattle.op_list.specs.declared.op.Op.TheVariants.{SwapBytes, LeftShift, RightShift, Convert}
use Rattle.op_list.specs.declared.values.Values.{Values}
use Rattle.op_list.specs.declared.values.Values.TheVariants.{Numbers, Fractions}
use Rattle.op_list.specs.Types.{bits, bits_at, is_whole, is_whole_type}
use Rattle.op_list.specs.Typing.{may_follow, are_good, stage_after}
use Rattle.op_list.specs.Values.{number, are_fractions}
use Rattle.op_list.specs.Whole.{reversed_bytes}
use Rattle.op_list.specs.Apply.{apply, converted}
use Rattle.op_list.proofs.Applied.{whole_before, wide_bits}
use Rattle.op_list.proofs.ReversedBytes.{reversed_bytes-below}
use Rattle.kernel_step.proofs.Fours.{four_at}
use Rattle.kernel_step.proofs.Shifts.{power_order}
use Rattle.kernel_step.proofs.MappedSteps.{IsMap}

pub swap_bits : (stage : Stage) → may_follow stage SwapBytes ≡ true → (bits_at stage ≡ 16) ⊎ (bits_at stage ≡ 32)
unfolding may_follow
swap_bits stage h = wide_bits stage h

pub swap_map : (stage : Stage) (count : ℕ) → count ≡ bits_at stage → may_follow stage SwapBytes ≡ true → are_good stage SwapBytes ≡ true
    → IsMap stage SwapBytes (λ m. reversed_bytes (count / 8) m)
unfolding stage_after apply
swap_map stage count same follows good = subst (λ b. IsMap stage SwapBytes (λ m. reversed_bytes (b / 8) m)) (sym same) (record {
  before = whole_before stage SwapBytes refl follows good;
  after = whole_before stage SwapBytes refl follows good;
  number = λ frame position values v small kind. four_at (λ i. reversed_bytes (bits_at stage / 8) (number values i)) v 0 small;
  small = λ m below.
      ⊎_elim
      (λ (is : bits_at stage ≡ 16). rw is (reversed_bytes-below 2 m))
      (λ (is : bits_at stage ≡ 32). rw is (reversed_bytes-below 4 m))
      (swap_bits stage follows);
})

-- the storage has room for the bits of a stage
pub left_room : (stage : Stage) (n most : ℕ) → 2 ^ bits_at (stage_after stage (LeftShift n)) ≤ 2 ^ most → bits_at stage ≤ most
unfolding stage_after
left_room stage n most stored = power_order (bits_at stage) most stored

pub right_room : (stage : Stage) (n most : ℕ) → are_good stage (RightShift n) ≡ true
    → 2 ^ bits_at (stage_after stage (RightShift n)) ≤ 2 ^ most → n < most
unfolding are_good stage_after
right_room stage n most good stored = omega (arith, ltb-true n (bits_at stage) good, power_order (bits_at stage) most stored)

pub left_map : (stage : Stage) (n count : ℕ) → count ≡ bits_at stage → may_follow stage (LeftShift n) ≡ true
    → are_good stage (LeftShift n) ≡ true → IsMap stage (LeftShift n) (λ m. m * 2 ^ n % 2 ^ count)
unfolding stage_after apply
left_map stage n count same follows good = subst (λ b. IsMap stage (LeftShift n) (λ m. m * 2 ^ n % 2 ^ b)) (sym same) (record {
  before = whole_before stage (LeftShift n) refl follows good;
  after = whole_before stage (LeftShift n) refl follows good;
  number = λ frame position values v small kind. four_at (λ i. number values i * 2 ^ n % 2 ^ bits_at stage) v 0 small;
  small = λ m below. mod-lt (m * 2 ^ n) (pow_pos (bits_at stage));
})

pub right_map : (stage : Stage) (n : ℕ) → may_follow stage (RightShift n) ≡ true → are_good stage (RightShift n) ≡ true
    → IsMap stage (RightShift n) (λ m. m / 2 ^ n)
unfolding stage_after apply
right_map stage n follows good = record {
  before = whole_before stage (RightShift n) refl follows good;
  after = whole_before stage (RightShift n) refl follows good;
  number = λ frame position values v small kind. four_at (λ i. number values i / 2 ^ n) v 0 small;
  small = λ m below. omega (arith, div-le_self m (2 ^ n), below);
}

pub retype_map : (stage : Stage) (to : PixType) (expand : Bool) (factor count : ℕ) → factor ≡ (if expand then 257 else 1) → count ≡ bits to
    → is_whole stage ≡ true → is_whole_type to ≡ true
    → IsMap stage (Convert to expand) (λ m. m * factor % 2 ^ count)
unfolding stage_after apply
retype_map stage to expand factor count same_factor same whole whole_to = rw (same_factor, same) (record {
  before = whole;
  after = whole_to;
  number = λ frame position values v small kind. retyped to expand values v whole_to small kind;
  small = λ m below. mod-lt (m * (if expand then 257 else 1)) (pow_pos (bits to));
})
  where
    retyped : (to : PixType) (expand : Bool) (values : Values) (v : ℕ) → is_whole_type to ≡ true → v < 4 → are_fractions values ≡ false
        → number (converted to expand values) v ≡ number values v * (if expand then 257 else 1) % 2 ^ bits to
    retyped Rat expand values v whole small kind = cc
    retyped U8 expand (Numbers values) v whole small kind =
        four_at (λ i. slice_index values i * (if expand then 257 else 1) % 2 ^ 8) v 0 small
    retyped U16 expand (Numbers values) v whole small kind =
        four_at (λ i. slice_index values i * (if expand then 257 else 1) % 2 ^ 16) v 0 small
    retyped U32 expand (Numbers values) v whole small kind =
        four_at (λ i. slice_index values i * (if expand then 257 else 1) % 2 ^ 32) v 0 small
    retyped U8 expand (Fractions values) v whole small kind = cc
    retyped U16 expand (Fractions values) v whole small kind = cc
    retyped U32 expand (Fractions values) v whole small kind = cc
