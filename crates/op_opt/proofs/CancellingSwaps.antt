-- Two byte swaps are nothing.
use Rattle.std.proofs.Common.{◌≡◌, ℕ, ◌+◌, ◌*◌, ◌/◌, ◌%◌, ◌^◌, ◌<◌, Bool, true, false, List, [], ◌∷◌, subst, refl, sym, ◌∙◌, ap, arith}
use Rattle.std.specs.Prelude.{None, slice_index}
use Rattle.std.proofs.lemmas.Option.{same_Some, none-some}
use Rattle.op_list.specs.declared.types.PixType.TheVariants.{U8, U16, U32, Rat}
use Rattle.op_list.specs.declared.types.Stage.{Stage}
use Rattle.op_list.specs.declared.types.Stage.TheVariants.{Start, Typed, Ended}
use Rattle.op_list.specs.declared.position.PixelPosition.{PixelPosition}
use Rattle.op_list.specs.declared.op.Op.{Op}
use Rattle.op_list.specs.declared.op.Op.TheVariants.{SwapBytes}
use Rattle.op_list.specs.declared.values.Values.{Values}
use Rattle.op_list.specs.declared.values.Values.TheVariants.{Numbers}
use Rattle.op_list.specs.Types.{bits_at, is_wide, is_rational}
use Rattle.op_list.specs.Typing.{may_follow, stage_after, stage_from, are_typed}
use Rattle.op_list.specs.Values.{four, number, are_fractions}
use Rattle.op_list.specs.Whole.{reversed_bytes}
use Rattle.op_list.specs.Apply.{apply}
use Rattle.op_list.specs.Run.{run_from}
use Rattle.op_range.specs.declared.range.ValueRange.{ValueRange}
use Rattle.op_range.specs.Within.{AreSmall}
use Rattle.op_range.specs.Used.{used_from, Agree}
use Rattle.op_list.proofs.Four.{get_or-four}
use Rattle.op_opt.specs.declared.change.Change.{Change}
use Rattle.op_opt.specs.CancelSwaps.{cancel_swaps}
use Rattle.op_opt.specs.Weight.{weight, weight_of}
use Rattle.op_list.proofs.Typed.{typed_parts, typed_none}
use Rattle.op_list.proofs.Wholes.{last_behind}
use Rattle.op_opt.proofs.Unchanged.{no_fraction}
use Rattle.op_opt.proofs.Replacing.{IsSound, Replaces, Replacement, same_by_agreement}

two_bytes : (n : ℕ) → n < 65536 → reversed_bytes 2 (reversed_bytes 2 n) ≡ n
two_bytes n h = omega arith

-- four bytes from the least, and back
four_bytes_of : (a b c d : ℕ) → a < 256 → b < 256 → c < 256 → d < 256
    → reversed_bytes 4 (a + 256 * (b + 256 * (c + 256 * d))) ≡ d + 256 * (c + 256 * (b + 256 * a))
four_bytes_of a b c d p q r s = omega arith

four_bytes : (n : ℕ) → n < 4294967296 → reversed_bytes 4 (reversed_bytes 4 n) ≡ n
four_bytes n h =
    let a = n % 256 in let b = n / 256 % 256 in let c = n / 256 / 256 % 256 in let d = n / 256 / 256 / 256 in
    let is : n ≡ a + 256 * (b + 256 * (c + 256 * d)) = omega arith in
    let small : d < 256 = omega arith in
    let once : reversed_bytes 4 n ≡ d + 256 * (c + 256 * (b + 256 * a)) = ap (reversed_bytes 4) is
    ∙ four_bytes_of a b c d (omega arith) (omega arith) (omega arith) small in
    ap (reversed_bytes 4) once ∙ four_bytes_of d c b a small (omega arith) (omega arith) (omega arith) ∙ sym is

twice : (stage : Stage) (n : ℕ) → is_wide stage ≡ true → n < 2 ^ bits_at stage → reversed_bytes (bits_at stage / 8) (reversed_bytes
    (bits_at stage / 8) n) ≡ n
twice (Typed U16) n wide h = two_bytes n h
twice (Typed U32) n wide h = four_bytes n h
twice (Typed U8) n wide h = absurd (cc)
twice (Typed Rat) n wide h = absurd (cc)
twice Start n wide h = absurd (cc)
twice Ended n wide h = absurd (cc)

swapped : Stage → Values → Values
swapped stage v = Numbers (four (λ i. reversed_bytes (bits_at stage / 8) (number v i)))

agrees : (stage : Stage) (used : List Bool) (v : Values) → is_wide stage ≡ true → are_fractions v ≡ false → AreSmall stage v
    → Agree used v (swapped stage (swapped stage v))
unfolding swapped
agrees stage used v wide kind small =
    let once = λ (i : ℕ). reversed_bytes (bits_at stage / 8) (number v i) in
    record {
      kind = kind;
      numbers = λ i below u.
          sym (get_or-four (λ j. reversed_bytes (bits_at stage / 8) (slice_index (four once) j)) i 0 below
          ∙ ap (reversed_bytes (bits_at stage / 8)) (get_or-four once i 0 below)
          ∙ twice stage (number v i) wide (small.each i below));
      fractions = λ i below u. no_fraction v i kind;
    }

lighter : weight [] < weight (SwapBytes ∷ SwapBytes ∷ [])
unfolding weight weight_of
lighter = omega arith

stays : (stage : Stage) → stage_from stage [] ≡ stage_from stage (SwapBytes ∷ SwapBytes ∷ [])
unfolding stage_from stage_after
stays stage = refl

wide_at : (stage : Stage) (rest : List Op) → are_typed stage (SwapBytes ∷ rest) ≡ true → is_wide stage ≡ true
unfolding may_follow
wide_at stage rest h = (typed_parts stage SwapBytes rest h).0

whole_kind : (stage : Stage) → is_wide stage ≡ true → is_rational stage ≡ false
whole_kind (Typed U16) h = refl
whole_kind (Typed U32) h = refl
whole_kind (Typed U8) h = refl
whole_kind (Typed Rat) h = absurd (cc)
whole_kind Start h = refl
whole_kind Ended h = refl

runs : (frame : List ℕ) (position : PixelPosition) (stage : Stage) (used : List Bool) (v : Values)
    → Agree used v (swapped stage (swapped stage v))
    → Agree used (run_from frame position stage [] v) (run_from frame position stage (SwapBytes ∷ SwapBytes ∷ []) v)
unfolding run_from apply stage_after swapped
runs frame position stage used v h = h

replaces : (stage : Stage) (ranges : List ValueRange) (rest : List Op) → Replaces stage ranges (SwapBytes ∷ SwapBytes ∷ []) None rest
replaces stage ranges rest = record {
  inner = refl;
  unread = refl;
  lighter = lighter;
  typed = λ h. (typed_none stage, stays stage);
  same = λ frame position v at.
      (let wide = wide_at stage (SwapBytes ∷ rest) at.typed in
      same_by_agreement frame position stage (SwapBytes ∷ SwapBytes ∷ []) rest None v at.typed (last_behind SwapBytes rest refl
      (last_behind SwapBytes (SwapBytes ∷ rest) refl at.last)) (stays stage)
      (runs frame position stage (used_from rest) v (agrees stage (used_from rest) v wide (at.kind ∙ whole_kind stage wide) at.small)));
}

pub cancel_swaps_sound : IsSound (λ stage ranges ops. cancel_swaps ops)
unfolding cancel_swaps
cancel_swaps_sound stage ranges (SwapBytes ∷ SwapBytes ∷ rest) change is =
    subst (λ (c : Change). Replacement stage ranges (SwapBytes ∷ SwapBytes ∷ rest) c) (same_Some _ change is)
    (record { old = SwapBytes ∷ SwapBytes ∷ []; rest = rest; split = refl; behind = refl; replaces = replaces stage ranges rest })
cancel_swaps_sound stage ranges _ change is = absurd (none-some change is)
