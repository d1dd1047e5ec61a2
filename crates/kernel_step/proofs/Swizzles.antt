-- Values that change places: what a block holds, and its bounds.
use Rattle.std.proofs.Common.{◌≡◌, ℕ, ◌+◌, ◌*◌, ◌<◌, ◌≤◌, true, false, List, ℤ, slice_index, slice_index_or, sym, ap, ◌∙◌, arith}
use Rattle.frac_math.specs.Standing.{Stands}
use Rattle.op_list.specs.declared.types.Stage.{Stage}
use Rattle.op_list.specs.declared.types.PixType.TheVariants.{U8, U16, U32, Rat}
use Rattle.op_list.specs.declared.types.Stage.TheVariants.{Start, Typed, Ended}
use Rattle.op_list.specs.declared.op.Op.TheVariants.{Swizzle}
use Rattle.op_list.specs.declared.position.PixelPosition.{PixelPosition}
use Rattle.op_list.specs.declared.values.Values.{Values}
use Rattle.op_list.specs.Types.{is_whole, is_rational}
use Rattle.op_list.specs.Typing.{stage_after}
use Rattle.op_list.specs.Values.{fraction, are_fractions}
use Rattle.op_list.specs.Apply.{apply}
use Rattle.kernel_step.specs.declared.form.Form.{Form}
use Rattle.kernel_planes.specs.Block.{pixel_at}
use Rattle.kernel_step.specs.Forms.{denominator, IsState, IsBounded, IsMoved}
use Rattle.kernel_step.proofs.Fours.{swizzled_number, swizzled_fraction}

pub rational_not_whole : (stage : Stage) → is_rational stage ≡ true → is_whole stage ≡ true → ⊥
rational_not_whole (Typed U8) p q = cc
rational_not_whole (Typed U16) p q = cc
rational_not_whole (Typed U32) p q = cc
rational_not_whole (Typed Rat) p q = cc
rational_not_whole Start p q = cc
rational_not_whole Ended p q = cc

abbrev pub AreMoved : List ℕ → Form → Form → Type 0
AreMoved from before after = (v : ℕ) → v < after.count → IsMoved before (slice_index from v) after v

-- value v of the new block is value from[v] of the old one
abbrev pub Moves : {T : Type 0} → List ℕ → ℕ → List T → List T → Type 0
Moves {T} from count old new = (v i : ℕ) (d : T) → v < count → i < 64
    → slice_index_or new (64 * v + i) d ≡ slice_index_or old (64 * slice_index from v + i) d

pub swizzle_numbers : {W N : Type 0} (digits : W → ℕ) (value : N → ℤ) (stage : Stage) (from : List ℕ) (before after : Form)
    (old new : List W) (numbers : List N) (position : PixelPosition)
    → is_rational stage ≡ false → after.count ≤ 4 → AreMoved from before after → Moves from after.count old new
    → (frame : List ℕ) (n : ℕ) (given : ℕ → Values) → n ≤ 64 → ((i : ℕ) → are_fractions (given i) ≡ is_rational stage)
    → IsState digits value stage before old numbers n given
    → IsState digits value (stage_after stage (Swizzle from)) after new numbers n
    (λ i. apply frame (pixel_at position i) stage (Swizzle from) (given i))
unfolding apply stage_after
swizzle_numbers {W} {N} digits value stage from before after old new numbers position kind few moved moves frame n given most kinds state =
    record {
      whole = λ is v i d below within.
          ap digits (moves v i d below (omega (arith, within, most))) ∙ state.whole is (slice_index from v) i d (moved v below).there within
          ∙ sym (swizzled_number from (given i) v (omega (arith, below, few)));
      exact = λ is. absurd (let no : true ≡ false = sym is ∙ kind in cc);
    }

pub swizzle_fractions : {W N : Type 0} (digits : W → ℕ) (value : N → ℤ) (stage : Stage) (from : List ℕ) (before after : Form)
    (values : List W) (old new : List N) (position : PixelPosition)
    → is_rational stage ≡ true → after.count ≤ 4 → AreMoved from before after → Moves from after.count old new
    → (frame : List ℕ) (n : ℕ) (given : ℕ → Values) → n ≤ 64 → ((i : ℕ) → are_fractions (given i) ≡ is_rational stage)
    → IsState digits value stage before values old n given
    → IsState digits value (stage_after stage (Swizzle from)) after values new n
    (λ i. apply frame (pixel_at position i) stage (Swizzle from) (given i))
unfolding apply stage_after
swizzle_fractions {W} {N} digits value stage from before after values old new position kind few moved moves frame n given most kinds state =
    record {
      whole = λ is. absurd (rational_not_whole stage kind is);
      exact = λ is v i d below within.
          let m : IsMoved before (slice_index from v) after v = moved v below in
          let old_stands : Stands (fraction (given i) (slice_index from v)) (value (slice_index_or old (64 * slice_index from v + i) d))
          (denominator before (slice_index from v)) =
          state.exact is (slice_index from v) i d m.there within in
          rw (swizzled_fraction from (given i) v (omega (arith, below, few)), moves v i d below (omega (arith, within, most)), m.same)
          old_stands;
    }

pub swizzle_numbers_bounded : {W N : Type 0} (digits : W → ℕ) (value : N → ℤ) (stage : Stage) (from : List ℕ) (before after : Form)
    (old new : List W) (numbers : List N)
    → is_rational stage ≡ false → AreMoved from before after → Moves from after.count old new
    → IsBounded digits value stage before old numbers → IsBounded digits value (stage_after stage (Swizzle from)) after new numbers
unfolding stage_after
swizzle_numbers_bounded {W} {N} digits value stage from before after old new numbers kind moved moves bounded = record {
  small = λ is v i d below within. rw (moves v i d below within) (bounded.small is (slice_index from v) i d (moved v below).there within);
  bound = λ is. absurd (let no : true ≡ false = sym is ∙ kind in cc);
}

pub swizzle_fractions_bounded : {W N : Type 0} (digits : W → ℕ) (value : N → ℤ) (stage : Stage) (from : List ℕ) (before after : Form)
    (values : List W) (old new : List N)
    → is_rational stage ≡ true → AreMoved from before after → Moves from after.count old new
    → IsBounded digits value stage before values old → IsBounded digits value (stage_after stage (Swizzle from)) after values new
unfolding stage_after
swizzle_fractions_bounded {W} {N} digits value stage from before after values old new kind moved moves bounded = record {
  small = λ is. absurd (rational_not_whole stage kind is);
  bound = λ is v i d below within.
      let m : IsMoved before (slice_index from v) after v = moved v below in
      rw (moves v i d below within, m.same) (bounded.bound is (slice_index from v) i d m.there within);
}
