-- Operations that make each whole number of one: what a block holds, and its bounds.
use Rattle.std.proofs.Common.{◌≡◌, ℕ, ◌+◌, ◌*◌, ◌/◌, ◌%◌, ◌^◌, ◌<◌, ◌≤◌, true, false, List, ℤ, slice_index_or}
use Rattle.std.proofs.Common.{sym, ap, ◌∙◌, arith, subst}
use Rattle.op_list.specs.declared.types.Stage.{Stage}
use Rattle.op_list.specs.declared.op.Op.{Op}
use Rattle.op_list.specs.declared.position.PixelPosition.{PixelPosition}
use Rattle.op_list.specs.declared.values.Values.{Values}
use Rattle.op_list.specs.Types.{bits_at, is_whole}
use Rattle.op_list.specs.Typing.{stage_after}
use Rattle.op_list.specs.Values.{number, are_fractions}
use Rattle.op_list.specs.Apply.{apply}
use Rattle.op_list.proofs.Applied.{whole_not_rational}
use Rattle.kernel_step.specs.declared.form.Form.{Form}
use Rattle.kernel_planes.specs.Block.{pixel_at, AreBelow}
use Rattle.kernel_step.specs.Forms.{IsBounded, Performs}

-- each of the first numbers is made of the old one
abbrev pub Maps : {W : Type 0} → (W → ℕ) → (ℕ → ℕ) → ℕ → List W → List W → Type 0
Maps {W} digits makes count old new = (j : ℕ) (d : W) → j < count
    → digits (slice_index_or new j d) ≡ makes (digits (slice_index_or old j d))

-- An operation that makes one whole number of one, which has so many bits.
pub record IsMap (stage : Stage) (op : Op) (makes : ℕ → ℕ) : Type 0 where
  pub before : is_whole stage ≡ true
  pub after : is_whole (stage_after stage op) ≡ true
  pub number : (frame : List ℕ) (position : PixelPosition) (values : Values) (v : ℕ) → v < 4 → are_fractions values ≡ false
      → number (apply frame position stage op values) v ≡ makes (number values v)
  pub small : (m : ℕ) → m < 2 ^ bits_at stage → makes m < 2 ^ bits_at (stage_after stage op)

-- the numbers of a block, one after the other
pub flat_below : {W : Type 0} (digits : W → ℕ) (values : List W) (count limit : ℕ) → AreBelow digits values count limit
    → (j : ℕ) (d : W) → j < 64 * count → digits (slice_index_or values j d) < limit
flat_below {W} digits values count limit low j d below =
    let same : 64 * (j / 64) + j % 64 ≡ j = omega arith in
    subst (λ t. digits (slice_index_or values t d) < limit) same (low (j / 64) (j % 64) d (omega (arith, below)) (omega arith))

pub mapped_fits : {W N : Type 0} (digits : W → ℕ) (value : N → ℤ) (bits : ℕ) (stage : Stage) (op : Op) (makes : ℕ → ℕ) (before after : Form)
    (values : List W) (numbers : List N)
    → IsMap stage op makes → after.count ≤ before.count → 2 ^ bits_at (stage_after stage op) ≤ 2 ^ bits
    → IsBounded digits value stage before values numbers
    → (j : ℕ) (d : W) → j < 64 * after.count → makes (digits (slice_index_or values j d)) < 2 ^ bits
mapped_fits {W} {N} digits value bits stage op makes before after values numbers is there stored bounded j d below =
    let small = is.small (digits (slice_index_or values j d))
    (flat_below digits values before.count (2 ^ bits_at stage) (bounded.small is.before) j d (omega (arith, below, there))) in
    omega (arith, small, stored)

pub mapped_bounded : {W N : Type 0} (digits : W → ℕ) (value : N → ℤ) (stage : Stage) (op : Op) (makes : ℕ → ℕ) (before after : Form)
    (old new : List W) (numbers : List N)
    → IsMap stage op makes → after.count ≤ before.count → Maps digits makes (64 * after.count) old new
    → IsBounded digits value stage before old numbers → IsBounded digits value (stage_after stage op) after new numbers
mapped_bounded {W} {N} digits value stage op makes before after old new numbers is there maps bounded = record {
  small = λ whole v i d below within.
      rw (maps (64 * v + i) d (omega (arith, below, within)))
      (is.small (digits (slice_index_or old (64 * v + i) d)) (bounded.small is.before v i d (omega (arith, below, there)) within));
  bound = λ rational. absurd (let no : true ≡ false = sym rational ∙ whole_not_rational (stage_after stage op) is.after in cc);
}

pub mapped_performs : {W N : Type 0} (digits : W → ℕ) (value : N → ℤ) (stage : Stage) (op : Op) (makes : ℕ → ℕ) (before after : Form)
    (position : PixelPosition) (old new : List W) (numbers : List N)
    → IsMap stage op makes → after.count ≤ 4 → after.count ≤ before.count → Maps digits makes (64 * after.count) old new
    → Performs digits value stage before op after position old numbers new numbers
mapped_performs {W} {N} digits value stage op makes before after position old new numbers is few there maps frame n given most kinds state =
    record {
      whole = λ whole v i d below within.
          maps (64 * v + i) d (omega (arith, below, within, most))
          ∙ ap makes (state.whole is.before v i d (omega (arith, below, there)) within)
          ∙ sym (is.number frame (pixel_at position i) (given i) v (omega (arith, below, few))
          (kinds i ∙ whole_not_rational stage is.before));
      exact = λ rational. absurd (let no : true ≡ false = sym rational ∙ whole_not_rational (stage_after stage op) is.after in cc);
    }
