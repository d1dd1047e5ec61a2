-- Numbers cut into fields, and put together: what a block holds, and its bounds.
use Rattle.std.proofs.Common.{◌≡◌, ℕ, zero, suc, ◌+◌, ◌*◌, ◌/◌, ◌%◌, ◌^◌, ◌<◌, ◌≤◌, ◌⊎◌, ⊎_elim, true, false, ◌&&◌, List, [], ◌∷◌, ℤ}
use Rattle.std.proofs.Common.{length, get_or, slice_index, slice_index_or, refl, sym, ap, ◌∙◌, arith, subst}
use Rattle.std.specs.Prelude.{sum, nat_le}
use Rattle.std.proofs.lemmas.Bool.{and_parts, leb-true}
use Rattle.std.proofs.lemmas.Nat.{pow_pos}
use Rattle.std.proofs.Math.Nat.{mod-lt, pow-le-pow_right}
use Rattle.op_list.specs.declared.types.Stage.{Stage}
use Rattle.op_list.specs.declared.op.Op.TheVariants.{Unpack, Pack}
use Rattle.op_list.specs.declared.position.PixelPosition.{PixelPosition}
use Rattle.op_list.specs.Types.{bits_at}
use Rattle.op_list.specs.Typing.{may_follow, are_good, are_counts, are_in_front, stage_after}
use Rattle.op_list.specs.Values.{number}
use Rattle.op_list.specs.Whole.{bits_below, field, placed}
use Rattle.op_list.specs.Apply.{apply, packed}
use Rattle.op_list.proofs.Applied.{whole_before, whole_not_rational}
use Rattle.op_list.proofs.Fields.{placed_below}
use Rattle.op_list.proofs.Four.{sum_four, bits_below_first, bits_below_second, bits_below_third, bits_below_fourth}
use Rattle.kernel_step.specs.declared.form.Form.{Form}
use Rattle.kernel_step.specs.Forms.{IsBounded, Performs}
use Rattle.kernel_step.proofs.Fours.{four_at}
use Rattle.kernel_step.proofs.Intervals.{four_cases}
use Rattle.kernel_step.proofs.Shifts.{power_order}

counts_fit : (most : ℕ) (ns : List ℕ) → are_counts most ns ≡ true → sum ns ≤ most
counts_fit most ns h = let p = and_parts (are_in_front ns && nat_le 1 (sum ns)) (nat_le (sum ns) most) h in leb-true _ _ p.1

pub unpack_sum : (stage : Stage) (widths : List ℕ) → are_good stage (Unpack widths) ≡ true → sum widths ≤ bits_at stage
unfolding are_good
unpack_sum stage widths h = counts_fit (bits_at stage) widths h

pub pack_sum : (stage : Stage) (widths : List ℕ) → are_good stage (Pack widths) ≡ true → sum widths ≤ bits_at stage
unfolding are_good
pack_sum stage widths h = counts_fit (bits_at stage) widths h

-- ---- Unpack
pub width_most : (widths : List ℕ) (v : ℕ) → length widths ≡ 4 → v < 4 → slice_index widths v ≤ sum widths
width_most widths v size small =
    let all = sum_four widths size in
    four_cases (λ t. slice_index widths t ≤ sum widths) v small (omega (arith, all)) (omega (arith, all)) (omega (arith, all))
    (omega (arith, all))

-- a field and what lies below it
pub field_room : (widths : List ℕ) (v : ℕ) → length widths ≡ 4 → v < 4 → bits_below widths v + slice_index widths v ≤ sum widths
field_room widths v size small =
    let all = sum_four widths size in
    four_cases (λ t. bits_below widths t + slice_index widths t ≤ sum widths) v small
    (omega (arith, all, bits_below_first widths size)) (omega (arith, all, bits_below_second widths size))
    (omega (arith, all, bits_below_third widths size)) (omega (arith, all, bits_below_fourth widths size))

-- the storage has room for each field
pub unpack_room : (stage : Stage) (widths : List ℕ) (v most : ℕ) → length widths ≡ 4 → v < 4 → are_good stage (Unpack widths) ≡ true
    → 2 ^ bits_at (stage_after stage (Unpack widths)) ≤ 2 ^ most → bits_below widths v + slice_index widths v ≤ most
unfolding stage_after
unpack_room stage widths v most size small good stored =
    omega (arith, field_room widths v size small, unpack_sum stage widths good, power_order (bits_at stage) most stored)

pub field_small : (widths : List ℕ) (n v bits : ℕ) → length widths ≡ 4 → v < 4 → sum widths ≤ bits
    → n / 2 ^ bits_below widths v % 2 ^ slice_index widths v < 2 ^ bits
field_small widths n v bits size small most =
    let two : 0 < 2 = omega arith in
    let wide : 2 ^ slice_index widths v ≤ 2 ^ bits = pow-le-pow_right two (omega (arith, width_most widths v size small, most)) in
    omega (arith, wide, mod-lt (n / 2 ^ bits_below widths v) (pow_pos (slice_index widths v)))

-- value 0 of a block, copied
pub copied_first : {W : Type 0} (from to : List W)
    → ((i : ℕ) (d : W) → i < 64 → slice_index_or to (64 * 0 + i) d ≡ slice_index_or from (64 * 0 + i) d)
    → (i : ℕ) (d : W) → i < 64 → slice_index_or to i d ≡ slice_index_or from i d
copied_first {W} from to same i d within =
    let at : 64 * 0 + i ≡ i = omega arith in
    subst (λ t. slice_index_or to t d ≡ slice_index_or from t d) at (same i d within)

-- value v of the new block is a field of value 0 of the old one
abbrev pub Unpacks : {W : Type 0} → (W → ℕ) → List ℕ → ℕ → List W → List W → Type 0
Unpacks {W} digits widths count old new = (v i : ℕ) (d : W) → v < count → i < 64
    → digits (slice_index_or new (64 * v + i) d) ≡ digits (slice_index_or old i d) / 2 ^ bits_below widths v % 2 ^ slice_index widths v

pub unpack_bounded : {W N : Type 0} (digits : W → ℕ) (value : N → ℤ) (stage : Stage) (widths : List ℕ) (before after : Form)
    (old new : List W) (numbers : List N)
    → may_follow stage (Unpack widths) ≡ true → are_good stage (Unpack widths) ≡ true → length widths ≡ 4 → after.count ≤ 4
    → Unpacks digits widths after.count old new
    → IsBounded digits value (stage_after stage (Unpack widths)) after new numbers
unfolding stage_after
unpack_bounded {W} {N} digits value stage widths before after old new numbers follows good size few unpacks = record {
  small = λ whole v i d below within.
      rw (unpacks v i d below within) (field_small widths (digits (slice_index_or old i d)) v (bits_at stage) size
      (omega (arith, below, few)) (unpack_sum stage widths good));
  bound = λ rational. absurd (let no : true ≡ false = sym rational
      ∙ whole_not_rational stage (whole_before stage (Unpack widths) refl follows good) in cc);
}

pub unpack_performs : {W N : Type 0} (digits : W → ℕ) (value : N → ℤ) (stage : Stage) (widths : List ℕ) (before after : Form)
    (position : PixelPosition) (old new : List W) (numbers : List N)
    → may_follow stage (Unpack widths) ≡ true → are_good stage (Unpack widths) ≡ true → after.count ≤ 4 → 0 < before.count
    → Unpacks digits widths after.count old new
    → Performs digits value stage before (Unpack widths) after position old numbers new numbers
unfolding stage_after apply
unpack_performs {W} {N} digits value stage widths before after position old new numbers follows good few some unpacks frame n given most
    kinds state = record {
      whole = λ whole v i d below within.
          unpacks v i d below (omega (arith, within, most))
          ∙ ap (λ m. m / 2 ^ bits_below widths v % 2 ^ slice_index widths v)
          (let same : 64 * 0 + i ≡ i = omega arith in
          subst (λ t. digits (slice_index_or old t d) ≡ number (given i) 0) same
          (state.whole (whole_before stage (Unpack widths) refl follows good) 0 i d some within))
          ∙ sym (four_at (λ t. field widths (number (given i) 0) t) v 0 (omega (arith, below, few)));
      exact = λ rational. absurd (let no : true ≡ false = sym rational
          ∙ whole_not_rational stage (whole_before stage (Unpack widths) refl follows good) in cc);
    }

-- ---- Pack
-- four fields have as many bits as their widths
pub packed_small : (widths : List ℕ) (a b c d : ℕ) → length widths ≡ 4
    → placed widths a 0 + placed widths b 1 + placed widths c 2 + placed widths d 3 < 2 ^ sum widths
packed_small widths a b c d size =
    let w0 = get_or widths 0 0 in
    let w1 = get_or widths 1 0 in
    let w2 = get_or widths 2 0 in
    let w3 = get_or widths 3 0 in
    let all : w0 + (w3 + w2 + w1) ≡ sum widths = omega (arith, sum_four widths size) in
    let e1 : w1 + (w3 + w2) ≡ w3 + w2 + w1 = omega arith in
    let e2 : w2 + w3 ≡ w3 + w2 = omega arith in
    let e3 : w3 + 0 ≡ w3 = omega arith in
    let p0 : a % 2 ^ w0 * 2 ^ (w3 + w2 + w1) + 2 ^ (w3 + w2 + w1) ≤ 2 ^ sum widths = rw (← all) (placed_below a w0 (w3 + w2 + w1)) in
    let p1 : b % 2 ^ w1 * 2 ^ (w3 + w2) + 2 ^ (w3 + w2) ≤ 2 ^ (w3 + w2 + w1) = rw (← e1) (placed_below b w1 (w3 + w2)) in
    let p2 : c % 2 ^ w2 * 2 ^ w3 + 2 ^ w3 ≤ 2 ^ (w3 + w2) = rw (← e2) (placed_below c w2 w3) in
    let p3 : d % 2 ^ w3 * 2 ^ 0 + 2 ^ 0 ≤ 2 ^ w3 = subst (λ t. d % 2 ^ w3 * 2 ^ 0 + 2 ^ 0 ≤ 2 ^ t) e3 (placed_below d w3 0) in
    rw (bits_below_first widths size, bits_below_second widths size, bits_below_third widths size, bits_below_fourth widths size)
    (omega (arith, p0, p1, p2, p3))

pub same_fields : (widths : List ℕ) {a b c d e f g h : ℕ} → a ≡ e → b ≡ f → c ≡ g → d ≡ h
    → placed widths a 0 + placed widths b 1 + placed widths c 2 + placed widths d 3 ≡ placed widths e 0 + placed widths f 1
    + placed widths g 2 + placed widths h 3
same_fields widths p q r s = rw (p, q, r, s) refl

same_sum : {a b c d e f g h : ℕ} → a ≡ e → b ≡ f → c ≡ g → d ≡ h → a + b + c + d ≡ e + f + g + h
same_sum p q r s = rw (p, q, r, s) refl

-- a field without bits holds nothing
no_field : (widths : List ℕ) (a b j : ℕ) → slice_index widths j ≡ 0 → placed widths a j ≡ placed widths b j
no_field widths a b j none =
    let left : a % 2 ^ 0 ≡ b % 2 ^ 0 = omega arith in
    subst (λ w. a % 2 ^ w * 2 ^ bits_below widths j ≡ b % 2 ^ w * 2 ^ bits_below widths j) (sym none)
    (ap (λ t. t * 2 ^ bits_below widths j) left)

pub pack_fits : (stage : Stage) (widths : List ℕ) (bits : ℕ) → are_good stage (Pack widths) ≡ true
    → 2 ^ bits_at (stage_after stage (Pack widths)) ≤ 2 ^ bits → 2 ^ sum widths ≤ 2 ^ bits
unfolding stage_after
pack_fits stage widths bits good stored =
    let two : 0 < 2 = omega arith in
    let wide : 2 ^ sum widths ≤ 2 ^ bits_at stage = pow-le-pow_right two (pack_sum stage widths good) in
    omega (arith, wide, stored)

-- value 0 of the new block is the number of the fields, and the others are 0
pub record Packs {W : Type 0} (digits : W → ℕ) (widths : List ℕ) (count : ℕ) (old new : List W) : Type 0 where
  pub first : (i : ℕ) (d : W) → i < 64 → digits (slice_index_or new i d)
      ≡ placed widths (digits (slice_index_or old i d)) 0 + placed widths (digits (slice_index_or old (64 + i) d)) 1
      + placed widths (digits (slice_index_or old (128 + i) d)) 2 + placed widths (digits (slice_index_or old (192 + i) d)) 3
  pub others : (v i : ℕ) (d : W) → 0 < v → v < count → i < 64 → digits (slice_index_or new (64 * v + i) d) ≡ 0

pub pack_bounded : {W N : Type 0} (digits : W → ℕ) (value : N → ℤ) (stage : Stage) (widths : List ℕ) (before after : Form)
    (old new : List W) (numbers : List N)
    → may_follow stage (Pack widths) ≡ true → are_good stage (Pack widths) ≡ true → length widths ≡ 4
    → Packs digits widths after.count old new
    → IsBounded digits value (stage_after stage (Pack widths)) after new numbers
unfolding stage_after
pack_bounded {W} {N} digits value stage widths before after old new numbers follows good size packs = record {
  small = λ whole v i d below within. small v i d below within;
  bound = λ rational. absurd (let no : true ≡ false = sym rational
      ∙ whole_not_rational stage (whole_before stage (Pack widths) refl follows good) in cc);
}
  where
    small : (v i : ℕ) (d : W) → v < after.count → i < 64 → digits (slice_index_or new (64 * v + i) d) < 2 ^ bits_at stage
    small zero i d below within =
        let two : 0 < 2 = omega arith in
        let wide : 2 ^ sum widths ≤ 2 ^ bits_at stage = pow-le-pow_right two (pack_sum stage widths good) in
        let all = packed_small widths (digits (slice_index_or old i d)) (digits (slice_index_or old (64 + i) d))
        (digits (slice_index_or old (128 + i) d)) (digits (slice_index_or old (192 + i) d)) size in
        let same : i ≡ 64 * 0 + i = omega arith in
        subst (λ t. digits (slice_index_or new t d) < 2 ^ bits_at stage) same (rw (packs.first i d within) (omega (arith, all, wide)))
    small (suc v) i d below within = rw (packs.others (suc v) i d (omega arith) below within) (pow_pos (bits_at stage))

pub pack_performs : {W N : Type 0} (digits : W → ℕ) (value : N → ℤ) (stage : Stage) (widths : List ℕ) (before after : Form)
    (position : PixelPosition) (old new : List W) (numbers : List N)
    → may_follow stage (Pack widths) ≡ true → are_good stage (Pack widths) ≡ true → after.count ≤ 4
    → ((j : ℕ) → j < 4 → (j < before.count) ⊎ (slice_index widths j ≡ 0)) → Packs digits widths after.count old new
    → Performs digits value stage before (Pack widths) after position old numbers new numbers
unfolding stage_after apply
pack_performs {W} {N} digits value stage widths before after position old new numbers follows good few taken packs frame n given most kinds
    state = record {
      whole = λ whole v i d below within. is v i d below within;
      exact = λ rational. absurd (let no : true ≡ false = sym rational
          ∙ whole_not_rational stage (whole_before stage (Pack widths) refl follows good) in cc);
    }
  where
    part : (j i at : ℕ) (d : W) → j < 4 → i < n → 64 * j + i ≡ at
        → placed widths (digits (slice_index_or old at d)) j ≡ placed widths (number (given i) j) j
    part j i at d small within same =
        ⊎_elim
        (λ (there : j < before.count).
        ap (λ m. placed widths m j) (subst (λ t. digits (slice_index_or old t d) ≡ number (given i) j) same
        (state.whole (whole_before stage (Pack widths) refl follows good) j i d there within)))
        (λ (none : slice_index widths j ≡ 0). no_field widths (digits (slice_index_or old at d)) (number (given i) j) j none)
        (taken j small)

    is : (v i : ℕ) (d : W) → v < after.count → i < n
        → digits (slice_index_or new (64 * v + i) d) ≡ slice_index (packed widths (given i) ∷ 0 ∷ 0 ∷ 0 ∷ []) v
    is zero i d below within =
        let same : i ≡ 64 * 0 + i = omega arith in
        subst (λ t. digits (slice_index_or new t d) ≡ packed widths (given i)) same
        (packs.first i d (omega (arith, within, most))
        ∙ same_sum (part 0 i i d (omega arith) within (sym same)) (part 1 i (64 + i) d (omega arith) within (omega arith))
        (part 2 i (128 + i) d (omega arith) within (omega arith)) (part 3 i (192 + i) d (omega arith) within (omega arith)))
    is (suc zero) i d below within = packs.others 1 i d (omega arith) below (omega (arith, within, most))
    is (suc (suc zero)) i d below within = packs.others 2 i d (omega arith) below (omega (arith, within, most))
    is (suc (suc (suc zero))) i d below within = packs.others 3 i d (omega arith) below (omega (arith, within, most))
    is (suc (suc (suc (suc v)))) i d below within = absurd (omega (arith, below, few))
