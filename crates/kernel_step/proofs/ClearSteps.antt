-- Values that are replaced by given ones: what a block holds, and its bounds.
use Rattle.std.proofs.Common.{◌≡◌, ℕ, ◌+◌, ◌*◌, ◌^◌, ◌<◌, ◌≤◌, Bool, true, false, ◌||◌, nat_eq, List, ℤ, pos, negsuc}
use Rattle.std.proofs.Common.{slice_index, slice_index_or, refl, sym, ◌∙◌, arith, subst}
use Rattle.std.specs.Prelude.{Option, Some, None, unsigned_abs, IfSome, ◌≤ℤ◌}
use Rattle.std.specs.Int.{Width}
use Rattle.std.proofs.lemmas.Bool.{and_parts, ltb-true}
use Rattle.std.proofs.lemmas.Int.{ints}
use Rattle.frac_math.specs.Fraction.{ℚ, nat}
use Rattle.frac_math.specs.Standing.{Stands}
use Rattle.frac_math.proofs.FractionRing.{itself}
use Rattle.op_list.specs.declared.types.Stage.{Stage}
use Rattle.op_list.specs.declared.op.Op.TheVariants.{Clear}
use Rattle.op_list.specs.declared.position.PixelPosition.{PixelPosition}
use Rattle.op_list.specs.declared.values.Values.{Values}
use Rattle.op_list.specs.declared.values.Values.TheVariants.{Numbers, Fractions}
use Rattle.op_list.specs.Types.{bits_at, is_rational}
use Rattle.op_list.specs.Typing.{are_good, all_fit, entry_fits, is_below, stage_after}
use Rattle.op_list.specs.Values.{number, fraction, fraction_in, entry, are_fractions}
use Rattle.op_list.specs.Apply.{apply, cleared, cleared_number, cleared_fraction}
use Rattle.std.proofs.Math.Nat.{pow-le-pow_right}
use Rattle.op_list.proofs.Applied.{bits_most}
use Rattle.op_list.proofs.GivenEntries.{fits_at}
use Rattle.kernel_step.specs.declared.form.Extent.{Extent}
use Rattle.kernel_step.specs.declared.form.Form.{Form}
use Rattle.kernel_step.specs.Forms.{IsBounded, IsCleared, Performs, cleared_numerator, denominator, extent_at, factor, factors_at}
use Rattle.kernel_step.proofs.Fours.{four_at}
use Rattle.kernel_step.proofs.Swizzles.{rational_not_whole}

-- ---- whole numbers
clear_fit : (stage : Stage) (entries : List (Option ℚ)) → is_rational stage ≡ false → are_good stage (Clear entries) ≡ true
    → all_fit (bits_at stage) entries ≡ true
unfolding are_good
clear_fit stage entries kind good = fit (is_rational stage) kind good
  where
    fit : (rational : Bool) → rational ≡ false → (rational || all_fit (bits_at stage) entries) ≡ true
        → all_fit (bits_at stage) entries ≡ true
    fit true e h = cc
    fit false e h = h

below_whole : (z : ℤ) (limit : ℕ) → is_below limit z ≡ true → unsigned_abs z < limit
below_whole (pos n) limit h = ltb-true n limit h
below_whole (negsuc n) limit h = cc

given_small : (count : ℕ) (e : Option ℚ) → entry_fits count e ≡ true → IfSome e (λ x. unsigned_abs x.numerator < 2 ^ count)
given_small count None h = tt
given_small count (Some x) h = below_whole x.numerator (2 ^ count)
    (and_parts (nat_eq x.denominator 1) (is_below (2 ^ count) x.numerator) h).1

-- the entry of a whole type has its bits
pub entry_small : (stage : Stage) (entries : List (Option ℚ)) (v : ℕ) → is_rational stage ≡ false → are_good stage (Clear entries) ≡ true
    → IfSome (entry entries v) (λ x. unsigned_abs x.numerator < 2 ^ bits_at stage)
entry_small stage entries v kind good = given_small (bits_at stage) (entry entries v)
    (fits_at (bits_at stage) entries v (clear_fit stage entries kind good))

pub entry_fits_both : (stage : Stage) (entries : List (Option ℚ)) (v bits : ℕ) → is_rational stage ≡ false
    → are_good stage (Clear entries) ≡ true → 2 ^ bits_at stage ≤ 2 ^ bits
    → IfSome (entry entries v) (λ x. (unsigned_abs x.numerator < 2 ^ 32) × (unsigned_abs x.numerator < 2 ^ bits))
entry_fits_both stage entries v bits kind good stored =
    let two : 0 < 2 = omega arith in
    let most : 2 ^ bits_at stage ≤ 2 ^ 32 = pow-le-pow_right two (bits_most stage) in
    both (entry entries v) (entry_small stage entries v kind good) most
  where
    both : (e : Option ℚ) → IfSome e (λ x. unsigned_abs x.numerator < 2 ^ bits_at stage) → 2 ^ bits_at stage ≤ 2 ^ 32
        → IfSome e (λ x. (unsigned_abs x.numerator < 2 ^ 32) × (unsigned_abs x.numerator < 2 ^ bits))
    both None h most = tt
    both (Some x) h most = (omega (arith, h, most), omega (arith, h, stored))

pub clear_stored : (stage : Stage) (entries : List (Option ℚ)) (bits : ℕ) → 2 ^ bits_at (stage_after stage (Clear entries)) ≤ 2 ^ bits
    → 2 ^ bits_at stage ≤ 2 ^ bits
unfolding stage_after
clear_stored stage entries bits h = h

abbrev pub Clears : {W : Type 0} → (W → ℕ) → List (Option ℚ) → ℕ → List W → List W → Type 0
Clears {W} digits entries count old new = (v i : ℕ) (d : W) → v < count → i < 64
    → digits (slice_index_or new (64 * v + i) d) ≡ cleared_number (entry entries v) (digits (slice_index_or old (64 * v + i) d))

abbrev pub AreCleared : Width → Bool → List (Option ℚ) → Form → Form → Type 0
AreCleared width rational entries before after = (v : ℕ) → v < after.count
    → IsCleared width rational before v (entry entries v) (factor (factors_at after v) 0) (extent_at after v)

cleared_below : (width : Width) (rational : Bool) (before : Form) (v : ℕ) (e : Option ℚ) (k : ℤ) (extent : Extent) (m limit : ℕ)
    → IsCleared width rational before v e k extent
    → (v < before.count → m < limit) → IfSome e (λ x. unsigned_abs x.numerator < limit) → cleared_number e m < limit
cleared_below width rational before v None k extent m limit is low small = low is.0
cleared_below width rational before v (Some x) k extent m limit is low small = small

cleared_same : (width : Width) (rational : Bool) (before : Form) (v : ℕ) (e : Option ℚ) (k : ℤ) (extent : Extent) (a b : ℕ)
    → IsCleared width rational before v e k extent
    → (v < before.count → a ≡ b) → cleared_number e a ≡ cleared_number e b
cleared_same width rational before v None k extent a b is same = same is.0
cleared_same width rational before v (Some x) k extent a b is same = refl

pub clear_numbers_bounded : {W N : Type 0} (digits : W → ℕ) (value : N → ℤ) (width : Width) (stage : Stage) (entries : List (Option ℚ))
    (before after : Form) (old new : List W) (numbers : List N)
    → is_rational stage ≡ false → are_good stage (Clear entries) ≡ true → AreCleared width (is_rational stage) entries before after
    → Clears digits entries after.count old new
    → IsBounded digits value stage before old numbers → IsBounded digits value (stage_after stage (Clear entries)) after new numbers
unfolding stage_after
clear_numbers_bounded {W} {N} digits value width stage entries before after old new numbers kind good is clears bounded = record {
  small = λ whole v i d below within.
      rw (clears v i d below within)
      (cleared_below width (is_rational stage) before v (entry entries v) (factor (factors_at after v) 0) (extent_at after v)
      (digits (slice_index_or old (64 * v + i) d)) (2 ^ bits_at stage) (is v below)
      (λ there. bounded.small whole v i d there within) (entry_small stage entries v kind good));
  bound = λ rational. absurd (let no : true ≡ false = sym rational ∙ kind in cc);
}

pub clear_numbers_perform : {W N : Type 0} (digits : W → ℕ) (value : N → ℤ) (width : Width) (stage : Stage) (entries : List (Option ℚ))
    (before after : Form) (position : PixelPosition) (old new : List W) (numbers : List N)
    → is_rational stage ≡ false → after.count ≤ 4 → AreCleared width (is_rational stage) entries before after
    → Clears digits entries after.count old new
    → Performs digits value stage before (Clear entries) after position old numbers new numbers
unfolding stage_after apply
clear_numbers_perform {W} {N} digits value width stage entries before after position old new numbers kind few is clears frame n given most
    kinds state = record {
      whole = λ whole v i d below within.
          clears v i d below (omega (arith, within, most))
          ∙ cleared_same width (is_rational stage) before v (entry entries v) (factor (factors_at after v) 0) (extent_at after v)
          (digits (slice_index_or old (64 * v + i) d)) (number (given i) v) (is v below)
          (λ there. state.whole whole v i d there within)
          ∙ sym (cleared_at (given i) v (omega (arith, below, few)) (kinds i ∙ kind));
      exact = λ rational. absurd (let no : true ≡ false = sym rational ∙ kind in cc);
    }
  where
    cleared_at : (values : Values) (v : ℕ) → v < 4 → are_fractions values ≡ false
        → number (cleared entries values) v ≡ cleared_number (entry entries v) (number values v)
    cleared_at (Numbers values) v small kind = four_at (λ i. cleared_number (entry entries i) (slice_index values i)) v 0 small
    cleared_at (Fractions values) v small kind = cc

-- ---- fractions
abbrev pub ClearsNumerators : {N : Type 0} → (N → ℤ) → List (Option ℚ) → Form → List N → List N → Type 0
ClearsNumerators {N} value entries after old new = (v i : ℕ) (d : N) → v < after.count → i < 64
    → value (slice_index_or new (64 * v + i) d) ≡ cleared_numerator (entry entries v) (factor (factors_at after v) 0)
    (value (slice_index_or old (64 * v + i) d))

cleared_within : (width : Width) (before : Form) (v : ℕ) (e : Option ℚ) (k : ℤ) (extent : Extent) (m : ℤ)
    → IsCleared width true before v e k extent
    → (v < before.count → ((extent_at before v).least ≤ℤ m) × (m ≤ℤ (extent_at before v).greatest))
    → (extent.least ≤ℤ cleared_numerator e k m) × (cleared_numerator e k m ≤ℤ extent.greatest)
cleared_within width before v None k extent m is inside = rw is.1 (inside is.0)
cleared_within width before v (Some x) k extent m is inside =
    let c = is refl in (omega (arith, ints, c.least, c.same), omega (arith, ints, c.greatest, c.same))

cleared_stands : (width : Width) (before : Form) (v : ℕ) (e : Option ℚ) (k : ℤ) (extent : Extent) (x : ℚ) (m : ℤ)
    → IsCleared width true before v e k extent
    → (v < before.count → Stands x m (denominator before v))
    → Stands (cleared_fraction e x) (cleared_numerator e k m) (unsigned_abs extent.denominator)
cleared_stands width before v None k extent x m is stands = rw is.1 (stands is.0)
cleared_stands width before v (Some y) k extent x m is stands =
    let c = is refl in rw (c.same, c.denominator) (itself y)

pub clear_fractions_bounded : {W N : Type 0} (digits : W → ℕ) (value : N → ℤ) (width : Width) (stage : Stage) (entries : List (Option ℚ))
    (before after : Form) (values : List W) (old new : List N)
    → is_rational stage ≡ true → AreCleared width (is_rational stage) entries before after → ClearsNumerators value entries after old new
    → IsBounded digits value stage before values old → IsBounded digits value (stage_after stage (Clear entries)) after values new
unfolding stage_after
clear_fractions_bounded {W} {N} digits value width stage entries before after values old new kind is clears bounded = record {
  small = λ whole. absurd (rational_not_whole stage kind whole);
  bound = λ rational v i d below within.
      rw (clears v i d below within)
      (cleared_within width before v (entry entries v) (factor (factors_at after v) 0) (extent_at after v)
      (value (slice_index_or old (64 * v + i) d)) (at_rational v below)
      (λ there. bounded.bound kind v i d there within));
}
  where
    at_rational : (v : ℕ) → v < after.count → IsCleared width true before v (entry entries v) (factor (factors_at after v) 0)
        (extent_at after v)
    at_rational v below = subst (λ b. IsCleared width b before v (entry entries v) (factor (factors_at after v) 0) (extent_at after v)) kind
        (is v below)

pub clear_fractions_perform : {W N : Type 0} (digits : W → ℕ) (value : N → ℤ) (width : Width) (stage : Stage) (entries : List (Option ℚ))
    (before after : Form) (position : PixelPosition) (values : List W) (old new : List N)
    → is_rational stage ≡ true → after.count ≤ 4 → AreCleared width (is_rational stage) entries before after
    → ClearsNumerators value entries after old new
    → Performs digits value stage before (Clear entries) after position values old values new
unfolding stage_after apply
clear_fractions_perform {W} {N} digits value width stage entries before after position values old new kind few is clears frame n given most
    kinds state = record {
      whole = λ whole. absurd (rational_not_whole stage kind whole);
      exact = λ rational v i d below within.
          rw (clears v i d below (omega (arith, within, most)), cleared_at (given i) v (omega (arith, below, few)) (kinds i ∙ kind))
          (cleared_stands width before v (entry entries v) (factor (factors_at after v) 0) (extent_at after v) (fraction (given i) v)
          (value (slice_index_or old (64 * v + i) d)) (at_rational v below)
          (λ there. state.exact kind v i d there within));
    }
  where
    at_rational : (v : ℕ) → v < after.count → IsCleared width true before v (entry entries v) (factor (factors_at after v) 0)
        (extent_at after v)
    at_rational v below = subst (λ b. IsCleared width b before v (entry entries v) (factor (factors_at after v) 0) (extent_at after v)) kind
        (is v below)

    cleared_at : (values : Values) (v : ℕ) → v < 4 → are_fractions values ≡ true
        → fraction (cleared entries values) v ≡ cleared_fraction (entry entries v) (fraction values v)
    cleared_at (Numbers values) v small kind = cc
    cleared_at (Fractions values) v small kind = four_at (λ i. cleared_fraction (entry entries i) (fraction_in values i)) v (nat 0) small
