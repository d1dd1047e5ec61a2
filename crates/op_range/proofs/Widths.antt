-- Widths that are the same once capped have the same own widths once capped; and denominators stay above 0.
use Rattle.std.proofs.Common.{◌≡◌, ℕ, ◌+◌, ◌*◌, ◌^◌, ◌<◌, Bool, true, false, if◌then◌else◌, List, [], ◌∷◌, refl, sym, ◌∙◌, ap, arith}
use Rattle.std.specs.Prelude.{Option, Some, None, slice_index, unsigned_abs}
use Rattle.frac_math.specs.Fraction.{ℚ}
use Rattle.frac_math.proofs.FractionRing.{denominator_positive, product_positive}
use Rattle.frac_math.proofs.DitherLaws.{index_number_below}
use Rattle.op_list.specs.declared.types.Stage.{Stage}
use Rattle.op_list.specs.declared.op.Op.{Op}
use Rattle.op_list.specs.declared.op.Op.TheVariants.{Read, Write, SwapBytes, Unpack, Pack, Clear, LeftShift, RightShift, Swizzle}
use Rattle.op_list.specs.declared.op.Op.TheVariants.{Convert, Dither, Linear, Scale, Min, Max}
use Rattle.op_list.specs.Types.{bits_at, is_rational}
use Rattle.op_list.specs.Typing.{are_good, are_typed, stage_after}
use Rattle.op_list.specs.Values.{fraction_in, entry}
use Rattle.op_list.specs.Apply.{row_of}
use Rattle.op_list.proofs.Applied.{swizzle_lanes}
use Rattle.op_list.proofs.Four.{get_or-four}
use Rattle.op_list.proofs.Typed.{typed_parts}
use Rattle.op_range.specs.declared.width.Width.{Width}
use Rattle.op_range.specs.FractionBounds.{factor}
use Rattle.op_range.specs.Width.{rows_denominator, entries_denominator, size_over, width_of, size_in, term_size, row_size, cleared_size}
use Rattle.op_range.specs.Width.{limited_size, fractions_width, whole_width, width_after, own_size, own_width_from}
use Rattle.op_range.specs.Capped.{capped}
use Rattle.op_range.proofs.FractionBounds.{factor_positive}
use Rattle.op_range.proofs.UsedSteps.{index_below}
use Rattle.op_range.proofs.Capping.{cap_sum, cap_max, cap_product, cap_times, over_least, with_least}

-- ---- the same once capped
pub record SameCapped (v w : Width) : Type 0 where
  pub denominator : v.denominator ≡ w.denominator
  pub sizes : (i : ℕ) → i < 4 → capped (size_in v i) ≡ capped (size_in w i)

same_of : (d e : ℕ) (f g : ℕ → ℕ) → d ≡ e → ((i : ℕ) → i < 4 → capped (f i) ≡ capped (g i)) → SameCapped (width_of d f) (width_of e g)
same_of d e f g is each = record {
  denominator = is;
  sizes = λ i below. ap capped (get_or-four f i 0 below) ∙ each i below ∙ ap capped (sym (get_or-four g i 0 below));
}

same_row : (e : ℕ) (row : List ℚ) (v w : Width) → SameCapped v w → capped (row_size e row v) ≡ capped (row_size e row w)
same_row e row v w same =
    let term = λ (j : ℕ) (below : j < 4). cap_product (size_over e (fraction_in row j)) (size_in v j) (size_in w j)
    (same.sizes j below) in
    cap_sum _ _ _ _
    (cap_sum _ _ _ _ (cap_sum _ _ _ _
    (cap_sum (term_size e row v 0) (term_size e row v 1) (term_size e row w 0) (term_size e row w 1) (term 0 (omega arith))
    (term 1 (omega arith))) (term 2 (omega arith))) (term 3 (omega arith)))
    (ap (λ d. capped (size_over e (fraction_in row 4) * d)) same.denominator)

same_dither : (p m n a b : ℕ) → m ≡ n → capped a ≡ capped b → capped (a * factor m p + m * factor m p)
    ≡ capped (b * factor n p + n * factor n p)
same_dither p m n a b is h =
    cap_sum (a * factor m p) (m * factor m p) (b * factor n p) (n * factor n p)
    (cap_times a b (factor m p) h ∙ ap (λ k. capped (b * factor k p)) is) (ap (λ k. capped (k * factor k p)) is)

same_cleared : (e m n : ℕ) (given : Option ℚ) (a b : ℕ) → m ≡ n → capped a ≡ capped b
    → capped (cleared_size e m given a) ≡ capped (cleared_size e n given b)
same_cleared e m n None a b is h = cap_times a b e h
same_cleared e m n (Some x) a b is h = ap (λ k. capped (size_over e x * k)) is

same_limited : (e m n : ℕ) (given : Option ℚ) (a b : ℕ) → m ≡ n → capped a ≡ capped b
    → capped (limited_size e m given a) ≡ capped (limited_size e n given b)
same_limited e m n None a b is h = cap_times a b e h
same_limited e m n (Some x) a b is h = cap_max (a * e) (size_over e x * m) (b * e) (size_over e x * n) (cap_times a b e h)
    (ap (λ k. capped (size_over e x * k)) is)

same_fractions : (stage : Stage) (op : Op) (v w : Width) → are_good stage op ≡ true → SameCapped v w
    → SameCapped (fractions_width op v) (fractions_width op w)
unfolding fractions_width
same_fractions stage (Read elem planes palette) v w good same = same
same_fractions stage (Write elem planes) v w good same = same
same_fractions stage SwapBytes v w good same = same
same_fractions stage (Unpack widths) v w good same = same
same_fractions stage (Pack widths) v w good same = same
same_fractions stage (Clear entries) v w good same =
    same_of _ _ (λ i. cleared_size (entries_denominator entries) v.denominator (entry entries i) (size_in v i))
    (λ i. cleared_size (entries_denominator entries) w.denominator (entry entries i) (size_in w i))
    (ap (λ d. d * entries_denominator entries) same.denominator)
    (λ i below. same_cleared (entries_denominator entries) v.denominator w.denominator (entry entries i) (size_in v i) (size_in w i)
    same.denominator (same.sizes i below))
same_fractions stage (LeftShift n) v w good same = same
same_fractions stage (RightShift n) v w good same = same
same_fractions stage (Swizzle from) v w good same =
    same_of v.denominator w.denominator (λ i. size_in v (slice_index from i)) (λ i. size_in w (slice_index from i)) same.denominator
    (λ i below. same.sizes (slice_index from i) (index_below from (swizzle_lanes stage from good) i))
same_fractions stage (Convert to expand) v w good same = same
same_fractions stage (Dither k) v w good same =
    same_of _ _ (λ i. size_in v i * factor v.denominator (2 * 4 ^ k) + v.denominator * factor v.denominator (2 * 4 ^ k))
    (λ i. size_in w i * factor w.denominator (2 * 4 ^ k) + w.denominator * factor w.denominator (2 * 4 ^ k))
    (ap (λ d. d * factor d (2 * 4 ^ k)) same.denominator)
    (λ i below. same_dither (2 * 4 ^ k) v.denominator w.denominator (size_in v i) (size_in w i) same.denominator (same.sizes i below))
same_fractions stage (Linear rows) v w good same =
    same_of _ _ (λ i. row_size (rows_denominator rows) (row_of rows i) v) (λ i. row_size (rows_denominator rows) (row_of rows i) w)
    (ap (λ d. d * rows_denominator rows) same.denominator)
    (λ i below. same_row (rows_denominator rows) (row_of rows i) v w same)
same_fractions stage (Scale by) v w good same =
    same_of _ _ (λ i. size_in v i * unsigned_abs by.numerator) (λ i. size_in w i * unsigned_abs by.numerator)
    (ap (λ d. d * by.denominator) same.denominator)
    (λ i below. cap_times (size_in v i) (size_in w i) (unsigned_abs by.numerator) (same.sizes i below))
same_fractions stage (Min limits) v w good same =
    same_of _ _ (λ i. limited_size (entries_denominator limits) v.denominator (entry limits i) (size_in v i))
    (λ i. limited_size (entries_denominator limits) w.denominator (entry limits i) (size_in w i))
    (ap (λ d. d * entries_denominator limits) same.denominator)
    (λ i below. same_limited (entries_denominator limits) v.denominator w.denominator (entry limits i) (size_in v i) (size_in w i)
    same.denominator (same.sizes i below))
same_fractions stage (Max limits) v w good same =
    same_of _ _ (λ i. limited_size (entries_denominator limits) v.denominator (entry limits i) (size_in v i))
    (λ i. limited_size (entries_denominator limits) w.denominator (entry limits i) (size_in w i))
    (ap (λ d. d * entries_denominator limits) same.denominator)
    (λ i below. same_limited (entries_denominator limits) v.denominator w.denominator (entry limits i) (size_in v i) (size_in w i)
    same.denominator (same.sizes i below))

same_itself : (w : Width) → SameCapped w w
same_itself w = record { denominator = refl; sizes = λ i below. refl }

by_stage : (t : Bool) (v w other : Width) → SameCapped v w → SameCapped (if t then v else other) (if t then w else other)
by_stage true v w other same = same
by_stage false v w other same = same_itself other

same_after : (stage : Stage) (op : Op) (v w : Width) → are_good stage op ≡ true → SameCapped v w
    → SameCapped (width_after stage op v) (width_after stage op w)
unfolding width_after
same_after stage op v w good same = by_stage (is_rational stage) (fractions_width op v) (fractions_width op w)
    (whole_width (bits_at stage)) (same_fractions stage op v w good same)

same_size : (t : Bool) (v w : Width) (i : ℕ) → i < 4 → SameCapped v w → capped (if t then own_size v i else 0)
    ≡ capped (if t then own_size w i else 0)
same_size true v w i below same = cap_max v.denominator (size_in v i) w.denominator (size_in w i) (ap capped same.denominator)
    (same.sizes i below)
same_size false v w i below same = refl

-- ---- own widths
pub same_own : (stage : Stage) (ops : List Op) (v w : Width) (i : ℕ) → i < 4 → are_typed stage ops ≡ true → SameCapped v w
    → capped (own_width_from stage ops v i) ≡ capped (own_width_from stage ops w i)
unfolding own_width_from
same_own stage [] v w i below typed same = refl
same_own stage (op ∷ ops) v w i below typed same =
    let t = typed_parts stage op ops typed in
    let after = same_after stage op v w t.1 same in
    cap_max _ _ _ _ (same_size (is_rational (stage_after stage op)) (width_after stage op v) (width_after stage op w) i below after)
    (same_own (stage_after stage op) ops (width_after stage op v) (width_after stage op w) i below t.2 after)

-- ---- denominators
times_least : (d e : ℕ) → 0 < d → 0 < e → 0 < d * e
times_least d e p q = product_positive d e p q

rows_positive : (rows : List (List ℚ)) → 0 < rows_denominator rows
rows_positive [] = omega arith
rows_positive (row ∷ rows) = omega (arith, rows_positive rows, over_least (rows_denominator rows) row)

entries_positive : (entries : List (Option ℚ)) → 0 < entries_denominator entries
entries_positive [] = omega arith
entries_positive (given ∷ entries) = omega (arith, entries_positive entries, with_least (entries_denominator entries) given)

fractions_positive : (op : Op) (w : Width) → 0 < w.denominator → 0 < (fractions_width op w).denominator
unfolding fractions_width
fractions_positive (Clear entries) w p = times_least w.denominator (entries_denominator entries) p (entries_positive entries)
fractions_positive (Dither k) w p = times_least w.denominator (factor w.denominator (2 * 4 ^ k)) p
    (factor_positive w.denominator (2 * 4 ^ k) (omega (arith, index_number_below k 0 0)))
fractions_positive (Linear rows) w p = times_least w.denominator (rows_denominator rows) p (rows_positive rows)
fractions_positive (Scale by) w p = times_least w.denominator by.denominator p (denominator_positive by)
fractions_positive (Min limits) w p = times_least w.denominator (entries_denominator limits) p (entries_positive limits)
fractions_positive (Max limits) w p = times_least w.denominator (entries_denominator limits) p (entries_positive limits)
fractions_positive (Read elem planes palette) w p = p
fractions_positive (Write elem planes) w p = p
fractions_positive SwapBytes w p = p
fractions_positive (Unpack widths) w p = p
fractions_positive (Pack widths) w p = p
fractions_positive (LeftShift n) w p = p
fractions_positive (RightShift n) w p = p
fractions_positive (Swizzle from) w p = p
fractions_positive (Convert to expand) w p = p

pub after_positive : (stage : Stage) (op : Op) (w : Width) → 0 < w.denominator → 0 < (width_after stage op w).denominator
unfolding width_after
after_positive stage op w p = either (is_rational stage) (fractions_positive op w p)
  where
    either : (t : Bool) → 0 < (fractions_width op w).denominator
        → 0 < (if t then fractions_width op w else whole_width (bits_at stage)).denominator
    either true h = h
    either false h = omega arith
