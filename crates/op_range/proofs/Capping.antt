-- Sums, products and multiples of capped numbers.
use Rattle.std.proofs.Common.{List, [], ◌∷◌, length, take, drop, ◌≡◌, ℕ, zero, suc, ◌+◌, ◌-◌, ◌*◌, ◌^◌, ◌<◌, ◌≤◌, ◌⊎◌, inl, inr, true}
use Rattle.std.proofs.Common.{false, ◌||◌, if◌then◌else◌, nat_lt, ltb-true, max, refl, sym, ◌∙◌, ap, subst, arith}
use Rattle.std.specs.Prelude.{Option, Some, None, nat_le, slice_index}
use Rattle.op_list.specs.Values.{four}
use Rattle.std.proofs.lemmas.List.{take_all}
use Rattle.std.proofs.lemmas.Bool.Decides.{nat_tests}
use Rattle.std.proofs.Math.Nat.{mul-le-mul_left, mul-le-mul_right, zero-mul, mul_comm}
use Rattle.frac_math.specs.Fraction.{ℚ}
use Rattle.frac_math.proofs.FractionRing.{denominator_positive}
use Rattle.op_range.specs.FractionBounds.{factor}
use Rattle.op_range.specs.Width.{common_multiple, denominator_over, rows_denominator, multiple_with, entries_denominator, width_of}
use Rattle.op_range.specs.Width.{size_in}
use Rattle.op_range.specs.Capped.{capped, below_cap, capped_width}
use Rattle.op_range.proofs.FractionBounds.{factor_positive}

-- ---- numbers that are the same once capped
pub by_cap : (a b : ℕ) → capped a ≡ capped b → (a ≡ b) ⊎ ((2 ^ 126 ≤ a) × (2 ^ 126 ≤ b))
by_cap a b h = (elim (nat_lt a (2 ^ 126)) as (λ t. nat_lt a (2 ^ 126) ≡ t → (a ≡ b) ⊎ ((2 ^ 126 ≤ a) × (2 ^ 126 ≤ b))) [
  | true ↦ λ t. (let below : a < 2 ^ 126 = ltb-true a (2 ^ 126) t in inl (omega arith))
  | false ↦ λ t. (let above : 2 ^ 126 ≤ a = not_below a t in inr (above, omega arith))
]) refl
  where
    not_below : (n : ℕ) → nat_lt n (2 ^ 126) ≡ false → 2 ^ 126 ≤ n
    not_below n t = grind (arith, t)

pub cap_sum : (a b c d : ℕ) → capped a ≡ capped c → capped b ≡ capped d → capped (a + b) ≡ capped (c + d)
cap_sum a b c d h k = omega arith

pub cap_max : (a b c d : ℕ) → capped a ≡ capped c → capped b ≡ capped d → capped (max a b) ≡ capped (max c d)
cap_max a b c d h k = omega arith

pub cap_product : (k a b : ℕ) → capped a ≡ capped b → capped (k * a) ≡ capped (k * b)
cap_product zero a b h = ap capped (zero-mul a ∙ sym (zero-mul b))
cap_product (suc k) a b h = elim (by_cap a b h) [
  | inl e ↦ ap (λ n. capped (suc k * n)) e
  | inr p ↦
      (let one : 1 ≤ suc k = omega arith in
      let first : 1 * a ≤ suc k * a = mul-le-mul_right a one in
      let second : 1 * b ≤ suc k * b = mul-le-mul_right b one in
      let left = p.0 in
      let right = p.1 in
      omega arith)
]

pub cap_times : (a b k : ℕ) → capped a ≡ capped b → capped (a * k) ≡ capped (b * k)
cap_times a b k h = ap capped (mul_comm a k) ∙ cap_product k a b h ∙ ap capped (mul_comm k b)

pub cap_twice : (a : ℕ) → capped (capped a) ≡ capped a
cap_twice a = omega arith

-- ---- numbers below the cap
pub none_below : (n : ℕ) → below_cap n ≡ None → 2 ^ 126 ≤ n
none_below n h = (elim (nat_lt n (2 ^ 126)) as (λ t. nat_lt n (2 ^ 126) ≡ t → (if t then Some n else None) ≡ None → 2 ^ 126 ≤ n) [
  | true ↦ λ t e. absurd (cc)
  | false ↦ λ t e. grind (arith, t)
]) refl h

pub from_none : (n : ℕ) → 2 ^ 126 ≤ n → below_cap n ≡ None
from_none n h = (elim (nat_lt n (2 ^ 126)) as (λ t. nat_lt n (2 ^ 126) ≡ t → (if t then Some n else None) ≡ None) [
  | true ↦ λ t. (let less : n < 2 ^ 126 = ltb-true n (2 ^ 126) t in absurd (omega arith))
  | false ↦ λ t. refl
]) refl

pub multiple_least : (n d : ℕ) → 0 < d → n ≤ common_multiple n d
multiple_least n d h =
    let one : 1 ≤ factor n d = omega (arith, factor_positive n d h) in
    omega (arith, mul-le-mul_left n one)

pub none_multiple : (n d : ℕ) → 0 < d → below_cap n ≡ None → None ≡ below_cap (common_multiple n d)
none_multiple n d positive h = sym (from_none (common_multiple n d) (omega (arith, none_below n h, multiple_least n d positive)))

-- ---- denominators of lists, as code takes a slice apart
pub over_least : (e : ℕ) (xs : List ℚ) → e ≤ denominator_over e xs
over_least e [] = omega arith
over_least e (x ∷ xs) = omega (arith, over_least e xs, multiple_least (denominator_over e xs) x.denominator (denominator_positive x))

pub none_over : (e : ℕ) (xs : List ℚ) (answer : Option ℕ) → 1 ≤ length xs
    → answer ≡ below_cap (denominator_over e (take (length xs - 1) (drop 1 xs))) → answer ≡ None
    → None ≡ below_cap (denominator_over e xs)
none_over e [] answer some is none = absurd (omega arith)
none_over e (x ∷ xs) answer some is none =
    none_multiple (denominator_over e xs) x.denominator (denominator_positive x)
    (sym (is ∙ ap (λ l. below_cap (denominator_over e l)) (take_all (length (x ∷ xs) - 1) xs (omega arith))) ∙ none)

pub none_rows : (rows : List (List ℚ)) (answer : Option ℕ) → 1 ≤ length rows
    → answer ≡ below_cap (rows_denominator (take (length rows - 1) (drop 1 rows))) → answer ≡ None
    → None ≡ below_cap (rows_denominator rows)
none_rows [] answer some is none = absurd (omega arith)
none_rows (row ∷ rows) answer some is none =
    let e = sym (is ∙ ap (λ l. below_cap (rows_denominator l)) (take_all (length (row ∷ rows) - 1) rows (omega arith))) ∙ none in
    sym (from_none (denominator_over (rows_denominator rows) row)
    (omega (arith, none_below (rows_denominator rows) e, over_least (rows_denominator rows) row)))

pub with_least : (e : ℕ) (given : Option ℚ) → e ≤ multiple_with e given
with_least e None = omega arith
with_least e (Some x) = multiple_least e x.denominator (denominator_positive x)

pub none_entries : (entries : List (Option ℚ)) (answer : Option ℕ) → 1 ≤ length entries
    → answer ≡ below_cap (entries_denominator (take (length entries - 1) (drop 1 entries))) → answer ≡ None
    → None ≡ below_cap (entries_denominator entries)
none_entries [] answer some is none = absurd (omega arith)
none_entries (given ∷ entries) answer some is none =
    let e = sym (is ∙ ap (λ l. below_cap (entries_denominator l)) (take_all (length (given ∷ entries) - 1) entries (omega arith)))
    ∙ none in
    sym (from_none (multiple_with (entries_denominator entries) given)
    (omega (arith, none_below (entries_denominator entries) e, with_least (entries_denominator entries) given)))

-- ---- widths
-- a common denominator that reaches the cap is too wide
pub too_wide : (d e : ℕ) (size : ℕ → ℕ) (answer : Option ℕ) → 0 < d → answer ≡ below_cap e → answer ≡ None
    → None ≡ capped_width (width_of (d * e) size)
too_wide d e size answer positive is none =
    let wide = none_below e (sym is ∙ none) in
    let one : 1 ≤ d = positive in
    sym (no_width (d * e) size (omega (arith, wide, mul-le-mul_right e one)))
  where
    no_width : (n : ℕ) (size : ℕ → ℕ) → 2 ^ 126 ≤ n → capped_width (width_of n size) ≡ None
    no_width n size h = (elim (nat_lt n (2 ^ 126)) as
        (λ t. nat_lt n (2 ^ 126) ≡ t → (if t then Some (width_of n (λ i. capped (size_in (width_of n size) i))) else None) ≡ None) [
          | true ↦ λ t. (let less : n < 2 ^ 126 = ltb-true n (2 ^ 126) t in absurd (omega arith))
          | false ↦ λ t. refl
        ]) refl

-- ---- what is known of capped answers
pub known : (r a : ℕ) → r ≡ capped a → capped r ≡ capped a
known r a is = ap capped is ∙ cap_twice a

pub times_known : (r s k a : ℕ) → r ≡ capped (s * k) → s ≡ capped a → r ≡ capped (a * k)
times_known r s k a is h = is ∙ cap_times s a k (known s a h)

pub plus_known : (r s t a b : ℕ) → r ≡ capped (s + t) → s ≡ capped a → t ≡ capped b → r ≡ capped (a + b)
plus_known r s t a b is h k = is ∙ cap_sum s t a b (known s a h) (known t b k)

pub more_known : (r s t a : ℕ) → r ≡ capped (s + t) → s ≡ capped a → r ≡ capped (a + t)
more_known r s t a is h = is ∙ cap_sum s t a t (known s a h) refl

pub greater_known : (r s t a b : ℕ) → r ≡ max s t → s ≡ capped a → t ≡ capped b → r ≡ capped (max a b)
greater_known r s t a b is h k = omega arith

pub four_known : (r : ℕ) (terms : List ℕ) (f : ℕ → ℕ)
    → r ≡ capped (slice_index terms 0 + slice_index terms 1 + slice_index terms 2 + slice_index terms 3)
    → terms ≡ four (λ i. capped (f i)) → r ≡ capped (f 0 + f 1 + f 2 + f 3)
four_known r terms f is h =
    (subst (λ (ts : List ℕ). r ≡ capped (slice_index ts 0 + slice_index ts 1 + slice_index ts 2 + slice_index ts 3)) h is)
    ∙ cap_sum (capped (f 0) + capped (f 1) + capped (f 2)) (capped (f 3)) (f 0 + f 1 + f 2) (f 3)
    (cap_sum (capped (f 0) + capped (f 1)) (capped (f 2)) (f 0 + f 1) (f 2)
    (cap_sum (capped (f 0)) (capped (f 1)) (f 0) (f 1) (cap_twice (f 0)) (cap_twice (f 1))) (cap_twice (f 2))) (cap_twice (f 3))

-- ---- tests of the cap
pub same_le : (a b : ℕ) → capped a ≡ capped b → nat_le (2 ^ 126) a ≡ nat_le (2 ^ 126) b
same_le a b h = grind (arith, nat_tests, h)

pub le_max : (a b : ℕ) → nat_le (2 ^ 126) (max a b) ≡ (nat_le (2 ^ 126) a || nat_le (2 ^ 126) b)
le_max a b = grind (arith, nat_tests)
