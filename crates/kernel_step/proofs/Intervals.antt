-- Products of the numbers of an interval, and their sums.
use Rattle.std.proofs.Common.{◌≡◌, ℕ, zero, suc, ◌<◌, ◌≤◌, ◌⊎◌, ⊎_elim, ℤ, pos, negsuc, ◌*ℤ◌, ◌+ℤ◌, sym, ap, ◌∙◌, arith, subst, FitsSigned}
use Rattle.std.proofs.Common.{List, [], ◌∷◌, refl, to_z, of_z, true, false, T}
use Rattle.std.specs.Prelude.{◌≤ℤ◌, ◌<ℤ◌}
use lib.Signed.{le_z}
use Rattle.std.specs.Int.{Width, w128}
use Rattle.std.proofs.lemmas.Int.{ints, to_z-of_z}
use Rattle.std.proofs.Math.IntN.{*ℤ_comm, zero-*ℤ}
use Rattle.frac_math.proofs.FractionOrder.{mono_ℤ}
use Rattle.frac_math.proofs.Ring.{ring_from, var, num, ◌⊗◌, ◌⊕◌, minus, done}
use Rattle.frac_math.proofs.Integers.{ints_ring}
use Rattle.kernel_step.specs.Rules.{with_product, row_sum, RowFits, IsAdded, IsNextSum}
use Rattle.kernel_step.specs.declared.form.Form.{Form}
use Rattle.kernel_step.specs.declared.form.NumberWidth.{NumberWidth}
use Rattle.kernel_step.specs.declared.form.NumberWidth.TheVariants.{Bits32, Bits64, Bits128}
use Rattle.kernel_step.specs.Forms.{factor, extent_at, width_of, HasNumbers, IsRange}

pub product_grows : (k a b : ℤ) → pos 0 ≤ℤ k → a ≤ℤ b → (k *ℤ a) ≤ℤ (k *ℤ b)
product_grows (pos c) a b sign h = subst (λ t. t ≤ℤ (pos c *ℤ b)) (*ℤ_comm a (pos c))
    (subst (λ t. (a *ℤ pos c) ≤ℤ t) (*ℤ_comm b (pos c)) (mono_ℤ a b c h))
product_grows (negsuc c) a b sign h = absurd (omega (arith, ints))

neg_product : (c : ℕ) (a : ℤ) → negsuc c *ℤ a +ℤ pos (suc c) *ℤ a ≡ pos 0
neg_product c a = ring_from ints_ring (pos (suc c) ∷ a ∷ []) (minus (var 0) ⊗ var 1 ⊕ var 0 ⊗ var 1) (num (pos 0)) done tt refl

pub product_falls : (k a b : ℤ) → k ≤ℤ pos 0 → a ≤ℤ b → (k *ℤ b) ≤ℤ (k *ℤ a)
product_falls (pos zero) a b sign h = omega (arith, ints, zero-*ℤ a, zero-*ℤ b)
product_falls (pos (suc c)) a b sign h = absurd (omega (arith, ints))
product_falls (negsuc c) a b sign h =
    let grown : (pos (suc c) *ℤ a) ≤ℤ (pos (suc c) *ℤ b) = product_grows (pos (suc c)) a b (omega (arith, ints)) h in
    omega (arith, ints, grown, neg_product c a, neg_product c b)

-- a number between two that fit
pub between_fits : (w : Width) (a b z : ℤ) → FitsSigned w a → FitsSigned w b → a ≤ℤ z → z ≤ℤ b → FitsSigned w z
between_fits w a b z p q low high = omega (arith, ints, p, q)

pub added_known : (w : Width) (low high p q lower higher : ℤ) → FitsSigned w128 low → FitsSigned w128 high → FitsSigned w128 p
    → FitsSigned w128 q
    → FitsSigned w128 (to_z w128 (of_z w128 low) +ℤ to_z w128 (of_z w128 p))
    × (lower ≡ to_z w128 (of_z w128 low) +ℤ to_z w128 (of_z w128 p))
    → FitsSigned w128 (to_z w128 (of_z w128 high) +ℤ to_z w128 (of_z w128 q))
    × (higher ≡ to_z w128 (of_z w128 high) +ℤ to_z w128 (of_z w128 q))
    → FitsSigned w (to_z w128 (of_z w128 p)) → FitsSigned w (to_z w128 (of_z w128 q)) → FitsSigned w (to_z w128 (of_z w128 lower))
    → FitsSigned w (to_z w128 (of_z w128 higher))
    → IsAdded w low high p q (to_z w128 (of_z w128 lower)) (to_z w128 (of_z w128 higher))
added_known w low high p q lower higher lf hf pf qf ls hs p_in q_in low_in high_in =
    let l_sum : to_z w128 (of_z w128 low) +ℤ to_z w128 (of_z w128 p) ≡ low +ℤ p =
    ap (λ t. t +ℤ to_z w128 (of_z w128 p)) (to_z-of_z w128 low lf) ∙ ap (λ t. low +ℤ t) (to_z-of_z w128 p pf) in
    let h_sum : to_z w128 (of_z w128 high) +ℤ to_z w128 (of_z w128 q) ≡ high +ℤ q =
    ap (λ t. t +ℤ to_z w128 (of_z w128 q)) (to_z-of_z w128 high hf) ∙ ap (λ t. high +ℤ t) (to_z-of_z w128 q qf) in
    let lower_fits : FitsSigned w128 lower = subst (FitsSigned w128) (sym ls.1) ls.0 in
    let higher_fits : FitsSigned w128 higher = subst (FitsSigned w128) (sym hs.1) hs.0 in
    record {
      lower_is = to_z-of_z w128 lower lower_fits ∙ ls.1 ∙ l_sum;
      higher_is = to_z-of_z w128 higher higher_fits ∙ hs.1 ∙ h_sum;
      first = subst (FitsSigned w) (to_z-of_z w128 p pf) p_in;
      second = subst (FitsSigned w) (to_z-of_z w128 q qf) q_in;
      low_fits = low_in;
      high_fits = high_in;
    }

between_zero : (w : Width) (z : ℤ) → FitsSigned w z → FitsSigned w (pos 0)
between_zero w z fits = omega (arith, ints, fits)

-- ---- the products of an interval
abbrev pub Ranges : ℤ → ℤ → ℤ → ℤ → ℤ → Type 0
Ranges k least greatest p q = (n : ℤ) → (k ≡ pos 0) ⊎ ((least ≤ℤ n) × (n ≤ℤ greatest)) → (p ≤ℤ (k *ℤ n)) × ((k *ℤ n) ≤ℤ q)

none : (k n : ℤ) → k ≡ pos 0 → k *ℤ n ≡ pos 0
none k n z = ap (λ t. t *ℤ n) z ∙ zero-*ℤ n

pub ranges_up : (k least greatest : ℤ) → pos 0 ≤ℤ k → Ranges k least greatest (k *ℤ least) (k *ℤ greatest)
ranges_up k least greatest sign n inside =
    ⊎_elim
    (λ (z : k ≡ pos 0). (omega (arith, ints, none k n z, none k least z), omega (arith, ints, none k n z, none k greatest z)))
    (λ (within : (least ≤ℤ n) × (n ≤ℤ greatest)). (product_grows k least n sign within.0, product_grows k n greatest sign within.1))
    inside

pub ranges_down : (k least greatest : ℤ) → k ≤ℤ pos 0 → Ranges k least greatest (k *ℤ greatest) (k *ℤ least)
ranges_down k least greatest sign n inside =
    ⊎_elim
    (λ (z : k ≡ pos 0). (omega (arith, ints, none k n z, none k greatest z), omega (arith, ints, none k n z, none k least z)))
    (λ (within : (least ≤ℤ n) × (n ≤ℤ greatest)). (product_falls k n greatest sign within.1, product_falls k least n sign within.0))
    inside

-- ---- the next sum
pub next_sum : (w : Width) (low high k least greatest p q lower higher : ℤ) → Ranges k least greatest p q
    → IsAdded w low high p q lower higher → IsNextSum w low high k least greatest lower higher
unfolding with_product
next_sum w low high k least greatest p q lower higher range added = record {
  product = λ n inside. let r = range n inside in between_fits w p q (k *ℤ n) added.first added.second r.0 r.1;
  sum = λ s n low_s high_s inside.
      let r = range n inside in
      let from : lower ≤ℤ (s +ℤ k *ℤ n) = omega (arith, ints, r.0, low_s, added.lower_is) in
      let to : (s +ℤ k *ℤ n) ≤ℤ higher = omega (arith, ints, r.1, high_s, added.higher_is) in
      (between_fits w lower higher (s +ℤ k *ℤ n) added.low_fits added.high_fits from to, from, to);
}

pub next_none : (w : Width) (low high k least greatest : ℤ) → k ≡ pos 0 → FitsSigned w low → FitsSigned w high
    → IsNextSum w low high k least greatest low high
unfolding with_product
next_none w low high k least greatest z low_in high_in = record {
  product = λ n inside. subst (FitsSigned w) (sym (none k n z)) (between_zero w low low_in);
  sum = λ s n low_s high_s inside.
      let from : low ≤ℤ (s +ℤ k *ℤ n) = omega (arith, ints, none k n z, low_s) in
      let to : (s +ℤ k *ℤ n) ≤ℤ high = omega (arith, ints, none k n z, high_s) in
      (between_fits w low high (s +ℤ k *ℤ n) low_in high_in from to, from, to);
}

-- ---- the same over numbers of 128 bits
abbrev pub Made : Width → ℤ → ℤ → ℤ → ℤ → ℤ → ℤ → ℤ → Type 0
Made w low high k least greatest lower higher = IsNextSum w low high k least greatest lower higher × FitsSigned w lower
    × FitsSigned w higher

pub plain : (z : ℤ) → FitsSigned w128 z → to_z w128 (of_z w128 z) ≡ z
plain z fits = to_z-of_z w128 z fits

-- a product that was checked
pub product_known : (k a product : ℤ) → FitsSigned w128 k → FitsSigned w128 a
    → FitsSigned w128 (to_z w128 (of_z w128 k) *ℤ to_z w128 (of_z w128 a)) × (product ≡ to_z w128 (of_z w128 k) *ℤ to_z w128 (of_z w128 a))
    → to_z w128 (of_z w128 product) ≡ k *ℤ a
product_known k a product kf af made =
    let is : to_z w128 (of_z w128 k) *ℤ to_z w128 (of_z w128 a) ≡ k *ℤ a = ap (λ t. t *ℤ to_z w128 (of_z w128 a)) (plain k kf)
    ∙ ap (λ t. k *ℤ t) (plain a af) in
    plain product (subst (FitsSigned w128) (sym made.1) made.0) ∙ made.1 ∙ is

pub made_from : (w : Width) (low high k least greatest p q : ℤ) (lower higher : ℤ) → Ranges k least greatest p q
    → IsAdded w low high p q lower higher → Made w low high k least greatest lower higher
made_from w low high k least greatest p q lower higher range added =
    (next_sum w low high k least greatest p q lower higher range added, added.low_fits, added.high_fits)

pub is_none : (k : ℤ) → FitsSigned w128 k → of_z w128 k ≡ 0 → k ≡ pos 0
is_none k fits h = omega (arith, ints)

pub not_negative : (k : ℤ) → FitsSigned w128 k → le_z (pos 0) (to_z w128 (of_z w128 k)) ≡ true → pos 0 ≤ℤ k
not_negative k fits h = record { le = subst T (sym h ∙ ap (le_z (pos 0)) (plain k fits)) tt }

pub negative : (k : ℤ) → FitsSigned w128 k → le_z (pos 0) (to_z w128 (of_z w128 k)) ≡ false → k ≤ℤ pos 0
negative k fits h = let g : le_z (pos 0) k ≡ false = ap (le_z (pos 0)) (sym (plain k fits)) ∙ h in grind (arith, ints)

-- ---- a row
pub four_cases : (P : ℕ → Type 0) (j : ℕ) → j < 4 → P 0 → P 1 → P 2 → P 3 → P j
four_cases P zero h a b c d = a
four_cases P (suc zero) h a b c d = b
four_cases P (suc (suc zero)) h a b c d = c
four_cases P (suc (suc (suc zero))) h a b c d = d
four_cases P (suc (suc (suc (suc j)))) h a b c d = absurd (omega (arith, h))

pub five_cases : (P : ℕ → Type 0) (j : ℕ) → j ≤ 4 → P 0 → P 1 → P 2 → P 3 → P 4 → P j
five_cases P zero h a b c d e = a
five_cases P (suc j) h a b c d e = four_cases (λ t. P (suc t)) j (omega (arith, h)) b c d e

row_known : (w : Width) (before : Form) (factors : List ℤ) (constant : ℤ) (l0 h0 l1 h1 l2 h2 l3 h3 : ℤ) → constant ≡ factor factors 4
    → FitsSigned w constant
    → IsNextSum w constant constant (factor factors 0) (extent_at before 0).least (extent_at before 0).greatest l0 h0
    → IsNextSum w l0 h0 (factor factors 1) (extent_at before 1).least (extent_at before 1).greatest l1 h1
    → IsNextSum w l1 h1 (factor factors 2) (extent_at before 2).least (extent_at before 2).greatest l2 h2
    → IsNextSum w l2 h2 (factor factors 3) (extent_at before 3).least (extent_at before 3).greatest l3 h3
    → (numbers : ℕ → ℤ) → HasNumbers before factors numbers
    → RowFits w factors numbers × (l3 ≤ℤ row_sum factors numbers 4) × (row_sum factors numbers 4 ≤ℤ h3)
row_known w before factors constant l0 h0 l1 h1 l2 h2 l3 h3 is fits s0 s1 s2 s3 numbers has =
    let c0 : constant ≤ℤ factor factors 4 = omega (arith, ints, is) in
    let c1 : factor factors 4 ≤ℤ constant = omega (arith, ints, is) in
    let r0 = s0.sum (factor factors 4) (numbers 0) c0 c1 (has 0 (omega arith)) in
    let r1 = s1.sum (row_sum factors numbers 1) (numbers 1) r0.1 r0.2 (has 1 (omega arith)) in
    let r2 = s2.sum (row_sum factors numbers 2) (numbers 2) r1.1 r1.2 (has 2 (omega arith)) in
    let r3 = s3.sum (row_sum factors numbers 3) (numbers 3) r2.1 r2.2 (has 3 (omega arith)) in
    let products : (j : ℕ) → j < 4 → FitsSigned w (factor factors j *ℤ numbers j) =
    λ j small. four_cases (λ t. FitsSigned w (factor factors t *ℤ numbers t)) j small (s0.product (numbers 0) (has 0 (omega arith)))
    (s1.product (numbers 1) (has 1 (omega arith)))
    (s2.product (numbers 2) (has 2 (omega arith))) (s3.product (numbers 3) (has 3 (omega arith))) in
    let sums : (j : ℕ) → j ≤ 4 → FitsSigned w (row_sum factors numbers j) =
    λ j small. five_cases (λ t. FitsSigned w (row_sum factors numbers t)) j small (subst (FitsSigned w) is fits) r0.0 r1.0 r2.0 r3.0 in
    (record { products = products; sums = sums }, r3.1, r3.2)

pub row_range : (w : Width) (before : Form) (factors : List ℤ) (constant : ℤ) (l0 h0 l1 h1 l2 h2 l3 h3 : ℤ) → constant ≡ factor factors 4
    → FitsSigned w constant
    → IsNextSum w constant constant (factor factors 0) (extent_at before 0).least (extent_at before 0).greatest l0 h0
    → IsNextSum w l0 h0 (factor factors 1) (extent_at before 1).least (extent_at before 1).greatest l1 h1
    → IsNextSum w l1 h1 (factor factors 2) (extent_at before 2).least (extent_at before 2).greatest l2 h2
    → IsNextSum w l2 h2 (factor factors 3) (extent_at before 3).least (extent_at before 3).greatest l3 h3
    → IsRange w before factors l3 h3
row_range w before factors constant l0 h0 l1 h1 l2 h2 l3 h3 is fits s0 s1 s2 s3 = record {
  fits = λ numbers has. (row_known w before factors constant l0 h0 l1 h1 l2 h2 l3 h3 is fits s0 s1 s2 s3 numbers has).0;
  inside = λ numbers has. let k = row_known w before factors constant l0 h0 l1 h1 l2 h2 l3 h3 is fits s0 s1 s2 s3 numbers has in (k.1, k.2);
}

-- what fits a number_width fits 128 bits
pub wide_fits : (number_width : NumberWidth) (z : ℤ) → FitsSigned (width_of number_width) z → FitsSigned w128 z
wide_fits Bits32 z fits = omega (arith, ints, fits)
wide_fits Bits64 z fits = omega (arith, ints, fits)
wide_fits Bits128 z fits = fits

pub number_width_plain : (number_width : NumberWidth) (z : ℤ) → FitsSigned (width_of number_width) z → to_z w128 (of_z w128 z) ≡ z
number_width_plain number_width z fits = plain z (wide_fits number_width z fits)

pub above_zero : (z : ℤ) → FitsSigned w128 z → le_z (to_z w128 (of_z w128 z)) (pos 0) ≡ false → pos 0 <ℤ z
above_zero z fits h = let g : le_z z (pos 0) ≡ false = ap (λ t. le_z t (pos 0)) (sym (plain z fits)) ∙ h in grind (arith, ints)
