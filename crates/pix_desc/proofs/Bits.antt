-- Bits of numbers: of a field, of a number of two bytes, of a shifted number, and of a sum of numbers that share no bit.
use Rattle.std.proofs.Common.{◌≡◌, ℕ, zero, suc, ◌+◌, ◌-◌, ◌*◌, ◌/◌, ◌%◌, ◌^◌, ◌<◌, ◌≤◌, ◌≢◌, ◌⊎◌, inl, inr, ⊎_elim, min, max, bit_and}
use Rattle.std.proofs.Common.{bit_or, sum_by, eq-zero-or-pos, subst, sym, refl, ap, ◌∙◌, arith}
use Rattle.std.specs.Int.{bit_at}
use Rattle.std.specs.List.{range_with_len}
use Rattle.std.proofs.lemmas.Bool.{cases_lt, cases_eq}
use Rattle.std.proofs.lemmas.List.Sums.{sum_by-cons}
use Rattle.std.proofs.lemmas.Nat.{shr-shr, shr_split, shl_below, or_disjoint, or_lt, pow_pos}
use Rattle.std.proofs.lemmas.Nat.Bits.{bit_at-zero, bit_at_cat_low, bit_at_cat_high, bit_at_above, bit_at_and, bit_at_or, same_from_bits}

-- bit i of the field of `depth` bits above the lowest `shift`
pub bit_at_field : (n shift depth i : ℕ) → i < depth → bit_at (n / 2 ^ shift % 2 ^ depth) i ≡ bit_at n (shift + i)
bit_at_field n shift depth i inside =
    let m = n / 2 ^ shift in
    sym (bit_at_cat_low (m / 2 ^ depth) depth (m % 2 ^ depth) i inside) ∙ ap (λ k. bit_at k i) (shr_split m depth)
    ∙ ap (λ k. k % 2) (shr-shr n shift i)

-- a number of two bytes has the bits of its low byte, and above them those of its high byte
pub bit_at_low_byte : (low high m : ℕ) → m < 8 → bit_at (low + 256 * high) m ≡ bit_at low m
bit_at_low_byte low high m below = let e : low + 256 * high ≡ high * 2 ^ 8 + low = omega arith in ap (λ n. bit_at n m) e
    ∙ bit_at_cat_low high 8 low m below

pub bit_at_high_byte : (low high m : ℕ) → low < 256 → 8 ≤ m → bit_at (low + 256 * high) m ≡ bit_at high (m - 8)
bit_at_high_byte low high m small above = let e : low + 256 * high ≡ high * 2 ^ 8 + low = omega arith in ap (λ n. bit_at n m) e
    ∙ bit_at_cat_high high 8 low m small above

-- the bits of the low and of the high byte of a number
pub bit_at_mod_byte : (n b : ℕ) → b < 8 → bit_at (n % 256) b ≡ bit_at n b
bit_at_mod_byte n b below = sym (bit_at_low_byte (n % 256) (n / 256) b below)
    ∙ (let e : n % 256 + 256 * (n / 256) ≡ n = omega arith in ap (λ k. bit_at k b) e)

pub bit_at_div_byte : (n b : ℕ) → bit_at (n / 256) b ≡ bit_at n (8 + b)
bit_at_div_byte n b = ap (λ k. k % 2) (shr-shr n 8 b)

-- a number shifted up has its bits that much higher, and no others
pub bit_at_shifted : (v shift i : ℕ) → bit_at (v * 2 ^ shift) (shift + i) ≡ bit_at v i
bit_at_shifted v shift i =
    let whole : v * 2 ^ shift ≡ v * 2 ^ shift + 0 = omega arith in
    let position : shift + i - shift ≡ i = omega arith in
    ap (λ n. bit_at n (shift + i)) whole ∙ bit_at_cat_high v shift 0 (shift + i) (pow_pos shift) (omega arith) ∙ ap (bit_at v) position

pub bit_at_shifted_below : (v shift m : ℕ) → m < shift → bit_at (v * 2 ^ shift) m ≡ 0
bit_at_shifted_below v shift m low =
    let whole : v * 2 ^ shift ≡ v * 2 ^ shift + 0 = omega arith in
    ap (λ n. bit_at n m) whole ∙ bit_at_cat_low v shift 0 m low ∙ bit_at-zero m

pub bit_at_shifted_above : (v shift depth m : ℕ) → v < 2 ^ depth → shift + depth ≤ m → bit_at (v * 2 ^ shift) m ≡ 0
bit_at_shifted_above v shift depth m small past =
    bit_at_above (v * 2 ^ shift) (depth + shift) m (shl_below v depth shift small) (omega arith)

pub bit_at_shifted_cases : (v shift depth m : ℕ) → v < 2 ^ depth
    → (bit_at (v * 2 ^ shift) m ≡ 0) ⊎ ((i : ℕ) × (i < depth) × (shift + i ≡ m))
bit_at_shifted_cases v shift depth m small =
    ⊎_elim
    (λ low. inl (bit_at_shifted_below v shift m low))
    (λ high. ⊎_elim
    (λ inside. inr (m - shift, omega arith, omega arith))
    (λ past. inl (bit_at_shifted_above v shift depth m small past))
    (cases_lt m (shift + depth)))
    (cases_lt m shift)

-- ---- numbers that share no bit

-- no bit is set in both
abbrev pub SharesNoBit : ℕ → ℕ → Type 0
SharesNoBit a b = (i : ℕ) → min (bit_at a i) (bit_at b i) ≡ 0

sum_is_or : (a b : ℕ) → SharesNoBit a b → bit_or a b ≡ a + b
sum_is_or a b none = or_disjoint a b (same_from_bits (bit_and a b) 0 (λ i. bit_at_and a b i ∙ none i ∙ sym (bit_at-zero i)))

pub bit_at_sum : (a b i : ℕ) → SharesNoBit a b → bit_at (a + b) i ≡ max (bit_at a i) (bit_at b i)
bit_at_sum a b i none = ap (λ n. bit_at n i) (sym (sum_is_or a b none)) ∙ bit_at_or a b i

pub sum_below : (k a b : ℕ) → SharesNoBit a b → a < 2 ^ k → b < 2 ^ k → a + b < 2 ^ k
sum_below k a b none p q = omega (arith, sum_is_or a b none, or_lt k a b p q)

-- the sum of f j for the k numbers j from a on
abbrev pub sum_from : (ℕ → ℕ) → ℕ → ℕ → ℕ
sum_from f a k = sum_by f (range_with_len a k)

sum_more : (f : ℕ → ℕ) (a k : ℕ) → sum_from f a (suc k) ≡ f a + sum_from f (a + 1) k
sum_more f a k = sum_by-cons f a (range_with_len (a + 1) k)

-- sums of the same numbers
pub sum_from_same : (f g : ℕ → ℕ) (a k : ℕ) → ((j : ℕ) → a ≤ j → j < a + k → f j ≡ g j) → sum_from f a k ≡ sum_from g a k
sum_from_same f g a zero same = refl
sum_from_same f g a (suc k) same =
    sum_more f a k ∙ (let here = same a (omega arith) (omega arith) in let rest =
    sum_from_same f g (a + 1) k (λ j low high. same j (omega arith) (omega arith)) in omega arith) ∙ sym (sum_more g a k)

-- a bit is 0, or bit b of f j for one j of the k numbers from a on
abbrev IsBitOf : (ℕ → ℕ) → ℕ → ℕ → ℕ → ℕ → Type 0
IsBitOf f a k b bit = (bit ≡ 0) ⊎ ((j : ℕ) × (a ≤ j) × (j < a + k) × (bit ≡ bit_at (f j) b))

-- numbers f j for j below n, of which no two share a bit
module _ (f : ℕ → ℕ) (n : ℕ) (apart : (i j : ℕ) → i < n → j < n → i ≢ j → SharesNoBit (f i) (f j)) where
  shares_none : (a k : ℕ) → a + suc k ≤ n → ((b : ℕ) → IsBitOf f (a + 1) k b (bit_at (sum_from f (a + 1) k) b))
      → SharesNoBit (f a) (sum_from f (a + 1) k)
  shares_none a k within cases b =
      ⊎_elim
      (λ none. omega arith)
      (λ one. let differ : a ≢ one.0 = omega (arith, one.1) in
      omega (arith, one.3, apart a one.0 (omega arith) (omega (arith, one.2)) differ b))
      (cases b)

  pick : (a k b tail : ℕ) → a < n → a + suc k ≤ n → IsBitOf f (a + 1) k b tail → IsBitOf f a (suc k) b (max (bit_at (f a) b) tail)
  pick a k b tail here within cases =
      ⊎_elim
      (λ none. inr (a, omega arith, omega arith, omega arith))
      (λ one.
      let differ : a ≢ one.0 = omega (arith, one.1) in
      let share = apart a one.0 here (omega (arith, one.2)) differ b in
      ⊎_elim
      (λ (unset : bit_at (f a) b ≡ 0). inr (one.0, omega (arith, one.1), omega (arith, one.2), omega (arith, one.3)))
      (λ (set : 0 < bit_at (f a) b). inr (a, omega arith, omega arith, omega (arith, one.3, share)))
      (eq-zero-or-pos (bit_at (f a) b)))
      cases

  -- a bit of the sum is a bit of one of the numbers, or 0
  pub bit_at_sum_cases : (a k b : ℕ) → a + k ≤ n → IsBitOf f a k b (bit_at (sum_from f a k) b)
  bit_at_sum_cases a zero b within = inl (bit_at-zero b)
  bit_at_sum_cases a (suc k) b within =
      let rest = λ (c : ℕ). bit_at_sum_cases (a + 1) k c (omega arith) in
      subst (IsBitOf f a (suc k) b)
      (sym (ap (λ s. bit_at s b) (sum_more f a k) ∙ bit_at_sum (f a) (sum_from f (a + 1) k) b (shares_none a k within rest)))
      (pick a k b (bit_at (sum_from f (a + 1) k) b) (omega arith) within (rest b))

  tail_shares_none : (a k : ℕ) → a + suc k ≤ n → SharesNoBit (f a) (sum_from f (a + 1) k)
  tail_shares_none a k within = shares_none a k within (λ b. bit_at_sum_cases (a + 1) k b (omega arith))

  bit_at_sum_has : (a k b j : ℕ) → a + k ≤ n → a ≤ j → j < a + k → bit_at (f j) b ≤ bit_at (sum_from f a k) b
  bit_at_sum_has a zero b j within low high = absurd (omega arith)
  bit_at_sum_has a (suc k) b j within low high =
      let split : bit_at (sum_from f a (suc k)) b ≡ max (bit_at (f a) b) (bit_at (sum_from f (a + 1) k) b) =
      ap (λ s. bit_at s b) (sum_more f a k) ∙ bit_at_sum (f a) (sum_from f (a + 1) k) b (tail_shares_none a k within) in
      ⊎_elim
      (λ (here : a ≡ j). omega (arith, ap (λ i. bit_at (f i) b) here))
      (λ (there : a ≢ j). omega (arith, bit_at_sum_has (a + 1) k b j (omega arith) (omega arith) (omega arith)))
      (cases_eq a j)

  -- a bit that is set in no other number than f j is as in f j
  pub bit_at_sum_only : (b j : ℕ) → j < n → ((i : ℕ) → i < n → i ≢ j → bit_at (f i) b ≡ 0) → bit_at (sum_from f 0 n) b ≡ bit_at (f j) b
  bit_at_sum_only b j inside others =
      let least = bit_at_sum_has 0 n b j (omega arith) (omega arith) (omega arith) in
      ⊎_elim
      (λ none. omega arith)
      (λ one. ⊎_elim
      (λ (same : one.0 ≡ j). one.3 ∙ ap (λ i. bit_at (f i) b) same)
      (λ (other : one.0 ≢ j). omega (arith, one.3, others one.0 (omega (arith, one.2)) other))
      (cases_eq one.0 j))
      (bit_at_sum_cases 0 n b (omega arith))

  -- a bit that is set in none is 0
  pub bit_at_sum_none : (b : ℕ) → ((i : ℕ) → i < n → bit_at (f i) b ≡ 0) → bit_at (sum_from f 0 n) b ≡ 0
  bit_at_sum_none b none = ⊎_elim (λ e. e) (λ one. one.3 ∙ none one.0 (omega (arith, one.2))) (bit_at_sum_cases 0 n b (omega arith))

  -- the sum has no more bits than the numbers
  pub sum_from_below : (w a k : ℕ) → a + k ≤ n → ((j : ℕ) → j < n → f j < 2 ^ w) → sum_from f a k < 2 ^ w
  sum_from_below w a zero within small = pow_pos w
  sum_from_below w a (suc k) within small =
      subst (λ s. s < 2 ^ w) (sym (sum_more f a k))
      (sum_below w (f a) (sum_from f (a + 1) k) (tail_shares_none a k within) (small a (omega arith))
      (sum_from_below w (a + 1) k (omega arith) small))
