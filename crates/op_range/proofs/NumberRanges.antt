-- The ranges of whole numbers enclose them.
use Rattle.std.proofs.Common.{◌≡◌, ℕ, zero, suc, ◌+◌, ◌-◌, ◌*◌, ◌/◌, ◌%◌, ◌^◌, ◌<◌, ◌≤◌, Bool, true, false, ◌&&◌, if◌then◌else◌, List}
use Rattle.std.proofs.Common.{[], ◌∷◌, drop, sum, add-one, ℤ, pos, negsuc, ◌≤ℤ◌, subst, refl, sym, ap, arith}
use Rattle.std.specs.Prelude.{Option, Some, None, IfSome, slice_index}
use Rattle.std.specs.Int.{int_div_euclid}
use Rattle.std.proofs.lemmas.Int.{ints}
use Rattle.std.proofs.lemmas.Nat.{pow-add, pow_pos, mod-pow-add}
use Rattle.std.proofs.lemmas.Bool.{and_parts}
use Rattle.std.proofs.Math.Nat.{mod-eq_of_lt, mul-div_cancel, mul-mod_left, mul-le-mul_right}
use Rattle.frac_math.specs.Fraction.{ℚ, nat, whole, over, floor, is_at_most, ◌*ℚ◌, ◌≤ℚ◌}
use Rattle.frac_math.specs.Checked.{checked_product}
use Rattle.frac_math.proofs.FractionRing.{equal_is, over_stands}
use Rattle.frac_math.proofs.FractionOrder.{le_trans_ℚ, mul_le_ℚ, most_true, whole_le, le_by_cross, mono_ℤ}
use Rattle.frac_math.proofs.Floor.{floor_mono, floor_whole, floor_stands}
use Rattle.frac_math.proofs.Naturals.{nat-mul}
use Rattle.op_list.specs.declared.types.PixType.{PixType}
use Rattle.op_list.specs.declared.types.PixType.TheVariants.{U8, U16, U32, Rat}
use Rattle.op_list.specs.declared.values.Values.{Values}
use Rattle.op_list.specs.Types.{bits}
use Rattle.op_list.specs.Values.{number}
use Rattle.op_list.specs.Whole.{reversed_bytes, placed, modulo}
use Rattle.op_list.specs.Apply.{packed}
use Rattle.op_list.proofs.Elements.{sum-cons}
use Rattle.op_list.proofs.ReversedBytes.{reversed_bytes-below}
use Rattle.op_range.specs.declared.range.ValueRange.{ValueRange}
use Rattle.op_range.specs.Ranges.{from_to, only_zero, full, is_there_and, lies_in_full, fits_full, where_it_fits, multiplied_range}
use Rattle.op_range.specs.Ranges.{floored_range, shifted_right, is_zero_bound, swapped_range, left_range, right_range, as_whole_range}
use Rattle.op_range.specs.Within.{IsWithin}
use Rattle.op_range.proofs.Within.{nat_le_ℚ, le_nat, between, below_full, zero_only, if_and_then, if_map, if_product, by_test}

-- ---- a range that fits so many bits
least_there : (count : ℕ) (low : Option ℚ) (x : ℚ) → is_there_and (lies_in_full count) low ≡ true → IfSome low (λ a. a ≤ℚ x)
    → nat 0 ≤ℚ x
least_there count None x t h = absurd (cc)
least_there count (Some a) x t h = le_trans_ℚ (nat 0) a x
    (most_true (nat 0) a (and_parts (is_at_most (nat 0) a) (is_at_most a (nat (2 ^ count - 1))) t).0) h

greatest_there : (count : ℕ) (high : Option ℚ) (x : ℚ) → is_there_and (lies_in_full count) high ≡ true → IfSome high (λ b. x ≤ℚ b)
    → x ≤ℚ nat (2 ^ count - 1)
greatest_there count None x t h = absurd (cc)
greatest_there count (Some b) x t h =
    le_trans_ℚ x b (nat (2 ^ count - 1)) h
    (most_true b (nat (2 ^ count - 1)) (and_parts (is_at_most (nat 0) b) (is_at_most b (nat (2 ^ count - 1))) t).1)

-- either the value lies in full too, or the other range is taken
pub fitting : (P : ValueRange → Type 0) (count : ℕ) (r inside other : ValueRange) (x : ℚ) → IsWithin r x
    → (nat 0 ≤ℚ x → x ≤ℚ nat (2 ^ count - 1) → P inside) → P other
    → P (if fits_full count r then inside else other)
fitting P count r inside other x w make rest =
    by_test P (fits_full count r) inside other
    (λ t.
    (let p = and_parts (is_there_and (lies_in_full count) r.least) (is_there_and (lies_in_full count) r.greatest) t in
    make (least_there count r.least x p.0 w.above) (greatest_there count r.greatest x p.1 w.below))) (λ t. rest)

below_power : (x k : ℕ) → x ≤ 2 ^ k - 1 → x < 2 ^ k
below_power x k h = let p = pow_pos k in omega arith

-- ---- powers
pub mod_below : (x k : ℕ) → x % 2 ^ k < 2 ^ k
mod_below x k = let p = pow_pos k in omega arith

-- ---- SwapBytes
reversed_zero : (count : ℕ) → reversed_bytes count 0 ≡ 0
reversed_zero zero = refl
reversed_zero (suc count) = omega (arith, reversed_zero count)

pub reversed_full : (elem : PixType) (x : ℕ) → reversed_bytes (bits elem / 8) x < 2 ^ bits elem
reversed_full U8 x = reversed_bytes-below 1 x
reversed_full U16 x = reversed_bytes-below 2 x
reversed_full U32 x = reversed_bytes-below 4 x
reversed_full Rat x = reversed_bytes-below 0 x

zero_bound : (high : Option ℚ) (x : ℕ) → is_zero_bound high ≡ true → IfSome high (λ b. nat x ≤ℚ b) → x ≡ 0
zero_bound None x t h = absurd (cc)
zero_bound (Some b) x t h = let most = le_nat x 0 (subst (λ (z : ℚ). nat x ≤ℚ z) (equal_is b (nat 0) t) h) in omega arith

pub swapped_within : (elem : PixType) (x : ℕ) (r : ValueRange) → IsWithin r (nat x)
    → IsWithin (swapped_range (bits elem) r) (nat (reversed_bytes (bits elem / 8) x))
swapped_within elem x r w =
    by_test (λ (s : ValueRange). IsWithin s (nat (reversed_bytes (bits elem / 8) x)))
    (is_zero_bound r.least && is_zero_bound r.greatest) only_zero (full (bits elem))
    (λ t.
    (let none : x ≡ 0 = zero_bound r.greatest x (and_parts (is_zero_bound r.least) (is_zero_bound r.greatest) t).1 w.below in
    subst (λ (k : ℕ). IsWithin only_zero (nat (reversed_bytes (bits elem / 8) k))) (sym none)
    (subst (λ (k : ℕ). IsWithin only_zero (nat k)) (sym (reversed_zero (bits elem / 8))) zero_only)))
    (λ t. below_full (bits elem) _ (reversed_full elem x))

-- ---- whole numbers times n
pub multiplied_within : (n x : ℕ) (r : ValueRange) → IsWithin r (nat x) → IsWithin (multiplied_range n r) (nat (x * n))
multiplied_within n x r w =
    let is : nat x *ℚ nat n ≡ nat (x * n) = nat-mul (nat x) (nat n) x n refl refl in
    record {
      above = if_and_then (λ l. checked_product l (nat n)) r.least (λ l. l ≤ℚ nat x) (λ l. l ≤ℚ nat (x * n)) w.above
          (λ l p. if_product (λ z. z ≤ℚ nat (x * n)) l (nat n)
          (subst (λ (z : ℚ). (l *ℚ nat n) ≤ℚ z) is (mul_le_ℚ l (nat x) (nat n) (nat_le_ℚ 0 n (omega arith)) p)));
      below = if_and_then (λ g. checked_product g (nat n)) r.greatest (λ g. nat x ≤ℚ g) (λ g. nat (x * n) ≤ℚ g) w.below
          (λ g p. if_product (λ z. nat (x * n) ≤ℚ z) g (nat n)
          (subst (λ (z : ℚ). z ≤ℚ (g *ℚ nat n)) is (mul_le_ℚ (nat x) g (nat n) (nat_le_ℚ 0 n (omega arith)) p)));
      integral = λ h. refl;
    }

-- the product modulo 2^count is the product where that fits
product_within : (count n x : ℕ) (r other : ValueRange) → IsWithin r (nat x) → IsWithin other (nat (x * n % 2 ^ count))
    → IsWithin (where_it_fits count (multiplied_range n r) other) (nat (x * n % 2 ^ count))
product_within count n x r other w rest =
    fitting (λ (s : ValueRange). IsWithin s (nat (x * n % 2 ^ count))) count (multiplied_range n r) (multiplied_range n r) other
    (nat (x * n)) (multiplied_within n x r w)
    (λ least most.
    (let small : x * n < 2 ^ count = below_power (x * n) count (le_nat (x * n) (2 ^ count - 1) most) in
    subst (λ (k : ℕ). IsWithin (multiplied_range n r) (nat k)) (sym (mod-eq_of_lt small)) (multiplied_within n x r w))) rest

-- ---- LeftShift
shifted_parts : (low n x : ℕ) → x * 2 ^ n % 2 ^ (low + n) ≡ x % 2 ^ low * 2 ^ n
shifted_parts low n x =
    let split = mod-pow-add (x * 2 ^ n) low n in
    let quotient : x * 2 ^ n / 2 ^ n ≡ x = mul-div_cancel x (pow_pos n) in
    let remainder : x * 2 ^ n % 2 ^ n ≡ 0 = mul-mod_left x (2 ^ n) in
    omega (arith, split, ap (λ q. q % 2 ^ low * 2 ^ n) quotient, remainder)

shifted_most_parts : (low n x : ℕ) → x * 2 ^ n % 2 ^ (low + n) ≤ 2 ^ (low + n) - 2 ^ n
shifted_most_parts low n x =
    let less : x % 2 ^ low + 1 ≤ 2 ^ low = omega (arith, mod_below x low) in
    omega (arith, shifted_parts low n x, pow-add 2 low n, mul-le-mul_right (2 ^ n) less)

shifted_most : (count n x : ℕ) → n < count → x * 2 ^ n % 2 ^ count ≤ 2 ^ count - 2 ^ n
shifted_most count n x h = subst (λ (c : ℕ). x * 2 ^ n % 2 ^ c ≤ 2 ^ c - 2 ^ n) (let e : count - n + n ≡ count = omega arith in e)
    (shifted_most_parts (count - n) n x)

pub left_within : (count n x : ℕ) (r : ValueRange) → n < count → IsWithin r (nat x)
    → IsWithin (left_range count n r) (nat (x * 2 ^ n % 2 ^ count))
left_within count n x r h w =
    product_within count (2 ^ n) x r (from_to 0 (2 ^ count - 2 ^ n)) w
    (between 0 (2 ^ count - 2 ^ n) (x * 2 ^ n % 2 ^ count) (omega arith) (shifted_most count n x h))

-- ---- RightShift
quotient_mono : (a b : ℤ) (d : ℕ) → 0 < d → a ≤ℤ b → int_div_euclid a (pos d) ≤ℤ int_div_euclid b (pos d)
quotient_mono a b d p h =
    let left = over_stands a d p in
    let right = over_stands b d p in
    let order = floor_mono (over a d) (over b d) (le_by_cross _ _ a b d d left right (mono_ℤ a b d h)) in
    subst (λ (z : ℤ). z ≤ℤ int_div_euclid b (pos d)) (floor_stands (over a d) a d left)
    (subst (λ (z : ℤ). floor (over a d) ≤ℤ z) (floor_stands (over b d) b d right) order)

shifted_above : (n x : ℕ) (a : ℚ) → a ≤ℚ nat x → shifted_right n a ≤ℚ nat (x / 2 ^ n)
shifted_above n x a h =
    whole_le (int_div_euclid (floor a) (pos (2 ^ n))) (pos (x / 2 ^ n))
    (quotient_mono (floor a) (pos x) (2 ^ n) (pow_pos n)
    (subst (λ (z : ℤ). floor a ≤ℤ z) (floor_whole (pos x)) (floor_mono a (nat x) h)))

shifted_below : (n x : ℕ) (b : ℚ) → nat x ≤ℚ b → nat (x / 2 ^ n) ≤ℚ shifted_right n b
shifted_below n x b h =
    whole_le (pos (x / 2 ^ n)) (int_div_euclid (floor b) (pos (2 ^ n)))
    (quotient_mono (pos x) (floor b) (2 ^ n) (pow_pos n)
    (subst (λ (z : ℤ). z ≤ℤ floor b) (floor_whole (pos x)) (floor_mono (nat x) b h)))

pub right_within : (n x : ℕ) (r : ValueRange) → IsWithin r (nat x) → IsWithin (right_range n r) (nat (x / 2 ^ n))
right_within n x r w = record {
  above = if_map (shifted_right n) r.least (λ a. a ≤ℚ nat x) (λ a. a ≤ℚ nat (x / 2 ^ n)) w.above (shifted_above n x);
  below = if_map (shifted_right n) r.greatest (λ b. nat x ≤ℚ b) (λ b. nat (x / 2 ^ n) ≤ℚ b) w.below (shifted_below n x);
  integral = λ h. refl;
}

-- ---- Convert
pub numbers_as_whole : (count : ℕ) (expand : Bool) (x : ℕ) (r : ValueRange) → IsWithin r (nat x)
    → IsWithin (as_whole_range count expand false r) (nat (x * (if expand then 257 else 1) % 2 ^ count))
numbers_as_whole count expand x r w = product_within count (if expand then 257 else 1) x r (full count) w
    (below_full count _ (mod_below _ count))

pub modulo_below : (z : ℤ) (k : ℕ) → modulo z (2 ^ k) < 2 ^ k
modulo_below (pos a) k = mod_below a k
modulo_below (negsuc a) k = let p = pow_pos k in omega arith

modulo_is : (z : ℤ) (k : ℕ) → pos 0 ≤ℤ z → z ≤ℤ pos (2 ^ k - 1) → whole z ≡ nat (modulo z (2 ^ k))
modulo_is (pos a) k p q = let small : a < 2 ^ k = below_power a k (omega (arith, ints, q)) in ap nat (sym (mod-eq_of_lt small))
modulo_is (negsuc a) k p q = absurd (omega (arith, ints, p))

floored_within : (x : ℚ) (r : ValueRange) → IsWithin r x → IsWithin (floored_range r) (whole (floor x))
floored_within x r w = record {
  above = if_map (λ a. whole (floor a)) r.least (λ a. a ≤ℚ x) (λ a. a ≤ℚ whole (floor x)) w.above
      (λ a p. whole_le (floor a) (floor x) (floor_mono a x p));
  below = if_map (λ b. whole (floor b)) r.greatest (λ b. x ≤ℚ b) (λ b. whole (floor x) ≤ℚ b) w.below
      (λ b p. whole_le (floor x) (floor b) (floor_mono x b p));
  integral = λ h. refl;
}

pub fractions_as_whole : (count : ℕ) (expand : Bool) (x : ℚ) (r : ValueRange) → IsWithin r x
    → IsWithin (as_whole_range count expand true r) (nat (modulo (floor x) (2 ^ count)))
fractions_as_whole count expand x r w =
    fitting (λ (s : ValueRange). IsWithin s (nat (modulo (floor x) (2 ^ count)))) count r (floored_range r) (full count) x w
    (λ least most.
    (let low : pos 0 ≤ℤ floor x = subst (λ (z : ℤ). z ≤ℤ floor x) (floor_whole (pos 0)) (floor_mono (nat 0) x least) in
    let high : floor x ≤ℤ pos (2 ^ count - 1) = subst (λ (z : ℤ). floor x ≤ℤ z) (floor_whole (pos (2 ^ count - 1)))
    (floor_mono x (nat (2 ^ count - 1)) most) in
    subst (λ (z : ℚ). IsWithin (floored_range r) z) (modulo_is (floor x) count low high) (floored_within x r w)))
    (below_full count _ (modulo_below (floor x) count))

-- ---- Unpack and Pack
sum_drop_suc : (ws : List ℕ) (i : ℕ) → sum (drop i ws) ≡ slice_index ws i + sum (drop (suc i) ws)
sum_drop_suc [] zero = refl
sum_drop_suc [] (suc i) = refl
sum_drop_suc (w ∷ ws) zero = sum-cons w ws
sum_drop_suc (w ∷ ws) (suc i) = sum_drop_suc ws i

sum_drop : (ws : List ℕ) (i : ℕ) → sum (drop i ws) ≡ slice_index ws i + sum (drop (i + 1) ws)
sum_drop ws i = rw add-one (sum_drop_suc ws i)

placed_room : (ws : List ℕ) (x i : ℕ) → placed ws x i + 2 ^ sum (drop (i + 1) ws) ≤ 2 ^ sum (drop i ws)
placed_room ws x i =
    let less : x % 2 ^ slice_index ws i + 1 ≤ 2 ^ slice_index ws i = omega (arith, mod_below x (slice_index ws i)) in
    omega (
      arith,
      mul-le-mul_right (2 ^ sum (drop (i + 1) ws)) less,
      pow-add 2 (slice_index ws i) (sum (drop (i + 1) ws)),
      ap
          (λ k. 2 ^ k) (sum_drop ws i),
    )

pub packed-below : (widths : List ℕ) (v : Values) → packed widths v < 2 ^ sum widths
packed-below widths v =
    let p = pow_pos (sum (drop 4 widths)) in
    omega (
      arith,
      placed_room widths (number v 0) 0,
      placed_room widths (number v 1) 1,
      placed_room widths (number v 2) 2,
      placed_room
          widths (number v 3) 3,
    )
