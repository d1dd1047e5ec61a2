-- The ranges of fractions enclose them.
use Rattle.std.proofs.Common.{◌≡◌, ℕ, ◌+◌, ◌-◌, ◌*◌, ◌^◌, ◌<◌, ◌≤◌, Bool, true, false, ◌&&◌, ◌||◌, if◌then◌else◌, List, [], ◌∷◌, ℤ, pos}
use Rattle.std.proofs.Common.{negsuc, ◌*ℤ◌, ◌≤ℤ◌, subst, refl, sym, ◌∙◌, ap, arith}
use Rattle.std.specs.Prelude.{Option, Some, None, IfSome}
use Rattle.std.specs.Option.{option_and_then}
use Rattle.std.proofs.lemmas.Int.{ints}
use Rattle.std.proofs.Math.Nat.{mul-le-mul_right}
use Rattle.std.proofs.lemmas.Bool.{and_parts}
use Rattle.frac_math.specs.Fraction.{ℚ, nat, whole, over, equal_ℚ, min_ℚ, max_ℚ, ◌+ℚ◌, ◌*ℚ◌, ◌≤ℚ◌}
use Rattle.frac_math.specs.Checked.{checked_sum, checked_product}
use Rattle.frac_math.specs.Dither.{dither_at}
use Rattle.frac_math.proofs.Ring.{var, num, ◌⊕◌, ◌⊖◌, ◌⊗◌}
use Rattle.frac_math.proofs.FractionRing.{equal_is, mul_comm, mul-zero, whole-add, whole-mul, over_stands}
use Rattle.frac_math.proofs.FractionOrder.{le_refl_ℚ, le_trans_ℚ, mul_le_ℚ, le_from, also, times, end, min_cases, max_cases}
use Rattle.frac_math.proofs.FractionOrder.{le_by_cross}
use Rattle.frac_math.proofs.DitherLaws.{index_number, index_number_below, dither_stands}
use Rattle.op_list.specs.declared.values.Values.{Values}
use Rattle.op_list.specs.Values.{fraction, fraction_in}
use Rattle.op_list.specs.Apply.{product, row_value, at_most, at_least}
use Rattle.op_range.specs.declared.range.ValueRange.{ValueRange}
use Rattle.op_range.specs.Ranges.{range, range_in, is_whole_number, sum_of, times as times_of, product_of, is_below_zero, is_negative}
use Rattle.op_range.specs.Ranges.{scaled_range, least_product, greatest_product, keeps_whole, row_range, dithered_range, is_whole_limit}
use Rattle.op_range.specs.Ranges.{limited, limited_or_limit, range_at_most, range_at_least}
use Rattle.op_range.specs.Within.{IsWithin}
use Rattle.op_range.proofs.Within.{whole_is, if_and_then, if_sum, if_product}

-- ---- orders
add_both_le : (a b x y : ℚ) → a ≤ℚ x → b ≤ℚ y → (a +ℚ b) ≤ℚ (x +ℚ y)
add_both_le a b x y p q = le_from (a ∷ b ∷ x ∷ y ∷ []) (var 0 ⊕ var 1) (var 2 ⊕ var 3) (also (var 0) (var 2) (also (var 1) (var 3) end))
    (p, (q, tt)) refl

mul_le_negative : (x y c : ℚ) → c ≤ℚ nat 0 → x ≤ℚ y → (y *ℚ c) ≤ℚ (x *ℚ c)
mul_le_negative x y c q p = le_from (x ∷ y ∷ c ∷ []) (var 1 ⊗ var 2) (var 0 ⊗ var 2) (times (num (pos 0) ⊖ var 2) (var 0) (var 1) end)
    (le_from (c ∷ []) (num (pos 0)) (num (pos 0) ⊖ var 0) (also (var 0) (num (pos 0)) end) (q, tt) refl, p, tt) refl

-- ---- sums of bounds
sum_of_le : (a b : Option ℚ) (x y : ℚ) → IfSome a (λ l. l ≤ℚ x) → IfSome b (λ l. l ≤ℚ y) → IfSome (sum_of a b) (λ l. l ≤ℚ (x +ℚ y))
sum_of_le None b x y p q = tt
sum_of_le (Some l) None x y p q = tt
sum_of_le (Some l) (Some m) x y p q = if_sum (λ s. s ≤ℚ (x +ℚ y)) l m (add_both_le l m x y p q)

le_sum_of : (a b : Option ℚ) (x y : ℚ) → IfSome a (λ g. x ≤ℚ g) → IfSome b (λ g. y ≤ℚ g) → IfSome (sum_of a b) (λ g. (x +ℚ y) ≤ℚ g)
le_sum_of None b x y p q = tt
le_sum_of (Some l) None x y p q = tt
le_sum_of (Some l) (Some m) x y p q = if_sum (λ s. (x +ℚ y) ≤ℚ s) l m (add_both_le x y l m p q)

-- ---- Scale
whole_product : (x c : ℚ) → is_whole_number c ≡ true → is_whole_number x ≡ true → is_whole_number (x *ℚ c) ≡ true
whole_product x c p q =
    subst (λ (z : ℚ). is_whole_number z ≡ true)
    (whole-mul x.numerator c.numerator ∙ sym (ap (λ z. z *ℚ whole c.numerator) (whole_is x q))
    ∙ sym (ap (λ z. x *ℚ z) (whole_is c p))) refl

whole_sum : (x y : ℚ) → is_whole_number x ≡ true → is_whole_number y ≡ true → is_whole_number (x +ℚ y) ≡ true
whole_sum x y p q =
    subst (λ (z : ℚ). is_whole_number z ≡ true)
    (whole-add x.numerator y.numerator ∙ sym (ap (λ z. z +ℚ whole y.numerator) (whole_is x p))
    ∙ sym (ap (λ z. x +ℚ z) (whole_is y q))) refl

below_zero : (x : ℚ) → is_negative x ≡ true → x ≤ℚ nat 0
below_zero x h = record { at_most = sign x.numerator x.denominator h }
  where
    sign : (z : ℤ) (d : ℕ) → is_below_zero z ≡ true → (z *ℤ pos 1) ≤ℤ (pos 0 *ℤ pos d)
    sign (pos n) d h = absurd (cc)
    sign (negsuc n) d h = omega (arith, ints)

from_zero : (x : ℚ) → is_negative x ≡ false → nat 0 ≤ℚ x
from_zero x h = record { at_most = sign x.numerator x.denominator h }
  where
    sign : (z : ℤ) (d : ℕ) → is_below_zero z ≡ false → (pos 0 *ℤ pos d) ≤ℤ (z *ℤ pos 1)
    sign (pos n) d h = omega (arith, ints)
    sign (negsuc n) d h = absurd (cc)

scaled_whole : (c x : ℚ) (b : ValueRange) → IsWithin b x → (is_whole_number c && b.whole) ≡ true → is_whole_number (x *ℚ c) ≡ true
scaled_whole c x b w h = let p = and_parts (is_whole_number c) b.whole h in whole_product x c p.0 (w.integral p.1)

scaled_by : (c x : ℚ) (b : ValueRange) (t : Bool) → is_negative c ≡ t → IsWithin b x
    → IsWithin (if t then range (times_of c b.greatest) (times_of c b.least) (is_whole_number c && b.whole) else range
    (times_of c b.least) (times_of c b.greatest) (is_whole_number c && b.whole)) (x *ℚ c)
scaled_by c x b false e w = record {
  above = if_and_then (λ l. checked_product l c) b.least (λ l. l ≤ℚ x) (λ l. l ≤ℚ (x *ℚ c)) w.above
      (λ l p. if_product (λ z. z ≤ℚ (x *ℚ c)) l c (mul_le_ℚ l x c (from_zero c e) p));
  below = if_and_then (λ g. checked_product g c) b.greatest (λ g. x ≤ℚ g) (λ g. (x *ℚ c) ≤ℚ g) w.below
      (λ g p. if_product (λ z. (x *ℚ c) ≤ℚ z) g c (mul_le_ℚ x g c (from_zero c e) p));
  integral = scaled_whole c x b w;
}
scaled_by c x b true e w = record {
  above = if_and_then (λ g. checked_product g c) b.greatest (λ g. x ≤ℚ g) (λ l. l ≤ℚ (x *ℚ c)) w.below
      (λ g p. if_product (λ z. z ≤ℚ (x *ℚ c)) g c (mul_le_negative x g c (below_zero c e) p));
  below = if_and_then (λ l. checked_product l c) b.least (λ l. l ≤ℚ x) (λ g. (x *ℚ c) ≤ℚ g) w.above
      (λ l p. if_product (λ z. (x *ℚ c) ≤ℚ z) l c (mul_le_negative l x c (below_zero c e) p));
  integral = scaled_whole c x b w;
}

pub scaled_within : (c x : ℚ) (b : ValueRange) → IsWithin b x → IsWithin (scaled_range c b) (x *ℚ c)
scaled_within c x b w = scaled_by c x b (is_negative c) refl w

-- ---- Linear
zero_times : (c x : ℚ) → equal_ℚ c (nat 0) ≡ true → c *ℚ x ≡ nat 0
zero_times c x h = ap (λ z. z *ℚ x) (equal_is c (nat 0) h) ∙ mul_comm (nat 0) x ∙ mul-zero x

product_bound : (P : ℚ → Type 0) (Q : ℚ → Type 0) (c x : ℚ) (o : Option ℚ) (t : Bool) → equal_ℚ c (nat 0) ≡ t → IfSome o Q
    → (t ≡ true → P (nat 0)) → ((y : ℚ) → Q y → P (c *ℚ y))
    → IfSome (if t then Some (nat 0) else option_and_then (λ y. checked_product c y) o) P
product_bound P Q c x o true e h none some = none refl
product_bound P Q c x o false e h none some = if_and_then (λ y. checked_product c y) o Q P h (λ y q. if_product P c y (some y q))

term_above : (c x : ℚ) (b : ValueRange) (t : Bool) → is_negative c ≡ t → IsWithin b x
    → IfSome (if t then product_of c b.greatest else product_of c b.least) (λ l. l ≤ℚ (c *ℚ x))
term_above c x b false e w =
    product_bound (λ l. l ≤ℚ (c *ℚ x)) (λ l. l ≤ℚ x) c x b.least (equal_ℚ c (nat 0)) refl w.above
    (λ z. subst (λ (y : ℚ). nat 0 ≤ℚ y) (sym (zero_times c x z)) (le_refl_ℚ (nat 0)))
    (λ l p. rw (mul_comm c l, mul_comm c x) (mul_le_ℚ l x c (from_zero c e) p))
term_above c x b true e w =
    product_bound (λ l. l ≤ℚ (c *ℚ x)) (λ g. x ≤ℚ g) c x b.greatest (equal_ℚ c (nat 0)) refl w.below
    (λ z. subst (λ (y : ℚ). nat 0 ≤ℚ y) (sym (zero_times c x z)) (le_refl_ℚ (nat 0)))
    (λ g p. rw (mul_comm c g, mul_comm c x) (mul_le_negative x g c (below_zero c e) p))

term_below : (c x : ℚ) (b : ValueRange) (t : Bool) → is_negative c ≡ t → IsWithin b x
    → IfSome (if t then product_of c b.least else product_of c b.greatest) (λ g. (c *ℚ x) ≤ℚ g)
term_below c x b false e w =
    product_bound (λ g. (c *ℚ x) ≤ℚ g) (λ g. x ≤ℚ g) c x b.greatest (equal_ℚ c (nat 0)) refl w.below
    (λ z. subst (λ (y : ℚ). y ≤ℚ nat 0) (sym (zero_times c x z)) (le_refl_ℚ (nat 0)))
    (λ g p. rw (mul_comm c g, mul_comm c x) (mul_le_ℚ x g c (from_zero c e) p))
term_below c x b true e w =
    product_bound (λ g. (c *ℚ x) ≤ℚ g) (λ l. l ≤ℚ x) c x b.least (equal_ℚ c (nat 0)) refl w.above
    (λ z. subst (λ (y : ℚ). y ≤ℚ nat 0) (sym (zero_times c x z)) (le_refl_ℚ (nat 0)))
    (λ l p. rw (mul_comm c l, mul_comm c x) (mul_le_negative l x c (below_zero c e) p))

term_whole_by : (c x : ℚ) (b : ValueRange) (t : Bool) → equal_ℚ c (nat 0) ≡ t → IsWithin b x → (is_whole_number c && (t || b.whole))
    ≡ true → is_whole_number (c *ℚ x) ≡ true
term_whole_by c x b true e w h = subst (λ (z : ℚ). is_whole_number z ≡ true) (sym (zero_times c x e)) refl
term_whole_by c x b false e w h = let p = and_parts (is_whole_number c) b.whole h in subst (λ (z : ℚ). is_whole_number z ≡ true)
    (mul_comm x c) (whole_product x c p.0 (w.integral p.1))

row_whole : (row : List ℚ) (v : Values) (ranges : List ValueRange) → ((j : ℕ) → j < 4 → IsWithin (range_in ranges j) (fraction v j))
    → (keeps_whole (fraction_in row 0) (range_in ranges 0) && keeps_whole (fraction_in row 1) (range_in ranges 1)
    && keeps_whole (fraction_in row 2) (range_in ranges 2) && keeps_whole (fraction_in row 3) (range_in ranges 3)
    && is_whole_number (fraction_in row 4)) ≡ true → is_whole_number (row_value row v) ≡ true
row_whole row v ranges each h =
    let k = λ (j : ℕ). keeps_whole (fraction_in row j) (range_in ranges j) in
    let a = and_parts (k 0 && k 1 && k 2 && k 3) (is_whole_number (fraction_in row 4)) h in
    let b = and_parts (k 0 && k 1 && k 2) (k 3) a.0 in
    let c = and_parts (k 0 && k 1) (k 2) b.0 in
    let d = and_parts (k 0) (k 1) c.0 in
    let term = λ (j : ℕ) (below : j < 4) (t : k j ≡ true). term_whole_by (fraction_in row j) (fraction v j) (range_in ranges j)
    (equal_ℚ (fraction_in row j) (nat 0)) refl (each j below) t in
    whole_sum _ _ (whole_sum _ _ (whole_sum _ _ (whole_sum _ _ a.1 (term 0 (omega arith) d.0)) (term 1 (omega arith) d.1))
    (term 2 (omega arith) c.1)) (term 3 (omega arith) b.1)

pub row_within : (row : List ℚ) (v : Values) (ranges : List ValueRange)
    → ((j : ℕ) → j < 4 → IsWithin (range_in ranges j) (fraction v j)) → IsWithin (row_range row ranges) (row_value row v)
row_within row v ranges each =
    let above = λ (j : ℕ) (below : j < 4). term_above (fraction_in row j) (fraction v j) (range_in ranges j)
    (is_negative (fraction_in row j)) refl (each j below) in
    let below = λ (j : ℕ) (below : j < 4). term_below (fraction_in row j) (fraction v j) (range_in ranges j)
    (is_negative (fraction_in row j)) refl (each j below) in
    record {
      above =
          sum_of_le _ _ _ (product row v 3) (sum_of_le _ _ _ (product row v 2) (sum_of_le _ _ _ (product row v 1)
          (sum_of_le (Some (fraction_in row 4)) (least_product (fraction_in row 0) (range_in ranges 0)) (fraction_in row 4)
          (product row v 0) (le_refl_ℚ (fraction_in row 4)) (above 0 (omega arith))) (above 1 (omega arith))) (above 2 (omega arith)))
          (above 3 (omega arith));
      below =
          le_sum_of _ _ _ (product row v 3) (le_sum_of _ _ _ (product row v 2) (le_sum_of _ _ _ (product row v 1)
          (le_sum_of (Some (fraction_in row 4)) (greatest_product (fraction_in row 0) (range_in ranges 0)) (fraction_in row 4)
          (product row v 0) (le_refl_ℚ (fraction_in row 4)) (below 0 (omega arith))) (below 1 (omega arith))) (below 2 (omega arith)))
          (below 3 (omega arith));
      integral = row_whole row v ranges each;
    }

-- ---- Dither
dither_least : (k x y : ℕ) → over (pos 1) (2 * 4 ^ k) ≤ℚ dither_at k x y
dither_least k x y =
    let i = index_number_below k x y in
    let p : 0 < 2 * 4 ^ k = omega arith in
    let least : 1 ≤ 2 * index_number k x y + 1 = omega arith in
    le_by_cross _ _ _ _ _ _ (over_stands (pos 1) (2 * 4 ^ k) p) (dither_stands k x y)
    (omega (arith, ints, mul-le-mul_right (2 * 4 ^ k) least))

dither_most : (k x y : ℕ) → dither_at k x y ≤ℚ over (pos (2 * 4 ^ k - 1)) (2 * 4 ^ k)
dither_most k x y =
    let i = index_number_below k x y in
    let p : 0 < 2 * 4 ^ k = omega arith in
    let most : 2 * index_number k x y + 1 ≤ 2 * 4 ^ k - 1 = omega arith in
    le_by_cross _ _ _ _ _ _ (dither_stands k x y) (over_stands (pos (2 * 4 ^ k - 1)) (2 * 4 ^ k) p)
    (omega (arith, ints, mul-le-mul_right (2 * 4 ^ k) most))

pub dithered_within : (k x y : ℕ) (z : ℚ) (b : ValueRange) → IsWithin b z → IsWithin (dithered_range k b) (z +ℚ dither_at k x y)
dithered_within k x y z b w = record {
  above = if_and_then (λ l. checked_sum l (over (pos 1) (2 * 4 ^ k))) b.least (λ l. l ≤ℚ z) (λ l. l ≤ℚ (z +ℚ dither_at k x y)) w.above
      (λ l p. if_sum (λ s. s ≤ℚ (z +ℚ dither_at k x y)) l _ (add_both_le l _ z _ p (dither_least k x y)));
  below = if_and_then (λ g. checked_sum g (over (pos (2 * 4 ^ k - 1)) (2 * 4 ^ k))) b.greatest (λ g. z ≤ℚ g)
      (λ g. (z +ℚ dither_at k x y) ≤ℚ g) w.below
      (λ g p. if_sum (λ s. (z +ℚ dither_at k x y) ≤ℚ s) g _ (add_both_le z _ g _ p (dither_most k x y)));
  integral = λ h. absurd (cc);
}

-- ---- Min and Max
min_mono : (x y l : ℚ) → x ≤ℚ y → min_ℚ x l ≤ℚ min_ℚ y l
min_mono x y l h =
    min_cases (λ z. min_ℚ x l ≤ℚ z) y l (λ p. min_cases (λ z. z ≤ℚ y) x l (λ q. h) (λ q. le_trans_ℚ l x y q h))
    (λ p. min_cases (λ z. z ≤ℚ l) x l (λ q. q) (λ q. le_refl_ℚ l))

min_most : (x l : ℚ) → min_ℚ x l ≤ℚ l
min_most x l = min_cases (λ z. z ≤ℚ l) x l (λ q. q) (λ q. le_refl_ℚ l)

max_mono : (x y l : ℚ) → x ≤ℚ y → max_ℚ x l ≤ℚ max_ℚ y l
max_mono x y l h =
    max_cases (λ z. z ≤ℚ max_ℚ y l) x l (λ p. max_cases (λ z. l ≤ℚ z) y l (λ q. le_refl_ℚ l) (λ q. q))
    (λ p. max_cases (λ z. x ≤ℚ z) y l (λ q. le_trans_ℚ x y l h q) (λ q. h))

max_least : (x l : ℚ) → l ≤ℚ max_ℚ x l
max_least x l = max_cases (λ z. l ≤ℚ z) x l (λ q. le_refl_ℚ l) (λ q. q)

most_above : (limit low : Option ℚ) (x : ℚ) → IfSome low (λ l. l ≤ℚ x) → IfSome (limited min_ℚ limit low) (λ l. l ≤ℚ at_most limit x)
most_above limit None x h = tt
most_above None (Some y) x h = h
most_above (Some l) (Some y) x h = min_mono y x l h

most_below : (limit high : Option ℚ) (x : ℚ) → IfSome high (λ g. x ≤ℚ g)
    → IfSome (limited_or_limit min_ℚ limit high) (λ g. at_most limit x ≤ℚ g)
most_below None None x h = tt
most_below (Some l) None x h = min_most x l
most_below None (Some y) x h = h
most_below (Some l) (Some y) x h = min_mono x y l h

most_whole : (limit : Option ℚ) (x : ℚ) → is_whole_number x ≡ true → is_whole_limit limit ≡ true
    → is_whole_number (at_most limit x) ≡ true
most_whole None x p q = p
most_whole (Some l) x p q = min_cases (λ z. is_whole_number z ≡ true) x l (λ h. p) (λ h. q)

least_above : (limit low : Option ℚ) (x : ℚ) → IfSome low (λ l. l ≤ℚ x)
    → IfSome (limited_or_limit max_ℚ limit low) (λ l. l ≤ℚ at_least limit x)
least_above None None x h = tt
least_above (Some l) None x h = max_least x l
least_above None (Some y) x h = h
least_above (Some l) (Some y) x h = max_mono y x l h

least_below : (limit high : Option ℚ) (x : ℚ) → IfSome high (λ g. x ≤ℚ g)
    → IfSome (limited max_ℚ limit high) (λ g. at_least limit x ≤ℚ g)
least_below limit None x h = tt
least_below None (Some y) x h = h
least_below (Some l) (Some y) x h = max_mono x y l h

least_whole : (limit : Option ℚ) (x : ℚ) → is_whole_number x ≡ true → is_whole_limit limit ≡ true → is_whole_number (at_least limit x)
    ≡ true
least_whole None x p q = p
least_whole (Some l) x p q = max_cases (λ z. is_whole_number z ≡ true) x l (λ h. q) (λ h. p)

pub most_within : (limit : Option ℚ) (x : ℚ) (b : ValueRange) → IsWithin b x → IsWithin (range_at_most limit b) (at_most limit x)
most_within limit x b w = record {
  above = most_above limit b.least x w.above;
  below = most_below limit b.greatest x w.below;
  integral = λ h. (let p = and_parts b.whole (is_whole_limit limit) h in most_whole limit x (w.integral p.0) p.1);
}

pub least_within : (limit : Option ℚ) (x : ℚ) (b : ValueRange) → IsWithin b x → IsWithin (range_at_least limit b) (at_least limit x)
least_within limit x b w = record {
  above = least_above limit b.least x w.above;
  below = least_below limit b.greatest x w.below;
  integral = λ h. (let p = and_parts b.whole (is_whole_limit limit) h in least_whole limit x (w.integral p.0) p.1);
}
