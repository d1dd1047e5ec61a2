-- The numbers of the levels of a channel are small, so that a code's coefficient and constant are always there.
use Rattle.std.proofs.Common.{◌≡◌, ℕ, ◌-◌, ◌*◌, ◌^◌, ◌<◌, ◌≤◌, ℤ, pos, negsuc, ◌*ℤ◌, neg_ℤ, pow_mono, ap, sym, ◌∙◌, arith}
use Rattle.std.specs.Prelude.{unsigned_abs, Some}
use Rattle.std.specs.Int.{w128, int_signum}
use Rattle.std.proofs.lemmas.Int.{ints, unsigned_abs-mul, fits_signed_from_abs}
use native.Mathlib.Nat.{mul-le-mul}
use Rattle.frac_math.specs.Fraction.{ℚ, nat, whole, neg_ℚ, ◌<ℚ◌}
use Rattle.frac_math.specs.Checked.{Fits, QuotientFits, checked_product}
use Rattle.frac_math.proofs.FractionRing.{itself, over_stands, mul_stands, neg_stands, neg-is}
use Rattle.frac_math.proofs.CheckedCalls.{checked_product_some}
use Rattle.frac_math.proofs.FractionOrder.{not_zero}
use Rattle.colour_matrix.specs.Levels.{levels, scaled_to}
use Rattle.colour_matrix.specs.declared.class.Class.{Class}
use Rattle.colour_matrix.specs.declared.class.Class.TheVariants.{Direct, Luma, Chroma}
use Rattle.colour_matrix.specs.declared.class.Range.{Range}
use Rattle.colour_matrix.specs.declared.class.Range.TheVariants.{Full, Limited}
use Rattle.colour_matrix.specs.declared.class.Levels.{Levels}
use Rattle.colour_matrix.proofs.LevelLaws.{scale_positive}
use Rattle.pix_desc.specs.Layouts.{IsValid}
use Rattle.pix_meaning.specs.declared.pair.Side.{Side}
use Rattle.pix_meaning.specs.Pairs.{class_of}
use Rattle.op_range.specs.FractionBounds.{HasBound, bound}
use Rattle.op_build.specs.LevelSizes.{AreSmall}
use Rattle.pix_meaning.specs.Channels.{channel_levels, channel_depth}
use Rattle.op_range.proofs.FractionBounds.{nat_bound, raised, numerator_most, denominator_most}
use Rattle.pix_meaning.proofs.ChannelDepths.{channel_depth_small, channel_depth_some}

-- ---- the levels
power_small : (depth : ℕ) → depth ≤ 16 → 2 ^ depth ≤ 2 ^ 16
power_small depth h = pow_mono h

whole_small : (n : ℕ) → n ≤ 2 ^ 16 → HasBound (nat n) (bound 256 (2 ^ 24))
whole_small n h = raised (nat n) 1 (2 ^ 16) 256 (nat_bound n (2 ^ 16) h) (omega arith)

scaled_small : (depth code : ℕ) → depth ≤ 16 → code ≤ 256 → HasBound (scaled_to depth code) (bound 256 (2 ^ 24))
unfolding scaled_to
scaled_small depth code h s = record {
  numerator = pos (2 ^ depth) *ℤ pos code;
  stands = mul_stands _ _ _ _ _ _ (over_stands (pos (2 ^ depth)) 256 (omega arith)) (itself (nat code));
  most = mul-le-mul (power_small depth h) s;
}

levels_small : (class : Class) (depth : ℕ) (range : Range) → depth ≤ 16
    → HasBound (levels class depth range).scale (bound 256 (2 ^ 24)) × HasBound (levels class depth range).base (bound 256 (2 ^ 24))
unfolding levels
levels_small Luma depth Limited h = (scaled_small depth 219 h (omega arith), scaled_small depth 16 h (omega arith))
levels_small Chroma depth Limited h = (scaled_small depth 224 h (omega arith), scaled_small depth 128 h (omega arith))
levels_small Luma depth Full h = (whole_small (2 ^ depth - 1) (omega (arith, power_small depth h)), whole_small 0 (omega arith))
levels_small Chroma depth Full h = (
  whole_small (2 ^ depth - 1) (omega (arith, power_small depth h)),
  whole_small (2 ^ (depth - 1))
      (power_small (depth - 1) (omega arith)),
)
levels_small Direct depth range h = (whole_small (2 ^ depth - 1) (omega (arith, power_small depth h)), whole_small 0 (omega arith))

-- those of a channel of a side
pub small_levels : (side : Side) (c : ℕ) → IsValid side.desc → c < 4 → AreSmall (channel_levels side c)
small_levels side c valid below =
    let depth = channel_depth side.desc c in
    let class = class_of side.desc c in
    let most = channel_depth_small side.desc c valid below in
    record {
      above = scale_positive class depth side.range (channel_depth_some side.desc c valid below);
      scale = (levels_small class depth side.range most).0;
      base = (levels_small class depth side.range most).1;
    }

-- ---- what the checked calls need
product_fits : (a b : ℤ) (m n : ℕ) → unsigned_abs a ≤ m → unsigned_abs b ≤ n → m * n < 2 ^ 127 → Fits (a *ℤ b)
product_fits a b m n p q small = fits_signed_from_abs w128 (a *ℤ b) (omega (arith, unsigned_abs-mul a b, mul-le-mul p q, small))

sign_size : (z : ℤ) → unsigned_abs (int_signum z) ≤ 1
sign_size (pos n) = omega arith
sign_size (negsuc n) = omega arith

with_sign_fits : (a b c : ℤ) (m n : ℕ) → unsigned_abs a ≤ m → unsigned_abs b ≤ n → m * n < 2 ^ 127 → Fits (a *ℤ b *ℤ int_signum c)
with_sign_fits a b c m n p q small =
    product_fits (a *ℤ b) (int_signum c) (m * n) 1 (omega (arith, unsigned_abs-mul a b, mul-le-mul p q)) (sign_size c)
    (omega (arith, small))

quotient_fits : (x y : ℚ) → HasBound x (bound 256 (2 ^ 24)) → HasBound y (bound 256 (2 ^ 24)) → nat 0 <ℚ y → QuotientFits x y
quotient_fits x y h k above = record {
  divisor = not_zero y above;
  numerator =
      with_sign_fits x.numerator (pos y.denominator) y.numerator (2 ^ 24) 256 (numerator_most x _ h) (denominator_most y _ k) (omega arith);
  denominator =
      with_sign_fits (pos x.denominator) y.numerator y.numerator 256 (2 ^ 24) (denominator_most x _ h) (numerator_most y _ k) (omega arith);
}

negative_bound : (x : ℚ) (d n : ℕ) → HasBound x (bound d n) → HasBound (neg_ℚ x) (bound d n)
negative_bound x d n h =
    record { numerator = neg_ℤ h.numerator; stands = neg_stands x h.numerator d h.stands; most = omega (arith, ints, h.most) }

pub inverse_fits : (l : Levels) → AreSmall l → QuotientFits (nat 1) l.scale
inverse_fits l h = quotient_fits (nat 1) l.scale (whole_small 1 (omega arith)) h.scale h.above

pub constant_fits : (l : Levels) → AreSmall l → QuotientFits (neg_ℚ l.base) l.scale
constant_fits l h = quotient_fits (neg_ℚ l.base) l.scale (negative_bound l.base 256 (2 ^ 24) h.base) h.scale h.above

pub negative_there : (l : Levels) → AreSmall l → checked_product (whole (negsuc 0)) l.base ≡ Some (neg_ℚ l.base)
negative_there l h =
    checked_product_some (whole (negsuc 0)) l.base (record {
      numerator = product_fits (negsuc 0) l.base.numerator 1 (2 ^ 24) (omega (arith, ints)) (numerator_most l.base _ h.base) (omega arith);
      denominator =
          product_fits (pos 1) (pos l.base.denominator) 1 256 (omega (arith, ints)) (denominator_most l.base _ h.base) (omega arith);
    })
    ∙ ap Some (sym (neg-is l.base))
