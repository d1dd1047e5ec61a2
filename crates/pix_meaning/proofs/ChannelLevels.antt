-- The levels of the channels: a code stands for the value of its channel, and so does the code of a missing channel.
use Rattle.std.proofs.Common.{◌≡◌, ℕ, zero, suc, ◌+◌, ◌-◌, ◌*◌, ◌^◌, ◌<◌, ◌≤◌, ⊎_elim, Bool, true, false, ◌||◌, if◌then◌else◌, nat_eq, pos}
use Rattle.std.proofs.Common.{List, [], ◌∷◌, refl, sym, ap, ◌∙◌, arith}
use Rattle.std.proofs.lemmas.Bool.{cases_Bool, cond-true, cond-false}
use Rattle.std.proofs.lemmas.Nat.{pow_below, pow-add}
use Rattle.frac_math.specs.Fraction.{nat, ◌*ℚ◌, ◌-ℚ◌, inverse}
use Rattle.frac_math.proofs.Ring.{var, num, ◌⊖◌, ◌⊗◌, ring, ring_from, done, by}
use Rattle.frac_math.proofs.FractionRing.{fractions, same, itself, over_stands, mul_stands}
use Rattle.pix_desc.specs.declared.desc.Desc.{Desc}
use Rattle.pix_desc.specs.Layouts.{IsValid}
use Rattle.colour_matrix.specs.Levels.{levels, scaled_to, from_code}
use Rattle.colour_matrix.specs.declared.class.Class.TheVariants.{Direct, Chroma}
use Rattle.colour_matrix.specs.declared.class.Range.{Range}
use Rattle.colour_matrix.specs.declared.class.Range.TheVariants.{Full, Limited}
use Rattle.frac_math.proofs.Naturals.{inverse_of}
use Rattle.pix_meaning.specs.declared.pair.Side.{Side}
use Rattle.pix_meaning.specs.Pairs.{is_rgb, has_channel, component_at, class_of, depth_of, levels_of}
use Rattle.pix_meaning.specs.Values.{source_value}
use Rattle.pix_meaning.proofs.Passing.{value_there}
use Rattle.pix_meaning.specs.Channels.{channel_depth, channel_levels, missing_code}
use Rattle.pix_meaning.specs.Channels.{code_of}
use Rattle.pix_meaning.proofs.ChannelCodes.{code_of-there, code_of-missing, depth_positive}

-- ---- missing codes

-- the middle of the codes is the base of chroma
middle_is : (range : Range) (depth : ℕ) → 1 ≤ depth → nat (2 ^ (depth - 1)) ≡ (levels Chroma depth range).base
unfolding levels scaled_to
middle_is Full depth some = refl
middle_is Limited depth some =
    same _ _ _ _ _ _ (itself (nat (2 ^ (depth - 1))))
    (mul_stands _ _ _ _ _ _ (over_stands (pos (2 ^ depth)) 256 (omega arith)) (itself (nat 128)))
    (let one_more : depth ≡ 1 + (depth - 1) = omega arith in
    let two : 2 ^ depth ≡ 2 * 2 ^ (depth - 1) = ap (λ n. 2 ^ n) one_more ∙ pow-add 2 1 (depth - 1) in ap pos (omega arith))

missing_chroma : (range : Range) (depth : ℕ) → 1 ≤ depth → from_code (levels Chroma depth range) (nat (2 ^ (depth - 1))) ≡ nat 0
unfolding from_code
missing_chroma range depth some =
    ap (λ code. (code -ℚ (levels Chroma depth range).base) *ℚ inverse (levels Chroma depth range).scale) (middle_is range depth some)
    ∙ ring fractions ((levels Chroma depth range).base ∷ inverse (levels Chroma depth range).scale ∷ []) ((var 0 ⊖ var 0) ⊗ var 1)
    (num (pos 0)) refl

missing_alpha : (range : Range) (depth : ℕ) → 1 ≤ depth → from_code (levels Direct depth range) (nat (2 ^ depth - 1)) ≡ nat 1
unfolding from_code levels
missing_alpha range depth some =
    let inverse_is : nat (2 ^ depth - 1) *ℚ inverse (nat (2 ^ depth - 1)) ≡ nat 1 =
    inverse_of (nat (2 ^ depth - 1)) (2 ^ depth - 1) refl (omega (arith, pow_below 0 depth some)) in
    ring_from fractions (nat (2 ^ depth - 1) ∷ inverse (nat (2 ^ depth - 1)) ∷ []) ((var 0 ⊖ num (pos 0)) ⊗ var 1) (num (pos 1))
    (by (num (pos 1)) (var 0 ⊗ var 1) (num (pos 1)) done) (inverse_is, tt) refl

-- ---- the levels of a channel

-- of one that is there, they are those of its component
pub levels_there : (side : Side) (c : ℕ) → has_channel side.desc c ≡ true → channel_levels side c ≡ levels_of side c
levels_there side c there =
    ap (λ depth. levels (class_of side.desc c) depth side.range)
    (cond-true (has_channel side.desc c) (depth_of side.desc (component_at side.desc c)) (depth_of side.desc 0) there)

depth_missing : (desc : Desc) (c : ℕ) → has_channel desc c ≡ false → channel_depth desc c ≡ depth_of desc 0
depth_missing desc c missing = cond-false (has_channel desc c) (depth_of desc (component_at desc c)) (depth_of desc 0) missing

-- component 0 has a bit
left_false : (a b : Bool) → (a || b) ≡ false → a ≡ false
left_false true b h = absurd cc
left_false false b h = refl

-- ---- the value of a missing channel
missing_value : (side : Side) (c : ℕ) → IsValid side.desc → c < 4 → has_channel side.desc c ≡ false
    → from_code (levels (class_of side.desc c) (depth_of side.desc 0) side.range) (nat (missing_code side.desc c))
    ≡ (if nat_eq c 3 then nat 1 else nat 0)
missing_value side zero valid below missing = absurd cc
missing_value side (suc zero) valid below missing =
    ap (λ b. from_code (levels (if b then Direct else Chroma) (depth_of side.desc 0) side.range) (nat (2 ^ (depth_of side.desc 0 - 1))))
    (left_false (is_rgb side.desc) _ missing)
    ∙ missing_chroma side.range (depth_of side.desc 0) (depth_positive side.desc valid)
missing_value side (suc (suc zero)) valid below missing =
    ap (λ b. from_code (levels (if b then Direct else Chroma) (depth_of side.desc 0) side.range) (nat (2 ^ (depth_of side.desc 0 - 1))))
    (left_false (is_rgb side.desc) _ missing)
    ∙ missing_chroma side.range (depth_of side.desc 0) (depth_positive side.desc valid)
missing_value side (suc (suc (suc zero))) valid below missing =
    missing_alpha side.range (depth_of side.desc 0) (depth_positive side.desc valid)
missing_value side (suc (suc (suc (suc c)))) valid below missing = absurd (omega arith)

value_missing : (side : Side) (width rows : ℕ) (frame : List ℕ) (x row c : ℕ) → has_channel side.desc c ≡ false
    → (if nat_eq c 3 then nat 1 else nat 0) ≡ source_value side width rows frame x row c
unfolding source_value
value_missing side width rows frame x row c missing = rw missing refl

-- ---- the code of a channel stands for its value
pub code_means : (side : Side) (width rows : ℕ) (frame : List ℕ) (x row c : ℕ) → IsValid side.desc → c < 4
    → from_code (channel_levels side c) (nat (code_of side.desc width rows frame x row c)) ≡ source_value side width rows frame x row c
code_means side width rows frame x row c valid below =
    ⊎_elim
    (λ (there : has_channel side.desc c ≡ true).
    ap (λ l. from_code l (nat (code_of side.desc width rows frame x row c))) (levels_there side c there)
    ∙ ap (λ code. from_code (levels_of side c) (nat code)) (code_of-there side.desc width rows frame x row c there)
    ∙ sym (value_there side width rows frame x row c there))
    (λ (missing : has_channel side.desc c ≡ false).
    ap (λ depth. from_code (levels (class_of side.desc c) depth side.range) (nat (code_of side.desc width rows frame x row c)))
    (depth_missing side.desc c missing)
    ∙ ap (λ code. from_code (levels (class_of side.desc c) (depth_of side.desc 0) side.range) (nat code))
    (code_of-missing side.desc width rows frame x row c missing)
    ∙ missing_value side c valid below missing
    ∙ value_missing side width rows frame x row c missing)
    (cases_Bool (has_channel side.desc c))
