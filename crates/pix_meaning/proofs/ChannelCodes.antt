-- The codes of a source pixel's channels, and which components give them.
use Rattle.std.proofs.Common.{◌≡◌, ℕ, zero, suc, ◌-◌, ◌^◌, ◌<◌, ◌≤◌, ⊎_elim, Bool, true, false, ◌||◌, if◌then◌else◌, nat_eq, nat_le, List}
use Rattle.std.proofs.Common.{get_or, Some, None, sym, refl, ap, ◌∙◌, arith}
use Rattle.std.proofs.lemmas.Bool.{cases_Bool, cond_both, cond-true, cond-false, leb-true}
use Rattle.std.proofs.lemmas.Bool.Decides.{nat_tests}
use Rattle.std.proofs.lemmas.Nat.{pow_pos, pow_below}
use Rattle.pix_desc.specs.declared.desc.Desc.{Desc}
use Rattle.pix_desc.specs.Frame.{frame_component}
use Rattle.pix_desc.specs.Component.{component_of}
use Rattle.pix_desc.specs.Layouts.{IsValid, is_count}
use Rattle.pix_desc.proofs.Valid.{has_no_fault, laid_out}
use Rattle.pix_meaning.specs.Pairs.{has_channel, component_at, depth_of}
use Rattle.pix_meaning.specs.Values.{entry_component, source_component}
use Rattle.pix_meaning.specs.Channels.{missing_code, code_of}

pub code_of-there : (desc : Desc) (width rows : ℕ) (frame : List ℕ) (x row c : ℕ) → has_channel desc c ≡ true
    → code_of desc width rows frame x row c ≡ source_component desc width rows frame (component_at desc c) x row
unfolding code_of
code_of-there desc width rows frame x row c there =
    cond-true (has_channel desc c) (source_component desc width rows frame (component_at desc c) x row) (missing_code desc c) there

pub code_of-missing : (desc : Desc) (width rows : ℕ) (frame : List ℕ) (x row c : ℕ) → has_channel desc c ≡ false
    → code_of desc width rows frame x row c ≡ missing_code desc c
unfolding code_of
code_of-missing desc width rows frame x row c missing =
    cond-false (has_channel desc c) (source_component desc width rows frame (component_at desc c) x row) (missing_code desc c) missing

-- a source component without a palette
pub plain_component : (desc : Desc) (width rows : ℕ) (frame : List ℕ) (j x row : ℕ) → desc.palette ≡ false
    → source_component desc width rows frame j x row ≡ frame_component desc width rows frame j x row
unfolding source_component
plain_component desc width rows frame j x row none =
    cond-false desc.palette (entry_component width rows frame (frame_component desc width rows frame 0 x row) j)
    (frame_component desc width rows frame j x row) none

-- ---- the component of a channel is there

or_none : (b : Bool) → (b || false) ≡ b
or_none true = refl
or_none false = refl

some_counts : (rgb alpha : Bool) (n : ℕ) → is_count false rgb alpha n ≡ true → (rgb || nat_le 3 n) ≡ true → 3 ≤ n
some_counts true true n counted some = grind (arith, nat_tests)
some_counts true false n counted some = grind (arith, nat_tests)
some_counts false alpha n counted some = leb-true 3 n some

three_listed : (desc : Desc) → IsValid desc → desc.palette ≡ false → ((desc.rgb || desc.palette) || nat_le 3 desc.count) ≡ true
    → 3 ≤ desc.count
three_listed desc valid none there =
    some_counts desc.rgb desc.alpha desc.count
    (ap (λ p. is_count p desc.rgb desc.alpha desc.count) (sym none) ∙ (has_no_fault desc valid).counted)
    (ap (λ b. b || nat_le 3 desc.count) (sym (or_none desc.rgb)) ∙ ap (λ p. (desc.rgb || p) || nat_le 3 desc.count) (sym none) ∙ there)

-- of the four channels, where there is no palette
pub channel_listed : (desc : Desc) (c : ℕ) → IsValid desc → desc.palette ≡ false → c < 4 → has_channel desc c ≡ true
    → component_at desc c < desc.count
channel_listed desc zero valid none below there = (laid_out desc valid).some
channel_listed desc (suc zero) valid none below there = omega (arith, three_listed desc valid none there)
channel_listed desc (suc (suc zero)) valid none below there = omega (arith, three_listed desc valid none there)
channel_listed desc (suc (suc (suc zero))) valid none below there =
    let last : component_at desc 3 ≡ desc.count - 1 = ap (λ (p : Bool). (if p then 4 else desc.count) - 1) none in
    omega (arith, (laid_out desc valid).some)
channel_listed desc (suc (suc (suc (suc c)))) valid none below there = absurd (omega arith)

-- ---- how great the codes are

-- component 0 has a bit
pub depth_positive : (desc : Desc) → IsValid desc → 0 < depth_of desc 0
depth_positive desc valid =
    cond_both desc.palette 8 (component_of desc 0).depth (λ d. 0 < d) (λ _. omega arith)
    (λ _. (laid_out desc valid).deep 0 (laid_out desc valid).some)

-- the code of a missing channel has the depth of component 0
pub missing_code-below : (desc : Desc) (c : ℕ) → IsValid desc → missing_code desc c < 2 ^ depth_of desc 0
missing_code-below desc c valid =
    let d = depth_of desc 0 in
    let deep = depth_positive desc valid in
    cond_both (nat_eq c 3) (2 ^ d - 1) (2 ^ (d - 1)) (λ code. code < 2 ^ d) (λ _. omega (arith, pow_pos d))
    (λ _. pow_below (d - 1) d (omega arith))
