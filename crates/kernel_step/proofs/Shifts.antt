-- Numbers moved up by a shift that drops what is too high, and down again.
use Rattle.std.proofs.Common.{◌≡◌, ℕ, ◌+◌, ◌*◌, ◌/◌, ◌%◌, ◌^◌, ◌<◌, ◌≤◌, ap, ◌∙◌, sym, arith}
use Rattle.std.proofs.Math.Nat.{add-zero, mul-mod_left, mul_assoc}
use Rattle.std.proofs.Math.Pow.{pow-add, pow-lt, mod-pow-add, field, shl-shr, shr-shr}

pub raised_and_lowered : (n up bits down : ℕ) → n * 2 ^ (up + down) % 2 ^ (bits + down) / 2 ^ down ≡ n * 2 ^ up % 2 ^ bits
raised_and_lowered n up bits down =
    ap (λ t. t % 2 ^ (bits + down) / 2 ^ down) (ap (λ t. n * t) (pow-add 2 up down) ∙ sym (mul_assoc n (2 ^ up) (2 ^ down)))
    ∙ field (n * 2 ^ up * 2 ^ down) bits down ∙ ap (λ t. t % 2 ^ bits) (shl-shr (n * 2 ^ up) down)

-- the lowest bits of a number, above others
pub placed_by_shifts : (n below width above : ℕ)
    → n * 2 ^ (below + above) % 2 ^ (width + below + above) / 2 ^ above ≡ n % 2 ^ width * 2 ^ below
placed_by_shifts n below width above =
    raised_and_lowered n below (width + below) above
    ∙ mod-pow-add (n * 2 ^ below) width below ∙ rw (shl-shr n below, mul-mod_left n (2 ^ below)) (add-zero _)

-- the bits of a number that stand above the lowest `below`
pub field_by_shifts : (n below width above : ℕ)
    → n * 2 ^ above % 2 ^ (width + below + above) / 2 ^ (above + below) ≡ n / 2 ^ below % 2 ^ width
field_by_shifts n below width above =
    sym (shr-shr (n * 2 ^ above % 2 ^ (width + below + above)) above below)
    ∙ ap (λ t. t / 2 ^ below)
    (field (n * 2 ^ above) (width + below) above ∙ ap (λ t. t % 2 ^ (width + below)) (shl-shr n above))
    ∙ field n width below

pub power_order : (a b : ℕ) → 2 ^ a ≤ 2 ^ b → a ≤ b
power_order a b h = let not : ¬ (b < a) = λ past. omega (arith, h, pow-lt past) in omega (arith, not)
