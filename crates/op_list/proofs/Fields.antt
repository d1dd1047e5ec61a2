-- Fields put together to one number.
use Rattle.std.proofs.Common.{ℕ, ◌+◌, ◌*◌, ◌%◌, ◌^◌, ◌<◌, ◌≤◌, arith}
use Rattle.std.proofs.lemmas.Nat.{pow_pos, pow-add}
use Rattle.std.proofs.Math.Nat.{mul-le-mul_right, mod-lt, pow-le-pow_right}

-- a field leaves room for all that lies below it
pub placed_below : (value width below : ℕ) → value % 2 ^ width * 2 ^ below + 2 ^ below ≤ 2 ^ (width + below)
placed_below value width below =
    let small : value % 2 ^ width + 1 ≤ 2 ^ width = omega (arith, mod-lt value (pow_pos width)) in
    let scaled : (value % 2 ^ width + 1) * 2 ^ below ≤ 2 ^ width * 2 ^ below = mul-le-mul_right (2 ^ below) small in
    omega (arith, scaled, pow-add 2 width below)

-- four fields fit 32 bits where their widths do
pub packed_below : (first second third fourth width0 width1 width2 width3 below0 below1 below2 : ℕ) → width0 + below0 ≤ 32
    → width1 + below1 ≤ below0 → width2 + below2 ≤ below1 → width3 ≤ below2
    → first + 2 ^ below0 ≤ 2 ^ (width0 + below0) → second + 2 ^ below1 ≤ 2 ^ (width1 + below1) → third + 2 ^ below2 ≤ 2 ^ (width2 + below2)
    → fourth + 2 ^ 0 ≤ 2 ^ (width3 + 0)
    → first + second + third + fourth < 2 ^ 32
packed_below first second third fourth width0 width1 width2 width3 below0 below1 below2 all fits1 fits2 fits3 p0 p1 p2 p3 =
    let two : 0 < 2 = omega arith in
    let q0 : 2 ^ (width0 + below0) ≤ 2 ^ 32 = pow-le-pow_right two all in
    let q1 : 2 ^ (width1 + below1) ≤ 2 ^ below0 = pow-le-pow_right two fits1 in
    let q2 : 2 ^ (width2 + below2) ≤ 2 ^ below1 = pow-le-pow_right two fits2 in
    let q3 : 2 ^ (width3 + 0) ≤ 2 ^ below2 = pow-le-pow_right two (omega (arith, fits3)) in
    omega (arith, q0, q1, q2, q3, p0, p1, p2, p3)
