use Rattle.std.proofs.Common.{◌≡◌, ◌*◌, ◌<◌, ◌≤◌, List, [], ◌∷◌, ℤ, arith, subst, unsigned_abs}
use Rattle.std.proofs.Common.{to_z, of_z}
use Rattle.std.specs.Int.{w128}
use Rattle.op_list.specs.Values.{fraction_in}
use Rattle.frac_math.proofs.FractionRing.{product_positive}
use Rattle.kernel_step.specs.Forms.{IsTerm, extent_at, factor}
use Rattle.kernel_joint.specs.Joint.{part, room, row_total, row_most, term_most}
use Rattle.kernel_step.proofs.Intervals.{four_cases, five_cases}
use Rattle.kernel_joint.proofs.Rooms.{small_plain}
use Rattle.kernel_joint.proofs.JointRows.{row_is, total_below, constant_within}
use Rattle.kernel_step.proofs.Factors.{five}
use Rattle.kernel_joint.proofs.joint_row.joint_row.Goals as goal

pub returns-clause-row : goal.returns-clause-row
returns-clause-row c =
    let before = c.args.before.now in
    let row = c.args.row.now in
    let d = c.args.d * c.args.e in
    let k0 = c.row_factor.result in
    let k1 = c.row_factor-2.result in
    let k2 = c.row_factor-3.result in
    let k3 = c.row_factor-4.result in
    let k4 = c.row_constant.result in
    let within = constant_within c.args.number_width c.args.e c.args.d row before c.requires in
    let small4 : unsigned_abs k4 < room c.args.number_width = omega (arith, c.row_constant.ensures.size, within) in
    let e0 : to_z w128 (of_z w128 k0) ≡ k0 = small_plain c.args.number_width k0 c.row_factor.ensures.small in
    let e1 : to_z w128 (of_z w128 k1) ≡ k1 = small_plain c.args.number_width k1 c.row_factor-2.ensures.small in
    let e2 : to_z w128 (of_z w128 k2) ≡ k2 = small_plain c.args.number_width k2 c.row_factor-3.ensures.small in
    let e3 : to_z w128 (of_z w128 k3) ≡ k3 = small_plain c.args.number_width k3 c.row_factor-4.ensures.small in
    let e4 : to_z w128 (of_z w128 k4) ≡ k4 = small_plain c.args.number_width k4 small4 in
    let factors : List ℤ = k0 ∷ k1 ∷ k2 ∷ k3 ∷ k4 ∷ [] in
    let shown : List ℤ = to_z w128 (of_z w128 k0) ∷ to_z w128 (of_z w128 k1) ∷ to_z w128 (of_z w128 k2) ∷ to_z w128 (of_z w128 k3)
    ∷ to_z w128 (of_z w128 k4) ∷ [] in
    let same : shown ≡ factors = five e0 e1 e2 e3 e4 in
    let total : c.row_total.result ≡ row_total before factors =
    subst (λ t. c.row_total.result ≡ row_total before t) same c.row_total.ensures.value in
    let below : row_total before factors ≤ row_most c.args.e c.args.d row before =
    total_below before factors c.args.e c.args.d row c.row_constant.ensures.size
    (λ j small. four_cases (λ t. part before factors t ≤ term_most c.args.e c.args.d (fraction_in row t) (extent_at before t)) j small
    c.row_factor.ensures.size c.row_factor-2.ensures.size c.row_factor-3.ensures.size c.row_factor-4.ensures.size) in
    rw (e0, e1, e2, e3, e4)
    (row_is c.args.number_width before row factors c.around-extent.result d c.row_total.result c.requires.count
    (product_positive c.args.d c.args.e c.requires.some.1 c.requires.some.0) c.around-extent.ensures
    (omega (arith, total, below, c.requires.most))
    (λ j small. four_cases (λ t. IsTerm before (fraction_in row t) (factor factors t) d t) j small
    c.row_factor.ensures.term c.row_factor-2.ensures.term c.row_factor-3.ensures.term c.row_factor-4.ensures.term)
    c.row_constant.ensures.value
    (λ j small. five_cases (λ t. unsigned_abs (factor factors t) < room c.args.number_width) j (omega (arith, small))
    c.row_factor.ensures.small c.row_factor-2.ensures.small c.row_factor-3.ensures.small c.row_factor-4.ensures.small small4)
    (omega (arith, total)))

pub returns-clause-size : goal.returns-clause-size
returns-clause-size c =
    let before = c.args.before.now in
    let row = c.args.row.now in
    let k0 = c.row_factor.result in
    let k1 = c.row_factor-2.result in
    let k2 = c.row_factor-3.result in
    let k3 = c.row_factor-4.result in
    let k4 = c.row_constant.result in
    let within = constant_within c.args.number_width c.args.e c.args.d row before c.requires in
    let small4 : unsigned_abs k4 < room c.args.number_width = omega (arith, c.row_constant.ensures.size, within) in
    let e0 : to_z w128 (of_z w128 k0) ≡ k0 = small_plain c.args.number_width k0 c.row_factor.ensures.small in
    let e1 : to_z w128 (of_z w128 k1) ≡ k1 = small_plain c.args.number_width k1 c.row_factor-2.ensures.small in
    let e2 : to_z w128 (of_z w128 k2) ≡ k2 = small_plain c.args.number_width k2 c.row_factor-3.ensures.small in
    let e3 : to_z w128 (of_z w128 k3) ≡ k3 = small_plain c.args.number_width k3 c.row_factor-4.ensures.small in
    let e4 : to_z w128 (of_z w128 k4) ≡ k4 = small_plain c.args.number_width k4 small4 in
    let factors : List ℤ = k0 ∷ k1 ∷ k2 ∷ k3 ∷ k4 ∷ [] in
    let shown : List ℤ = to_z w128 (of_z w128 k0) ∷ to_z w128 (of_z w128 k1) ∷ to_z w128 (of_z w128 k2) ∷ to_z w128 (of_z w128 k3)
    ∷ to_z w128 (of_z w128 k4) ∷ [] in
    let same : shown ≡ factors = five e0 e1 e2 e3 e4 in
    let total : c.row_total.result ≡ row_total before factors =
    subst (λ t. c.row_total.result ≡ row_total before t) same c.row_total.ensures.value in
    let below : row_total before factors ≤ row_most c.args.e c.args.d row before =
    total_below before factors c.args.e c.args.d row c.row_constant.ensures.size
    (λ j small. four_cases (λ t. part before factors t ≤ term_most c.args.e c.args.d (fraction_in row t) (extent_at before t)) j small
    c.row_factor.ensures.size c.row_factor-2.ensures.size c.row_factor-3.ensures.size c.row_factor-4.ensures.size) in
    omega (arith, c.around-extent.ensures.most, total, below)
