use Rattle.std.proofs.Common.{◌≡◌, arith, slice_index_or}
use Rattle.std.proofs.lemmas.List.{get_or_default}
use Rattle.frac_math.specs.Fraction.{nat}
use Rattle.op_list.specs.Values.{fraction_in}
use Rattle.kernel_joint.proofs.Rooms.{small_plain}
use Rattle.kernel_joint.proofs.JointRows.{term_of, term_within}
use Rattle.kernel_joint.proofs.joint_row.row_factor.Goals as goal

pub joint_factor-requires-clause-positive : goal.joint_factor-requires-clause-positive
joint_factor-requires-clause-positive c = c.requires.within.positive c.args.j c.requires.j

pub joint_factor-requires-clause-whole : goal.joint_factor-requires-clause-whole
joint_factor-requires-clause-whole c =
    let same : slice_index_or c.args.row.now c.args.j c.index-row-j.result ≡ fraction_in c.args.row.now c.args.j =
    get_or_default c.args.row.now c.args.j _ (nat 0) (omega arith) in
    rw same (c.requires.within.whole c.args.j (omega arith))

pub joint_factor-requires-clause-over : goal.joint_factor-requires-clause-over
joint_factor-requires-clause-over c = c.requires.within.over c.args.j c.requires.j

pub joint_factor-requires-clause-size : goal.joint_factor-requires-clause-size
joint_factor-requires-clause-size c =
    let same : slice_index_or c.args.row.now c.args.j c.index-row-j.result ≡ fraction_in c.args.row.now c.args.j =
    get_or_default c.args.row.now c.args.j _ (nat 0) (omega arith) in
    rw same (term_within c.args.number_width c.args.e c.args.d c.args.row.now c.args.before.now c.args.j c.requires.within c.requires.j)

pub returns-clause-term : goal.returns-clause-term
returns-clause-term c =
    let k = c.joint_factor.result in
    let same : slice_index_or c.args.row.now c.args.j c.index-row-j.result ≡ fraction_in c.args.row.now c.args.j =
    get_or_default c.args.row.now c.args.j _ (nat 0) (omega arith) in
    let term = rw same at c.joint_factor.ensures.term in
    rw (small_plain c.args.number_width k c.joint_factor.ensures.small)
    (term_of c.args.before.now c.args.j (fraction_in c.args.row.now c.args.j) k _ c.requires.within.count c.requires.j term)
