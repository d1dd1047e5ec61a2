use Rattle.std.proofs.Common.{◌∙◌, ap, FitsSigned, ◌+ℤ◌, rules}
use Rattle.std.specs.Int.{w128}
use Rattle.kernel_step.specs.Forms.{form_at, op_at}
use Rattle.kernel_step.specs.Rules.{row_sum}
use Rattle.kernel_step.proofs.Intervals.{plain}
use Rattle.kernel_affine.specs.Affine.{bound_below, whole_lane}
use Rattle.kernel_affine.specs.Chain.{greatest_at, map_row, to_greatest, unit_at}
use Rattle.kernel_affine.proofs.ChainFits.{fits_chain}
use Rattle.kernel_affine.proofs.steps.chain_value.Goals as goal

pub low_of-low-requires-clause-fits : goal.low_of-low-requires-clause-fits
low_of-low-requires-clause-fits g c =
    (fits_chain g.W.WholeNumber.number g.W.WholeNumber.bits g.N.Numerator.width c.args.ops.now c.args.forms.now c.args.k c.args.chain.now
    c.args.values.now c.requires.ready c.args.v c.requires.there).least

pub high_of-high-requires-clause-fits : goal.high_of-high-requires-clause-fits
high_of-high-requires-clause-fits g c =
    (fits_chain g.W.WholeNumber.number g.W.WholeNumber.bits g.N.Numerator.width c.args.ops.now c.args.forms.now c.args.k c.args.chain.now
    c.args.values.now c.requires.ready c.args.v c.requires.there).greatest

pub affine_wide-requires-clause-taken : goal.affine_wide-requires-clause-taken
affine_wide-requires-clause-taken g c =
    rw c.row_at-row.ensures
    (fits_chain g.W.WholeNumber.number g.W.WholeNumber.bits g.N.Numerator.width c.args.ops.now c.args.forms.now c.args.k c.args.chain.now
    c.args.values.now c.requires.ready c.args.v c.requires.there).taken

pub affine_wide-requires-clause-fitting : goal.affine_wide-requires-clause-fitting
affine_wide-requires-clause-fitting g c =
    (fits_chain g.W.WholeNumber.number g.W.WholeNumber.bits g.N.Numerator.width c.args.ops.now c.args.forms.now c.args.k c.args.chain.now
    c.args.values.now c.requires.ready c.args.v c.requires.there).fitting

pub affine_wide-requires-clause-entries : goal.affine_wide-requires-clause-entries
affine_wide-requires-clause-entries g c =
    rw c.row_at-row.ensures
    (fits_chain g.W.WholeNumber.number g.W.WholeNumber.bits g.N.Numerator.width c.args.ops.now c.args.forms.now c.args.k c.args.chain.now
    c.args.values.now c.requires.ready c.args.v c.requires.there).entries

pub affine_wide-requires-clause-unit : goal.affine_wide-requires-clause-unit
affine_wide-requires-clause-unit g c =
    let known : FitsSigned w128 c.unit_of-unit.result = search rules in
    rw (plain c.unit_of-unit.result known, c.unit_of-unit.ensures)
    (fits_chain g.W.WholeNumber.number g.W.WholeNumber.bits g.N.Numerator.width c.args.ops.now c.args.forms.now c.args.k c.args.chain.now
    c.args.values.now c.requires.ready c.args.v c.requires.there).unit

pub affine_wide-requires-clause-fits : goal.affine_wide-requires-clause-fits
affine_wide-requires-clause-fits g c =
    rw c.row_at-row.ensures
    (fits_chain g.W.WholeNumber.number g.W.WholeNumber.bits g.N.Numerator.width c.args.ops.now c.args.forms.now c.args.k c.args.chain.now
    c.args.values.now c.requires.ready c.args.v c.requires.there).fits

pub affine_wide-requires-clause-sums : goal.affine_wide-requires-clause-sums
affine_wide-requires-clause-sums g c =
    let known : FitsSigned w128 c.unit_of-unit.result = search rules in
    rw (c.row_at-row.ensures, plain c.unit_of-unit.result known, c.unit_of-unit.ensures)
    (fits_chain g.W.WholeNumber.number g.W.WholeNumber.bits g.N.Numerator.width c.args.ops.now c.args.forms.now c.args.k c.args.chain.now
    c.args.values.now c.requires.ready c.args.v c.requires.there).sums

pub returns-clause-set : goal.returns-clause-set
returns-clause-set g c =
    λ i d e within.
    let known : FitsSigned w128 c.unit_of-unit.result = search rules in
    let value = g.N.Numerator.value in
    let numbers = whole_lane g.W.WholeNumber.number c.args.values.now i d in
    let row = map_row (op_at c.args.ops.now c.args.chain.now.map) (form_at c.args.forms.now c.args.chain.now.map) c.args.v in
    let sum = row_sum row numbers 4 +ℤ unit_at c.args.forms.now c.args.chain.now.half c.args.v in
    (rw (c.row_at-row.ensures, plain c.unit_of-unit.result known, c.unit_of-unit.ensures) at (c.affine_wide.ensures.set i d e within))
    ∙ c.high_of-high.ensures (bound_below value c.low_of-low.result sum)
    ∙ ap (to_greatest (greatest_at c.args.ops.now c.args.forms.now c.args.chain.now.min c.args.v)) (c.low_of-low.ensures sum)
