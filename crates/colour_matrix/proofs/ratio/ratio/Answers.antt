use Rattle.std.proofs.Common.{pos, sym, ◌∙◌, rules}
use Rattle.std.specs.Int.{w128}
use Rattle.std.specs.Int.RustNames.{FitsSigned}
use Rattle.frac_math.proofs.Ratios.{ratio_known}
use Rattle.colour_matrix.proofs.ratio.ratio.Goals as goal

pub unwrap-requires : goal.unwrap-requires
unwrap-requires c =
    let f : FitsSigned w128 c.from.result = search rules in
    let g : FitsSigned w128 c.from-2.result = search rules in
    rw (ratio_known c.new.result c.from.result
    (pos c.args.numerator) c.from-2.result c.args.denominator f g c.from.ensures c.from-2.ensures c.requires c.new.ensures.exact)

pub returns : goal.returns
returns c =
    let f : FitsSigned w128 c.from.result = search rules in
    let g : FitsSigned w128 c.from-2.result = search rules in
    let is = sym c.unwrap.ensures ∙ ratio_known c.new.result c.from.result
    (pos c.args.numerator) c.from-2.result c.args.denominator f g c.from.ensures c.from-2.ensures c.requires c.new.ensures.exact in
    cc
