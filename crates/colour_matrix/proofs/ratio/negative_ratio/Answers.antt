use Rattle.std.proofs.Common.{pos, neg_ℤ, ◌-ℤ◌, sym, ◌∙◌, rules}
use Rattle.std.specs.Int.{w128, cast_signed, cast_unsigned}
use Rattle.std.specs.Int.RustNames.{FitsSigned}
use Rattle.frac_math.proofs.Casts.{negative_is}
use Rattle.frac_math.proofs.Ratios.{ratio_known}
use Rattle.colour_matrix.proofs.ratio.negative_ratio.Goals as goal

pub unwrap-requires : goal.unwrap-requires
unwrap-requires c =
    let f : FitsSigned w128 c.from.result = search rules in
    let g : FitsSigned w128 c.from-2.result = search rules in
    let z = pos 0 -ℤ cast_signed w128 (cast_unsigned w128 c.from.result) in
    let h : FitsSigned w128 z = search rules in
    rw (ratio_known c.new.result z (neg_ℤ (pos c.args.numerator)) c.from-2.result c.args.denominator h g
    (negative_is c.from.result c.args.numerator f c.from.ensures) c.from-2.ensures c.requires c.new.ensures.exact)

pub returns : goal.returns
returns c =
    let f : FitsSigned w128 c.from.result = search rules in
    let g : FitsSigned w128 c.from-2.result = search rules in
    let z = pos 0 -ℤ cast_signed w128 (cast_unsigned w128 c.from.result) in
    let h : FitsSigned w128 z = search rules in
    let is = sym c.unwrap.ensures ∙ ratio_known c.new.result z (neg_ℤ (pos c.args.numerator)) c.from-2.result c.args.denominator h g
    (negative_is c.from.result c.args.numerator f c.from.ensures) c.from-2.ensures c.requires c.new.ensures.exact in
    cc
