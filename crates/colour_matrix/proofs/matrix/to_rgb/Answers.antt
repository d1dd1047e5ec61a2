use Rattle.std.proofs.Common.{ap, ◌∙◌}
use Rattle.colour_matrix.specs.Values.{by_rows, product}
use Rattle.colour_matrix.specs.Colour.{from_rgb_rows}
use Rattle.colour_matrix.proofs.ColourLaws.{to_rgb-from_rgb}
use Rattle.colour_matrix.proofs.ColourRows.{by_rows-to_rgb_rows, product-to_rgb_rows}
use Rattle.colour_matrix.proofs.Coefficients.{to_rgb_rows_are}
use Rattle.colour_matrix.proofs.matrix.to_rgb.Goals as goal

pub returns-clause-coefficients : goal.returns-clause-coefficients
returns-clause-coefficients c =
    to_rgb_rows_are c.args.m.now _ _ _ _ _ _ c.requires c.whole-one.ensures c.whole-zero.ensures
    (rw (c.from-q.ensures, c.from-r.ensures) at c.ratio.ensures)
    (rw (c.from-q.ensures, c.from-r.ensures, c.from-b.ensures) at c.negative_ratio.ensures)
    (rw (c.from-q.ensures, c.from-r.ensures, c.from-b.ensures) at c.negative_ratio-2.ensures)
    (rw (c.from-q.ensures, c.from-b.ensures) at c.ratio-2.ensures)

pub returns-clause-equations : goal.returns-clause-equations
returns-clause-equations c = λ e. ap (λ rows. by_rows rows e) (returns-clause-coefficients c) ∙ by_rows-to_rgb_rows c.args.m.now e

pub returns-clause-undoes : goal.returns-clause-undoes
returns-clause-undoes c = λ e. to_rgb-from_rgb c.args.m.now e c.requires

pub returns-clause-inverse : goal.returns-clause-inverse
returns-clause-inverse c = ap (λ rows. product rows (from_rgb_rows c.args.m.now)) (returns-clause-coefficients c)
    ∙ product-to_rgb_rows c.args.m.now c.requires
