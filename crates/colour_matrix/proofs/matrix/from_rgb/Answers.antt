use Rattle.std.proofs.Common.{ap, ◌∙◌}
use Rattle.colour_matrix.specs.Values.{by_rows, product}
use Rattle.colour_matrix.specs.Colour.{to_rgb_rows}
use Rattle.colour_matrix.proofs.ColourLaws.{from_rgb-to_rgb}
use Rattle.colour_matrix.proofs.ColourRows.{by_rows-from_rgb_rows, product-from_rgb_rows}
use Rattle.colour_matrix.proofs.Coefficients.{from_rgb_rows_are}
use Rattle.colour_matrix.proofs.matrix.from_rgb.Goals as goal

pub returns-clause-coefficients : goal.returns-clause-coefficients
returns-clause-coefficients c =
    let q = c.from-q.ensures in let r = c.from-r.ensures in let b = c.from-b.ensures in
    from_rgb_rows_are c.args.m.now _ _ _ _ _ _ _ _ c.requires c.ratio-half.ensures
    (rw (q, r) at c.ratio.ensures)
    (rw (q, r, b) at c.ratio-2.ensures)
    (rw (q, b) at c.ratio-3.ensures)
    (rw (q, r, b) at c.negative_ratio.ensures)
    (rw (q, r, b) at c.negative_ratio-2.ensures)
    (rw (q, r, b) at c.negative_ratio-3.ensures)
    (rw (q, r, b) at c.negative_ratio-4.ensures)

pub returns-clause-equations : goal.returns-clause-equations
returns-clause-equations c = λ e. ap (λ rows. by_rows rows e) (returns-clause-coefficients c)
    ∙ by_rows-from_rgb_rows c.args.m.now e c.requires

pub returns-clause-undoes : goal.returns-clause-undoes
returns-clause-undoes c = λ e. from_rgb-to_rgb c.args.m.now e c.requires

pub returns-clause-inverse : goal.returns-clause-inverse
returns-clause-inverse c = ap (λ rows. product rows (to_rgb_rows c.args.m.now)) (returns-clause-coefficients c)
    ∙ product-from_rgb_rows c.args.m.now c.requires
