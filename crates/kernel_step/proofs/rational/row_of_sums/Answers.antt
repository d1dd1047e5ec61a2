use Rattle.std.proofs.Common.{suc, ◌+◌, ◌*◌, pos, slice_index_or, ap, ◌∙◌, arith, add-one}
use Rattle.kernel_step.specs.Rules.{with_product, row_sum, lane_numbers}
use Rattle.kernel_step.proofs.RowSums.{no_product}
use Rattle.kernel_step.proofs.rational.row_of_sums.Goals as goal
use Rattle.kernel_step.proofs.rational.row_of_sums.Goals.{then-has_entry, else-has_entry}

pub add_product-requires-clause-product : goal.add_product-requires-clause-product
add_product-requires-clause-product g c = λ i d below. (c.requires.fits i d below).products c.loop-j.j (omega arith)

pub add_product-requires-clause-fits : goal.add_product-requires-clause-fits
add_product-requires-clause-fits g c =
    λ i d below. rw (c.loop-j.invariant.set i d below) ((c.requires.fits i d below).sums (suc c.loop-j.j) (omega arith))

pub loop-j-preserved : goal.loop-j-preserved
loop-j-preserved g c =
    elim c.if-has_entry.branch [
      | then-has_entry w ↦ record {
        set = λ i d below. rw (w.sums-is, add-one) (w.add_product.ensures.set i d below
            ∙ ap (λ t. with_product t (g.N.Numerator.value (slice_index_or c.args.numbers.now (64 * c.loop-j.j + i) d))
            (slice_index_or c.args.row.now c.loop-j.j (pos 0))) (c.loop-j.invariant.set i d below));
        kept = λ j d apart. rw w.sums-is (w.add_product.ensures.kept j d apart ∙ c.loop-j.invariant.kept j d apart);
      }
      | else-has_entry w ↦ record {
        set = λ i d below. rw (w.sums-is, add-one) (c.loop-j.invariant.set i d below
            ∙ no_product (row_sum c.args.row.now (lane_numbers g.N.Numerator.value c.args.numbers.now i d) c.loop-j.j)
            (lane_numbers g.N.Numerator.value c.args.numbers.now i d c.loop-j.j) (slice_index_or c.args.row.now c.loop-j.j (pos 0))
            (c.has_entry.ensures w.if-has_entry.false));
        kept = λ j d apart. rw w.sums-is (c.loop-j.invariant.kept j d apart);
      }
    ]
