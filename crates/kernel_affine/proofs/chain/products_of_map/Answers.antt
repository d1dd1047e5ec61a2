use Rattle.std.proofs.Common.{◌<◌, sym, subst, arith, below_more, slice_set, length, rules}
use Rattle.std.proofs.lemmas.List.{get_or-set_other, get_or-set_same}
use Rattle.kernel_affine.specs.declared.products.Products.TheVariants.{One}
use Rattle.kernel_affine.specs.Affine.{AreTaken}
use Rattle.kernel_affine.specs.Chain.{map_row, products_at}
use Rattle.kernel_affine.proofs.chain.products_of_map.Goals as goal

pub loop-v-preserved : goal.loop-v-preserved
loop-v-preserved c =
    let v = c.loop-v.v in
    let op = c.args.op.now in
    let after = c.args.after.now in
    let count = c.args.before.now.count in
    let old = c.loop-v.products in
    let found = c.in_ok-products.field-0 in
    let inside : v < length old = omega (arith, c.loop-v.invariant.size) in
    let here : AreTaken found (map_row op after v) count = subst (λ row. AreTaken found row count) c.row_of_map.ensures c.in_ok-products.ensures
    in
    record {
      size = search rules;
      taken = below_more (λ u. AreTaken (products_at (slice_set old v found) u) (map_row op after u) count) v
          (λ u below. subst (λ products. AreTaken products (map_row op after u) count)
          (sym (get_or-set_other old v u found (One 0) (omega (arith, below)))) (c.loop-v.invariant.taken u below))
          (subst (λ products. AreTaken products (map_row op after v) count) (sym (get_or-set_same old v found (One 0) inside)) here);
    }
