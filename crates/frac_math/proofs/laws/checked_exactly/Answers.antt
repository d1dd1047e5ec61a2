use Rattle.frac_math.proofs.CheckedCalls.{checked_ratio_exact, checked_sum_exact, checked_product_exact, checked_quotient_exact}
use Rattle.frac_math.proofs.laws.checked_exactly.Goals as goal

pub returns : goal.returns
returns c = record {
  ratio = checked_ratio_exact;
  sum = checked_sum_exact;
  product = checked_product_exact;
  quotient =
      checked_quotient_exact;
}
