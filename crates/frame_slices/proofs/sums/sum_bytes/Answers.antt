use Rattle.std.proofs.Common.{◌≡◌, ◌+◌, ◌<◌, length, take, get_or, ◌∙◌, ap, arith, rules}
use Rattle.std.specs.Prelude.{sum}
use Rattle.std.proofs.lemmas.List.{take_more}
use Rattle.std.proofs.lemmas.List.Sums.{sum_by_push}
use Rattle.frame_slices.proofs.sums.sum_bytes.Goals as goal

pub loop-k-preserved : goal.loop-k-preserved
loop-k-preserved c =
    let xs = c.args.bytes.now in
    let k = c.loop-k.k in
    let within : k < length xs = search rules in
    let more : sum (take (k + 1) xs) ≡ sum (take k xs) + get_or xs k 0 = ap sum (take_more xs k 0 within)
    ∙ sum_by_push (λ n. n) (take k xs) (get_or xs k 0) in
    let byte : get_or xs k 0 < 256 = search rules in
    record {
      value = omega (arith, c.loop-k.invariant.value, c.from-total.ensures, more);
      most = omega (arith, c.loop-k.invariant.most, c.from-total.ensures, byte);
    }
