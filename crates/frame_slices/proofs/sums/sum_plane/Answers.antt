use Rattle.std.proofs.Common.{◌≡◌, ◌+◌, ◌<◌, length, take, get_or, sym, ◌∙◌, ap, arith, rules}
use Rattle.std.specs.Prelude.{sum}
use Rattle.std.proofs.lemmas.List.Sums.{sum_by-append}
use Rattle.frame_slices.specs.FrameSlices.{target_plane_of, target_plane_in}
use Rattle.frame_slices.proofs.Chained.{chain_more}
use Rattle.frame_slices.proofs.sums.sum_plane.Goals as goal

pub loop-k-preserved : goal.loop-k-preserved
loop-k-preserved c =
    let p = c.args.plane in
    let xs = c.args.slices.now in
    let k = c.loop-k.k in
    let y = c.index-slices-k.result in
    let within : k < length xs = search rules in
    let here : get_or xs k y ≡ y = search rules in
    let more : sum (target_plane_in p (take (k + 1) xs)) ≡ sum (target_plane_in p (take k xs)) + sum (target_plane_of p (get_or xs k y)) =
    ap sum (chain_more (target_plane_of p) xs k y within)
    ∙ sum_by-append (λ n. n) (target_plane_in p (take k xs)) (target_plane_of p (get_or xs k y)) in
    let added : c.sum_bytes-total.result ≡ sum (target_plane_of p (get_or xs k y)) =
    c.sum_bytes-total.ensures.value ∙ ap sum c.target_plane.ensures.value ∙ ap (λ slice. sum (target_plane_of p slice)) (sym here) in
    record {
      value = omega (arith, c.loop-k.invariant.value, added, more);
      most = omega (arith, c.loop-k.invariant.most, c.sum_bytes-total.ensures.most);
    }
