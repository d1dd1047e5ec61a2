use Rattle.std.proofs.Common.{◌-◌, ◌/◌, ◌%◌, ◌^◌, bit_and, ◌∙◌, ap, arith}
use Rattle.std.proofs.lemmas.Nat.{one_shl, and_mask}
use Rattle.pix_desc.proofs.component.bits_of.Goals as goal

pub returns : goal.returns
returns c =
    let s = c.args.shift in
    let d = c.args.depth in
    ap (λ ones. bit_and (c.from.result / 2 ^ s) (ones - 1)) (one_shl d 32 (omega arith))
    ∙ and_mask (c.from.result / 2 ^ s) d
    ∙ ap (λ n. n / 2 ^ s % 2 ^ d) c.from.ensures
