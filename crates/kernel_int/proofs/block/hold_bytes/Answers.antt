use Rattle.std.proofs.Common.{ℕ, ◌<◌}
use Rattle.std.proofs.lemmas.List.Elements.{All-append}
use Rattle.kernel_int.proofs.block.hold_bytes.Goals as goal

pub returns : goal.returns
returns c =
    let input = c.args.input.now in
    let byte : ℕ → Type 0 = λ n. n < 256 in
    All-append byte input.first.now _ c.are_bytes.ensures (All-append byte input.second.now _ c.are_bytes-2.ensures
    (All-append byte input.third.now _ c.are_bytes-3.ensures
    (All-append byte input.fourth.now input.palette.now c.are_bytes-4.ensures c.are_bytes-5.ensures)))
