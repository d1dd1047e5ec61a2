use Rattle.std.proofs.Common.{◌≡◌, ◌∙◌, ◌*◌, ap₂, length, IfOk, subst, sym}
use Rattle.std.specs.Prelude.{string_bytes, sum}
use Rattle.sws_run.specs.Report.{made_targets, sum_lines}
use Rattle.sws_run.proofs.Made.{length_of_targets}
use Rattle.sws_run.proofs.making.sum_text.Goals as goal

pub returns : goal.returns
returns g c =
    let making = c.args.making.now in
    let n = c.from.result * c.frame_len-count.result in
    let count : n ≡ length (made_targets making 4) =
    ap₂ (λ a b. a * b) c.from.ensures c.frame_len-count.ensures.value ∙ sym (length_of_targets making c.requires.pair.plain) in
    subst (λ m. IfOk c.sum_lines.result (λ text. string_bytes text ≡ sum_lines m (sum (made_targets making 4)))) count
    (subst (λ t. IfOk c.sum_lines.result (λ text. string_bytes text ≡ sum_lines n t)) c.in_ok-total.ensures c.sum_lines.ensures)
