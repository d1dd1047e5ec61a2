use Rattle.std.proofs.Common.{◌≡◌, ◌∙◌, ◌++◌, ap, sym, arith, rules, string_bytes}
use Rattle.desc_table.specs.Format.{format_at}
use Rattle.sws_run.specs.FormatList.{format_line}
use Rattle.sws_run.proofs.FormatLines.{all_lines, next_line}
use Rattle.sws_run.proofs.format_list.list_text.Goals as goal

pub loop-row-preserved : goal.loop-row-preserved
loop-row-preserved c =
    let more = next_line c.loop-row.row (omega (arith, c.count-row-end.ensures)) in
    let line : string_bytes c.push_format.new.text ≡ string_bytes c.loop-row.text ++ format_line (format_at c.in-Some.id) = search rules in
    line ∙ ap (λ id. string_bytes c.loop-row.text ++ format_line (format_at id)) c.in-Some.ensures.row
    ∙ ap (λ bytes. bytes ++ format_line (format_at c.loop-row.row)) c.loop-row.invariant ∙ sym more

pub returns : goal.returns
returns c = c.loop-row.invariant ∙ all_lines c.loop-row.row (omega (arith, c.count-row-end.ensures))
