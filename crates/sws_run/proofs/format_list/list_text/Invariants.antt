-- The formats of the rows that were passed are in the text.
use Rattle.std.proofs.Common.{◌≡◌, take, string_bytes}
use Rattle.desc_table.specs.Format.{formats}
use Rattle.sws_run.specs.FormatList.{lines_text}
use Rattle.sws_run.proofs.format_list.list_text.Given as goal

abbrev pub invariant-loop-row : goal.invariant-loop-row
invariant-loop-row l = string_bytes l.text ≡ lines_text (take l.row formats)
