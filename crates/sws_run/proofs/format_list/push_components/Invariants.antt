-- The components that were passed are in the text.
use Rattle.std.proofs.Common.{◌≡◌, ◌++◌, take, string_bytes}
use Rattle.sws_run.specs.FormatList.{components_text}
use Rattle.sws_run.proofs.format_list.push_components.Given as goal

abbrev pub invariant-loop-comp : goal.invariant-loop-comp
invariant-loop-comp l = string_bytes l.text ≡ string_bytes l.fn.text ++ components_text (take l.comp-index l.comps)
