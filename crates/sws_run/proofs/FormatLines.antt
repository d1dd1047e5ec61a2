-- The lines of the first formats of the table.
use Rattle.std.proofs.Common.{◌≡◌, ◌∙◌, ◌<◌, ◌≤◌, ◌+◌, ◌++◌, ℕ, [], ◌∷◌, ap, take, append-nil}
use Rattle.std.proofs.lemmas.List.{take_more, take_all}
use Rattle.std.proofs.lemmas.List.Concat.{flat_map-append}
use Rattle.desc_table.specs.Format.{format_at, format_count, formats, no_format}
use Rattle.sws_run.specs.FormatList.{format_line, lines_text, list_text}

-- one format more
pub next_line : (row : ℕ) → row < format_count → lines_text (take (row + 1) formats) ≡ lines_text (take row formats) ++ format_line
    (format_at row)
unfolding format_at
next_line row below =
    ap lines_text (take_more formats row no_format below)
    ∙ flat_map-append format_line (take row formats) (format_at row ∷ [])
    ∙ ap (λ bytes. lines_text (take row formats) ++ bytes) (append-nil (format_line (format_at row)))

-- all formats
pub all_lines : (row : ℕ) → format_count ≤ row → lines_text (take row formats) ≡ list_text
unfolding list_text
all_lines row past = ap lines_text (take_all row formats past)
