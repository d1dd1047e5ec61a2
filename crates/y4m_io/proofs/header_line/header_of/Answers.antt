use Rattle.std.proofs.Common.{◌≡◌, sym, ap, ◌∙◌, refl, true, filter}
use Rattle.std.specs.Prelude.{Err}
use Rattle.std.specs.List.{slice_split, list_all}
use Rattle.y4m_io.specs.Tags.{is_space, is_tag, letter, is_known_tag, text_of}
use Rattle.y4m_io.specs.HeaderLine.{size_of, colour_of, header_of}
use Rattle.y4m_io.proofs.HeaderParts.{header_of-unknown, header_of-unsized, header_of-known, fault_from}
use Rattle.y4m_io.proofs.header_line.header_of.Goals as goal

pub returns-then-not-are_known-clause-fault : goal.returns-then-not-are_known-clause-fault
returns-then-not-are_known-clause-fault c = header_of-unknown (filter is_tag (slice_split is_space c.args.tags.now))
    (sym c.are_known.ensures ∙ c.if-not-are_known.true)

pub returns-in_err-width-clause-fault : goal.returns-in_err-width-clause-fault
returns-in_err-width-clause-fault c =
    let tags = filter is_tag (slice_split is_space c.args.tags.now) in
    let known : list_all is_known_tag tags ≡ true = sym c.are_known.ensures ∙ c.if-not-are_known.false in
    let size : size_of (text_of (letter "W") tags) (text_of (letter "H") tags) ≡ c.size.result = rw
    (← c.last_text.ensures, ← c.last_text-2.ensures) (sym c.size.ensures) in
    fault_from c.from_residual.result c.in_err-width.field-0.0 (λ fault. header_of tags ≡ Err fault) c.from_residual.ensures.1
    (header_of-unsized tags _ known (size ∙ c.in_err-width.was))

pub returns-in_err-format-clause-fault : goal.returns-in_err-format-clause-fault
returns-in_err-format-clause-fault c =
    let tags = filter is_tag (slice_split is_space c.args.tags.now) in
    let known : list_all is_known_tag tags ≡ true = sym c.are_known.ensures ∙ c.if-not-are_known.false in
    let size : size_of (text_of (letter "W") tags) (text_of (letter "H") tags) ≡ c.size.result = rw
    (← c.last_text.ensures, ← c.last_text-2.ensures) (sym c.size.ensures) in
    let colour : colour_of (text_of (letter "C") tags) ≡ c.colour.result = ap colour_of (sym c.last_text-3.ensures)
    ∙ sym c.colour.ensures in
    fault_from c.from_residual-in_err-format.result c.in_err-format.field-0.0 (λ fault. header_of tags ≡ Err fault)
    c.from_residual-in_err-format.ensures.1
    (header_of-known tags _ _ known (size ∙ c.in_ok-width.was) (colour ∙ c.in_err-format.was))

pub returns-clause-header : goal.returns-clause-header
returns-clause-header c =
    let tags = filter is_tag (slice_split is_space c.args.tags.now) in
    let known : list_all is_known_tag tags ≡ true = sym c.are_known.ensures ∙ c.if-not-are_known.false in
    let size : size_of (text_of (letter "W") tags) (text_of (letter "H") tags) ≡ c.size.result = rw
    (← c.last_text.ensures, ← c.last_text-2.ensures) (sym c.size.ensures) in
    let colour : colour_of (text_of (letter "C") tags) ≡ c.colour.result = ap colour_of (sym c.last_text-3.ensures)
    ∙ sym c.colour.ensures in
    let whole = header_of-known tags _ _ known (size ∙ c.in_ok-width.was) (colour ∙ c.in_ok-format.was) in
    whole ∙ rw (
      ← c.last_range.ensures,
      ← c.last_text-4.ensures,
      ← c.last_text-5.ensures,
      ← c.last_text-6.ensures,
      c.in_ok-copied.ensures,
      c.in_ok-copied-2.ensures,
      c.in_ok-copied-3.ensures,
    ) refl
