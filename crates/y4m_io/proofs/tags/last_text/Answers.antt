use Rattle.std.proofs.Common.{◌≡◌, rules, ap, ◌∙◌, drop, Some, filter, None, length, le_refl}
use Rattle.std.specs.List.{slice_split, last_or}
use Rattle.std.specs.Option.{option_map}
use Rattle.std.proofs.lemmas.Iterator.Consumers.{YieldsList-at, YieldsList-from_filter}
use Rattle.std.proofs.lemmas.Iterator.Splits.{YieldsList-from_slice_split}
use Rattle.std.proofs.lemmas.Slice.{between_to_end}
use borrow.Author.Tests.{tests}
use Rattle.y4m_io.specs.Tags.{is_space, is_tag, has_letter}
use Rattle.y4m_io.proofs.TagChains.{last_from_yields_List}
use Rattle.y4m_io.proofs.tags.last_text.Goals as goal

pub returns-in_err-tag : goal.returns-in_err-tag
returns-in_err-tag c =
    let last : option_map (λ tag. tag.now) c.last.result ≡ last_or None
    (filter (has_letter c.args.letter) (filter is_tag (slice_split is_space c.args.tags.now))) = last_from_yields_List c.last.result
    c.last.ensures.ran
    (YieldsList-from_filter _ (has_letter c.args.letter) (YieldsList-at c.filter-2.ensures.source
    (YieldsList-from_filter _ is_tag (YieldsList-at c.filter.ensures.source
    (YieldsList-from_slice_split _ is_space c.args.tags.now c.split.ensures.rest c.split.ensures.done c.split.ensures.closure
    (λ x r q k. search (rules, tests)))) c.filter.ensures.closure (λ x r q k. search (rules, tests)))) c.filter-2.ensures.closure
    (λ x r q k. search (rules, tests))) in
    rw c.from_residual.ensures (ap (option_map (drop 1)) (rw c.in_err-tag.was at last))

pub returns : goal.returns
returns c =
    let last : option_map (λ tag. tag.now) c.last.result ≡ last_or None
    (filter (has_letter c.args.letter) (filter is_tag (slice_split is_space c.args.tags.now))) = last_from_yields_List c.last.result
    c.last.ensures.ran
    (YieldsList-from_filter _ (has_letter c.args.letter) (YieldsList-at c.filter-2.ensures.source
    (YieldsList-from_filter _ is_tag (YieldsList-at c.filter.ensures.source
    (YieldsList-from_slice_split _ is_space c.args.tags.now c.split.ensures.rest c.split.ensures.done c.split.ensures.closure
    (λ x r q k. search (rules, tests)))) c.filter.ensures.closure (λ x r q k. search (rules, tests)))) c.filter-2.ensures.closure
    (λ x r q k. search (rules, tests))) in
    ap Some (between_to_end c.in_ok-tag.tag.now 1 (length c.in_ok-tag.tag.now) (le_refl (length c.in_ok-tag.tag.now)))
    ∙ ap (option_map (drop 1)) (rw c.in_ok-tag.was at last)
