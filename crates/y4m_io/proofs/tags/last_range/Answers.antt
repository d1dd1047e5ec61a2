use Rattle.std.proofs.Common.{rules, sym, ◌∙◌}
use Rattle.std.proofs.lemmas.Iterator.Consumers.{YieldsList-at, YieldsList-from_filter, YieldsList-from_filter_map}
use Rattle.std.proofs.lemmas.Iterator.Splits.{YieldsList-from_slice_split}
use borrow.Author.Tests.{tests}
use Rattle.y4m_io.specs.Tags.{is_space, is_tag, range_named}
use Rattle.y4m_io.proofs.TagChains.{last_from_yields_List, option_map_same}
use Rattle.y4m_io.proofs.tags.last_range.Goals as goal

pub returns : goal.returns
returns c = sym (option_map_same c.last.result) ∙ last_from_yields_List c.last.result c.last.ensures.ran
    (YieldsList-from_filter_map _ range_named (YieldsList-at c.filter_map.ensures.source
    (YieldsList-from_filter _ is_tag (YieldsList-at c.filter.ensures.source
    (YieldsList-from_slice_split _ is_space c.args.tags.now c.split.ensures.rest c.split.ensures.done c.split.ensures.closure
    (λ x r q k. search (rules, tests)))) c.filter.ensures.closure (λ x r q k. search (rules, tests)))) c.filter_map.ensures.closure
    (λ x r q k. search (rules, tests)))
