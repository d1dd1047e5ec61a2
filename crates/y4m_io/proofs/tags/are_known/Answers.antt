use Rattle.std.proofs.Common.{rules}
use Rattle.std.proofs.lemmas.Iterator.Consumers.{YieldsList-at, YieldsList-from_filter}
use Rattle.std.proofs.lemmas.Iterator.Search.{all_from_yields_List}
use Rattle.std.proofs.lemmas.Iterator.Splits.{YieldsList-from_slice_split}
use borrow.Author.Tests.{tests}
use Rattle.y4m_io.specs.Tags.{is_space, is_tag, is_known_tag}
use Rattle.y4m_io.proofs.tags.are_known.Goals as goal

pub returns : goal.returns
returns c = all_from_yields_List is_known_tag _ _ _ c.all.ensures.ran
    (YieldsList-from_filter _ is_tag (YieldsList-at c.filter.ensures.source
    (YieldsList-from_slice_split _ is_space c.args.tags.now c.split.ensures.rest c.split.ensures.done c.split.ensures.closure
    (λ x r q k. search (rules, tests)))) c.filter.ensures.closure (λ x r q k. search (rules, tests))) (λ x r q k. search (rules, tests))
