use Rattle.std.proofs.Common.{rules}
use Rattle.std.specs.Str.{bytes_eq}
use Rattle.std.proofs.lemmas.Iterator.{YieldsList-from_slice}
use Rattle.std.proofs.lemmas.Iterator.Search.{find_from_yields_List}
use borrow.Author.Tests.{tests}
use Rattle.y4m_io.specs.StreamFormats.{colour_spaces, ColourSpace}
use Rattle.y4m_io.specs.Spaces.{space_of}
use Rattle.y4m_io.specs.declared.stream_format.Space.{Space}
use Rattle.y4m_io.proofs.SpaceRows.{found_row}
use Rattle.y4m_io.proofs.stream_format.space_with_text.Goals as goal

pub returns : goal.returns
returns c = found_row _ space_of (λ (space : ColourSpace). bytes_eq space.text c.args.text.now) c.find.result c.spaces.result.now
    colour_spaces
    (find_from_yields_List (λ (row : Space). bytes_eq row.text.now c.args.text.now) _ _ _ c.find.ensures.ran
    (YieldsList-from_slice c.spaces.result.now c.iter.ensures.rest) (λ x r q k. search (rules, tests))) c.spaces.ensures
