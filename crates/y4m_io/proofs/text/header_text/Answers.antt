use Rattle.std.proofs.Common.{◌≡◌, refl, rules, unwrap_or, []}
use Rattle.std.specs.Prelude.{decimal}
use Rattle.y4m_io.specs.StreamFormats.{text_of_format}
use Rattle.y4m_io.specs.DefaultRange.{default_range}
use Rattle.y4m_io.specs.HeaderText.{range_text, header_text}
use Rattle.y4m_io.proofs.text.header_text.Goals as goal

pub returns : goal.returns
unfolding header_text
returns c =
    let width : c.as_bytes.result.now ≡ decimal c.args.header.now.width = search rules in
    let height : c.as_bytes-2.result.now ≡ decimal c.args.header.now.height = search rules in
    let colour : c.colour_text.result.now ≡ unwrap_or (text_of_format c.args.header.now.format) [] = c.colour_text.ensures in
    let range : c.range_text.result.now ≡ range_text (unwrap_or c.args.header.now.range (default_range c.args.header.now.format)) = search
    rules in
    rw (
      c.in_ok-push.ensures.items,
      c.in_ok-append-7.ensures,
      c.in_ok-append-6.ensures,
      c.in_ok-append-5.ensures,
      c.in_ok-append-4.ensures,
      c.in_ok-append-3.ensures,
      c.in_ok-append-2.ensures,
      c.in_ok-append.ensures,
      c.in_ok-text.ensures.items,
    )
    (rw (width, height, c.text_or-rate.ensures, c.text_or-interlace.ensures, c.text_or-aspect.ensures, colour, range) refl)
