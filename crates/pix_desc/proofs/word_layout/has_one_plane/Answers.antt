use Rattle.std.proofs.Common.{◌∙◌, ◌<◌, length, arith}
use Rattle.pix_desc.specs.Component.{no_component}
use Rattle.pix_desc.proofs.Planes.{length-one_a_plane}
use Rattle.pix_desc.proofs.word_layout.has_one_plane.Goals as goal

pub returns-in-len1-up : goal.returns-in-len1-up
returns-in-len1-up c =
    let comps = c.args.comps.now in
    let some : 0 < length comps = omega (arith, c.in-len1-up.len_at_least) in
    c.is_alone.ensures ∙ length-one_a_plane comps no_component some
