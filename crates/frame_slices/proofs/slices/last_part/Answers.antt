use Rattle.std.proofs.Common.{◌≡◌, ◌++◌, false, sym, ap, rules, ◌∙◌, append-nil}
use Rattle.frame_slices.specs.FrameSlices.{source_in}
use Rattle.frame_slices.proofs.Fronts.{splits_at, nothing_left}
use Rattle.frame_slices.proofs.slices.last_part.Goals as goal

pub returns-then-whole-clause-splits : goal.returns-then-whole-clause-splits
returns-then-whole-clause-splits c = λ all same.
    let frame = source_in c.args.whole.now all in
    sym (append-nil frame) ∙ ap (λ l. frame ++ l) (sym (nothing_left all))

pub returns-clause-splits : goal.returns-clause-splits
returns-clause-splits c = λ all same.
    let whole = c.args.whole.now in
    let none : whole.source.palette ≡ false = search rules in
    splits_at whole c.last_plane.result c.args.slices.now all c.last_plane.ensures.plane none c.requires.places same
    c.last_plane.ensures.last
