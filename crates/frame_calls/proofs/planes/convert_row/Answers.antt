use Rattle.std.proofs.Common.{rules, ◌∙◌, ℕ, slice_index}
use Rattle.frame_calls.proofs.PlaneRows.{put_alone, put_there, same_rows}
use Rattle.frame_calls.proofs.planes.convert_row.Goals as goal

pub returns-clause-put : goal.returns-clause-put
returns-clause-put c =
    let at : ℕ → ℕ = slice_index c.args.strides.now in
    let size : ℕ → ℕ = slice_index c.args.sizes.now in
    record {
      first = put_alone c.args.row (at 0) (size 0) c.args.first.now c.convert_planes.new.first c.requires.target.first (search rules);
      second = put_alone c.args.row (at 1) (size 1) c.args.second.now c.convert_planes.new.second c.requires.target.second (search rules);
      third = put_alone c.args.row (at 2) (size 2) c.args.third.now c.convert_planes.new.third c.requires.target.third (search rules);
      fourth = put_alone c.args.row (at 3) (size 3) c.args.fourth.now c.convert_planes.new.fourth c.requires.target.fourth (search rules);
    }

pub returns-clause-target : goal.returns-clause-target
returns-clause-target c =
    let at : ℕ → ℕ = slice_index c.args.strides.now in
    let size : ℕ → ℕ = slice_index c.args.sizes.now in
    same_rows
    (put_there c.args.row (at 0) (size 0) c.args.first.now c.convert_planes.new.first c.requires.target.first (search rules))
    (put_there c.args.row (at 1) (size 1) c.args.second.now c.convert_planes.new.second c.requires.target.second (search rules))
    (put_there c.args.row (at 2) (size 2) c.args.third.now c.convert_planes.new.third c.requires.target.third (search rules))
    (put_there c.args.row (at 3) (size 3) c.args.fourth.now c.convert_planes.new.fourth c.requires.target.fourth (search rules))
    ∙ c.convert_planes.ensures.target
