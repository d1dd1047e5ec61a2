use Rattle.colour_matrix.specs.Levels.{levels}
use Rattle.colour_matrix.proofs.level_table.scale_of.Goals as goal
use Rattle.colour_matrix.proofs.level_table.scale_of.Goals.{in_default-via-in-Luma+in_default, in_default-via-in-Chroma+in_default}
use Rattle.colour_matrix.proofs.level_table.scale_of.Goals.{in_default-via-in_default}

pub returns-in-Luma-Limited : goal.returns-in-Luma-Limited
unfolding levels
returns-in-Luma-Limited c = rw (c.in-Luma-Limited.is-0, c.in-Luma-Limited.is-1) c.scaled.ensures

pub returns-in-Chroma-Limited : goal.returns-in-Chroma-Limited
unfolding levels
returns-in-Chroma-Limited c = rw (c.in-Chroma-Limited.is-0, c.in-Chroma-Limited.is-1) c.scaled-in-Chroma-Limited.ensures

pub returns-in_default : goal.returns-in_default
unfolding levels
returns-in_default c =
    let greatest = rw c.power.ensures at c.whole.ensures in
    elim c.in_default.branch [
      | in_default-via-in-Luma+in_default w ↦ rw (w.in_default.is-0, w.in_default.is-1) greatest
      | in_default-via-in-Chroma+in_default w ↦ rw (w.in_default.is-0, w.in_default.is-1) greatest
      | in_default-via-in_default w ↦ rw w.in_default.is-0 greatest
    ]
