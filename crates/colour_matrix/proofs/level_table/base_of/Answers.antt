use Rattle.colour_matrix.specs.Levels.{levels}
use Rattle.colour_matrix.proofs.level_table.base_of.Goals as goal
use Rattle.colour_matrix.proofs.level_table.base_of.Goals.{in_default-via-in-Luma+in_default, in_default-via-in_default}

pub returns-in-Luma-Limited : goal.returns-in-Luma-Limited
unfolding levels
returns-in-Luma-Limited c = rw (c.in-Luma-Limited.is-0, c.in-Luma-Limited.is-1) c.scaled.ensures

pub returns-in-Chroma-Limited : goal.returns-in-Chroma-Limited
unfolding levels
returns-in-Chroma-Limited c = rw (c.in-Chroma-Limited.is-0, c.in-Chroma-Limited.is-1) c.scaled-in-Chroma-Limited.ensures

pub returns-in-Chroma-Full : goal.returns-in-Chroma-Full
unfolding levels
returns-in-Chroma-Full c = rw (c.in-Chroma-Full.is-0, c.in-Chroma-Full.is-1) (rw c.power.ensures at c.whole.ensures)

pub returns-in_default : goal.returns-in_default
unfolding levels
returns-in_default c =
    elim c.in_default.branch [
      | in_default-via-in-Luma+in_default w ↦ rw (w.in_default.is-0, w.in_default.is-1) c.whole-in_default.ensures
      | in_default-via-in_default w ↦ rw w.in_default.is-0 c.whole-in_default.ensures
    ]
