-- Levels whose numbers are so small that the checked calls on them always answer.
use Rattle.std.specs.Prelude.{◌^◌}
use Rattle.frac_math.specs.Fraction.{nat, ◌<ℚ◌}
use Rattle.colour_matrix.specs.declared.class.Levels.{Levels}
use Rattle.op_range.specs.FractionBounds.{HasBound, bound}

-- the scale is above 0, and both are numbers of at most 24 bits over 256
pub record AreSmall (l : Levels) : Type 0 where
  pub above : nat 0 <ℚ l.scale
  pub scale : HasBound l.scale (bound 256 (2 ^ 24))
  pub base : HasBound l.base (bound 256 (2 ^ 24))
