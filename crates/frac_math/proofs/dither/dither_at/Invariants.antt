use Rattle.std.proofs.Common.{◌≡◌, ◌^◌}
use Rattle.frac_math.proofs.DitherLaws.{index_number}
use Rattle.frac_math.proofs.dither.dither_at.Given as goal

abbrev pub invariant-loop-i : goal.invariant-loop-i
invariant-loop-i l = record { sum : l.sum ≡ index_number l.i l.x l.y; cells : l.cells ≡ 4 ^ l.i }
