use Rattle.std.proofs.Common.{◌≡◌, ℕ, ◌+◌, ◌*◌, ◌%◌, ◌^◌, ◌<◌, pos, length, slice_index}
use Rattle.frac_math.specs.Dither.{dither_at}
use Rattle.frac_math.specs.Standing.{Stands}
use Rattle.kernel_step.proofs.dither.dither_numbers.Given as goal

abbrev pub invariant-loop-j : goal.invariant-loop-j
invariant-loop-j l = record {
  size : length l.numbers ≡ 16;
  set : (j : ℕ) → j < l.j → Stands (dither_at l.k (l.x % 16 + j) l.y) (pos (slice_index l.numbers j)) (2 * 4 ^ l.k) ×
      (0 < slice_index l.numbers j) × (slice_index l.numbers j < 2 * 4 ^ l.k);
}
