-- The rows so far have slices, and there is room for the others.
use Rattle.std.proofs.Common.{◌≡◌, ◌+◌, ◌≤◌, length, map}
use Rattle.std.specs.Prelude.{vec_len}
use Rattle.std.specs.Vec.{vec_capacity}
use Rattle.frame_slices.specs.FrameSlices.{place_of, output_bytes}
use Rattle.frame_slices.specs.Gathering.{place_made, bytes_made}
use Rattle.frame_slices.proofs.gathering.slices_again.Given as goal

abbrev pub invariant-loop-row : goal.invariant-loop-row
invariant-loop-row l = record {
  walks : goal.iterator-loop-row.can_next l.row-iterator × goal.iterator-loop-row.is_finite l.row-iterator;
  count : l.next + length l.row-iterator.rest.items ≡ length l.cells;
  room : vec_len l.slices + length l.row-iterator.rest.items ≤ vec_capacity l.slices;
  places : map place_of l.slices.items ≡ map place_made l.yielded;
  outputs : map output_bytes l.slices.items ≡ map bytes_made l.yielded;
}
