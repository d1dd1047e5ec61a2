-- The plane of the slices so far was read.
use Rattle.std.proofs.Common.{◌≡◌, ◌≢◌, ℕ, ◌*◌, ◌^◌, ◌<◌, ◌≤◌, length, map, take}
use Rattle.pix_io.specs.Faults.{HasNoFault}
use Rattle.pix_io.specs.Streams.{Takes}
use Rattle.frame_slices.specs.FrameSlices.{place_of, plane_of, plane_in, behind_of}
use Rattle.frame_slices.proofs.slices.read_plane.Given as goal

abbrev pub invariant-loop-k : goal.invariant-loop-k
invariant-loop-k g l = record {
  count : length l.slices ≡ length l.fn.slices;
  taken : Takes (g.In.Source.shown l.fn.input) (g.In.Source.shown l.input) (plane_in l.plane (take l.k l.slices));
  quiet : HasNoFault (g.In.Source.shown l.fn.input) (g.In.Source.shown l.input);
  filled : l.filled ≡ length (plane_in l.plane (take l.k l.slices));
  small : l.filled ≤ l.k * 2 ^ 34;
  others : (q : ℕ) → q < 4 → q ≢ l.plane → map (plane_of q) l.slices ≡ map (plane_of q) l.fn.slices;
  behind : map behind_of l.slices ≡ map behind_of l.fn.slices;
  places : map place_of l.slices ≡ map place_of l.fn.slices;
}
