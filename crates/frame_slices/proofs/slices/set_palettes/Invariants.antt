-- The slices so far have the palette.
use Rattle.std.proofs.Common.{◌≡◌, ℕ, ◌<◌, length, map, take}
use Rattle.frame_slices.specs.FrameSlices.{place_of, plane_of, behind_of}
use Rattle.frame_slices.proofs.slices.set_palettes.Given as goal

abbrev pub invariant-loop-k : goal.invariant-loop-k
invariant-loop-k l = record {
  count : length l.slices ≡ length l.fn.slices;
  planes : (q : ℕ) → q < 4 → map (plane_of q) l.slices ≡ map (plane_of q) l.fn.slices;
  behind : map behind_of (take l.k l.slices) ≡ map (λ _. l.palette) (take l.k l.fn.slices);
  places : map place_of l.slices ≡ map place_of l.fn.slices;
}
