-- The slices so far are made, and all their bytes are 0.
use Rattle.std.proofs.Common.{◌≡◌, map, replicate}
use Rattle.std.specs.List.{range_with_len}
use Rattle.frame_slices.specs.FrameSlices.{place_of, slice_place, palette_length, HavePalette}
use Rattle.frame_slices.proofs.cutting.cut.Given as goal

abbrev pub invariant-loop-k : goal.invariant-loop-k
invariant-loop-k l = record {
  made : map place_of l.slices.items ≡ map (slice_place l.whole l.each) (range_with_len 0 l.k);
  zeros : HavePalette (replicate (palette_length l.whole.source) 0) l.slices.items;
}
