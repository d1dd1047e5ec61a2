use Rattle.std.proofs.Common.{◌≡◌, ℕ, ◌+◌, ◌*◌, ◌^◌, ◌<◌, ◌≤◌, slice_index, slice_index_or, take}
use Rattle.std.specs.Prelude.{sum}
use Rattle.op_list.specs.Types.{bits}
use Rattle.op_list.specs.Pixel.{element}
use Rattle.kernel_planes.specs.Block.{AreBelow}
use Rattle.kernel_planes.specs.Planes.{row_at, rows_of}
use Rattle.kernel_planes.proofs.read.read_block.Given as goal

abbrev pub invariant-loop-p : goal.invariant-loop-p
invariant-loop-p g l = record {
  before : l.before ≡ sum (take l.p l.planes);
  set : (q e i : ℕ) (d : _) → q < l.p → e < slice_index l.planes q → i < l.n
      → g.W.WholeNumber.number (slice_index_or l.values (64 * (sum (take q l.planes) + e) + i) d)
      ≡ element l.elem (row_at (rows_of l.input) q) ((l.x + i) * slice_index l.planes q + e);
  zero : (j : ℕ) (d : _) → 64 * l.before ≤ j → j < 256 → g.W.WholeNumber.number (slice_index_or l.values j d) ≡ 0;
  small : AreBelow g.W.WholeNumber.number l.values 4 (2 ^ bits l.elem);
}
