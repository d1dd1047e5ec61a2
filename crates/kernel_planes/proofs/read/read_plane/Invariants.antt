use Rattle.std.proofs.Common.{◌≡◌, ℕ, ◌+◌, ◌*◌, ◌^◌, ◌<◌, ◌≤◌, ◌⊎◌, slice_index_or}
use Rattle.op_list.specs.Types.{bits}
use Rattle.op_list.specs.Pixel.{element}
use Rattle.kernel_planes.specs.Block.{AreBelow}
use Rattle.kernel_planes.proofs.read.read_plane.Given as goal

abbrev pub invariant-loop-e : goal.invariant-loop-e
invariant-loop-e g l = record {
  set : (e i : ℕ) (d : _) → e < l.e → i < l.n → g.W.WholeNumber.number (slice_index_or l.values (64 * (l.before + e) + i) d)
      ≡ element l.elem l.from ((l.x + i) * l.count + e);
  kept : (j : ℕ) (d : _) → (j < 64 * l.before) ⊎ ((64 * (l.before + l.count) ≤ j) × (j < 256))
      → slice_index_or l.values j d ≡ slice_index_or l.fn.values j d;
  small : AreBelow g.W.WholeNumber.number l.fn.values 4 (2 ^ bits l.elem) → AreBelow g.W.WholeNumber.number l.values 4 (2 ^ bits l.elem);
}
