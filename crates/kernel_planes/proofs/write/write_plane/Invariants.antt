use Rattle.std.proofs.Common.{◌≡◌, ℕ, ◌+◌, ◌*◌, ◌<◌, ◌≤◌, ◌⊎◌, slice_index_or}
use Rattle.op_list.specs.Pixel.{element}
use Rattle.kernel_planes.proofs.write.write_plane.Given as goal

abbrev pub invariant-loop-e : goal.invariant-loop-e
invariant-loop-e g l = record {
  set : (e i : ℕ) (d : _) → e < l.e → i < l.n → element l.elem l.to ((l.x + i) * l.count + e)
      ≡ g.W.WholeNumber.number (slice_index_or l.values (64 * (l.before + e) + i) d);
  kept : (k : ℕ) → (k < l.x * l.count) ⊎ ((l.x + l.n) * l.count ≤ k) → element l.elem l.to k ≡ element l.elem l.fn.to k;
}
