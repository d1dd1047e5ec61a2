use Rattle.std.proofs.Common.{◌≡◌, ℕ, ◌+◌, ◌*◌, ◌<◌, slice_index}
use Rattle.op_list.specs.Pixel.{element}
use Rattle.kernel_planes.specs.Planes.{row_element, rows_of}
use Rattle.kernel_planes.proofs.moves.move_plane.Given as goal

abbrev pub invariant-loop-e : goal.invariant-loop-e
invariant-loop-e l = (x e : ℕ) → x < l.width → e < l.e
    → element l.elem l.to (x * l.count + e) ≡ row_element l.elem l.planes (rows_of l.input) x (slice_index l.from (l.before + e))
