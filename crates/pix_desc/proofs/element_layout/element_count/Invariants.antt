use Rattle.std.proofs.Common.{◌≡◌, ◌+◌, ◌*◌, ◌≤◌}
use Rattle.pix_desc.specs.Layouts.{element_count}
use Rattle.pix_desc.proofs.Planes.{elements_left}
use Rattle.pix_desc.proofs.element_layout.element_count.Given as goal

abbrev pub invariant-loop-i : goal.invariant-loop-i
invariant-loop-i l = record {
  all : l.count + elements_left l.comps l.i ≡ element_count l.comps;
  small : l.count ≤ 255 * l.i;
}
