-- The plane's step is that among the components from j on.
use Rattle.std.proofs.Common.{◌≡◌, drop}
use Rattle.pix_desc.specs.Component.{components}
use Rattle.pix_desc.specs.Frame.{step_in, plane_step}
use Rattle.pix_io.proofs.frame.step_of.Given as goal

abbrev pub invariant-loop-j : goal.invariant-loop-j
invariant-loop-j l = step_in l.plane (drop l.j (components l.desc)) ≡ plane_step l.desc l.plane
