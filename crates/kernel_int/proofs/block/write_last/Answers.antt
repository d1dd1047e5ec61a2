use Rattle.std.proofs.Common.{slice_index}
use Rattle.op_list.specs.Types.{bytes}
use Rattle.kernel_step.proofs.Kernels.{counts_few, write_good}
use Rattle.kernel_planes.proofs.PlaneRows.{row_room}
use Rattle.kernel_int.proofs.block.write_last.Goals as goal

pub write_block-requires-clause-whole : goal.write_block-requires-clause-whole
write_block-requires-clause-whole g c = (write_good c.in-Write.elem c.in-Write.planes (rw c.in-Write.is at c.requires.good)).0

pub write_block-requires-clause-few : goal.write_block-requires-clause-few
write_block-requires-clause-few g c =
    counts_few 4 c.in-Write.planes (write_good c.in-Write.elem c.in-Write.planes (rw c.in-Write.is at c.requires.good)).1

pub write_block-requires-clause-rows : goal.write_block-requires-clause-rows
write_block-requires-clause-rows g c =
    λ p below.
    row_room c.args.position.now.x c.args.n c.args.position.now.width (slice_index c.in-Write.planes p) (bytes c.in-Write.elem) _
    c.requires.inside.within ((rw c.in-Write.is at c.requires.rows) p below)
