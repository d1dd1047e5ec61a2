use Rattle.std.proofs.Common.{arith, drop_of_length-le}
use Rattle.pix_io.proofs.Parts.{front_given}
use Rattle.pix_io.proofs.mem_source.MemSourceSource.read.Goals as goal

pub returns-clause-bytes : goal.returns-clause-bytes
returns-clause-bytes c =
    let s = c.args.self.now.bytes.items in
    let at = c.args.self.now.at in
    let n = c.min-count.result in (
      front_given s c.deref-2.result.now c.copy_from_slice.new.self _ at n c.deref-2.ensures.value
          (omega arith) c.copy_from_slice.ensures.after,
      λ none some. drop_of_length-le s (omega arith),
    )
