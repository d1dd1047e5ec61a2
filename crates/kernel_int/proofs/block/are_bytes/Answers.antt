use Rattle.kernel_step.proofs.RunLimits.{bytes_of}
use Rattle.kernel_int.proofs.block.are_bytes.Goals as goal

pub returns : goal.returns
returns c = bytes_of c.args.bytes.now (λ k. (c.type_inv.bytes k).fits)
