use Rattle.op_range.proofs.Examples.{words_to_bytes}
use Rattle.op_range.proofs.laws.words_to_bytes_are_narrow.Goals as goal

pub returns : goal.returns
returns c = words_to_bytes
