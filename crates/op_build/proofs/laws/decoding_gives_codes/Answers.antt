use Rattle.op_build.proofs.decode.Codes.{gives_codes}
use Rattle.op_build.proofs.laws.decoding_gives_codes.Goals as goal

pub returns : goal.returns
returns c = gives_codes
