use Rattle.std.proofs.Common.{arith}
use Rattle.pix_desc.proofs.Valid.{laid_out}
use Rattle.sws_run.proofs.format_list.push_format.Goals as goal

-- a descriptor has at most four components
pub shared_ref_as_front-push_components : goal.shared_ref_as_front-push_components
shared_ref_as_front-push_components c =
    let laid = laid_out c.desc-desc.result c.desc-desc.ensures.valid in
    omega (arith, laid.most, c.from.ensures)
