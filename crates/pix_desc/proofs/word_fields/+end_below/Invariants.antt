use Rattle.std.proofs.Common.{◌-◌}
use Rattle.pix_desc.proofs.word_fields.+end_below.Given as goal

abbrev pub decreases-end_below : goal.decreases-end_below
decreases-end_below l = l.desc.now.count - l.first
