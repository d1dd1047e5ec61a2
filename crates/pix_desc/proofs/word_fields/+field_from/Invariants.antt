use Rattle.pix_desc.proofs.word_fields.+field_from.Given as goal

abbrev pub decreases-field_from : goal.decreases-field_from
decreases-field_from l = l.i
