use Rattle.pix_desc.proofs.CheckedLayout.{layout_elements, layout_word, layout_fault}
use Rattle.pix_desc.proofs.shape.is_elements.Goals as goal

pub returns-in-Ok-Elements : goal.returns-in-Ok-Elements
returns-in-Ok-Elements c = layout_elements c.args.desc.now c.requires (rw c.in-Ok-Elements.field-0-is at c.in-Ok-Elements.ensures.answer)

pub returns-in-Ok-Word : goal.returns-in-Ok-Word
returns-in-Ok-Word c = layout_word c.args.desc.now c.requires (rw c.in-Ok-Word.field-0-is at c.in-Ok-Word.ensures.answer)

pub returns-in-Err : goal.returns-in-Err
returns-in-Err c = layout_fault c.args.desc.now _ c.requires c.in-Err.ensures.answer
