use Rattle.std.proofs.Common.{◌∙◌}
use Rattle.op_list.proofs.Stored.{index_ends, element_of-is, other_element_kept, other_pixel_kept}
use Rattle.op_list.proofs.store.store_element.Goals as goal

pub set_element-requires : goal.set_element-requires
set_element-requires c =
    rw c.in-Some.ensures.index.1
    (index_ends c.args.elem c.args.planes.now c.args.frame.now c.args.position.now c.args.i c.requires c.in-Some.ensures.index.0)

pub returns-in-Some-clause-stored : goal.returns-in-Some-clause-stored
returns-in-Some-clause-stored c =
    λ within.
    element_of-is c.args.elem c.args.planes.now c.set_element.new.frame c.args.position.now c.args.i within
    ∙ (rw c.in-Some.ensures.index.1 at c.set_element.ensures.stored)

pub returns-in-Some-clause-kept : goal.returns-in-Some-clause-kept
returns-in-Some-clause-kept c =
    λ j differs.
    other_element_kept c.args.elem c.args.planes.now c.args.frame.now c.set_element.new.frame c.args.position.now c.args.i j
    c.requires.column c.requires.row
    c.in-Some.ensures.index.0 differs (rw c.in-Some.ensures.index.1 at c.set_element.ensures.others)

pub returns-in-Some-clause-others : goal.returns-in-Some-clause-others
returns-in-Some-clause-others c =
    λ other is j.
    other_pixel_kept c.args.elem c.args.planes.now c.args.frame.now c.set_element.new.frame c.args.position.now other c.args.i j
    c.requires.column c.requires.row
    c.in-Some.ensures.index.0 is (rw c.in-Some.ensures.index.1 at c.set_element.ensures.others)
