use Rattle.pix_desc.proofs.SlotsHeld.{position_rest}
use Rattle.pix_desc.proofs.slots.position_of.Goals as goal

pub returns-else-holds-3 : goal.returns-else-holds-3
returns-else-holds-3 c =
    position_rest c.args.desc.now c.requires.valid c.args.j c.requires.listed c.holds.result c.holds-2.result c.holds-3.result
    c.holds.ensures c.holds-2.ensures c.holds-3.ensures
    c.if-holds.false c.if-holds-2.false c.if-holds-3.false
