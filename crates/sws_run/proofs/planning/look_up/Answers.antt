use Rattle.std.proofs.Common.{◌≡◌, true, false, refl}
use Rattle.sws_run.proofs.Opened.{table_pair_is_plannable}
use Rattle.sws_run.proofs.planning.look_up.Goals as goal

pub look-requires-clause-plannable : goal.look-requires-clause-plannable
look-requires-clause-plannable c = table_pair_is_plannable c.args.pair.now c.requires.pair

pub unreachable-requires : goal.unreachable-requires
unreachable-requires c =
    let palette : c.args.pair.now.to.desc.palette ≡ true =
    (rw c.in-Err-PaletteTarget.field-0-is at c.in-Err-PaletteTarget.ensures.palette).0 refl in
    let plain : c.args.pair.now.to.desc.palette ≡ false = c.requires.pair.plain in
    absurd (cc)
