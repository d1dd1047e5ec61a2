use Rattle.std.proofs.Common.{◌≡◌, true, false, refl}
use Rattle.sws_run.proofs.Opened.{table_pair_is_plannable}
use Rattle.sws_run.proofs.planning.plan_of.Goals as goal

pub plan-requires : goal.plan-requires
plan-requires c = table_pair_is_plannable c.args.pair.now c.requires

pub unreachable-requires : goal.unreachable-requires
unreachable-requires c =
    let palette : c.args.pair.now.to.desc.palette ≡ true =
    (rw c.in-Err-PaletteTarget.field-0-is at c.in-Err-PaletteTarget.ensures.palette).0 refl in
    let plain : c.args.pair.now.to.desc.palette ≡ false = c.requires.plain in
    absurd (cc)
