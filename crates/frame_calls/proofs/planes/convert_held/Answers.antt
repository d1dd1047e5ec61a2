use Rattle.std.proofs.Common.{refl, ap, arith, subst, ◌∙◌}
use Rattle.kernel_planes.specs.Planes.{row_list, rows_of}
use Rattle.row_plan.specs.Planes.{palette_bytes}
use Rattle.frame_calls.specs.Planes.{AreRowsConverted}
use Rattle.frame_calls.proofs.PlaneRows.{none_yet, one_step, row_held, rows_have_sizes}
use Rattle.frame_calls.proofs.planes.convert_held.Goals as goal

pub loop-row-init : goal.loop-row-init
loop-row-init c =
    none_yet c.args.plan.now.pair c.args.rows.now c.args.source.now c.args.source_strides.now c.args.strides.now
    (row_list c.args.first.now c.args.second.now c.args.third.now c.args.fourth.now)

pub source_row-input-requires-clause-rows : goal.source_row-input-requires-clause-rows
source_row-input-requires-clause-rows c =
    row_held (rows_of c.args.source.now) (rows_of c.args.source.now) c.args.source_strides.now c.args.from.now c.args.rows.now.count
    c.loop-row.row c.requires.source c.loop-row-test.true (λ p plane. refl)

pub convert_row-requires-clause-input : goal.convert_row-requires-clause-input
convert_row-requires-clause-input c =
    rows_have_sizes c.args.plan.now.pair.from.desc c.args.rows.now.width (rows_of c.args.source.now) (rows_of c.source_row-input.result)
    c.args.source_strides.now c.args.from.now c.loop-row.row
    (row_held (rows_of c.args.source.now) (rows_of c.args.source.now) c.args.source_strides.now c.args.from.now c.args.rows.now.count
    c.loop-row.row c.requires.source c.loop-row-test.true (λ p plane. refl))
    c.requires.from c.source_row-input.ensures.rows

pub convert_row-requires-clause-target : goal.convert_row-requires-clause-target
convert_row-requires-clause-target c =
    row_held (row_list c.args.first.now c.args.second.now c.args.third.now c.args.fourth.now)
    (row_list c.loop-row.first c.loop-row.second c.loop-row.third c.loop-row.fourth) c.args.strides.now c.args.to.now c.args.rows.now.count
    c.loop-row.row c.requires.target c.loop-row-test.true c.loop-row.invariant.lengths

pub loop-row-preserved : goal.loop-row-preserved
loop-row-preserved c =
    one_step c.args.plan.now.pair c.args.rows.now c.args.source.now c.source_row-input.result c.args.source_strides.now c.args.strides.now
    c.args.from.now c.args.to.now
    (row_list c.args.first.now c.args.second.now c.args.third.now c.args.fourth.now)
    (row_list c.loop-row.first c.loop-row.second c.loop-row.third c.loop-row.fourth)
    (row_list c.convert_row.new.first c.convert_row.new.second c.convert_row.new.third c.convert_row.new.fourth)
    c.loop-row.row c.palette_bytes-palette.result c.requires.from c.requires.to
    (c.palette_bytes-palette.ensures ∙ ap (λ pair. palette_bytes pair.from.desc) c.pair.ensures.pair)
    c.source_row-input.ensures.rows c.source_row-input.ensures.palette c.requires.target
    c.convert_row.ensures.put c.convert_row.ensures.target c.loop-row.invariant

pub returns : goal.returns
returns c =
    subst (AreRowsConverted c.args.plan.now.pair c.args.rows.now c.args.source.now c.args.source_strides.now c.args.strides.now
    (row_list c.args.first.now c.args.second.now c.args.third.now c.args.fourth.now)
    (row_list c.loop-row.first c.loop-row.second c.loop-row.third c.loop-row.fourth))
    {x = c.loop-row.row} {y = c.args.rows.now.count} (omega (arith, c.loop-row.auto.row-end, c.loop-row-test.false)) c.loop-row.invariant
