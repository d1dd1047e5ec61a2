use Rattle.std.proofs.Common.{◌≡◌, ◌*◌, ◌∙◌, subst, arith}
use Rattle.op_list.specs.Store.{HaveSameElements}
use Rattle.pix_desc.specs.Shape.{element_counts}
use Rattle.pix_meaning.specs.Target.{target_rows}
use Rattle.op_build.specs.ElementType.{element_type}
use Rattle.row_plan.proofs.ConvertedRows.{are_bytes, all_converted}
use Rattle.row_plan.proofs.plans.Plan.convert_slice.Goals as goal

pub returns : goal.returns
returns c =
    let plan = c.args.self.now in
    let slice = c.args.slice.now in
    let input = c.args.input.now in
    let all : c.loop-row.row ≡ slice.rows = omega (arith, c.loop-row-test.false, c.loop-row.auto.row-end) in
    let pixels : c.loop-row.row * slice.width ≡ slice.width * slice.rows = rw all (grind arith) in
    all_converted plan.pair slice.width slice.rows slice.first input c.loop-row.output plan.valid plan.plain
    (are_bytes c.loop-row.output c.loop-row.invariant.bytes) (c.loop-row.invariant.size ∙ c.requires.output)
    (subst (λ n. HaveSameElements (element_type plan.pair.to.desc)
    (element_counts plan.pair.to.desc) slice.width slice.rows n c.loop-row.output
    (target_rows plan.pair slice.width slice.rows slice.first input)) pixels c.loop-row.invariant.converted)
