use Rattle.std.proofs.Common.{◌≡◌, ◌-◌, length, arith}
use Rattle.kernel_step.specs.Forms.{AreRuns, form_at}
use Rattle.kernel_step.proofs.RunLimits.{runs_ready}
use Rattle.kernel_int.proofs.block.steps_around.Goals as goal

pub chain_steps-requires-clause-ready : goal.chain_steps-requires-clause-ready
chain_steps-requires-clause-ready g c =
    let ops = c.args.ops.now in
    let forms = c.args.forms.now in
    let at = c.args.placed.now.at in
    let lanes : AreRuns g.W.WholeNumber.number g.N.Numerator.value ops at c.args.position.now (form_at forms (at - 1))
    c.plain_steps.new.values c.plain_steps.new.numbers = record {
      frames = c.requires.lanes.frames;
      bytes = c.requires.lanes.bytes;
      state = c.plain_steps.ensures.holds c.requires.lanes.frames 64 (omega arith) c.requires.lanes.state;
    } in
    runs_ready g.W.WholeNumber.number g.N.Numerator.value g.W.WholeNumber.bits g.N.Numerator.width ops at c.args.position.now
    (form_at forms (at - 1)) (form_at forms at) c.plain_steps.new.values c.plain_steps.new.numbers c.requires.kernel.typed
    c.requires.kernel.whole c.requires.there.some (omega (arith, c.requires.there.inside.0, c.requires.there.inside.1))
    (c.requires.kernel.few (at - 1)) lanes c.plain_steps.ensures.bounded
    (c.requires.kernel.steps at c.requires.there.some (omega (arith, c.requires.there.inside.0, c.requires.there.inside.1)))

pub plain_steps-requires-2-clause-lanes : goal.plain_steps-requires-2-clause-lanes
plain_steps-requires-2-clause-lanes g c = record {
  frames = c.requires.lanes.frames;
  bytes = c.requires.lanes.bytes;
  state = c.chain_steps.ensures.holds c.requires.lanes.frames 64 (omega arith)
      (c.plain_steps.ensures.holds c.requires.lanes.frames 64 (omega arith) c.requires.lanes.state);
}

pub returns-clause-bounded : goal.returns-clause-bounded
returns-clause-bounded g c =
    let before : length c.args.ops.now - 1 - 1 ≡ length c.args.ops.now - 2 = omega arith in
    rw (← before) c.plain_steps-2.ensures.bounded

pub returns-clause-holds : goal.returns-clause-holds
returns-clause-holds g c =
    λ frames n most start.
    let before : length c.args.ops.now - 1 - 1 ≡ length c.args.ops.now - 2 = omega arith in
    rw (← before)
    (c.plain_steps-2.ensures.holds frames n most (c.chain_steps.ensures.holds frames n most (c.plain_steps.ensures.holds frames n most start)))
