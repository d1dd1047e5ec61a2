use Rattle.std.proofs.Common.{ℕ, arith}
use Rattle.kernel_step.proofs.Kernels.{some_element}
use Rattle.kernel_affine.specs.Affine.{whole_lane}
use Rattle.kernel_affine.specs.Chain.{chain_number}
use Rattle.kernel_affine.proofs.ChainWalks.{chain_walked, placed_ready}
use Rattle.kernel_affine.proofs.WalkedSteps.{walked_bounded, walked_holds}
use Rattle.kernel_affine.proofs.steps.chain_steps.Goals as goal

pub returns-clause-stage : goal.returns-clause-stage
returns-clause-stage g c =
    let some = some_element c.args.values.now (omega arith) in
    (chain_walked g.W.WholeNumber.number g.N.Numerator.value g.W.WholeNumber.bits g.N.Numerator.width c.args.ops.now c.args.forms.now
    c.args._position.now c.args.placed.now.at c.args.placed.now.chain c.args.values.now c.args.numbers.now some
    (placed_ready g.W.WholeNumber.number g.W.WholeNumber.bits g.N.Numerator.width c.args.ops.now c.args.forms.now c.args.placed.now
    c.args.values.now c.requires.kernel c.requires.there c.requires.ready)).rational

pub returns-clause-bounded : goal.returns-clause-bounded
returns-clause-bounded g c =
    let chain = c.args.placed.now.chain in
    let some = some_element c.args.values.now (omega arith) in
    let walked =
    chain_walked g.W.WholeNumber.number g.N.Numerator.value g.W.WholeNumber.bits g.N.Numerator.width c.args.ops.now c.args.forms.now
    c.args._position.now c.args.placed.now.at c.args.placed.now.chain c.args.values.now c.args.numbers.now some
    (placed_ready g.W.WholeNumber.number g.W.WholeNumber.bits g.N.Numerator.width c.args.ops.now c.args.forms.now c.args.placed.now
    c.args.values.now c.requires.kernel c.requires.there c.requires.ready) in
    walked_bounded g.W.WholeNumber.number g.N.Numerator.value c.args.ops.now c.args.forms.now c.args._position.now c.args.placed.now.at chain.next
    c.args.values.now c.args.numbers.now c.chain_values.new.numbers
    (λ (v i : ℕ). chain_number c.args.ops.now c.args.forms.now chain (whole_lane g.W.WholeNumber.number c.args.values.now i some) v) walked
    (λ v i d below within. c.chain_values.ensures v i some d below within)

pub returns-clause-holds : goal.returns-clause-holds
returns-clause-holds g c =
    let chain = c.args.placed.now.chain in
    let some = some_element c.args.values.now (omega arith) in
    let walked =
    chain_walked g.W.WholeNumber.number g.N.Numerator.value g.W.WholeNumber.bits g.N.Numerator.width c.args.ops.now c.args.forms.now
    c.args._position.now c.args.placed.now.at c.args.placed.now.chain c.args.values.now c.args.numbers.now some
    (placed_ready g.W.WholeNumber.number g.W.WholeNumber.bits g.N.Numerator.width c.args.ops.now c.args.forms.now c.args.placed.now
    c.args.values.now c.requires.kernel c.requires.there c.requires.ready) in
    walked_holds g.W.WholeNumber.number g.N.Numerator.value c.args.ops.now c.args.forms.now c.args._position.now c.args.placed.now.at chain.next
    c.args.values.now c.args.numbers.now c.chain_values.new.numbers
    (λ (v i : ℕ). chain_number c.args.ops.now c.args.forms.now chain (whole_lane g.W.WholeNumber.number c.args.values.now i some) v) walked
    (λ v i d below within. c.chain_values.ensures v i some d below within)

pub chain_values-requires-clause-ready : goal.chain_values-requires-clause-ready
chain_values-requires-clause-ready g c =
    placed_ready g.W.WholeNumber.number g.W.WholeNumber.bits g.N.Numerator.width c.args.ops.now c.args.forms.now c.args.placed.now
    c.args.values.now c.requires.kernel c.requires.there c.requires.ready
