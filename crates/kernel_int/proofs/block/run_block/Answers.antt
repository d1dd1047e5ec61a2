use Rattle.std.proofs.Common.{◌≡◌, ◌<◌, ◌-◌, ◌^◌, ◌≤◌, length, sym, ◌∙◌, arith, ap}
use Rattle.std.proofs.lemmas.List.{get_or_default}
use Rattle.op_list.specs.declared.op.Op.TheVariants.{SwapBytes}
use Rattle.op_list.specs.declared.types.Stage.TheVariants.{Start}
use Rattle.op_list.specs.Types.{bits, bits_at}
use Rattle.op_list.specs.Typing.{stage_after}
use Rattle.kernel_step.specs.Forms.{form_at, stage_before, op_at, last_op}
use Rattle.kernel_planes.specs.Planes.{elem_of}
use Rattle.kernel_planes.specs.Planes.{row_frame, rows_of}
use Rattle.kernel_step.proofs.Kernels.{at_least_two, first_follows, first_good, first_stage, first_state, first_bounded}
use Rattle.kernel_step.proofs.Kernels.{written_run, last_good, last_whole, last_bits, last_writes, some_element}
use Rattle.std.proofs.lemmas.Nat.{pow_pos}
use Rattle.kernel_step.proofs.RunLimits.{first_lanes, rest_below}
use Rattle.kernel_int.proofs.block.run_block.Goals as goal

pub bounds-ops-0 : goal.bounds-ops-0
bounds-ops-0 g c = let two = at_least_two c.args.ops.now c.requires.kernel.whole c.requires.kernel.typed in omega arith

pub read_first-stage-requires-clause-follows : goal.read_first-stage-requires-clause-follows
read_first-stage-requires-clause-follows g c =
    let some : 0 < length c.args.ops.now = let two = at_least_two c.args.ops.now c.requires.kernel.whole c.requires.kernel.typed
    in omega arith in
    let same : c.index-ops-0.result ≡ op_at c.args.ops.now 0 = c.index-ops-0.is ∙ get_or_default c.args.ops.now 0 _ SwapBytes some in
    rw same (first_follows c.args.ops.now c.requires.kernel.typed some)

pub read_first-stage-requires-clause-good : goal.read_first-stage-requires-clause-good
read_first-stage-requires-clause-good g c =
    let some : 0 < length c.args.ops.now = let two = at_least_two c.args.ops.now c.requires.kernel.whole c.requires.kernel.typed
    in omega arith in
    let same : c.index-ops-0.result ≡ op_at c.args.ops.now 0 = c.index-ops-0.is ∙ get_or_default c.args.ops.now 0 _ SwapBytes some in
    rw same (first_good c.args.ops.now c.requires.kernel.typed some)

pub read_first-stage-requires-clause-rows : goal.read_first-stage-requires-clause-rows
read_first-stage-requires-clause-rows g c =
    let some : 0 < length c.args.ops.now = let two = at_least_two c.args.ops.now c.requires.kernel.whole c.requires.kernel.typed
    in omega arith in
    let same : c.index-ops-0.result ≡ op_at c.args.ops.now 0 = c.index-ops-0.is ∙ get_or_default c.args.ops.now 0 _ SwapBytes some in
    rw same c.requires.input

pub read_first-stage-requires-clause-entries : goal.read_first-stage-requires-clause-entries
read_first-stage-requires-clause-entries g c =
    let some : 0 < length c.args.ops.now = let two = at_least_two c.args.ops.now c.requires.kernel.whole c.requires.kernel.typed
    in omega arith in
    let same : c.index-ops-0.result ≡ op_at c.args.ops.now 0 = c.index-ops-0.is ∙ get_or_default c.args.ops.now 0 _ SwapBytes some in
    rw same c.requires.entries

pub read_first-stage-requires-clause-bits : goal.read_first-stage-requires-clause-bits
read_first-stage-requires-clause-bits g c =
    let some : 0 < length c.args.ops.now = let two = at_least_two c.args.ops.now c.requires.kernel.whole c.requires.kernel.typed
    in omega arith in
    let same : c.index-ops-0.result ≡ op_at c.args.ops.now 0 = c.index-ops-0.is ∙ get_or_default c.args.ops.now 0 _ SwapBytes some in
    rw (same, ← first_stage c.args.ops.now some) (c.requires.kernel.wide 1)

pub run_steps-requires-clause-some : goal.run_steps-requires-clause-some
run_steps-requires-clause-some g c = at_least_two c.args.ops.now c.requires.kernel.whole c.requires.kernel.typed

pub run_steps-requires-clause-first : goal.run_steps-requires-clause-first
run_steps-requires-clause-first g c =
    let some : 0 < length c.args.ops.now = let two = at_least_two c.args.ops.now c.requires.kernel.whole c.requires.kernel.typed
    in omega arith in
    let same : c.index-ops-0.result ≡ op_at c.args.ops.now 0 = c.index-ops-0.is ∙ get_or_default c.args.ops.now 0 _ SwapBytes some in
    c.read_first-stage.ensures.stage ∙ ap (stage_after Start) same ∙ sym (first_stage c.args.ops.now some)

pub run_steps-requires-clause-bounded : goal.run_steps-requires-clause-bounded
run_steps-requires-clause-bounded g c =
    let some : 0 < length c.args.ops.now = let two = at_least_two c.args.ops.now c.requires.kernel.whole c.requires.kernel.typed
    in omega arith in
    let same : c.index-ops-0.result ≡ op_at c.args.ops.now 0 = c.index-ops-0.is ∙ get_or_default c.args.ops.now 0 _ SwapBytes some in
    first_bounded g.W.WholeNumber.number g.N.Numerator.value c.args.ops.now
    (form_at c.args.forms.now 0) c.clear_rest.new.values c.args.numbers.now c.requires.kernel.typed some (c.requires.kernel.few 0)
    (rest_below g.W.WholeNumber.number c.read_first-stage.new.values c.clear_rest.new.values c.args.n
    (2 ^ bits_at (stage_after Start (op_at c.args.ops.now 0))) (pow_pos (bits_at (stage_after Start (op_at c.args.ops.now 0))))
    (rw same at c.read_first-stage.ensures.small) c.clear_rest.ensures.kept c.clear_rest.ensures.zero)

pub run_steps-requires-clause-lanes : goal.run_steps-requires-clause-lanes
run_steps-requires-clause-lanes g c =
    let ops = c.args.ops.now in
    let input = c.args.input.now in
    let some : 0 < length ops = let two = at_least_two ops c.requires.kernel.whole c.requires.kernel.typed in omega arith in
    let same : c.index-ops-0.result ≡ op_at ops 0 = c.index-ops-0.is ∙ get_or_default ops 0 _ SwapBytes some in
    first_lanes g.W.WholeNumber.number g.N.Numerator.value ops (form_at c.args.forms.now 0)
    (row_frame (rows_of input) input.palette.now) c.args.position.now c.read_first-stage.new.values
    c.clear_rest.new.values c.args.numbers.now c.args.n c.requires.kernel.typed some (c.requires.kernel.few 0)
    c.hold_bytes.ensures (rw same at c.read_first-stage.ensures.set) c.clear_rest.ensures.kept c.clear_rest.ensures.zero

pub overflow_sub-ops : goal.overflow_sub-ops
overflow_sub-ops g c = let two = at_least_two c.args.ops.now c.requires.kernel.whole c.requires.kernel.typed in omega arith

pub bounds-ops-ops : goal.bounds-ops-ops
bounds-ops-ops g c = let two = at_least_two c.args.ops.now c.requires.kernel.whole c.requires.kernel.typed in omega arith

pub write_last-requires-clause-write : goal.write_last-requires-clause-write
write_last-requires-clause-write g c =
    let some : 0 < length c.args.ops.now = let two = at_least_two c.args.ops.now c.requires.kernel.whole c.requires.kernel.typed
    in omega arith in
    let same : c.index-ops-ops.result ≡ last_op c.args.ops.now = c.index-ops-ops.is
    ∙ get_or_default c.args.ops.now (length c.args.ops.now - 1) _ SwapBytes (omega arith) in
    rw same (last_writes c.args.ops.now c.requires.kernel.whole)

pub write_last-requires-clause-good : goal.write_last-requires-clause-good
write_last-requires-clause-good g c =
    let some : 0 < length c.args.ops.now = let two = at_least_two c.args.ops.now c.requires.kernel.whole c.requires.kernel.typed
    in omega arith in
    let same : c.index-ops-ops.result ≡ last_op c.args.ops.now = c.index-ops-ops.is
    ∙ get_or_default c.args.ops.now (length c.args.ops.now - 1) _ SwapBytes (omega arith) in
    rw same (last_good c.args.ops.now c.requires.kernel.typed c.requires.kernel.whole some)

pub write_last-requires-clause-rows : goal.write_last-requires-clause-rows
write_last-requires-clause-rows g c =
    let some : 0 < length c.args.ops.now = let two = at_least_two c.args.ops.now c.requires.kernel.whole c.requires.kernel.typed
    in omega arith in
    let same : c.index-ops-ops.result ≡ last_op c.args.ops.now = c.index-ops-ops.is
    ∙ get_or_default c.args.ops.now (length c.args.ops.now - 1) _ SwapBytes (omega arith) in
    rw same c.requires.output

pub write_last-requires-clause-small : goal.write_last-requires-clause-small
write_last-requires-clause-small g c =
    let ops = c.args.ops.now in
    let some : 0 < length ops = let two = at_least_two ops c.requires.kernel.whole c.requires.kernel.typed in omega arith in
    let same : c.index-ops-ops.result ≡ last_op ops = c.index-ops-ops.is ∙ get_or_default ops (length ops - 1) _ SwapBytes (omega arith) in
    let bits_are : bits_at (stage_before ops (length ops - 1)) ≡ bits (elem_of (last_op ops)) =
    last_bits ops c.requires.kernel.typed c.requires.kernel.whole some in
    rw same
    (λ v i d below within.
    rw (← bits_are) (c.run_steps.ensures.bounded.small (last_whole ops c.requires.kernel.typed c.requires.kernel.whole some) v i d
    (omega (arith, below, c.requires.kernel.last)) within))

pub returns-clause-stored : goal.returns-clause-stored
returns-clause-stored g c =
    λ v i below within.
    let ops = c.args.ops.now in
    let two : 2 ≤ length ops = at_least_two ops c.requires.kernel.whole c.requires.kernel.typed in
    let some : 0 < length ops = omega arith in
    let same : c.index-ops-ops.result ≡ last_op ops = c.index-ops-ops.is ∙ get_or_default ops (length ops - 1) _ SwapBytes (omega arith) in
    let first : c.index-ops-0.result ≡ op_at ops 0 = c.index-ops-0.is ∙ get_or_default ops 0 _ SwapBytes some in
    let d = some_element c.run_steps.new.values (omega arith) in
    let frame = row_frame (rows_of c.args.input.now) c.args.input.now.palette.now in
    let start = first_state g.W.WholeNumber.number g.N.Numerator.value ops
    (form_at c.args.forms.now 0) frame c.args.position.now c.clear_rest.new.values c.args.numbers.now c.args.n
    c.requires.kernel.typed some (c.requires.kernel.few 0)
    (λ v i d below within. ap g.W.WholeNumber.number (c.clear_rest.ensures.kept v i d below within)
    ∙ (rw first at c.read_first-stage.ensures.set) v i d below within) in
    let state = c.run_steps.ensures.holds (λ i. frame) c.args.n (omega arith) start in
    let stored = rw same at c.write_last.ensures.stored in
    stored v i d below within
    ∙ state.whole (last_whole ops c.requires.kernel.typed c.requires.kernel.whole some) v i d
    (omega (arith, below, c.requires.kernel.last)) within
    ∙ written_run ops frame c.args.position.now i v c.requires.kernel.typed c.requires.kernel.whole some below

pub returns-clause-others : goal.returns-clause-others
returns-clause-others g c =
    let some : 0 < length c.args.ops.now = let two = at_least_two c.args.ops.now c.requires.kernel.whole c.requires.kernel.typed
    in omega arith in
    let same : c.index-ops-ops.result ≡ last_op c.args.ops.now = c.index-ops-ops.is
    ∙ get_or_default c.args.ops.now (length c.args.ops.now - 1) _ SwapBytes (omega arith) in
    rw same at c.write_last.ensures.others
