use Rattle.std.proofs.Common.{◌≡◌, ℕ, ◌<◌, ◌+◌, ◌-◌, List, [], length, sym, ◌∙◌, arith, ap, subst}
use Rattle.std.proofs.lemmas.List.{get_or_default}
use Rattle.op_list.specs.declared.op.Op.TheVariants.{SwapBytes}
use Rattle.op_list.specs.Typing.{stage_after}
use Rattle.op_list.specs.Apply.{apply}
use Rattle.kernel_planes.specs.Block.{pixel_at}
use Rattle.kernel_step.specs.Forms.{form_at, stage_before, values_before, op_at, IsState, IsBounded}
use Rattle.kernel_step.proofs.Kernels.{follows_at, good_at, stage_more, state_more, bounded_more}
use Rattle.kernel_step.proofs.RunLimits.{apply_alike, runs_ready}
use Rattle.kernel_int.proofs.block.plain_steps.Goals as goal

pub step-requires-clause-follows : goal.step-requires-clause-follows
step-requires-clause-follows g c =
    let within : c.loop-k.k < length c.args.ops.now = omega arith in
    let same : c.index-ops-k.result ≡ op_at c.args.ops.now c.loop-k.k = c.index-ops-k.is
    ∙ get_or_default c.args.ops.now c.loop-k.k _ SwapBytes within in
    rw (c.loop-k.invariant.stage, same) (follows_at c.args.ops.now c.loop-k.k c.requires.kernel.typed within)

pub step-requires-clause-good : goal.step-requires-clause-good
step-requires-clause-good g c =
    let within : c.loop-k.k < length c.args.ops.now = omega arith in
    let same : c.index-ops-k.result ≡ op_at c.args.ops.now c.loop-k.k = c.index-ops-k.is
    ∙ get_or_default c.args.ops.now c.loop-k.k _ SwapBytes within in
    rw (c.loop-k.invariant.stage, same) (good_at c.args.ops.now c.loop-k.k c.requires.kernel.typed within)

pub step-requires-clause-stored : goal.step-requires-clause-stored
step-requires-clause-stored g c =
    let within : c.loop-k.k < length c.args.ops.now = omega arith in
    let same : c.index-ops-k.result ≡ op_at c.args.ops.now c.loop-k.k = c.index-ops-k.is
    ∙ get_or_default c.args.ops.now c.loop-k.k _ SwapBytes within in
    rw (c.loop-k.invariant.stage, same, ← stage_more c.args.ops.now c.loop-k.k within) (c.requires.kernel.wide (c.loop-k.k + 1))

pub step-requires-clause-ready : goal.step-requires-clause-ready
step-requires-clause-ready g c =
    let ops = c.args.ops.now in
    let forms = c.args.forms.now in
    let k = c.loop-k.k in
    let within : k < length ops = omega arith in
    let same : c.index-ops-k.result ≡ op_at ops k = c.index-ops-k.is ∙ get_or_default ops k _ SwapBytes within in
    rw (c.loop-k.invariant.stage, same)
    (runs_ready g.W.WholeNumber.number g.N.Numerator.value g.W.WholeNumber.bits g.N.Numerator.width ops k c.args.position.now
    (form_at forms (k - 1)) (form_at forms k) c.loop-k.values c.loop-k.numbers c.requires.kernel.typed c.requires.kernel.whole
    (omega arith) within (c.requires.kernel.few (k - 1)) c.loop-k.invariant.lanes c.loop-k.invariant.bounded
    (c.requires.kernel.steps k (omega arith) (omega arith)))

pub loop-k-preserved : goal.loop-k-preserved
loop-k-preserved g c =
    let ops = c.args.ops.now in
    let forms = c.args.forms.now in
    let k = c.loop-k.k in
    let position = c.args.position.now in
    let within : k < length ops = omega arith in
    let numbers_of = c.requires.kernel.steps k (omega arith) (omega arith) in
    let alike : (frames : ℕ → List ℕ) (i : ℕ)
    → apply [] (pixel_at position i) (stage_before ops k) (op_at ops k) (values_before ops (frames i) position k i)
    ≡ apply (frames i) (pixel_at position i) (stage_before ops k) (op_at ops k) (values_before ops (frames i) position k i) =
    λ frames i. apply_alike g.W.WholeNumber.bits g.N.Numerator.width (stage_before ops k) (form_at forms (k - 1)) (op_at ops k)
    (form_at forms k) numbers_of.step [] (frames i) (pixel_at position i) (values_before ops (frames i) position k i) in
    let same : c.index-ops-k.result ≡ op_at ops k = c.index-ops-k.is ∙ get_or_default ops k _ SwapBytes within in
    let again : c.index-ops-k-in-loop-k.result ≡ op_at ops k = c.index-ops-k-in-loop-k.is ∙ get_or_default ops k _ SwapBytes within in
    record {
      stage = c.stage_after-stage.ensures ∙ ap (λ s. stage_after s c.index-ops-k-in-loop-k.result) c.loop-k.invariant.stage
          ∙ ap (λ o. stage_after (stage_before ops k) o) again ∙ sym (stage_more ops k within);
      bounded = bounded_more g.W.WholeNumber.number g.N.Numerator.value ops c.args.forms.now k c.loop-k.stage c.index-ops-k.result
          c.step.new.values c.step.new.numbers
          c.loop-k.invariant.stage same within c.step.ensures.bounded;
      lanes = record {
        frames = c.loop-k.invariant.lanes.frames;
        bytes = c.loop-k.invariant.lanes.bytes;
        state = state_more g.W.WholeNumber.number g.N.Numerator.value ops forms position c.loop-k.invariant.lanes.frames k c.loop-k.stage
            c.index-ops-k.result c.loop-k.values c.step.new.values c.loop-k.numbers c.step.new.numbers
            c.requires.kernel.typed c.loop-k.invariant.stage same within (alike c.loop-k.invariant.lanes.frames) c.step.ensures.holds
            64 (omega arith) c.loop-k.invariant.lanes.state;
      };
      holds = λ frames n most start.
          state_more g.W.WholeNumber.number g.N.Numerator.value ops forms position frames k c.loop-k.stage
          c.index-ops-k.result c.loop-k.values c.step.new.values c.loop-k.numbers c.step.new.numbers
          c.requires.kernel.typed c.loop-k.invariant.stage same within (alike frames) c.step.ensures.holds n most
          (c.loop-k.invariant.holds frames n most start);
    }

pub returns-clause-bounded : goal.returns-clause-bounded
returns-clause-bounded g c =
    let last : c.loop-k.k ≡ c.args.last = omega arith in
    subst (λ j. IsBounded g.W.WholeNumber.number g.N.Numerator.value (stage_before c.args.ops.now j)
    (form_at c.args.forms.now (j - 1)) c.loop-k.values c.loop-k.numbers) last c.loop-k.invariant.bounded

pub returns-clause-holds : goal.returns-clause-holds
returns-clause-holds g c =
    λ frames n most start.
    let last : c.loop-k.k ≡ c.args.last = omega arith in
    subst (λ j. IsState g.W.WholeNumber.number g.N.Numerator.value (stage_before c.args.ops.now j)
    (form_at c.args.forms.now (j - 1)) c.loop-k.values c.loop-k.numbers n
    (λ i. values_before c.args.ops.now (frames i) c.args.position.now j i)) last
    (c.loop-k.invariant.holds frames n most start)
