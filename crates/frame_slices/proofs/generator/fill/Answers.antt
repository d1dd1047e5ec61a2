use Rattle.std.proofs.Common.{◌++◌, ◌/◌, ◌<◌, [], ◌∷◌, length, length-set, refl, sym, ◌∙◌, ap, ap₂, rules}
use Rattle.std.proofs.lemmas.List.{take_more_set}
use Rattle.frame_slices.specs.Generated.{next_state, state_after, generated}
use Rattle.frame_slices.proofs.MadeBytes.{step_wraps, state_more, generated_more}
use Rattle.frame_slices.proofs.generator.fill.Goals as goal

pub loop-k-init : goal.loop-k-init
unfolding state_after generated
loop-k-init c = record { count = refl; state = refl; bytes = refl }

pub loop-k-preserved : goal.loop-k-preserved
loop-k-preserved c =
    let seed = c.args.seed in
    let xs = c.loop-k.bytes in
    let k = c.loop-k.k in
    let within : k < length xs = search rules in
    let step = step_wraps c.loop-k.state ∙ ap next_state c.loop-k.invariant.state in
    record {
      count = length-set xs k _ ∙ c.loop-k.invariant.count;
      state = step ∙ sym (state_more seed k);
      bytes =
          take_more_set xs k _ within
          ∙ ap₂ (λ l s. l ++ (s / 72057594037927936 ∷ [])) c.loop-k.invariant.bytes step
          ∙ sym (generated_more seed k);
    }
