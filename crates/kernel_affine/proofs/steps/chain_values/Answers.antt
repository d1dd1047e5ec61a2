use Rattle.std.proofs.Common.{◌≡◌, ◌+◌, ◌*◌, ◌∙◌, ap, inl, arith, below_more, slice_index_or}
use Rattle.kernel_affine.specs.Affine.{whole_lane}
use Rattle.kernel_affine.specs.Chain.{chain_number}
use Rattle.kernel_affine.proofs.steps.chain_values.Goals as goal

pub loop-v-preserved : goal.loop-v-preserved
loop-v-preserved g c =
    λ v i d e below within.
    below_more (λ u. g.N.Numerator.value (slice_index_or c.chain_value.new.numbers (64 * u + i) e)
    ≡ chain_number c.args.ops.now c.args.forms.now c.args.chain.now (whole_lane g.W.WholeNumber.number c.args.values.now i d) u) c.loop-v.v
    (λ u less. ap g.N.Numerator.value (c.chain_value.ensures.kept (64 * u + i) e (inl (omega (arith, less, within))))
    ∙ c.loop-v.invariant u i d e less within)
    (c.chain_value.ensures.set i d e within) v below

pub widen_for-requires-clause-fitting : goal.widen_for-requires-clause-fitting
widen_for-requires-clause-fitting g c =
    let ready = c.requires.ready in
    λ j i d some within. (ready.ready ready.whole ready.there.widens j i d some within).fits

pub chain_value-requires-clause-wide : goal.chain_value-requires-clause-wide
chain_value-requires-clause-wide g c = λ three. c.widen_for.ensures c.loop-v.v (omega arith) three
