use Rattle.std.proofs.Common.{◌≡◌, ◌<◌, length, sym, subst, arith, ◌∙◌}
use Rattle.frame_slices.specs.Handing.{front_in, IsPart}
use Rattle.frame_slices.proofs.Fronts.{length-front, length_of_source}
use Rattle.frame_slices.proofs.slices.front_len.Goals as goal

pub returns-in-Some-clause-value : goal.returns-in-Some-clause-value
returns-in-Some-clause-value c = λ all of.
    let whole = c.args.whole.now in
    let plane = c.in-Some.plane in
    let used : plane < 4 = subst IsPart c.in-Some.is c.requires.part in
    subst (λ part. c.plane_at.result ≡ length (front_in whole part all)) (sym c.in-Some.is)
    (c.plane_at.ensures.value ∙ sym (length-front whole plane all (omega (arith, used)) of))

pub returns-in-None-clause-value : goal.returns-in-None-clause-value
returns-in-None-clause-value c = λ all of.
    let whole = c.args.whole.now in
    subst (λ part. c.frame_len.result ≡ length (front_in whole part all)) (sym c.in-None.is)
    (c.frame_len.ensures.value ∙ sym (length_of_source whole all of))
