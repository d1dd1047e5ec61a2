use Rattle.std.proofs.Common.{◌≡◌, ◌+◌, ◌*◌, ◌/◌, ◌<◌, ◌∙◌, ap, refl, arith, get_or, slice_index, w8}
use Rattle.std.proofs.lemmas.Simd.{SwzOk-from_below, Each1-from_get_or, length-swz_l, get_or-swz_l_below, get_or-chunk}
use Rattle.std.specs.Simd.Lanes.{chunk}
use Rattle.kernel_lane.proofs.permute.permute_sixteen.Goals as goal

pub swizzle : goal.swizzle
swizzle c =
    SwzOk-from_below w8 16 1 16 0 c.args.places refl (omega (arith, c.requires.size))
    (Each1-from_get_or (λ j. j < 16) c.args.places 0 (λ j below. c.requires.small j (omega (arith, c.requires.size, below))))

pub store_sixteen-requires-clause-from : goal.store_sixteen-requires-clause-from
store_sixteen-requires-clause-from c = length-swz_l w8 16 (chunk c.args.at 16 c.args.from.now) 0 c.args.places ∙ c.requires.size

pub returns-clause-set : goal.returns-clause-set
returns-clause-set c =
    λ j below.
    let from = c.args.from.now in
    let at = c.args.at in
    let place = slice_index c.args.places j in
    let same : 16 * ((0 + j) / 16) + place ≡ place = omega (arith, below) in
    c.store_sixteen.ensures.set j below
    ∙ get_or-swz_l_below w8 16 (chunk at 16 from) 0 c.args.places j (omega (arith, c.requires.size, below)) (c.requires.small j below)
    ∙ ap (λ t. get_or (chunk at 16 from) t 0) same ∙ get_or-chunk at 16 from place 0 (c.requires.small j below)
