use Rattle.std.proofs.Common.{◌≡◌, ◌<◌, ◌++◌, [], ◌∷◌, true, length, sym, subst, rules, ◌∙◌, ap₂, length-set}
use Rattle.std.proofs.Math.Seq.{map-set_same}
use Rattle.std.specs.Prelude.{All}
use Rattle.frame_slices.specs.FrameSlices.{plane_of, behind_of, place_of}
use Rattle.frame_slices.proofs.Chained.{all_at, map_more, map_more_set}
use Rattle.frame_slices.proofs.slices.set_palettes.Goals as goal

pub set_palette-requires-clause-has : goal.set_palette-requires-clause-has
set_palette-requires-clause-has c =
    all_at (λ place. place.source.palette ≡ true) place_of c.loop-k.slices c.loop-k.k c.index-slices-k.result (search rules)
    (subst (All (λ place. place.source.palette ≡ true)) (sym c.loop-k.invariant.places) c.requires.have)

pub loop-k-preserved : goal.loop-k-preserved
loop-k-preserved c =
    let xs = c.loop-k.slices in
    let k = c.loop-k.k in
    let y = c.set_palette.new.self in
    let d = c.index-slices-k.result in
    let within : k < length xs = search rules in
    let within_old : k < length c.args.slices.now = search rules in
    record {
      count = length-set xs k y ∙ c.loop-k.invariant.count;
      planes = λ q used. map-set_same (plane_of q) xs k y d (c.set_palette.ensures.planes q used) ∙ c.loop-k.invariant.planes q used;
      behind =
          map_more_set behind_of xs k y within
          ∙ ap₂ (λ l b. l ++ (b ∷ [])) c.loop-k.invariant.behind c.set_palette.ensures.behind
          ∙ sym (map_more (λ _. c.args.palette.now) c.args.slices.now k d within_old);
      places = map-set_same place_of xs k y d c.set_palette.ensures.place ∙ c.loop-k.invariant.places;
    }
