use Rattle.std.proofs.Common.{◌≡◌, ℕ, ◌++◌, ◌*◌, [], ◌∷◌, map, replicate, sym, rules, ◌∙◌, ap, ap₂}
use Rattle.std.proofs.lemmas.List.{map_push}
use Rattle.frame_slices.specs.declared.frame_slice.Place.{Place}
use Rattle.frame_slices.specs.FrameSlices.{place_of, behind_of, slice_place, palette_length}
use Rattle.frame_slices.proofs.CutPlaces.{more_places, behind_zeros}
use Rattle.frame_slices.proofs.cutting.cut.Goals as goal

pub loop-k-preserved : goal.loop-k-preserved
loop-k-preserved c =
    let whole = c.args.whole.now in
    let xs = c.loop-k.slices.items in
    let y = c.in_ok-new.field-0 in
    let k = c.loop-k.k in
    let palette = replicate (palette_length whole.source) 0 in
    let pushed : c.push.new.self.items ≡ xs ++ (y ∷ []) = search rules in
    let at = λ (n : ℕ). let made : Place =
    record { source = whole.source; target = whole.target; width = whole.width; first = k * c.args.each; rows = n } in made in
    let here : y.place ≡ slice_place whole c.args.each k = c.in_ok-new.ensures.place ∙ ap at c.min.ensures in
    record {
      made =
          ap (map place_of) pushed ∙ map_push place_of xs y
          ∙ ap₂ (λ l p. l ++ (p ∷ [])) c.loop-k.invariant.made here
          ∙ sym (more_places whole c.args.each k);
      zeros =
          ap (map behind_of) pushed ∙ map_push behind_of xs y
          ∙ ap₂ (λ l b. l ++ (b ∷ [])) c.loop-k.invariant.zeros (behind_zeros y c.in_ok-new.ensures.zeros
          ∙ ap (λ (p : Place). replicate (palette_length p.source) 0) here)
          ∙ sym (map_push (λ _. palette) xs y)
          ∙ ap (map (λ _. palette)) (sym pushed);
    }
