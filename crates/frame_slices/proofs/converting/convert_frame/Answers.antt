use Rattle.std.proofs.Common.{◌≡◌, ◌++◌, ◌<◌, length, map, take, drop, sym, subst, ap, rules, ◌∙◌}
use Rattle.std.proofs.lemmas.List.{take_at}
use Rattle.frame_slices.specs.FrameSlices.{place_of}
use Rattle.frame_slices.specs.Handing.{AreOfFrame}
use Rattle.frame_slices.specs.Parts.{ConvertsRest, LeavesOffPart}
use Rattle.frame_slices.proofs.SlicePlanes.{same_length}
use Rattle.frame_slices.proofs.Fronts.{of_same_frame}
use Rattle.frame_slices.proofs.LeftOff.{Splits, off_in_front, off_in_part, next_converted}
use Rattle.frame_slices.proofs.converting.convert_frame.Goals as goal

pub returns-in-Some-clause-left : goal.returns-in-Some-clause-left
returns-in-Some-clause-left g c =
    let whole = c.args.whole.now in
    let v = c.args.slices in
    let part = c.last_part-part.result in
    let xs = c.read_front.new.slices in
    let seen : c.deref.result.now ≡ v.items = search rules in
    let there : c.deref_mut.result.now ≡ v.items = search rules in
    let at : map place_of xs ≡ map place_of v.items = c.read_front.ensures.places ∙ ap (map place_of) there in
    let given : AreOfFrame whole v.items = record {
      some = subst (λ n. 0 < n) v.ok.0 c.requires.some;
      places = c.requires.places;
      covers = c.requires.covers;
    } in
    let splits : Splits whole part xs = λ all same. c.last_part-part.ensures.splits all (same ∙ at ∙ sym (ap (map place_of) seen)) in
    off_in_front whole part xs (of_same_frame whole v.items xs at given) splits (g.In.Source.shown c.args.input.now)
    (g.In.Source.shown c.read_front.new.input) c.in-Some.why c.read_front.result c.in-Some.ensures c.read_front.ensures.read

pub returns-in-Ok-clause-converted : goal.returns-in-Ok-clause-converted
returns-in-Ok-clause-converted g c =
    let whole = c.args.whole.now in
    let plan = c.args.plan.now in
    let v = c.args.slices in
    let part = c.last_part-part.result in
    let xs = c.read_front.new.slices in
    let old = g.In.Source.shown c.args.input.now in
    let mid = g.In.Source.shown c.read_front.new.input in
    let new = g.In.Source.shown c.convert_rest.new.input in
    let seen : c.deref.result.now ≡ v.items = search rules in
    let there : c.deref_mut.result.now ≡ v.items = search rules in
    let at : map place_of xs ≡ map place_of v.items = c.read_front.ensures.places ∙ ap (map place_of) there in
    let given : AreOfFrame whole v.items = record {
      some = subst (λ n. 0 < n) v.ok.0 c.requires.some;
      places = c.requires.places;
      covers = c.requires.covers;
    } in
    let splits : Splits whole part xs = λ all same. c.last_part-part.ensures.splits all (same ∙ at ∙ sym (ap (map place_of) seen)) in
    let put : take v.len (xs ++ drop (length xs) v.items) ≡ xs =
    take_at xs (drop (length xs) v.items) v.len (same_length xs v.items at ∙ sym v.ok.0) in
    let one = rw c.in_default.ensures at c.read_front.ensures.behind in
    let front = rw c.in_default.ensures at c.read_front.ensures.read in
    let rest = subst (λ l. ConvertsRest plan.pair part mid new l c.in-Ok.converted.items) {x = take v.len (xs ++ drop (length xs) v.items)} {y = xs} put c.in-Ok.ensures.converted in
    next_converted whole part xs (of_same_frame whole v.items xs at given) splits plan.pair old mid new c.in-Ok.converted.items
    c.last_part-part.ensures.part plan.valid plan.plain c.requires.from c.requires.to one front rest

pub returns-in-Err-clause-left : goal.returns-in-Err-clause-left
returns-in-Err-clause-left g c =
    let whole = c.args.whole.now in
    let v = c.args.slices in
    let part = c.last_part-part.result in
    let xs = c.read_front.new.slices in
    let old = g.In.Source.shown c.args.input.now in
    let mid = g.In.Source.shown c.read_front.new.input in
    let new = g.In.Source.shown c.convert_rest.new.input in
    let seen : c.deref.result.now ≡ v.items = search rules in
    let there : c.deref_mut.result.now ≡ v.items = search rules in
    let at : map place_of xs ≡ map place_of v.items = c.read_front.ensures.places ∙ ap (map place_of) there in
    let given : AreOfFrame whole v.items = record {
      some = subst (λ n. 0 < n) v.ok.0 c.requires.some;
      places = c.requires.places;
      covers = c.requires.covers;
    } in
    let of = of_same_frame whole v.items xs at given in
    let splits : Splits whole part xs = λ all same. c.last_part-part.ensures.splits all (same ∙ at ∙ sym (ap (map place_of) seen)) in
    let put : take v.len (xs ++ drop (length xs) v.items) ≡ xs =
    take_at xs (drop (length xs) v.items) v.len (same_length xs v.items at ∙ sym v.ok.0) in
    let front = rw c.in_default.ensures at c.read_front.ensures.read in
    let rest = subst (λ l. LeavesOffPart part mid new l c.in-Err.why) {x = take v.len (xs ++ drop (length xs) v.items)} {y = xs} put c.in-Err.ensures.left in
    rw c.behind.ensures (off_in_part whole part xs of splits old mid new c.front_len.result c.in-Err.why c.last_part-part.ensures.part front
    (c.front_len.ensures.value xs of) rest)
