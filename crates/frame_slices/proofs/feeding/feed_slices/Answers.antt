use Rattle.std.proofs.Common.{◌≡◌, ◌<◌, Some, ◌++◌, [], ◌∷◌, length, refl, sym, ◌∙◌, ap, subst, rules, arith, length-append, append_assoc}
use Rattle.std.specs.Prelude.{slice_get}
use Rattle.std.specs.Sync.OnceLock.{Named}
use Rattle.std.proofs.lemmas.Option.{slice_get_within, slice_get-get_or}
use Rattle.pix_io.specs.Streams.{Takes}
use Rattle.pix_io.proofs.Calls.{Takes-nil, HasNoFault-refl}
use Rattle.frame_slices.specs.Handing.{part_of, part_in, AreHanded}
use Rattle.frame_slices.proofs.ReadsOn.{whole_on}
use Rattle.frame_slices.proofs.Fed.{IsBut, handed_more, but_at, part_more, feeds_end, feeds_short, feeds_failed}
use Rattle.frame_slices.proofs.feeding.feed_slices.Goals as goal

pub loop-slice-init : goal.loop-slice-init
loop-slice-init g c =
    record {
      walks = search rules;
      whole = search rules;
      done = [];
      count = refl;
      but = record { others = λ q used other. refl; behind = refl; places = refl };
      taken = Takes-nil (g.In.Source.shown c.args.input.now);
      quiet = HasNoFault-refl (g.In.Source.shown c.args.input.now);
      filled = refl;
      small = search rules;
      handed = record {
        count = ap length c.requires.tokens.0;
        each = λ k cell slice token at found shown. absurd (omega (arith, slice_get_within [] k slice found));
      };
      cells = search rules;
      few = search rules;
      room = search rules;
    }

pub returns-in-Ok-End-clause-feeds : goal.returns-in-Ok-End-clause-feeds
returns-in-Ok-End-clause-feeds g c =
    let shown = g.In.Source.shown in
    let one : IsBut c.args.part c.in-Some.slice c.read_part.new.slice =
    record { others = c.read_part.ensures.others; behind = c.read_part.ensures.behind; place = c.read_part.ensures.place } in
    feeds_end c.args.part (shown c.args.input.now) (shown c.loop-slice.input) (shown c.read_part.new.input) c.args.slices.items
    c.loop-slice.yielded c.loop-slice.slice-iterator.rest.items c.loop-slice.invariant.done c.next.new.self.rest.items c.in-Some.slice
    c.read_part.new.slice c.args.cells.now c.loop-slice.tokens.items c.loop-slice.invariant.whole c.in-Some.ensures.steps.0
    c.loop-slice.invariant.but one c.loop-slice.invariant.taken c.loop-slice.invariant.quiet c.loop-slice.filled c.ended.result
    c.loop-slice.invariant.filled c.ended.ensures.value (rw c.in-Ok-End.field-0-is at c.in-Ok-End.ensures.read)

pub returns-in-Ok-Short-clause-feeds : goal.returns-in-Ok-Short-clause-feeds
returns-in-Ok-Short-clause-feeds g c =
    let shown = g.In.Source.shown in
    let one : IsBut c.args.part c.in-Some.slice c.read_part.new.slice =
    record { others = c.read_part.ensures.others; behind = c.read_part.ensures.behind; place = c.read_part.ensures.place } in
    feeds_short c.args.part (shown c.args.input.now) (shown c.loop-slice.input) (shown c.read_part.new.input) c.args.slices.items
    c.loop-slice.yielded c.loop-slice.slice-iterator.rest.items c.loop-slice.invariant.done c.next.new.self.rest.items c.in-Some.slice
    c.read_part.new.slice c.args.cells.now c.loop-slice.tokens.items c.loop-slice.invariant.whole c.in-Some.ensures.steps.0
    c.loop-slice.invariant.but one c.loop-slice.invariant.taken c.loop-slice.invariant.quiet c.loop-slice.filled c.in-Ok-Short.n
    c.loop-slice.invariant.filled (rw c.in-Ok-Short.field-0-is at c.in-Ok-Short.ensures.read)

pub returns-in-Err-clause-feeds : goal.returns-in-Err-clause-feeds
returns-in-Err-clause-feeds g c =
    let shown = g.In.Source.shown in
    let one : IsBut c.args.part c.in-Some.slice c.read_part.new.slice =
    record { others = c.read_part.ensures.others; behind = c.read_part.ensures.behind; place = c.read_part.ensures.place } in
    feeds_failed c.args.part (shown c.args.input.now) (shown c.loop-slice.input) (shown c.read_part.new.input) c.args.slices.items
    c.loop-slice.yielded c.loop-slice.slice-iterator.rest.items c.loop-slice.invariant.done c.next.new.self.rest.items c.in-Some.slice
    c.read_part.new.slice c.args.cells.now c.loop-slice.tokens.items c.loop-slice.invariant.whole c.in-Some.ensures.steps.0
    c.loop-slice.invariant.but one c.loop-slice.invariant.taken c.loop-slice.invariant.quiet c.in-Err.failed c.in-Err.ensures.read

pub loop-slice-preserved : goal.loop-slice-preserved
loop-slice-preserved g c =
    let part = c.args.part in
    let done = c.loop-slice.invariant.done in
    let yielded = c.loop-slice.yielded in
    let rest = c.loop-slice.slice-iterator.rest.items in
    let others = c.next.new.self.rest.items in
    let x = c.in-Some.slice in
    let y = c.read_part.new.slice in
    let step : rest ≡ x ∷ others = c.in-Some.ensures.steps.0 in
    let pushed : c.push_reserved.new.self.items ≡ c.loop-slice.tokens.items ++ (c.hand_over.result ∷ []) = search rules in
    let read = whole_on (g.In.Source.shown c.args.input.now) (g.In.Source.shown c.loop-slice.input)
    (g.In.Source.shown c.read_part.new.input) (part_in part done) (part_of part y) c.loop-slice.invariant.taken c.loop-slice.invariant.quiet
    (rw c.in-Ok-Whole.field-0-is at c.in-Ok-Whole.ensures.read) in
    let more = part_more part done y in
    let cells = c.args.cells.now in
    let k = c.loop-slice.next in
    let cell = c.index-cells-next.result in
    let within : k < length cells = omega (arith, c.loop-slice.invariant.cells, ap length step) in
    let found : slice_get cells (length done) ≡ Some cell = ap (slice_get cells) c.loop-slice.invariant.count
    ∙ slice_get-get_or cells k cell within ∙ ap (λ (n : Named). Some n) (sym c.index-cells-next.is) in
    record {
      walks = search rules;
      whole = c.loop-slice.invariant.whole ∙ ap (λ l. yielded ++ l) step ∙ sym (append_assoc yielded (x ∷ []) others);
      done = done ++ (y ∷ []);
      count = length-append done (y ∷ []) ∙ omega (arith, c.loop-slice.invariant.count);
      but = but_at part yielded done [] x y c.loop-slice.invariant.but
          (record { others = c.read_part.ensures.others; behind = c.read_part.ensures.behind; place = c.read_part.ensures.place });
      taken = subst (Takes (g.In.Source.shown c.args.input.now) (g.In.Source.shown c.read_part.new.input)) (sym more) read.0;
      quiet = read.1;
      filled = omega (
        arith,
        c.loop-slice.invariant.filled,
        c.part_len-filled.ensures.value,
        length-append (part_in part done) (part_of part y),
        ap length more,
      );
      small = omega (arith, c.loop-slice.invariant.small, c.part_len-filled.ensures.small);
      handed = subst (AreHanded cells (done ++ (y ∷ []))) (sym pushed)
          (handed_more cells done c.loop-slice.tokens.items cell y c.hand_over.result found c.hand_over.ensures
          c.loop-slice.invariant.handed);
      cells = omega (arith, c.loop-slice.invariant.cells, ap length step);
      few = omega (arith, c.loop-slice.invariant.few, ap length step);
      room = omega (arith, c.loop-slice.invariant.room, ap length step, c.push_reserved.ensures.len, c.push_reserved.ensures.capacity);
    }
