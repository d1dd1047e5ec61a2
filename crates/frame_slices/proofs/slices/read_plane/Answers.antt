use Rattle.std.proofs.Common.{◌≡◌, ◌<◌, suc, length, take, drop, set, sym, subst, rules, arith, ◌∙◌, ap, length-append, length-set}
use Rattle.std.proofs.Math.Seq.{map-set_same}
use Rattle.std.proofs.lemmas.List.{get_or-set_same}
use Rattle.pix_io.specs.Streams.{Takes}
use Rattle.frame_slices.specs.FrameSlices.{plane_of, plane_in, behind_of, place_of}
use Rattle.frame_slices.proofs.Chained.{chain_set, chain_more_set}
use Rattle.frame_slices.proofs.ReadsOn.{end_at, short_at, failed_at, whole_on}
use Rattle.frame_slices.proofs.slices.read_plane.Goals as goal

pub returns-in-Ok-End-clause-read : goal.returns-in-Ok-End-clause-read
returns-in-Ok-End-clause-read g c =
    let p = c.args.plane in
    let xs = c.loop-k.slices in
    let k = c.loop-k.k in
    let y = c.read_plane.new.self in
    let within : k < length xs = search rules in
    end_at _ _ _ (plane_in p (take k xs)) (plane_of p y) (plane_in p (drop (suc k) xs))
    (plane_in p (set xs k y)) c.loop-k.filled c.ended.result
    (chain_set (plane_of p) xs k y within) c.loop-k.invariant.filled c.ended.ensures.value c.loop-k.invariant.taken c.loop-k.invariant.quiet
    (rw c.in-Ok-End.field-0-is at c.in-Ok-End.ensures.read)

pub returns-in-Ok-Short-clause-read : goal.returns-in-Ok-Short-clause-read
returns-in-Ok-Short-clause-read g c =
    let p = c.args.plane in
    let xs = c.loop-k.slices in
    let k = c.loop-k.k in
    let y = c.read_plane.new.self in
    let within : k < length xs = search rules in
    short_at _ _ _ (plane_in p (take k xs)) (plane_of p y) (plane_in p (drop (suc k) xs))
    (plane_in p (set xs k y)) c.loop-k.filled c.in-Ok-Short.n
    (chain_set (plane_of p) xs k y within) c.loop-k.invariant.filled c.loop-k.invariant.taken c.loop-k.invariant.quiet
    (rw c.in-Ok-Short.field-0-is at c.in-Ok-Short.ensures.read)

pub returns-in-Err-clause-read : goal.returns-in-Err-clause-read
returns-in-Err-clause-read g c =
    let p = c.args.plane in
    let xs = c.loop-k.slices in
    let k = c.loop-k.k in
    let y = c.read_plane.new.self in
    let within : k < length xs = search rules in
    failed_at _ _ _ (plane_in p (take k xs)) (plane_of p y) (plane_in p (drop (suc k) xs)) (plane_in p (set xs k y)) c.in-Err.failed
    (chain_set (plane_of p) xs k y within) c.loop-k.invariant.taken c.loop-k.invariant.quiet c.in-Err.ensures.read

pub returns-in-Ok-End-clause-others : goal.returns-in-Ok-End-clause-others
returns-in-Ok-End-clause-others g c = λ q used other.
    map-set_same (plane_of q) c.loop-k.slices c.loop-k.k c.read_plane.new.self c.index-slices-k.result
    (c.read_plane.ensures.others q used other) ∙ c.loop-k.invariant.others q used other

pub returns-in-Ok-End-clause-behind : goal.returns-in-Ok-End-clause-behind
returns-in-Ok-End-clause-behind g c =
    map-set_same behind_of c.loop-k.slices c.loop-k.k c.read_plane.new.self c.index-slices-k.result c.read_plane.ensures.behind
    ∙ c.loop-k.invariant.behind

pub returns-in-Ok-End-clause-places : goal.returns-in-Ok-End-clause-places
returns-in-Ok-End-clause-places g c =
    map-set_same place_of c.loop-k.slices c.loop-k.k c.read_plane.new.self c.index-slices-k.result c.read_plane.ensures.place
    ∙ c.loop-k.invariant.places

pub returns-in-Ok-Short-clause-others : goal.returns-in-Ok-Short-clause-others
returns-in-Ok-Short-clause-others g c = λ q used other.
    map-set_same (plane_of q) c.loop-k.slices c.loop-k.k c.read_plane.new.self c.index-slices-k.result
    (c.read_plane.ensures.others q used other) ∙ c.loop-k.invariant.others q used other

pub returns-in-Ok-Short-clause-behind : goal.returns-in-Ok-Short-clause-behind
returns-in-Ok-Short-clause-behind g c =
    map-set_same behind_of c.loop-k.slices c.loop-k.k c.read_plane.new.self c.index-slices-k.result c.read_plane.ensures.behind
    ∙ c.loop-k.invariant.behind

pub returns-in-Ok-Short-clause-places : goal.returns-in-Ok-Short-clause-places
returns-in-Ok-Short-clause-places g c =
    map-set_same place_of c.loop-k.slices c.loop-k.k c.read_plane.new.self c.index-slices-k.result c.read_plane.ensures.place
    ∙ c.loop-k.invariant.places

pub returns-in-Err-clause-others : goal.returns-in-Err-clause-others
returns-in-Err-clause-others g c = λ q used other.
    map-set_same (plane_of q) c.loop-k.slices c.loop-k.k c.read_plane.new.self c.index-slices-k.result
    (c.read_plane.ensures.others q used other) ∙ c.loop-k.invariant.others q used other

pub returns-in-Err-clause-behind : goal.returns-in-Err-clause-behind
returns-in-Err-clause-behind g c =
    map-set_same behind_of c.loop-k.slices c.loop-k.k c.read_plane.new.self c.index-slices-k.result c.read_plane.ensures.behind
    ∙ c.loop-k.invariant.behind

pub returns-in-Err-clause-places : goal.returns-in-Err-clause-places
returns-in-Err-clause-places g c =
    map-set_same place_of c.loop-k.slices c.loop-k.k c.read_plane.new.self c.index-slices-k.result c.read_plane.ensures.place
    ∙ c.loop-k.invariant.places

pub loop-k-preserved : goal.loop-k-preserved
loop-k-preserved g c =
    let p = c.args.plane in
    let xs = c.loop-k.slices in
    let k = c.loop-k.k in
    let y = c.read_plane.new.self in
    let d = c.index-slices-k.result in
    let within : k < length xs = search rules in
    let more = chain_more_set (plane_of p) xs k y within in
    let read = whole_on (g.In.Source.shown c.args.input.now) _ (g.In.Source.shown c.read_plane.new.input) (plane_in p (take k xs))
    (plane_of p y) c.loop-k.invariant.taken c.loop-k.invariant.quiet (rw c.in-Ok-Whole.field-0-is at c.in-Ok-Whole.ensures.read) in
    let there = get_or-set_same xs k y c.index-slices-k-in-Ok-Whole.result within in
    let size : c.plane_len-filled.result ≡ length (plane_of p y) = c.plane_len-filled.ensures.value
    ∙ ap (λ slice. length (plane_of p slice)) there in
    record {
      count = length-set xs k y ∙ c.loop-k.invariant.count;
      taken = subst (Takes (g.In.Source.shown c.args.input.now) (g.In.Source.shown c.read_plane.new.input)) (sym more) read.0;
      quiet = read.1;
      filled = omega (arith, c.loop-k.invariant.filled, size, length-append (plane_in p (take k xs)) (plane_of p y), ap length more);
      small = omega (arith, c.loop-k.invariant.small, c.plane_len-filled.ensures.small);
      others = λ q used other. map-set_same (plane_of q) xs k y d (c.read_plane.ensures.others q used other)
          ∙ c.loop-k.invariant.others q used other;
      behind = map-set_same behind_of xs k y d c.read_plane.ensures.behind ∙ c.loop-k.invariant.behind;
      places = map-set_same place_of xs k y d c.read_plane.ensures.place ∙ c.loop-k.invariant.places;
    }
