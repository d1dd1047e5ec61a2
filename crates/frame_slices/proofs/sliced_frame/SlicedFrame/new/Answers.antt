use Rattle.std.proofs.Common.{◌<◌, sym, subst, arith}
use Rattle.frame_slices.specs.declared.frame_slice.Place.{Place}
use Rattle.frame_slices.proofs.CutPlaces.{cut_places, cut_covers, cut_some, cut_few}
use Rattle.frame_slices.proofs.sliced_frame.SlicedFrame.new.Goals as goal

pub invariant_of-result : goal.invariant_of-result
invariant_of-result c =
    let each = c.args.slice_height in
    let v = c.in_ok-slices.slices in
    let whole : Place = record {
      source = c.args.source.now;
      target = c.args.target.now;
      width = c.args.width;
      first = 0;
      rows =
          c.args.height;
    } in
    let made = c.in_ok-slices.ensures.made in
    let some = cut_some whole each v.items c.requires.slice_height c.requires.some made in
    record {
      source = c.requires.source;
      target = c.requires.target;
      plain = c.requires.plain;
      width = c.requires.width;
      height = c.requires.height;
      tall = c.requires.some;
      some = subst (λ n. 0 < n) (sym v.ok.0) some;
      few = omega (arith, cut_few whole each v.items c.requires.slice_height c.requires.some made c.requires.height, v.ok.0);
      places = cut_places whole each v.items c.requires.slice_height c.requires.some made;
      covers = cut_covers whole each v.items c.requires.slice_height c.requires.some made;
    }
