use Rattle.std.proofs.Common.{◌≡◌, ◌+◌, ◌*◌, ◌^◌, ◌<◌, ◌≤◌, ◌⊎◌, inl, inr, ⊎_elim, ap, sym, subst, ◌∙◌, arith, below_more, slice_index_or}
use Rattle.op_list.specs.Types.{bits, bytes}
use Rattle.op_list.specs.Pixel.{element}
use Rattle.kernel_planes.proofs.Positions.{element_small}
use Rattle.kernel_planes.proofs.Blocks.{below_kept}
use Rattle.kernel_planes.proofs.PlaneRows.{lane_end, lane_place}
use Rattle.kernel_planes.proofs.read.read_plane.Goals as goal

pub read_value-requires-clause-room : goal.read_value-requires-clause-room
read_value-requires-clause-room g c =
    λ i below. lane_end c.args.x i c.args.n c.args.count c.loop-e.e (bytes c.args.elem) _ (omega arith) below c.requires.room

pub loop-e-preserved : goal.loop-e-preserved
loop-e-preserved g c =
    let e = c.loop-e.e in
    let count = c.args.count in
    let before = c.args.before in
    let number = g.W.WholeNumber.number in
    record {
      set = λ t i d below within.
          below_more (λ t. number (slice_index_or c.read_value.new.values (64 * (before + t) + i) d)
          ≡ element c.args.elem c.args.from.now ((c.args.x + i) * count + t)) e
          (λ t less. ap number (c.read_value.ensures.kept (64 * (before + t) + i) d (inl (omega arith)))
          ∙ c.loop-e.invariant.set t i d less within)
          (c.read_value.ensures.set i d within ∙ ap (element c.args.elem c.args.from.now) (lane_place c.args.x i count e))
          t below;
      kept = λ j d out.
          let other : (j < 64 * (before + e)) ⊎ (64 * (before + e) + c.args.n ≤ j) =
          ⊎_elim (λ (lt : j < 64 * before). inl (omega arith))
          (λ (past : (64 * (before + count) ≤ j) × (j < 256)). inr (omega (arith, past.0))) out in
          c.read_value.ensures.kept j d other ∙ c.loop-e.invariant.kept j d out;
      small = λ low.
          below_kept number c.loop-e.values c.read_value.new.values (before + e) c.args.n 4 (2 ^ bits c.args.elem) (omega arith)
          (λ i d below. subst (λ t. t < 2 ^ bits c.args.elem) (sym (c.read_value.ensures.set i d below))
          (element_small c.args.elem c.args.from.now _ (λ k. (c.type_inv.from k).fits)))
          c.read_value.ensures.kept (c.loop-e.invariant.small low);
    }
