use Rattle.std.proofs.Common.{Some, map, subst, arith}
use Rattle.slice_claim.specs.Rule.{IsGiven}
use Rattle.slice_claim.proofs.Moved.{at_lt, same_job}
use Rattle.slice_claim.proofs.Shown.{closes}
use Rattle.slice_claim.proofs.board.Board.close.Goals as goal

pub take_all-requires-clause-full : goal.take_all-requires-clause-full
take_all-requires-clause-full g c = λ k lt.
    let work = g.J.Work in
    let board = c.args.self in
    let seat = c.args.hand.seat in
    let key = board.table.shared.key in
    let closed = c.close_with-closed in
    let it = closes work.number_of work.origin work.is_done key.hands (map work.origin key.jobs.value.items) seat.id seat.me.0
    closed.result.words.items closed.result.slots.items c.requires.whole c.requires.spent c.requires.idle
    closed.ensures.values.2 k (omega (arith, closed.ensures.counts.1, closed.result.slots.ok.0, board.slot_each)) in
    (it.0, it.1)

pub returns : goal.returns
returns g c =
    let work = g.J.Work in
    let board = c.args.self in
    let seat = c.args.hand.seat in
    let key = board.table.shared.key in
    let origins = map work.origin key.jobs.value.items in
    let closed = c.close_with-closed in
    let moved = c.take_all.ensures.jobs in (
      moved.0,
      λ k job e.
          let here = moved.1 k job e in
          let it = closes work.number_of work.origin work.is_done key.hands origins seat.id seat.me.0
          closed.result.words.items closed.result.slots.items c.requires.whole c.requires.spent c.requires.idle
          closed.ensures.values.2 k (at_lt closed.result.slots.items k (Some job) here) in
          subst (λ (j : g.row.J.Denot). IsGiven work.number_of work.origin origins k j × work.is_done j)
          (same_job closed.result.slots.items k it.0 job it.1 here) (it.2, it.3),
    )
