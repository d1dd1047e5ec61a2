use Rattle.std.proofs.Common.{map, arith}
use Rattle.slice_claim.proofs.Shown.{splits}
use Rattle.slice_claim.proofs.board.Board.split_by.Goals as goal

pub split_seat-seat-requires : goal.split_seat-seat-requires
split_seat-seat-requires g c =
    let board = c.args.self.now in
    let seat = c.args.hand.now.seat in
    let work = g.J.Work in
    let key = board.table.shared.key in (
      c.requires.own.0,
      omega (arith, board.two_words),
      splits work.number_of work.origin work.is_done key.hands
          (map work.origin key.jobs.value.items) seat.id g.G.Gift.amount seat.me.0 c.requires.free
          (omega (arith, c.requires.give.0, c.requires.give.2)) (omega (arith, c.requires.give.1, c.requires.give.2)),
    )
