use Rattle.std.proofs.Common.{map, option_to_list, ap, ◌∙◌, arith}
use Rattle.slice_claim.proofs.Seats.{none_out}
use Rattle.slice_claim.proofs.Shown.{joins}
use Rattle.slice_claim.proofs.board.Board.join.Goals as goal

pub join_seat-requires : goal.join_seat-requires
join_seat-requires g c =
    let board = c.args.self.now in
    let into = c.args.into.now in
    let from = c.args.from in
    let work = g.J.Work in
    let key = board.table.shared.key in (
      c.requires.own.0.0,
      c.requires.own.1.0,
      none_out from.seat.me.1 (from.carries ∙ ap option_to_list c.requires.idle.1),
      omega (arith, board.two_words),
      joins work.number_of work.origin work.is_done key.hands
          (map work.origin key.jobs.value.items) into.seat.id from.seat.id into.seat.me.0 from.seat.me.0
          into.live c.requires.idle.0 from.live c.requires.idle.1,
    )
