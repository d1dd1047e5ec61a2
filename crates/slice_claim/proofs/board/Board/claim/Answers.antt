use Rattle.std.proofs.Common.{◌∷◌, Some, map, sym, ap, ◌∙◌, arith}
use Rattle.atomic_table.specs.Table.{rest}
use Rattle.slice_claim.proofs.Shown.{claims}
use Rattle.slice_claim.proofs.board.Board.claim.Goals as goal

pub fetch_add-number-requires : goal.fetch_add-number-requires
fetch_add-number-requires g c =
    let board = c.args.self.now in
    let hand = c.args.hand.now in (
      c.requires.own.0,
      omega (arith, board.two_words),
      claims g.J.Work.number_of g.J.Work.origin g.J.Work.is_done board.table.shared.key.hands
          (map g.J.Work.origin board.table.shared.key.jobs.value.items) board.table.shared.table_id.slots hand.seat.id hand.seat.me
          hand.live c.requires.free,
    )

pub exchange-requires : goal.exchange-requires
exchange-requires g c =
    let it = c.fetch_add-number.ensures.2.2 (omega (arith, c.args.self.now.slot_each, c.from.ensures)) in
    let number = c.fetch_add-number.result in
    (c.fetch_add-number.ensures.0 ∙ c.requires.own.0, (Some it.0, it.1 ∙ ap (λ l. (number, Some it.0) ∷ rest l) (sym it.1)))
