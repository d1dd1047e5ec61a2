use Rattle.std.proofs.Common.{◌+◌, ◌%◌, ◌^◌, [], get_or, option_to_list, Option, map, sym, ap, ◌∙◌, subst, arith}
use mathlib.Core.Option.{none}
use Rattle.atomic_table.specs.Table.{Me, step, rest, Allows}
use Rattle.atomic_table.specs.Seated.{TableId}
use Rattle.slice_claim.specs.Rule.{ShowsLawful, Finishes}
use Rattle.slice_claim.specs.declared.view.View.{View}
use Rattle.slice_claim.proofs.Seats.{first_out}
use Rattle.slice_claim.proofs.Shown.{lands}
use Rattle.slice_claim.proofs.board.Board.finish.Goals as goal

pub exchange-requires : goal.exchange-requires
exchange-requires g c = (
  c.requires.own.0,
  first_out c.args.hand.now.seat.me.1 c.args.held.number (c.args.hand.now.carries
      ∙ ap option_to_list c.requires.holds),
)

pub fetch_add-requires : goal.fetch_add-requires
fetch_add-requires g c =
    let board = c.args.self.now in
    let hand = c.args.hand.now in
    let work = g.J.Work in
    let number = c.args.held.number in
    let key = board.table.shared.key in
    let origins = map work.origin key.jobs.value.items in
    let slots = board.table.shared.table_id.slots in (
      ◌∙◌ {A = TableId} c.exchange.ensures.0 c.requires.own.0,
      omega (arith, board.two_words),
      subst (λ (m : Me (Option g.row.J.Denot) View). Allows
          (ShowsLawful work.number_of work.origin work.is_done key.hands origins) slots c.exchange.new.seat.id m 1
          (λ n. (n + 1) % 2 ^ 64) (Finishes (step slots 1 1 0 none) m))
          (sym {A = Me (Option g.row.J.Denot) View} c.exchange.ensures.3)
          (lands work.number_of work.origin work.is_done key.hands origins slots c.exchange.new.seat.id number hand.seat.me.0
          c.args.held.job
          (rest hand.seat.me.1) hand.live c.requires.holds
          (c.requires.job.0, c.requires.job.1 ∙ ap (λ o. get_or o number []) (sym c.requires.own.2)) c.requires.done),
    )
