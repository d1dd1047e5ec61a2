use Rattle.std.proofs.Common.{[], ◌∷◌, List, Option, length, map, refl, sym, ap, subst, arith}
use Rattle.atomic_table.specs.Table.{opening}
use Rattle.slice_claim.specs.Rule.{ShowsLawful, first_view}
use Rattle.slice_claim.proofs.Moved.{shown_at}
use Rattle.slice_claim.proofs.Shown.{opens}
use Rattle.slice_claim.proofs.board.Board.new.Goals as goal

pub new-requires : goal.new-requires
new-requires g c =
    let work = g.J.Work in
    let jobs = c.args.jobs.items in
    let hands = c.args.hands in
    let origins = map work.origin c.of.result.value.items in
    subst (λ (l : List (Option g.row.J.Denot)). ShowsLawful work.number_of work.origin work.is_done hands origins
    (opening (0 ∷ 0 ∷ []) l (first_view hands origins)))
    (sym c.in_ok-slots.ensures)
    (opens work.number_of work.origin work.is_done hands origins jobs (length jobs) refl (omega (
      arith,
      c.args.jobs.ok.0,
      c.requires.few,
    )) c.requires.some_hand (omega (arith, c.ranges.hands.fits))
    (ap (λ v. map work.origin v.items) c.of.ensures) (λ k job e. c.requires.numbered k job (shown_at jobs k job e)))
