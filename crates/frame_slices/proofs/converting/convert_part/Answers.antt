use Rattle.std.proofs.Common.{◌≡◌, Ok, length, sym, ◌∙◌, subst, rules}
use Rattle.pix_io.specs.declared.transfer.Got.TheVariants.{Whole}
use Rattle.row_plan.proofs.JobOrigins.{HasFourEntries}
use Rattle.frame_slices.proofs.Gathered.{of_same_cells, gathered_all}
use Rattle.frame_slices.proofs.SlicePlanes.{same_length}
use Rattle.frame_slices.proofs.converting.convert_part.Goals as goal

pub gather-requires-clause-same : goal.gather-requires-clause-same
gather-requires-clause-same g c =
    let pair = c.args.plan.now.pair in
    let cells = c.args.cells.now in
    let slices = c.args.slices in
    let fed = c.run_workers-read.ensures.first.met.1.0 in
    let whole : c.run_workers-read.result ≡ Ok Whole = c.in_default-stopped.ensures in
    let four : HasFourEntries pair =
    subst HasFourEntries c.pair.ensures.pair (record { from = c.have_four.ensures.from; to = c.have_four.ensures.to }) in
    let long : length cells ≡ length fed.all =
    c.requires.cells ∙ slices.ok.0 ∙ sym (same_length fed.all slices.items fed.but.places) in
    of_same_cells pair cells c.in-Ok.bench.board c.close.result.items four c.in-Ok.ensures.origins c.close.ensures fed.all _ long
    (let handed = rw whole at fed.handed in search (handed, rules))

pub returns-in-Ok-gather-clause-converted : goal.returns-in-Ok-gather-clause-converted
returns-in-Ok-gather-clause-converted g c =
    let pair = c.args.plan.now.pair in
    let cells = c.args.cells.now in
    let slices = c.args.slices in
    let fed = c.run_workers-read.ensures.first.met.1.0 in
    let whole : c.run_workers-read.result ≡ Ok Whole = c.in_default-stopped.ensures in
    let four : HasFourEntries pair =
    subst HasFourEntries c.pair.ensures.pair (record { from = c.have_four.ensures.from; to = c.have_four.ensures.to }) in
    let long : length cells ≡ length fed.all =
    c.requires.cells ∙ slices.ok.0 ∙ sym (same_length fed.all slices.items fed.but.places) in
    let count : length c.close.result.items ≡ length fed.all = c.close.ensures.0 ∙ c.in-Ok.ensures.count ∙ long in
    let handed = rw whole at fed.handed in
    let made = gathered_all pair cells c.in-Ok.bench.board c.close.result.items four c.in-Ok.ensures.origins c.close.ensures fed.all _
    c.in-Ok-gather.rows.items long count c.in-Ok-gather.ensures (search (handed, rules)) in
    record {
      all = fed.all;
      read = let read = rw whole at fed.read in search (read, rules);
      but = fed.but;
      places = made.0;
      outputs = made.1;
    }
