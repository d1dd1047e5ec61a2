use Rattle.std.proofs.Common.{length, ap, ◌∙◌, arith}
use Rattle.kernel_planes.specs.Planes.{palette_length, row_length}
use Rattle.kernel_int.proofs.CutRows.{behind_length, cut_rooms, cut_same, cut_total, four_sizes, read_has_planes, row_size}
use Rattle.kernel_int.proofs.cut.cut.Goals as goal

pub row_lengths-requires : goal.row_lengths-requires
row_lengths-requires c = read_has_planes c.args.op.now c.requires.follows

pub cut_row-requires-clause-room : goal.cut_row-requires-clause-room
cut_row-requires-clause-room c =
    let total = cut_total c.args.op.now c.args.width c.args.rows c.row_lengths.result c.args.frame.now
    (read_has_planes c.args.op.now c.requires.follows) c.requires.good c.row_lengths.ensures c.requires.frame in
    omega (arith, total)

pub cut_row-requires-2-clause-room : goal.cut_row-requires-2-clause-room
cut_row-requires-2-clause-room c =
    let total = cut_total c.args.op.now c.args.width c.args.rows c.row_lengths.result c.args.frame.now
    (read_has_planes c.args.op.now c.requires.follows) c.requires.good c.row_lengths.ensures c.requires.frame in
    let second = behind_length c.args.frame.now c.cut_row.result.1.now _ c.cut_row.ensures.behind in
    omega (arith, total, second)

pub cut_row-requires-3-clause-room : goal.cut_row-requires-3-clause-room
cut_row-requires-3-clause-room c =
    let total = cut_total c.args.op.now c.args.width c.args.rows c.row_lengths.result c.args.frame.now
    (read_has_planes c.args.op.now c.requires.follows) c.requires.good c.row_lengths.ensures c.requires.frame in
    let second = behind_length c.args.frame.now c.cut_row.result.1.now _ c.cut_row.ensures.behind in
    let third = behind_length c.cut_row.result.1.now c.cut_row-2.result.1.now _ c.cut_row-2.ensures.behind in
    omega (arith, total, second, third)

pub cut_row-requires-4-clause-room : goal.cut_row-requires-4-clause-room
cut_row-requires-4-clause-room c =
    let total = cut_total c.args.op.now c.args.width c.args.rows c.row_lengths.result c.args.frame.now
    (read_has_planes c.args.op.now c.requires.follows) c.requires.good c.row_lengths.ensures c.requires.frame in
    let second = behind_length c.args.frame.now c.cut_row.result.1.now _ c.cut_row.ensures.behind in
    let third = behind_length c.cut_row.result.1.now c.cut_row-2.result.1.now _ c.cut_row-2.ensures.behind in
    let fourth = behind_length c.cut_row-2.result.1.now c.cut_row-3.result.1.now _ c.cut_row-3.ensures.behind in
    omega (arith, total, second, third, fourth)

pub returns-clause-rows : goal.returns-clause-rows
returns-clause-rows c =
    let rows = c.args.rows in
    let row = c.args.row in
    let total = cut_total c.args.op.now c.args.width rows c.row_lengths.result c.args.frame.now
    (read_has_planes c.args.op.now c.requires.follows) c.requires.good c.row_lengths.ensures c.requires.frame in
    let rooms = cut_rooms rows (palette_length c.args.op.now) c.row_lengths.result c.args.frame.now c.cut_row.result.1.now
    c.cut_row-2.result.1.now c.cut_row-3.result.1.now total c.cut_row.ensures.behind c.cut_row-2.ensures.behind
    c.cut_row-3.ensures.behind in
    four_sizes c.cut_row.result.0.now c.cut_row-2.result.0.now c.cut_row-3.result.0.now c.cut_row-4.result.0.now
    (row_length c.args.op.now c.args.width)
    (ap length c.cut_row.ensures.row ∙ row_size c.args.frame.now rows row _ c.requires.row rooms.0 ∙ c.row_lengths.ensures 0 (omega arith))
    (ap length c.cut_row-2.ensures.row ∙ row_size c.cut_row.result.1.now rows row _ c.requires.row rooms.1
    ∙ c.row_lengths.ensures 1 (omega arith))
    (ap length c.cut_row-3.ensures.row ∙ row_size c.cut_row-2.result.1.now rows row _ c.requires.row rooms.2
    ∙ c.row_lengths.ensures 2 (omega arith))
    (ap length c.cut_row-4.ensures.row ∙ row_size c.cut_row-3.result.1.now rows row _ c.requires.row (omega (arith, rooms.3))
    ∙ c.row_lengths.ensures 3 (omega arith))

pub returns-clause-palette : goal.returns-clause-palette
returns-clause-palette c =
    let total = cut_total c.args.op.now c.args.width c.args.rows c.row_lengths.result c.args.frame.now
    (read_has_planes c.args.op.now c.requires.follows) c.requires.good c.row_lengths.ensures c.requires.frame in
    let second = behind_length c.args.frame.now c.cut_row.result.1.now _ c.cut_row.ensures.behind in
    let third = behind_length c.cut_row.result.1.now c.cut_row-2.result.1.now _ c.cut_row-2.ensures.behind in
    let fourth = behind_length c.cut_row-2.result.1.now c.cut_row-3.result.1.now _ c.cut_row-3.ensures.behind in
    let last = behind_length c.cut_row-3.result.1.now c.cut_row-4.result.1.now _ c.cut_row-4.ensures.behind in
    omega (arith, total, second, third, fourth, last)

pub returns-clause-same : goal.returns-clause-same
returns-clause-same c =
    λ x y column.
    cut_same c.args.op.now c.args.width c.args.rows c.args.row x y c.row_lengths.result c.args.frame.now c.cut_row.result.1.now
    c.cut_row-2.result.1.now c.cut_row-3.result.1.now c.cut_row-4.result.1.now c.cut_row.result.0.now c.cut_row-2.result.0.now
    c.cut_row-3.result.0.now c.cut_row-4.result.0.now c.requires.follows c.requires.good c.row_lengths.ensures c.requires.frame
    c.requires.row column c.cut_row.ensures.behind c.cut_row-2.ensures.behind c.cut_row-3.ensures.behind c.cut_row-4.ensures.behind
    c.cut_row.ensures.row c.cut_row-2.ensures.row c.cut_row-3.ensures.row c.cut_row-4.ensures.row (returns-clause-rows c)
