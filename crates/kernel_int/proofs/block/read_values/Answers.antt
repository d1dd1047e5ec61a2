use Rattle.std.proofs.Common.{◌≡◌, ◌+◌, ◌*◌, ◌^◌, ◌≤◌, sym, ◌∙◌, ap, arith, subst, slice_index}
use Rattle.op_list.specs.Types.{bytes}
use Rattle.op_list.specs.Values.{no_values}
use Rattle.op_list.specs.Pixel.{palette_colours, pixel_count, pixel_number}
use Rattle.kernel_planes.specs.Block.{pixel_at, colour_byte, colour_in}
use Rattle.kernel_planes.specs.Planes.{row_frame, rows_of}
use Rattle.kernel_step.proofs.Kernels.{read_good, read_value, counts_few}
use Rattle.kernel_planes.proofs.Palettes.{palette_bits, palette_value, indices_alone, colour_at}
use Rattle.kernel_planes.proofs.PlaneRows.{row_room}
use Rattle.kernel_planes.proofs.RowFrames.{all_sizes, row_of_frame}
use Rattle.kernel_int.proofs.block.read_values.Goals as goal

pub read_palette-requires-clause-bits : goal.read_palette-requires-clause-bits
read_palette-requires-clause-bits g c = subst (λ b. 2 ^ b ≤ 2 ^ g.W.WholeNumber.bits)
    (palette_bits c.args.elem c.args.planes.now c.args.palette c.if-palette.true c.requires.good) c.requires.bits

pub read_palette-requires-clause-indices : goal.read_palette-requires-clause-indices
read_palette-requires-clause-indices g c =
    let input = c.args.input.now in
    let alone = indices_alone c.args.elem c.args.planes.now c.args.palette c.args.position.now.width input.first.now input.second.now
    input.third.now input.fourth.now input.palette.now c.if-palette.true c.requires.good c.requires.rows in
    omega (arith, alone.0, c.requires.inside.within)

pub read_palette-requires-clause-palette : goal.read_palette-requires-clause-palette
read_palette-requires-clause-palette g c =
    let size = rw c.if-palette.true at c.requires.entries in omega (arith, size)

pub returns-then-palette-clause-set : goal.returns-then-palette-clause-set
returns-then-palette-clause-set g c =
    λ v i d below within.
    let input = c.args.input.now in
    let position = c.args.position.now in
    let alone = indices_alone c.args.elem c.args.planes.now c.args.palette position.width input.first.now input.second.now
    input.third.now input.fourth.now input.palette.now c.if-palette.true c.requires.good c.requires.rows in
    let count : pixel_count (pixel_at position i) ≡ position.width =
    ap (λ t. position.width * t) c.requires.inside.rows ∙ (let one : position.width * 1 ≡ position.width = omega arith in one) in
    let place : pixel_number (pixel_at position i) ≡ position.x + i =
    ap (λ t. t * position.width + (position.x + i)) c.requires.inside.row
    ∙ (let none : 0 * position.width + (position.x + i) ≡ position.x + i = omega arith in none) in
    c.read_palette.ensures.set v i d below within
    ∙ sym (palette_value c.args.elem c.args.planes.now c.args.palette (row_frame (rows_of input) input.palette.now)
    (pixel_at position i) no_values v c.if-palette.true
    ∙ ap (λ f. slice_index (palette_colours f (pixel_at position i)) v) alone.1
    ∙ colour_at input.first.now input.palette.now (pixel_at position i) v below (alone.0 ∙ sym count)
    (omega (arith, count, place, within, c.requires.inside.within))
    ∙ ap (λ t. colour_in input.first.now input.palette.now t (colour_byte v)) place)

pub returns-then-palette-clause-small : goal.returns-then-palette-clause-small
returns-then-palette-clause-small g c =
    rw (palette_bits c.args.elem c.args.planes.now c.args.palette c.if-palette.true c.requires.good) c.read_palette.ensures.small

pub read_block-requires-clause-whole : goal.read_block-requires-clause-whole
read_block-requires-clause-whole g c = (read_good c.args.elem c.args.planes.now c.args.palette c.requires.good).0

pub read_block-requires-clause-few : goal.read_block-requires-clause-few
read_block-requires-clause-few g c =
    counts_few 4 c.args.planes.now (read_good c.args.elem c.args.planes.now c.args.palette c.requires.good).1

pub read_block-requires-clause-rows : goal.read_block-requires-clause-rows
read_block-requires-clause-rows g c =
    λ p below.
    row_room c.args.position.now.x c.args.n c.args.position.now.width (slice_index c.args.planes.now p) (bytes c.args.elem) _
    c.requires.inside.within (c.requires.rows p below)

pub returns-else-palette-clause-set : goal.returns-else-palette-clause-set
returns-else-palette-clause-set g c =
    λ v i d below within.
    let input = c.args.input.now in
    let planes = c.args.planes.now in
    let position = c.args.position.now in
    let good = read_good c.args.elem planes c.args.palette c.requires.good in
    c.read_block.ensures.set v i d below within
    ∙ sym (read_value c.args.elem planes c.args.palette (row_frame (rows_of input) input.palette.now)
    (pixel_at position i) no_values v c.if-palette.false below
    ∙ row_of_frame c.args.elem planes (rows_of input) input.palette.now (pixel_at position i) v
    (all_sizes c.args.elem planes position.width input.first.now input.second.now input.third.now input.fourth.now good.1 c.requires.rows)
    c.requires.inside.rows c.requires.inside.row (omega (arith, within, c.requires.inside.within)))
