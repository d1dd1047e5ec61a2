use Rattle.std.proofs.Common.{◌≡◌, ◌+◌, ◌%◌, pos, ◌+ℤ◌, ◌*ℤ◌, rules, arith}
use Rattle.std.proofs.lemmas.Int.{ints}
use Rattle.pix_desc.specs.Component.{bit_position, first_byte}
use Rattle.pix_desc.proofs.positions.bit_position.Goals as goal

pub returns : goal.returns
returns c =
    let desc = c.args.desc.now in
    let comp = c.args.comp.now in
    let is : bit_position desc comp c.args.i
    ≡ pos 8 *ℤ (first_byte desc comp +ℤ pos c.byte_with.result) +ℤ pos ((comp.shift + c.args.i) % 8) = search rules in
    omega (arith, ints, is, c.first_byte.ensures)
