use Rattle.std.proofs.Common.{◌≡◌, ◌^◌, ◌≤◌, sym, ◌∙◌, ap, rules, arith}
use Rattle.std.specs.Int.{bit_at}
use Rattle.std.proofs.Math.Nat.{pow-le-pow_right}
use Rattle.pix_desc.specs.Component.{component_of, start_of, number_at}
use Rattle.pix_desc.proofs.Valid.{laid_out, inside_row}
use Rattle.pix_desc.proofs.Kept.{kept_bit}
use Rattle.pix_desc.proofs.component.write_comp.Goals as goal

pub bounds-desc-j : goal.bounds-desc-j
bounds-desc-j c = omega (arith, (laid_out c.args.desc.now c.requires.valid).most, c.requires.listed)

pub number_at-number-requires : goal.number_at-number-requires
number_at-number-requires c = omega (
  arith,
  inside_row c.args.desc.now c.args.j c.args.x c.args.row.now c.requires.valid c.requires.listed c.requires.inside,
  c.start_of-at.ensures,
)

pub overflow_cast-v : goal.overflow_cast-v
overflow_cast-v c =
    let desc = c.args.desc.now in
    let bits = (laid_out desc c.requires.valid).bits c.args.j c.requires.listed in
    let deep : (component_of desc c.args.j).depth ≤ 16 = omega (arith, bits) in
    let most : 2 ^ (component_of desc c.args.j).depth ≤ 2 ^ 16 = pow-le-pow_right (omega arith) deep in
    omega (arith, most, c.requires.value)

pub with_bits-changed-requires-clause-deep : goal.with_bits-changed-requires-clause-deep
with_bits-changed-requires-clause-deep c = (laid_out c.args.desc.now c.requires.valid).deep c.args.j c.requires.listed

pub with_bits-changed-requires-clause-bits : goal.with_bits-changed-requires-clause-bits
with_bits-changed-requires-clause-bits c = (laid_out c.args.desc.now c.requires.valid).bits c.args.j c.requires.listed

pub set_number_at-requires-clause-inside : goal.set_number_at-requires-clause-inside
set_number_at-requires-clause-inside c =
    omega (
      arith,
      inside_row c.args.desc.now c.args.j c.args.x c.args.row.now c.requires.valid c.requires.listed c.requires.inside,
      c.start_of-at.ensures,
    )

pub returns-clause-others : goal.returns-clause-others
returns-clause-others c =
    let desc = c.args.desc.now in
    let j = c.args.j in
    let comp = component_of desc j in
    let old = c.args.row.now in
    let new = c.set_number_at.new.row in
    let out = laid_out desc c.requires.valid in
    let at : c.start_of-at.result ≡ start_of desc comp c.args.x = c.start_of-at.ensures in
    let read_new : number_at desc comp new (start_of desc comp c.args.x) ≡ c.with_bits-changed.result =
    sym (ap (number_at desc comp new) at) ∙ c.set_number_at.ensures.reads in
    let read_old : c.number_at-number.result ≡ number_at desc comp old (start_of desc comp c.args.x) = c.number_at-number.ensures
    ∙ ap (number_at desc comp old) at in
    record {
      size = search rules;
      bits = kept_bit desc comp c.args.x old new (out.first j c.requires.listed) (out.bits j c.requires.listed)
          (λ k. search rules)
          (λ k. (c.type_inv.row k).fits)
          (λ k early. c.set_number_at.ensures.before k (omega (arith, at)))
          (λ k late. c.set_number_at.ensures.behind k (omega (arith, at)))
          (λ m low. ap (λ n. bit_at n m) read_new ∙ c.with_bits-changed.ensures.below m low ∙ ap (λ n. bit_at n m) read_old)
          (λ m high. ap (λ n. bit_at n m) read_new ∙ c.with_bits-changed.ensures.above m high ∙ ap (λ n. bit_at n m) read_old);
    }
