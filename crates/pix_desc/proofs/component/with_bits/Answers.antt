use Rattle.std.proofs.Common.{◌/◌, ◌%◌, ◌^◌, ◌<◌, ◌∙◌, ap, sym, subst, rules}
use Rattle.std.specs.Int.{bit_at}
use Rattle.pix_desc.proofs.ReplacedBits.{replaced_by_or, replaced_small, replaced_below, replaced_above, replaced_value}
use Rattle.pix_desc.proofs.component.with_bits.Goals as goal

pub returns-clause-value : goal.returns-clause-value
returns-clause-value c =
    let n = c.args.number in
    let s = c.args.shift in
    let d = c.args.depth in
    let v = c.args.value in
    ap (λ r. r / 2 ^ s % 2 ^ d) (replaced_by_or n s d v c.requires.bits c.requires.small)
    ∙ replaced_value n s d v c.requires.bits c.requires.small

pub returns-clause-below : goal.returns-clause-below
returns-clause-below c = λ i below.
    let n = c.args.number in
    let s = c.args.shift in
    let d = c.args.depth in
    let v = c.args.value in
    ap (λ r. bit_at r i) (replaced_by_or n s d v c.requires.bits c.requires.small) ∙ replaced_below n s d v i c.requires.bits below

pub returns-clause-above : goal.returns-clause-above
returns-clause-above c = λ i above.
    let n = c.args.number in
    let s = c.args.shift in
    let d = c.args.depth in
    let v = c.args.value in
    ap (λ r. bit_at r i) (replaced_by_or n s d v c.requires.bits c.requires.small)
    ∙ replaced_above n s d v i c.requires.bits (search rules) c.requires.small above

pub returns-clause-narrow : goal.returns-clause-narrow
returns-clause-narrow c = λ few small.
    let n = c.args.number in
    let s = c.args.shift in
    let d = c.args.depth in
    let v = c.args.value in
    subst (λ r. r < 256) (sym (replaced_by_or n s d v c.requires.bits c.requires.small))
    (replaced_small n s d v 8 few small c.requires.small)
