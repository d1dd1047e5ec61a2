use Rattle.std.proofs.Common.{◌≡◌, ◌+◌, ◌-◌, ◌++◌, min, length, length-append, drop, sym, ◌∙◌, ap, ap₂, arith, rules}
use Rattle.std.proofs.lemmas.List.{take_at, length-drop}
use Rattle.frame_slices.specs.Generated.{state_after, generated}
use Rattle.frame_slices.proofs.MadeBytes.{length-generated, generated_add, nothing_left}
use Rattle.frame_slices.proofs.generator.GeneratorSource.read.Goals as goal

pub returns-clause-bytes : goal.returns-clause-bytes
returns-clause-bytes c =
    let state = c.args.self.now.state in
    let left = c.args.self.now.left in
    let n = c.min-count.result in
    let made = c.fill-self.new.bytes in
    let rest = drop n c.args.buf.now in
    let least : n ≡ min (length c.args.buf.now) left = search rules in
    let given : made ≡ generated state n = search rules in
    let after : c.fill-self.result ≡ state_after state n = search rules in
    let size : length made ≡ n = ap length given ∙ length-generated state n in (
      ap (generated state) {x = left} {y = n + (left - n)} (omega (arith, least))
          ∙ generated_add state n (left - n)
          ∙ ap₂ (λ l s. l ++ generated s (left - n)) (sym given ∙ sym (take_at made rest n size)) (sym after),
      λ none some. nothing_left c.fill-self.result (left - n)
          (omega (arith, least, none, some, length-append made rest, size, length-drop n c.args.buf.now)),
    )
