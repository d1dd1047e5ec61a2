use Rattle.std.proofs.Common.{◌≡◌, ◌+◌, ◌/◌, ◌<◌, true, false, not, cond, length, get_or, take, sym, ◌∙◌, ap, arith}
use Rattle.pix_desc.specs.Component.{no_component}
use Rattle.pix_desc.proofs.Planes.{elements_of, elements_left, elements_left-none, elements_left-more, is_new}
use Rattle.pix_desc.proofs.element_layout.element_count.Goals as goal
use Rattle.pix_desc.proofs.element_layout.element_count.Goals.{then-not-is_used, else-not-is_used}

pub loop-i-init : goal.loop-i-init
loop-i-init c = record { all = omega (arith, elements_left-none c.args.comps.now); small = omega arith }

pub loop-i-preserved : goal.loop-i-preserved
loop-i-preserved c =
    let comps = c.args.comps.now in
    let i = c.loop-i.i in
    let comp = get_or comps i no_component in
    let within : i < length comps = omega arith in
    let more = elements_left-more comps i no_component within in
    elim c.if-not-is_used.branch [
      | then-not-is_used w ↦
          let new : is_new (take i comps) comp ≡ true = ap not (sym c.is_used.ensures ∙ w.if-not-is_used.true) in
          let counted : elements_left comps i ≡ elements_of comp + elements_left comps (i + 1) = more
          ∙ ap (λ b. cond b (elements_of comp) 0 + elements_left comps (i + 1)) new in
          let here : w.from-count.result ≡ elements_of comp = w.from-count.ensures ∙ ap (λ size. comp.step / size) w.bytes_read.ensures in
          record { all = omega (arith, counted, here, c.loop-i.invariant.all); small = omega arith }
      | else-not-is_used w ↦
          let seen : is_new (take i comps) comp ≡ false = ap not (sym c.is_used.ensures ∙ w.if-not-is_used.false) in
          let counted : elements_left comps i ≡ 0 + elements_left comps (i + 1) = more
          ∙ ap (λ b. cond b (elements_of comp) 0 + elements_left comps (i + 1)) seen in
          record { all = omega (arith, counted, c.loop-i.invariant.all); small = omega arith }
    ]
