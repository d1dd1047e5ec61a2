-- `==` on descriptors answers true exactly where they are one.
use Rattle.std.proofs.Common.{◌≡◌, Bool, true, false, refl, ap}
use Rattle.std.specs.Bool.{Decides}
use Rattle.std.proofs.lemmas.Bool.Decides.{Decides-eqb, Decides-int_eq, Decides-and, Decides-like}
use mathlib.Core.Bool.{beq}
use lib.Pointwise.{pointwise_decides}
use Rattle.pix_desc.specs.declared.desc.Comp.{Comp}
use Rattle.pix_desc.specs.declared.desc.Desc.{Desc}
use Rattle.pix_desc.specs.contracts.desc.CompPartialEq.TheImpl as comp_eq
use Rattle.pix_desc.specs.contracts.desc.DescPartialEq.TheImpl as desc_eq

flags_decide : (a b : Bool) → Decides (beq a b) (a ≡ b)
flags_decide true true = (λ _. refl, λ _. refl)
flags_decide true false = (λ h. cc, λ e. cc)
flags_decide false true = (λ h. cc, λ e. cc)
flags_decide false false = (λ _. refl, λ _. refl)

components_decide : (a b : Comp) → Decides (comp_eq.ghosts.eq a b) (a ≡ b)
components_decide a b =
    Decides-like _ (λ h. λ i. record { plane = h.0 i; step = h.1.0 i; offset = h.1.1.0 i; shift = h.1.1.1.0 i; depth = h.1.1.1.1 i })
    (λ e. (
      ap (λ (c : Comp). c.plane) e,
      (
        ap (λ (c : Comp). c.step) e,
        (ap (λ (c : Comp). c.offset) e, (ap (λ (c : Comp). c.shift) e, ap (λ (c : Comp). c.depth) e)),
      ),
    ))
    (Decides-and _ _ (Decides-eqb a.plane b.plane) (Decides-and _ _ (Decides-eqb a.step b.step)
    (Decides-and _ _ (Decides-int_eq a.offset b.offset)
    (Decides-and _ _ (Decides-eqb a.shift b.shift) (Decides-eqb a.depth b.depth)))))

pub descriptors_decide : (a b : Desc) → Decides (desc_eq.ghosts.eq a b) (a ≡ b)
descriptors_decide a b =
    Decides-like _
    (λ h. λ i. record {
      count = h.0 i;
      comps = h.1.0 i;
      be = h.1.1.0 i;
      rgb = h.1.1.1.0 i;
      alpha = h.1.1.1.1.0 i;
      palette = h.1.1.1.1.1 i;
    })
    (λ e. (
      ap (λ (d : Desc). d.count) e,
      (
        ap (λ (d : Desc). d.comps) e,
        (
          ap (λ (d : Desc). d.be) e,
          (ap (λ (d : Desc). d.rgb) e, (ap (λ (d : Desc). d.alpha) e, ap (λ (d : Desc). d.palette) e)),
        ),
      ),
    ))
    (Decides-and _ _ (Decides-eqb a.count b.count) (Decides-and _ _ (pointwise_decides components_decide a.comps b.comps)
    (Decides-and _ _ (flags_decide a.be b.be) (Decides-and _ _ (flags_decide a.rgb b.rgb)
    (Decides-and _ _ (flags_decide a.alpha b.alpha) (flags_decide a.palette b.palette))))))
