-- `==` on matrices, and on ranges, answers true exactly where they are one.
use Rattle.std.proofs.Common.{◌≡◌, refl, ap}
use Rattle.std.specs.Bool.{Decides}
use Rattle.std.proofs.lemmas.Bool.Decides.{Decides-eqb, Decides-and, Decides-like}
use Rattle.colour_matrix.specs.declared.class.Range.{Range}
use Rattle.colour_matrix.specs.declared.class.Range.TheVariants.{Full, Limited}
use Rattle.colour_matrix.specs.declared.matrix.Matrix.{Matrix}
use Rattle.colour_matrix.specs.contracts.class.RangePartialEq.TheImpl as range_eq
use Rattle.colour_matrix.specs.contracts.matrix.MatrixPartialEq.TheImpl as matrix_eq

pub ranges_decide : (a b : Range) → Decides (range_eq.ghosts.eq a b) (a ≡ b)
ranges_decide Full Full = (λ _. refl, λ _. refl)
ranges_decide Full Limited = (λ h. cc, λ e. cc)
ranges_decide Limited Full = (λ h. cc, λ e. cc)
ranges_decide Limited Limited = (λ _. refl, λ _. refl)

pub matrices_decide : (a b : Matrix) → Decides (matrix_eq.ghosts.eq a b) (a ≡ b)
matrices_decide a b =
    Decides-like _ (λ h. λ i. record { q = h.0 i; r = h.1.0 i; b = h.1.1 i })
    (λ e. (ap (λ (m : Matrix). m.q) e, (ap (λ (m : Matrix). m.r) e, ap (λ (m : Matrix). m.b) e)))
    (Decides-and _ _ (Decides-eqb a.q b.q) (Decides-and _ _ (Decides-eqb a.r b.r) (Decides-eqb a.b b.b)))
