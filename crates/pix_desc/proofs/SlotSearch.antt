-- The position of a component among the numbers of a pixel.
use Rattle.std.proofs.Common.{◌≡◌, ◌≢◌, ℕ, ◌<◌, false, List, length, get_or, Option, Some, None, eq-eqb, refl, ap, ◌∙◌, arith}
use Rattle.std.specs.List.{position_or_len}
use Rattle.std.proofs.lemmas.Bool.{ne_eqb}
use Rattle.std.proofs.lemmas.List.Sums.{position_or_len_is}
use Rattle.pix_desc.specs.Shape.{holds}

not_held : (j : ℕ) (slot : Option ℕ) → slot ≢ Some j → holds j slot ≡ false
not_held j None other = refl
not_held j (Some i) other = ne_eqb i j (λ same. other (ap Some same))

-- the first slot that holds component j
pub position_is : (j i : ℕ) (slots : List (Option ℕ)) → i < length slots → get_or slots i None ≡ Some j
    → ((k : ℕ) → k < i → get_or slots k None ≢ Some j)
    → position_or_len (holds j) slots ≡ i
position_is j i slots within here before =
    position_or_len_is (holds j) slots i None (omega arith) (λ k earlier. not_held j (get_or slots k None) (before k earlier))
    (λ _. ap (holds j) here ∙ eq-eqb j j refl)
