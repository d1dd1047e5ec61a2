-- The fields of a word one after the other.
use Rattle.std.proofs.Common.{◌≡◌, ℕ, zero, suc, ◌+◌, ◌-◌, ◌<◌, nat_eq, [], ◌∷◌, get_or, sym, ap, ◌∙◌, arith}
use Rattle.std.proofs.lemmas.Bool.{cond-false, ne_eqb}
use Rattle.pix_desc.specs.declared.desc.Desc.{Desc}
use Rattle.pix_desc.specs.Shape.{Field, field_below, fields_below, no_field}

-- a field behind the first one is a field of the bits that the first one leaves
pub field_after : {A : Type 0} (pick : Field → A) (x : A) (desc : Desc) (top below i rest most : ℕ) → 0 < top → i ≡ rest + 1
    → below ≡ top - (field_below desc top).width → i < most
    → ((m : ℕ) → rest < m → x ≡ pick (get_or (fields_below desc m below) rest no_field))
    → x ≡ pick (get_or (fields_below desc most top) i no_field)
field_after pick x desc top below i rest zero some next left within told = absurd (omega arith)
field_after pick x desc top below zero rest (suc m) some next left within told = absurd (omega arith)
field_after pick x desc top below (suc k) rest (suc m) some next left within told =
    let same : rest ≡ k = omega arith in
    let field = field_below desc top in
    told m (omega arith)
    ∙ ap (λ r. pick (get_or (fields_below desc m below) r no_field)) same
    ∙ ap (λ b. pick (get_or (fields_below desc m b) k no_field)) left
    ∙ sym (ap (λ fs. pick (get_or fs (suc k) no_field))
    (cond-false (nat_eq top 0) [] (field ∷ fields_below desc m (top - field.width)) (ne_eqb top 0 (λ none. omega arith))))
