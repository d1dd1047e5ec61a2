-- Bytes that are no text find nothing: every name of the lists is a text.
use Rattle.std.proofs.Common.{◌≡◌, ℕ, Bool, true, false, List, [], ◌∷◌, refl, sym, subst}
use Rattle.std.specs.Prelude.{nat_lt, bytes_eq, find, codes, Option, Some, None, Err}
use Rattle.std.specs.List.{list_all}
use Rattle.std.specs.Str.{IsUtf8}
use Rattle.std.proofs.lemmas.Bool.{ltb-true}
use Rattle.std.proofs.lemmas.Str.{IsUtf8-from_ascii}
use Rattle.std.proofs.lemmas.Str.Ascii.{IsAscii-from_all}
use Rattle.std.proofs.lemmas.Slice.Eq.{bytes_eq-Decides}
use Rattle.frac_math.proofs.FractionRing.{and_left, and_right}
use Rattle.pix_desc.proofs.ComponentLists.{list_all-true}
use Rattle.colour_matrix.specs.Matrix.{matrix_named}
use Rattle.desc_table.specs.declared.fault.FormatFault.TheVariants.{Unknown}
use Rattle.desc_table.specs.Format.{Format, formats, format_at, no_format}
use Rattle.desc_table.specs.Refused.{Refusal, refused, fault_named, row_named, lookup}
use Rattle.desc_table.proofs.Lookup.{row_named-Some}

-- whether each byte is a character of ASCII
abbrev is_ascii : List ℕ → Bool
is_ascii text = list_all (λ byte. nat_lt byte 128) text

is_text : (text : List ℕ) → is_ascii text ≡ true → IsUtf8 text
is_text text ascii =
    IsUtf8-from_ascii text (IsAscii-from_all text (λ k d below.
    ltb-true _ _ (list_all-true (λ byte. nat_lt byte 128) text k d ascii below)))

formats_are_ascii : list_all (λ (format : Format). is_ascii format.name) formats ≡ true
unfolding formats
formats_are_ascii = refl

refusals_are_ascii : list_all (λ (refusal : Refusal). is_ascii refusal.name) refused ≡ true
unfolding refused
refusals_are_ascii = refl

-- a name of ASCII is not equal to bytes that are no text
differs : (name bytes : List ℕ) → is_ascii name ≡ true → ¬ (IsUtf8 bytes) → bytes ≡ name → ⊥
differs name bytes ascii broken same = broken (subst IsUtf8 (sym same) (is_text name ascii))

never_true : (b : Bool) → (b ≡ true → ⊥) → b ≡ false
never_true true never = absurd (never refl)
never_true false never = refl

no_refusal : (names : List Refusal) (bytes : List ℕ) → list_all (λ (refusal : Refusal). is_ascii refusal.name) names ≡ true
    → ¬ (IsUtf8 bytes) → find (λ refusal. bytes_eq refusal.name bytes) names ≡ None
no_refusal [] bytes ascii broken = refl
no_refusal (r ∷ rs) bytes ascii broken =
    let other : bytes_eq r.name bytes ≡ false =
    never_true _ (λ same. differs r.name bytes (and_left _ _ ascii) broken (sym ((bytes_eq-Decides r.name bytes).0 same))) in
    rw other (no_refusal rs bytes (and_right (is_ascii r.name) _ ascii) broken)

no_row : (bytes : List ℕ) → ¬ (IsUtf8 bytes) → row_named bytes ≡ None
unfolding format_at
no_row bytes broken = by_case (row_named bytes) (λ row is.
    let found = row_named-Some bytes row is in
    let ascii = list_all-true (λ (format : Format). is_ascii format.name) formats row no_format formats_are_ascii found.0 in
    differs (format_at row).name bytes ascii broken (sym found.1))
  where
    by_case : (found : Option ℕ) → ((row : ℕ) → found ≡ Some row → ⊥) → found ≡ None
    by_case None never = refl
    by_case (Some row) never = absurd (never row refl)

-- they find no format
pub finds_none : (bytes : List ℕ) → ¬ (IsUtf8 bytes) → lookup bytes ≡ Err Unknown
unfolding lookup fault_named
finds_none bytes broken = rw (no_row bytes broken, no_refusal refused bytes refusals_are_ascii broken) refl

other_name : (name bytes : List ℕ) → is_ascii name ≡ true → ¬ (IsUtf8 bytes) → bytes_eq bytes name ≡ false
other_name name bytes ascii broken = never_true _ (λ same. differs name bytes ascii broken ((bytes_eq-Decides bytes name).0 same))

-- and no matrix
pub names_none : (bytes : List ℕ) → ¬ (IsUtf8 bytes) → matrix_named bytes ≡ None
names_none bytes broken =
    rw (
      other_name (codes "bt601") bytes refl broken,
      other_name (codes "bt709") bytes refl broken,
      other_name (codes "bt2020") bytes refl broken,
      other_name (codes "smpte240m") bytes refl broken,
      other_name (codes "fcc") bytes refl broken,
    ) refl
