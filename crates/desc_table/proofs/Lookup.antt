-- What a name finds.
use Rattle.std.proofs.Common.{◌≡◌, ℕ, ◌<◌, ◌+◌, Bool, true, false, not, cond, List, [], ◌∷◌, map, refl, sym, ◌∙◌, ap}
use Rattle.std.specs.Prelude.{bytes_eq, position, find, Option, Some, None, Ok}
use Rattle.std.specs.List.{position_or_len}
use Rattle.std.specs.Option.{option_map}
use Rattle.std.proofs.lemmas.List.{length-map}
use Rattle.std.proofs.lemmas.List.Quantifiers.{position-Some}
use Rattle.std.proofs.lemmas.Slice.Eq.{bytes_eq-Decides}
use Rattle.desc_table.specs.declared.fault.FormatFault.{FormatFault}
use Rattle.desc_table.specs.declared.refused.Refused.{Refused}
use Rattle.desc_table.specs.declared.table.Row.{Row}
use Rattle.desc_table.specs.Format.{Format, formats, format_count, format_at, no_format}
use Rattle.desc_table.specs.Refused.{refused, fault_or_unknown, fault_named, row_named, row_or_fault, lookup}
use Rattle.desc_table.specs.Row.{format_of, refusal_of}

row_or_fault-Ok : (found : Option ℕ) (fault : FormatFault) (row : ℕ) → row_or_fault found fault ≡ Ok row → found ≡ Some row
row_or_fault-Ok (Some at) fault row is = cc
row_or_fault-Ok None fault row is = cc

-- a row that has the name is a row of the table
pub row_named-Some : (name : List ℕ) (row : ℕ) → row_named name ≡ Some row → (row < format_count) × ((format_at row).name ≡ name)
unfolding row_named format_at
row_named-Some name row is =
    let facts = position-Some (λ (format : Format). bytes_eq format.name name) formats row no_format is in
    (facts.0, (bytes_eq-Decides (format_at row).name name).0 facts.1)

-- a name that finds a row is the row's name
pub lookup-Ok : (name : List ℕ) (row : ℕ) → lookup name ≡ Ok row → (row < format_count) × ((format_at row).name ≡ name)
unfolding lookup
lookup-Ok name row is = row_named-Some name row (row_or_fault-Ok _ _ row is)

position_or_len-map : {X Y : Type 0} (f : X → Y) (p : Y → Bool) (xs : List X)
    → position_or_len p (map f xs) ≡ position_or_len (λ x. p (f x)) xs
position_or_len-map f p [] = refl
position_or_len-map f p (x ∷ xs) = ap (λ n. cond (not (p (f x))) (1 + n) 0) (position_or_len-map f p xs)

-- where the first that passes stands in a list that is made of another
position-map : {X Y : Type 0} (f : X → Y) (p : Y → Bool) (xs : List X) → position p (map f xs) ≡ position (λ x. p (f x)) xs
position-map f p xs = rw (position_or_len-map f p xs, length-map xs f) refl

-- the row of a name in the program's table is that in the table of formats
pub row_named-rows : (rows : List Row) (name : List ℕ) → map format_of rows ≡ formats
    → position (λ row. bytes_eq row.name.now name) rows ≡ row_named name
unfolding row_named
row_named-rows rows name same =
    sym (position-map format_of (λ format. bytes_eq format.name name) rows) ∙ ap (position (λ format. bytes_eq format.name name)) same

-- the first that passes in a list that is made of another
find-map : {X Y : Type 0} (f : X → Y) (p : Y → Bool) (xs : List X) → find p (map f xs) ≡ option_map f (find (λ x. p (f x)) xs)
find-map f p [] = refl
find-map f p (x ∷ xs) = by_test (p (f x)) (find-map f p xs)
  where
    by_test : (b : Bool) → find p (map f xs) ≡ option_map f (find (λ y. p (f y)) xs)
        → cond b (Some (f x)) (find p (map f xs)) ≡ option_map f (cond b (Some x) (find (λ y. p (f y)) xs))
    by_test true rest = refl
    by_test false rest = rest

-- what is found among the program's refused names has the fault of the name
pub fault_named-refused : (names : List Refused) (name : List ℕ) (found : Option Refused) → map refusal_of names ≡ refused
    → found ≡ find (λ refused. bytes_eq refused.name.now name) names → fault_or_unknown (option_map refusal_of found) ≡ fault_named name
unfolding fault_named
fault_named-refused names name found same is =
    ap (λ f. fault_or_unknown (option_map refusal_of f)) is
    ∙ ap fault_or_unknown (sym (find-map refusal_of (λ refusal. bytes_eq refusal.name name) names))
    ∙ ap (λ all. fault_or_unknown (find (λ refusal. bytes_eq refusal.name name) all)) same
