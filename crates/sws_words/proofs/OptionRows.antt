-- A loop over the rows of the table of options: the options that are left.
use Rattle.std.proofs.Common.{◌≡◌, ◌∙◌, ◌<◌, ◌≤◌, ◌+◌, ◌||◌, ℕ, Bool, true, false, List, [], ◌∷◌, drop, length, slice_index_or}
use Rattle.std.proofs.Common.{refl, sym, ap, drop-cons, drop_of_length-le, add-one}
use Rattle.std.specs.Prelude.{map}
use Rattle.std.specs.List.{list_any}
use Rattle.sws_words.specs.declared.options.OptionRow.{OptionRow}
use Rattle.sws_words.specs.Options.{CommandOption, option_of}

-- the options from place i on
abbrev pub left_from : List OptionRow → ℕ → List CommandOption
left_from rows i = map option_of (drop i rows)

pub next_option : (rows : List OptionRow) (i : ℕ) (d : OptionRow) → i < length rows
    → left_from rows i ≡ option_of (slice_index_or rows i d) ∷ left_from rows (i + 1)
next_option rows i d below =
    ap (map option_of) (drop-cons rows i d below) ∙ ap (λ k. option_of (slice_index_or rows i d) ∷ left_from rows k) (sym (add-one i))

pub no_option : (rows : List OptionRow) (i : ℕ) → length rows ≤ i → left_from rows i ≡ []
no_option rows i past = ap (map option_of) (drop_of_length-le rows past)

or_true : (a b : Bool) → a ≡ true → (a || b) ≡ true
or_true true b e = e
or_true false b e = cc

or_false : (a b : Bool) → a ≡ false → (a || b) ≡ b
or_false true b e = cc
or_false false b e = refl

-- the option at place i passes the test
pub any_here : (p : CommandOption → Bool) (rows : List OptionRow) (i : ℕ) (d : OptionRow) (passes : Bool) → i < length rows
    → passes ≡ p (option_of (slice_index_or rows i d)) → passes ≡ true → list_any p (left_from rows i) ≡ true
any_here p rows i d passes below is holds = ap (list_any p) (next_option rows i d below) ∙ or_true _ _ (sym is ∙ holds)

-- it does not
pub any_behind : (p : CommandOption → Bool) (rows : List OptionRow) (i : ℕ) (d : OptionRow) (passes : Bool) → i < length rows
    → passes ≡ p (option_of (slice_index_or rows i d)) → passes ≡ false
    → list_any p (left_from rows i) ≡ list_any p (left_from rows (i + 1))
any_behind p rows i d passes below is fails = ap (list_any p) (next_option rows i d below) ∙ or_false _ _ (sym is ∙ fails)

-- no option is left
pub any_ended : (p : CommandOption → Bool) (rows : List OptionRow) (i : ℕ) → length rows ≤ i → list_any p (left_from rows i) ≡ false
any_ended p rows i past = ap (list_any p) (no_option rows i past)
