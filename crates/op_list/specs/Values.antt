-- The four values of a pixel.
use Rattle.std.specs.Prelude.{ℕ, Bool, true, false, List, [], ◌∷◌, Option, None, slice_index, slice_index_or}
use Rattle.std.specs.Option.{option_map, option_and_then}
use Rattle.frac_math.specs.Fraction.{ℚ, nat}
use Rattle.op_list.specs.declared.values.Values.{Values}
use Rattle.op_list.specs.declared.values.Values.TheVariants.{Numbers, Fractions}

-- values 0 to 3
abbrev pub four : {A : Type 0} → (ℕ → A) → List A
four f = f 0 ∷ f 1 ∷ f 2 ∷ f 3 ∷ []

-- the same, one after the other, where each of them is there
abbrev pub all_four : {A : Type 0} → (ℕ → Option A) → Option (List A)
all_four f =
    option_and_then (λ first. option_and_then (λ second. option_and_then (λ third.
    option_map (λ fourth. first ∷ second ∷ third ∷ fourth ∷ []) (f 3)) (f 2)) (f 1)) (f 0)

-- number i of a list of fractions
abbrev pub fraction_in : List ℚ → ℕ → ℚ
fraction_in values i = slice_index_or values i (nat 0)

-- value i as a whole number, and 0 where the values are fractions
abbrev pub number : Values → ℕ → ℕ
number (Numbers values) i = slice_index values i
number (Fractions values) i = 0

-- value i as a fraction, and 0 where the values are whole numbers
abbrev pub fraction : Values → ℕ → ℚ
fraction (Numbers values) i = nat 0
fraction (Fractions values) i = fraction_in values i

-- entry i, where it is given
abbrev pub entry : List (Option ℚ) → ℕ → Option ℚ
entry entries i = slice_index_or entries i None

abbrev pub are_fractions : Values → Bool
are_fractions (Numbers values) = false
are_fractions (Fractions values) = true

-- the values before a Read
abbrev pub no_values : Values
no_values = Numbers (four (λ i. 0))
