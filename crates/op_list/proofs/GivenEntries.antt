-- Entries that are given, each of which fits.
use Rattle.std.proofs.Common.{◌≡◌, ℕ, zero, suc, ◌<◌, true, List, [], ◌∷◌, length, refl, arith, slice_index_or}
use Rattle.std.specs.Prelude.{Option}
use Rattle.std.proofs.lemmas.Bool.{and_parts}
use Rattle.frac_math.specs.Fraction.{ℚ}
use Rattle.op_list.specs.Typing.{entry_fits, all_fit}
use Rattle.op_list.specs.Values.{entry}

pub all_fit_at : (bits : ℕ) (entries : List (Option ℚ)) (k : ℕ) (d : Option ℚ) → k < length entries → all_fit bits entries ≡ true
    → entry_fits bits (slice_index_or entries k d) ≡ true
all_fit_at bits [] k d within fit = absurd (omega (arith, within))
all_fit_at bits (entry ∷ entries) zero d within fit = (and_parts (entry_fits bits entry) (all_fit bits entries) fit).0
all_fit_at bits (entry ∷ entries) (suc k) d within fit =
    all_fit_at bits entries k d (omega (arith, within)) (and_parts (entry_fits bits entry) (all_fit bits entries) fit).1

-- also past those that are given
pub fits_at : (bits : ℕ) (entries : List (Option ℚ)) (k : ℕ) → all_fit bits entries ≡ true → entry_fits bits (entry entries k) ≡ true
fits_at bits [] k fit = refl
fits_at bits (given ∷ entries) zero fit = (and_parts (entry_fits bits given) (all_fit bits entries) fit).0
fits_at bits (given ∷ entries) (suc k) fit = fits_at bits entries k (and_parts (entry_fits bits given) (all_fit bits entries) fit).1
