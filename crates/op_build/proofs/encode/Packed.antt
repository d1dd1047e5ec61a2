-- A number is its fields, packed.
use Rattle.std.proofs.Common.{◌≡◌, ℕ, ◌+◌, ◌*◌, ◌%◌, ◌^◌, ◌<◌, List, [], ◌∷◌, length, get_or, mod-eq_of_lt, ap, ◌∙◌, arith}
use Rattle.std.specs.Prelude.{sum}
use Rattle.std.proofs.lemmas.Nat.{mod-pow-add}
use Rattle.op_list.specs.declared.values.Values.TheVariants.{Numbers}
use Rattle.op_list.specs.Apply.{packed}
use Rattle.op_list.specs.Values.{four}
use Rattle.op_list.specs.Whole.{field, bits_below}
use Rattle.op_list.proofs.Four.{from_four}

abbrev IsPacked : List ℕ → Type 0
IsPacked widths =
    (n : ℕ) (w : ℕ → ℕ) → n < 2 ^ sum widths → ((p : ℕ) → p < 4 → field widths n p ≡ w p % 2 ^ get_or widths p 0) → packed widths
    (Numbers (four w)) ≡ n

packed_four : (a b c d : ℕ) → IsPacked (a ∷ b ∷ c ∷ d ∷ [])
packed_four a b c d n w small same =
    let widths = a ∷ b ∷ c ∷ d ∷ [] in
    let below = bits_below widths in
    let part = λ (p : ℕ) (within : p < 4). ap (λ v. v * 2 ^ below p) (same p within) in
    let next = λ (p t : ℕ) (is : t ≡ get_or widths p 0 + below p). ap (λ k. n % 2 ^ k) is ∙ mod-pow-add n (get_or widths p 0) (below p) in
    let none : n % 2 ^ below 3 ≡ 0 = omega arith in
    omega (
      arith,
      part 0 (omega arith),
      part 1 (omega arith),
      part 2 (omega arith),
      part 3 (omega arith),
      next 0 (sum widths) (omega arith),
      next 1 (below 0) (omega arith),
      next 2 (below 1) (omega arith),
      next 3 (below 2) (omega arith),
      none,
      mod-eq_of_lt small,
    )

pub packed_fields : (widths : List ℕ) → length widths ≡ 4 → IsPacked widths
packed_fields widths size = from_four IsPacked widths size packed_four
