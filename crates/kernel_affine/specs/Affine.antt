-- What is made of the whole numbers of one pixel: the sum of a row of factors, a unit more, and limits. The rules are closed, so that the
-- proof of a loop sees a name alone.
use Rattle.std.specs.Prelude.{◌≡◌, ℕ, ◌+◌, ◌*◌, ◌<◌, ◌≤◌, ◌⊎◌, List, slice_index_or, ℤ, pos, ◌+ℤ◌, ◌*ℤ◌, Option, Some, None, FitsSigned}
use Rattle.std.specs.Prelude.{◌^◌, ◌≤ℤ◌, ◌<ℤ◌}
use Rattle.std.specs.Int.{Width, w32}
use Rattle.kernel_step.specs.Forms.{factor}
use Rattle.kernel_step.specs.Rules.{with_product, row_sum, but_at_least, but_at_most}
use Rattle.kernel_affine.specs.declared.products.Products.{Products}
use Rattle.kernel_affine.specs.declared.products.Products.TheVariants.{One, Three}

-- x, but at least a number, where one is given
unfoldable pub bound_below : {N : Type 0} → (N → ℤ) → Option N → ℤ → ℤ
bound_below value None x = x
bound_below value (Some least) x = but_at_least (value least) x

-- x, but at most a number, where one is given
unfoldable pub bound_above : {N : Type 0} → (N → ℤ) → Option N → ℤ → ℤ
bound_above value None x = x
bound_above value (Some greatest) x = but_at_most (value greatest) x

-- x, but at least one number, and then at most the other
abbrev pub bound_by : {N : Type 0} → (N → ℤ) → Option N → Option N → ℤ → ℤ
bound_by value low high x = bound_above value high (bound_below value low x)

-- the sum of a row of factors, a unit more, and within limits
abbrev pub affine : {N : Type 0} → (N → ℤ) → List ℤ → ℤ → Option N → Option N → (ℕ → ℤ) → ℤ
affine value row unit low high numbers = bound_by value low high (row_sum row numbers 4 +ℤ unit)

-- the whole numbers of pixel i of a block
abbrev pub whole_lane : {W : Type 0} → (W → ℕ) → List W → ℕ → W → ℕ → ℤ
whole_lane digits values i d j = pos (digits (slice_index_or values (64 * j + i) d))

-- the factors of a row that are not 0 are those of the products, of values below a count
abbrev pub AreTaken : Products → List ℤ → ℕ → Type 0
AreTaken (One place) row count = (place < count) × ((j : ℕ) → j < 4 → (j ≡ place) ⊎ (factor row j ≡ pos 0))
AreTaken Three row count = (3 ≤ count) × (factor row 3 ≡ pos 0)

-- the first values of all 64 pixels fit
abbrev pub AreFitting : {W : Type 0} → Width → (W → ℕ) → List W → ℕ → Type 0
AreFitting {W} width digits values count = (j i : ℕ) (d : W) → j < count → i < 64
    → FitsSigned width (pos (digits (slice_index_or values (64 * j + i) d)))

-- a sum with one product and a unit, all of which fits
pub record FitsOne (width : Width) (constant k unit x : ℤ) : Type 0 where
  pub number : FitsSigned width x
  pub product : FitsSigned width (k *ℤ x)
  pub sum : FitsSigned width (with_product constant x k)
  pub last : FitsSigned width (with_product constant x k +ℤ unit)

-- a sum with three products
abbrev pub three_sum : ℤ → ℤ → ℤ → ℤ → ℤ → ℤ → ℤ → ℤ
three_sum constant k l m x y z = with_product (with_product (with_product constant x k) y l) z m

-- the same with three products
pub record FitsThree (width : Width) (constant k l m unit x y z : ℤ) : Type 0 where
  pub numbers : FitsSigned width x × FitsSigned width y × FitsSigned width z
  pub products : FitsSigned width (k *ℤ x) × FitsSigned width (l *ℤ y) × FitsSigned width (m *ℤ z)
  pub first : FitsSigned width (with_product constant x k)
  pub second : FitsSigned width (with_product (with_product constant x k) y l)
  pub third : FitsSigned width (three_sum constant k l m x y z)
  pub last : FitsSigned width (three_sum constant k l m x y z +ℤ unit)

-- The first values of all 64 pixels are numerators too, and below 2 ^ bits.
abbrev pub AreWide : {W N : Type 0} → ℕ → (W → ℕ) → (N → ℤ) → List W → List N → ℕ → Type 0
AreWide {W} {N} bits digits value values wide count = (j i : ℕ) (d : W) (e : N) → j < count → i < 64
    → (value (slice_index_or wide (64 * j + i) e) ≡ pos (digits (slice_index_or values (64 * j + i) d)))
    × (digits (slice_index_or values (64 * j + i) d) < 2 ^ bits)

-- a number from 0 to 2 ^ 31 - 1
abbrev pub IsLow : ℤ → Type 0
IsLow x = (pos 0 ≤ℤ x) × (x <ℤ pos (2 ^ 31))

-- whole numbers of at most 31 bits, and a row whose first three factors 32 bits hold with their signs
pub record IsShort (bits : ℕ) (row : List ℤ) : Type 0 where
  pub numbers : 2 ^ bits ≤ 2 ^ 31
  pub factors : (j : ℕ) → j < 3 → FitsSigned w32 (factor row j)
