-- Which operations are worked out in one loop, and what they make of the numbers of a pixel.
use Rattle.std.specs.Prelude.{◌≡◌, ℕ, zero, suc, ◌+◌, ◌<◌, Bool, true, false, nat_eq, Option, Some, None, List, [], ◌∷◌, length, ℤ, pos}
use Rattle.std.specs.Prelude.{◌+ℤ◌, IfSome, slice_index_or}
use Rattle.std.specs.Int.{Width}
use Rattle.frac_math.specs.Fraction.{ℚ}
use Rattle.op_list.specs.declared.op.Op.{Op}
use Rattle.op_list.specs.declared.op.Op.TheVariants.{Dither, Linear, Scale, Min, Max}
use Rattle.op_list.specs.Types.{is_whole}
use Rattle.op_list.specs.Values.{entry}
use Rattle.kernel_step.specs.declared.form.Form.{Form}
use Rattle.kernel_step.specs.Rules.{row_sum, but_at_least, but_at_most}
use Rattle.kernel_step.specs.Forms.{AreReady, IsKernel, extent_at, factor, factors_at, form_at, makes_fractions, op_at, stage_before}
use Rattle.kernel_affine.specs.declared.chain.Chain.{Chain}
use Rattle.kernel_affine.specs.declared.chain.Placed.{Placed}
use Rattle.kernel_affine.specs.declared.products.Products.{Products}
use Rattle.kernel_affine.specs.declared.products.Products.TheVariants.{One}
use Rattle.kernel_affine.specs.Affine.{AreTaken}

-- the number of the operation behind one that may stand at a place
abbrev pub behind : Option ℕ → ℕ → ℕ
behind None at = at
behind (Some h) at = h + 1

-- a linear map: the same for all values, or a row for each
abbrev pub is_map : Op → Bool
is_map (Linear rows) = true
is_map (Scale by) = true
is_map _ = false

-- a Dither that adds a half to every value
abbrev pub is_half : Op → Bool
is_half (Dither count) = nat_eq count 0
is_half _ = false

abbrev pub is_max : Op → Bool
is_max (Max limits) = true
is_max _ = false

abbrev pub is_min : Op → Bool
is_min (Min limits) = true
is_min _ = false

-- no value gets another denominator
abbrev pub IsUnscaled : Form → Type 0
IsUnscaled form = (v : ℕ) → v < form.count → factor (factors_at form v) 0 ≡ pos 1

-- ---- what becomes of a number
-- a row whose one factor stands at place v
abbrev pub single_row : ℤ → ℕ → List ℤ
single_row k zero = k ∷ pos 0 ∷ pos 0 ∷ pos 0 ∷ pos 0 ∷ []
single_row k (suc zero) = pos 0 ∷ k ∷ pos 0 ∷ pos 0 ∷ pos 0 ∷ []
single_row k (suc (suc zero)) = pos 0 ∷ pos 0 ∷ k ∷ pos 0 ∷ pos 0 ∷ []
single_row k (suc (suc (suc v))) = pos 0 ∷ pos 0 ∷ pos 0 ∷ k ∷ pos 0 ∷ []

-- the row of a linear map for value v
abbrev pub map_row : Op → Form → ℕ → List ℤ
map_row (Linear rows) form v = factors_at form v
map_row (Scale by) form v = single_row (factor (factors_at form v) 0) v
map_row _ form v = []

-- what a Dither adds to value v
abbrev pub unit_at : List Form → Option ℕ → ℕ → ℤ
unit_at forms None v = pos 0
unit_at forms (Some h) v = factor (factors_at (form_at forms h) v) 1

-- a bound, where a limit is given
abbrev pub bound_for : Option ℚ → ℤ → Option ℤ
bound_for None bound = None
bound_for (Some limit) bound = Some bound

abbrev pub least_of : Op → Form → ℕ → Option ℤ
least_of (Max limits) form v = bound_for (entry limits v) (extent_at form v).least
least_of _ form v = None

abbrev pub greatest_of : Op → Form → ℕ → Option ℤ
greatest_of (Min limits) form v = bound_for (entry limits v) (extent_at form v).greatest
greatest_of _ form v = None

-- the bounds of value v, where a Max or a Min stands
abbrev pub least_at : List Op → List Form → Option ℕ → ℕ → Option ℤ
least_at ops forms None v = None
least_at ops forms (Some m) v = least_of (op_at ops m) (form_at forms m) v

abbrev pub greatest_at : List Op → List Form → Option ℕ → ℕ → Option ℤ
greatest_at ops forms None v = None
greatest_at ops forms (Some m) v = greatest_of (op_at ops m) (form_at forms m) v

-- a number, but at least or at most a bound, where there is one
abbrev pub from_least : Option ℤ → ℤ → ℤ
from_least None n = n
from_least (Some least) n = but_at_least least n

abbrev pub to_greatest : Option ℤ → ℤ → ℤ
to_greatest None n = n
to_greatest (Some greatest) n = but_at_most greatest n

-- ---- a chain
-- an operation that stands at a place, if at all
abbrev pub IsAt : List Op → List Form → (Op → Bool) → ℕ → Option ℕ → Type 0
IsAt ops forms kind at found = IfSome found (λ m. (m ≡ at) × (kind (op_at ops m) ≡ true) × IsUnscaled (form_at forms m))

abbrev pub products_at : List Products → ℕ → Products
products_at products v = slice_index_or products v (One 0)

-- the rows of a linear map have products of the values before it
abbrev pub AreProducts : Op → Form → Form → List Products → Type 0
AreProducts op before after products = (v : ℕ) → v < after.count
    → AreTaken (products_at products v) (map_row op after v) before.count

-- A Convert of whole numbers to fractions, which is operation k, a linear map, and what stands behind it.
pub record IsChain (ops : List Op) (forms : List Form) (k : ℕ) (chain : Chain) : Type 0 where
  pub widens : makes_fractions (op_at ops k) ≡ true
  pub map : chain.map ≡ k + 1
  pub kind : is_map (op_at ops chain.map) ≡ true
  pub products : AreProducts (op_at ops chain.map) (form_at forms k) (form_at forms chain.map) chain.products
  pub half : IsAt ops forms is_half (chain.map + 1) chain.half
  pub max : IsAt ops forms is_max (behind chain.half (chain.map + 1)) chain.max
  pub min : IsAt ops forms is_min (behind chain.max (behind chain.half (chain.map + 1))) chain.min
  pub next : chain.next ≡ behind chain.min (behind chain.max (behind chain.half (chain.map + 1)))
  pub end : chain.next < length ops

-- a chain behind the Read, before which the values are whole numbers
pub record IsPlaced (ops : List Op) (forms : List Form) (placed : Placed) : Type 0 where
  pub some : 0 < placed.at
  pub whole : is_whole (stage_before ops placed.at) ≡ true
  pub there : IsChain ops forms placed.at placed.chain
  pub inside : (placed.at < placed.chain.next) × (placed.chain.next < length ops)

-- what it makes of the whole numbers of a pixel, at value v
abbrev pub chain_number : List Op → List Form → Chain → (ℕ → ℤ) → ℕ → ℤ
chain_number ops forms chain numbers v =
    to_greatest (greatest_at ops forms chain.min v) (from_least (least_at ops forms chain.max v)
    (row_sum (map_row (op_at ops chain.map) (form_at forms chain.map) v) numbers 4 +ℤ unit_at forms chain.half v))

-- a chain at operation k, before which the whole numbers of a block are ready
pub record IsReadyChain {W : Type 0} (digits : W → ℕ) (bits : ℕ) (width : Width) (ops : List Op) (forms : List Form) (k : ℕ)
    (chain : Chain) (values : List W) : Type 0 where
  pub kernel : IsKernel ops forms bits width
  pub some : 0 < k
  pub there : IsChain ops forms k chain
  pub whole : is_whole (stage_before ops k) ≡ true
  pub ready : AreReady digits width (stage_before ops k) (op_at ops k) (form_at forms k) values
