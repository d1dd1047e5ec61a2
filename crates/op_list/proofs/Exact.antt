-- Where a checked answer is there, it is the exact one.
use Rattle.std.proofs.Common.{◌≡◌, ℕ, List, [], ◌∷◌, refl, ◌∙◌, ap}
use Rattle.std.specs.Prelude.{Option, Some, None}
use Rattle.std.specs.Option.{option_map}
use Rattle.std.proofs.lemmas.Option.{same_Some, option_and_then_some, cond_some, none-some}
use Rattle.frac_math.specs.Fraction.{ℚ, ◌+ℚ◌, ◌*ℚ◌}
use Rattle.frac_math.specs.Checked.{checked_sum, checked_product}
use Rattle.frac_math.specs.Dither.{dither_at}
use Rattle.op_list.specs.declared.types.Stage.{Stage}
use Rattle.op_list.specs.declared.position.PixelPosition.{PixelPosition}
use Rattle.op_list.specs.declared.op.Op.{Op}
use Rattle.op_list.specs.declared.op.Op.TheVariants.{Dither, Linear, Scale}
use Rattle.op_list.specs.declared.values.Values.{Values}
use Rattle.op_list.specs.declared.values.Values.TheVariants.{Fractions}
use Rattle.op_list.specs.Values.{four, all_four, fraction, fraction_in, no_values}
use Rattle.op_list.specs.Typing.{stage_after}
use Rattle.op_list.specs.Apply.{apply, row_of, row_value}
use Rattle.op_list.specs.Checked.{checked_apply, checked_row, checked_term}
use Rattle.op_list.specs.Run.{run_from, checked_run_from, run, checked_run}

-- what a mapped answer was made of
pub option_map_some : {A B P : Type 0} (f : A → B) (o : Option A) (y : B) → option_map f o ≡ Some y → ((x : A) → o ≡ Some x → f x ≡ y → P)
    → P
option_map_some f None y h use_it = absurd (none-some y h)
option_map_some f (Some x) y h use_it = use_it x refl (same_Some (f x) y h)

-- each of four
pub all_four-exact : {A : Type 0} (f : ℕ → Option A) (g : ℕ → A) (xs : List A) → ((i : ℕ) (x : A) → f i ≡ Some x → g i ≡ x)
    → all_four f ≡ Some xs → four g ≡ xs
all_four-exact f g xs exact h =
    option_and_then_some _ (f 0) xs h (λ a pa ha. option_and_then_some _ (f 1) xs ha (λ b pb hb. option_and_then_some _ (f 2) xs hb
    (λ c pc hc. option_map_some _ (f 3) xs hc (λ d pd e. rw (exact 0 a pa, exact 1 b pb, exact 2 c pc, exact 3 d pd) e))))

pub checked_sum-exact : (x y z : ℚ) → checked_sum x y ≡ Some z → (x +ℚ y) ≡ z
unfolding checked_sum
checked_sum-exact x y z h = (cond_some _ (x +ℚ y) z h).1

pub checked_product-exact : (x y z : ℚ) → checked_product x y ≡ Some z → (x *ℚ y) ≡ z
unfolding checked_product
checked_product-exact x y z h = (cond_some _ (x *ℚ y) z h).1

checked_term-exact : (row : List ℚ) (values : Values) (i : ℕ) (total z : ℚ) → checked_term row values i total ≡ Some z
    → (total +ℚ fraction_in row i *ℚ fraction values i) ≡ z
checked_term-exact row values i total z h =
    option_and_then_some _ (checked_product (fraction_in row i) (fraction values i)) z h
    (λ term is_term e. rw (checked_product-exact _ _ term is_term) (checked_sum-exact total term z e))

pub checked_row-exact : (row : List ℚ) (values : Values) (z : ℚ) → checked_row row values ≡ Some z → row_value row values ≡ z
unfolding checked_row
checked_row-exact row values z h =
    option_and_then_some _ _ z h (λ c pc hc. option_and_then_some _ _ c pc (λ b pb hb. option_and_then_some _ _ b pb
    (λ a pa ha. rw (
      checked_term-exact row values 0 (fraction_in row 4) a pa,
      checked_term-exact row values 1 a b ha,
      checked_term-exact row values 2 b c hb,
    )
    (checked_term-exact row values 3 c z hc))))

-- ---- an operation
fractions-exact : (f : ℕ → Option ℚ) (g : ℕ → ℚ) (next : Values) → ((i : ℕ) (x : ℚ) → f i ≡ Some x → g i ≡ x)
    → option_map Fractions (all_four f) ≡ Some next → Fractions (four g) ≡ next
fractions-exact f g next exact h =
    option_map_some Fractions (all_four f) next h (λ xs is e. ap Fractions (all_four-exact f g xs exact is) ∙ e)

pub checked_apply-exact : (frame : List ℕ) (position : PixelPosition) (stage : Stage) (op : Op) (values next : Values)
    → checked_apply frame position stage op values ≡ Some next → apply frame position stage op values ≡ next
unfolding checked_apply apply
checked_apply-exact frame position stage (Dither k) values next h =
    fractions-exact _ (λ i. fraction values i +ℚ dither_at k position.x position.y) next (λ i x e. checked_sum-exact _ _ x e) h
checked_apply-exact frame position stage (Linear rows) values next h =
    fractions-exact (λ i. checked_row (row_of rows i) values) (λ i. row_value (row_of rows i) values) next
    (λ i x e. checked_row-exact (row_of rows i) values x e) h
checked_apply-exact frame position stage (Scale by) values next h =
    fractions-exact _ (λ i. fraction values i *ℚ by) next (λ i x e. checked_product-exact _ _ x e) h
checked_apply-exact frame position stage op values next h = same_Some _ next h

-- ---- a list
pub checked_run_from-exact : (frame : List ℕ) (position : PixelPosition) (stage : Stage) (ops : List Op) (values last : Values)
    → checked_run_from frame position stage ops values ≡ Some last → run_from frame position stage ops values ≡ last
unfolding checked_run_from run_from
checked_run_from-exact frame position stage [] values last h = same_Some values last h
checked_run_from-exact frame position stage (op ∷ ops) values last h =
    option_and_then_some _ (checked_apply frame position stage op values) last h
    (λ next is rest. rw (checked_apply-exact frame position stage op values next is)
    (checked_run_from-exact frame position (stage_after stage op) ops next last rest))

pub checked_run-exact : (ops : List Op) (frame : List ℕ) (width rows x row y : ℕ) (elements : List ℕ)
    → checked_run ops frame width rows x row y ≡ Some elements → run ops frame width rows x row y ≡ elements
unfolding checked_run run
checked_run-exact ops frame width rows x row y elements h =
    option_map_some _ (checked_run_from frame _ _ ops no_values) elements h
    (λ last is e. rw (checked_run_from-exact frame _ _ ops no_values last is) e)
