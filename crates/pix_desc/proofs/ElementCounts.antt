-- How many elements a pixel has in each plane.
use Rattle.std.proofs.Common.{◌≡◌, ℕ, zero, suc, ◌+◌, ◌/◌, ◌<◌, ◌≤◌, ⊎_elim, eq-zero-or-pos, true, ◌&&◌, nat_le, List, [], ◌∷◌, length}
use Rattle.std.proofs.Common.{get_or, refl, ap, ◌∙◌, arith}
use Rattle.std.specs.Prelude.{sum}
use Rattle.std.proofs.lemmas.Bool.{and_from, le-leb}
use Rattle.std.proofs.lemmas.List.Sums.{get_or-le-sum_by}
use Rattle.std.proofs.lemmas.Nat.{le-div}
use Rattle.pix_desc.specs.declared.desc.Desc.{Desc}
use Rattle.pix_desc.specs.Component.{component_of, bytes_read}
use Rattle.pix_desc.specs.Frame.{plane_step}
use Rattle.pix_desc.specs.Layouts.{IsLaidOut, has_all_planes}
use Rattle.pix_desc.proofs.Valid.{plane_used}
use Rattle.pix_desc.specs.Shape.{element_bytes, element_counts}
use Rattle.pix_desc.proofs.PlaneSteps.{component_in, step_by, bytes_read-positive}

-- the counts where an element has so many bytes
abbrev pub counts_by : Desc → ℕ → List ℕ
counts_by desc size = plane_step desc 0 / size ∷ plane_step desc 1 / size ∷ plane_step desc 2 / size ∷ plane_step desc 3 / size ∷ []

pub counts_are : (desc : Desc) (size : ℕ) → element_bytes desc ≡ size → element_counts desc ≡ counts_by desc size
unfolding element_counts
counts_are desc size bytes = ap (counts_by desc) bytes

count_in : (desc : Desc) (size plane : ℕ) → plane < 4 → get_or (counts_by desc size) plane 0 ≡ plane_step desc plane / size
count_in desc size zero below = refl
count_in desc size (suc zero) below = refl
count_in desc size (suc (suc zero)) below = refl
count_in desc size (suc (suc (suc zero))) below = refl
count_in desc size (suc (suc (suc (suc plane)))) below = absurd (omega arith)

pub count_at : (desc : Desc) (size plane : ℕ) → element_bytes desc ≡ size → plane < 4
    → get_or (element_counts desc) plane 0 ≡ plane_step desc plane / size
count_at desc size plane bytes below = ap (λ counts. get_or counts plane 0) (counts_are desc size bytes) ∙ count_in desc size plane below

pub length-counts : (desc : Desc) → length (element_counts desc) ≡ 4
unfolding element_counts
length-counts desc = refl

pub sum-counts : (desc : Desc) (size : ℕ) → element_bytes desc ≡ size
    → sum (element_counts desc) ≡ plane_step desc 0 / size + plane_step desc 1 / size + plane_step desc 2 / size + plane_step desc 3 / size
sum-counts desc size bytes = ap sum (counts_are desc size bytes) ∙ omega arith

-- where each component is read from `size` bytes, planes that have elements come first, and there is an element
module _ (desc : Desc) (size : ℕ) (laid : IsLaidOut desc) (all : has_all_planes desc ≡ true) (bytes : element_bytes desc ≡ size)
    (read : (j : ℕ) → j < desc.count → bytes_read (component_of desc j) ≡ size) where
  pub size_positive : 0 < size
  size_positive = omega (arith, read 0 laid.some, bytes_read-positive (component_of desc 0))

  pub count_of_used : (j plane : ℕ) → j < desc.count → (component_of desc j).plane ≡ plane → 0 < plane_step desc plane / size
  count_of_used j plane listed there =
      le-div 1 (plane_step desc plane) size size_positive (omega (arith, step_by desc j plane laid listed there, read j listed))

  pub count_before : (plane other : ℕ) → other < plane → 0 < plane_step desc plane / size → 0 < plane_step desc other / size
  count_before plane other below some =
      ⊎_elim
      (λ (none : plane_step desc plane ≡ 0). absurd (omega (arith, ap (λ s. s / size) none)))
      (λ (step : 0 < plane_step desc plane).
      let here = component_in desc plane step in
      let there = plane_used desc here.0 other all here.1 (omega (arith, here.2)) in
      count_of_used there.0 other there.1 there.2)
      (eq-zero-or-pos (plane_step desc plane))

  pub counts_some : 1 ≤ sum (element_counts desc)
  counts_some =
      let plane = (component_of desc 0).plane in
      let here : 0 < get_or (element_counts desc) plane 0 = omega
      (arith, count_at desc size plane bytes (laid.plane 0 laid.some), count_of_used 0 plane laid.some refl) in
      let within : plane < length (element_counts desc) = omega (arith, length-counts desc, laid.plane 0 laid.some) in
      omega (arith, get_or-le-sum_by (λ n. n) (element_counts desc) plane 0 within)
