-- The steps of the planes: of which components they are, and what they come to where each plane used is counted once.
use Rattle.std.proofs.Common.{◌≡◌, ◌≢◌, ℕ, suc, ◌+◌, ◌/◌, ◌<◌, ◌≤◌, ⊎_elim, Bool, true, not, if◌then◌else◌, nat_eq, List, [], ◌∷◌, length}
use Rattle.std.proofs.Common.{get_or, eq-zero-or-pos, sym, refl, ap, ◌∙◌, arith}
use Rattle.std.specs.List.{filter, sum_by}
use Rattle.std.proofs.lemmas.Bool.{cond_both, cond-false, cases_eq, ne_eqb}
use Rattle.std.proofs.lemmas.Bool.Decides.{nat_tests}
use Rattle.std.proofs.lemmas.List.{nil_from_length}
use Rattle.std.proofs.lemmas.List.Sums.{sum_by-cons}
use Rattle.pix_desc.specs.declared.desc.Comp.{Comp}
use Rattle.pix_desc.specs.declared.desc.Desc.{Desc}
use Rattle.pix_desc.specs.Component.{components, component_of, no_component, bytes_read}
use Rattle.pix_desc.specs.Frame.{step_in, plane_step}
use Rattle.pix_desc.specs.Layouts.{IsLaidOut, one_a_plane, has_all_planes}
use Rattle.pix_desc.proofs.ComponentLists.{get_or-components, length-components}
use Rattle.pix_desc.proofs.Valid.{plane_used}

-- a number of the first component in a plane, and 0 where none lies in it
abbrev pub first_in : (Comp → ℕ) → ℕ → List Comp → ℕ
first_in number plane [] = 0
first_in number plane (c ∷ cs) = if nat_eq c.plane plane then number c else first_in number plane cs

-- the numbers of the components in a plane, added
abbrev total_in : (Comp → ℕ) → ℕ → List Comp → ℕ
total_in number plane [] = 0
total_in number plane (c ∷ cs) = (if nat_eq c.plane plane then number c else 0) + total_in number plane cs

abbrev elsewhere : Comp → Comp → Bool
elsewhere c d = not (nat_eq d.plane c.plane)

-- without the components of one plane nothing is left of that plane, and all of another
total_in-left : (number : Comp → ℕ) (c : Comp) (plane : ℕ) (cs : List Comp) → c.plane ≡ plane
    → total_in number plane (filter (elsewhere c) cs) ≡ 0
total_in-left number c plane [] here = refl
total_in-left number c plane (d ∷ ds) here =
    cond_both (elsewhere c d) (d ∷ filter (elsewhere c) ds) (filter (elsewhere c) ds) (λ left. total_in number plane left ≡ 0)
    (λ away. let rest = total_in-left number c plane ds here in grind (arith, nat_tests))
    (λ _. total_in-left number c plane ds here)

total_in-kept : (number : Comp → ℕ) (c : Comp) (plane : ℕ) (cs : List Comp) → c.plane ≢ plane
    → total_in number plane (filter (elsewhere c) cs) ≡ total_in number plane cs
total_in-kept number c plane [] away = refl
total_in-kept number c plane (d ∷ ds) away =
    let rest = total_in-kept number c plane ds away in
    cond_both (elsewhere c d) (d ∷ filter (elsewhere c) ds) (filter (elsewhere c) ds)
    (λ left. total_in number plane left ≡ total_in number plane (d ∷ ds))
    (λ _. ap (λ t. (if nat_eq d.plane plane then number d else 0) + t) rest)
    (λ same. grind (arith, nat_tests))

-- so a plane's total is the number of its first component
pub total_in-one : (number : Comp → ℕ) (plane : ℕ) (cs : List Comp) → total_in number plane (one_a_plane cs) ≡ first_in number plane cs
total_in-one number plane [] = refl
total_in-one number plane (c ∷ cs) =
    ⊎_elim
    (λ (here : c.plane ≡ plane). let none = total_in-left number c plane (one_a_plane cs) here in grind (arith, nat_tests))
    (λ (away : c.plane ≢ plane). let rest = total_in-kept number c plane (one_a_plane cs) away
    ∙ total_in-one number plane cs in grind (arith, nat_tests))
    (cases_eq c.plane plane)

-- a number counts for one plane at most
once : (plane x : ℕ)
    → (if nat_eq plane 0 then x else 0) + (if nat_eq plane 1 then x else 0) + (if nat_eq plane 2 then x else 0) +
    (if nat_eq plane 3 then x else 0) ≤ x
once plane x = grind (arith, nat_tests)

-- the totals of four planes are no more than that of all
totals_below : (number : Comp → ℕ) (cs : List Comp)
    → total_in number 0 cs + total_in number 1 cs + total_in number 2 cs + total_in number 3 cs ≤ sum_by number cs
totals_below number [] = omega arith
totals_below number (c ∷ cs) = omega (arith, once c.plane (number c), totals_below number cs, sum_by-cons number c cs)

pub firsts_below : (number : Comp → ℕ) (cs : List Comp)
    → first_in number 0 cs + first_in number 1 cs + first_in number 2 cs + first_in number 3 cs ≤ sum_by number (one_a_plane cs)
firsts_below number cs =
    omega (
      arith,
      totals_below number
          (one_a_plane cs),
      total_in-one number 0 cs,
      total_in-one number 1 cs,
      total_in-one number 2 cs,
      total_in-one number 3 cs,
    )

-- ---- the step of a plane

first_in-step : (plane : ℕ) (cs : List Comp) → first_in (λ c. c.step) plane cs ≡ step_in plane cs
first_in-step plane [] = refl
first_in-step plane (c ∷ cs) = ap (λ rest. if nat_eq c.plane plane then c.step else rest) (first_in-step plane cs)

-- where all components are read from so many bytes
pub first_in-quotient : (plane size : ℕ) (cs : List Comp) → ((i : ℕ) → i < length cs → bytes_read (get_or cs i no_component) ≡ size)
    → first_in (λ c. c.step / bytes_read c) plane cs ≡ step_in plane cs / size
first_in-quotient plane size [] same = omega arith
first_in-quotient plane size (c ∷ cs) same =
    let here = ap (λ bytes. c.step / bytes) (same 0 (omega arith)) in
    let rest = first_in-quotient plane size cs (λ i within. same (suc i) (omega arith)) in
    grind (arith, nat_tests)

-- a plane that has bytes has a component
step_in-component : (plane : ℕ) (cs : List Comp) → 0 < step_in plane cs
    → (i : ℕ) × (i < length cs) × ((get_or cs i no_component).plane ≡ plane)
step_in-component plane [] some = absurd (omega arith)
step_in-component plane (c ∷ cs) some =
    ⊎_elim
    (λ (here : c.plane ≡ plane). (0, omega arith, here))
    (λ (away : c.plane ≢ plane).
    let rest : 0 < step_in plane cs = omega
    (arith, cond-false (nat_eq c.plane plane) c.step (step_in plane cs) (ne_eqb c.plane plane away)) in
    let position = step_in-component plane cs rest in
    (suc position.0, omega (arith, position.1), position.2))
    (cases_eq c.plane plane)

pub component_in : (desc : Desc) (plane : ℕ) → 0 < plane_step desc plane
    → (i : ℕ) × (i < desc.count) × ((component_of desc i).plane ≡ plane)
component_in desc plane some =
    let position = step_in-component plane (components desc) some in
    let listed : position.0 < desc.count = omega (arith, position.1, length-components desc) in
    (position.0, listed, ap (λ c. c.plane) (sym (get_or-components desc position.0 no_component listed)) ∙ position.2)

-- a component's plane has the bytes of its number
pub step_by : (desc : Desc) (j plane : ℕ) → IsLaidOut desc → j < desc.count → (component_of desc j).plane ≡ plane
    → bytes_read (component_of desc j) ≤ plane_step desc plane
step_by desc j plane laid listed there = omega (arith, ap (plane_step desc) there, laid.step j listed, laid.inside j listed)

pub bytes_read-positive : (c : Comp) → 1 ≤ bytes_read c
bytes_read-positive c = grind (arith, nat_tests)

-- ---- one plane

one_plane : (cs : List Comp) → length (one_a_plane cs) ≡ 1 → (plane : ℕ) × ((other : ℕ) → other ≢ plane → step_in other cs ≡ 0)
one_plane [] one = absurd (omega arith)
one_plane (c ∷ cs) one = (
  c.plane,
  λ other differ.
      let none : filter (elsewhere c) (one_a_plane cs) ≡ [] = nil_from_length (filter (elsewhere c) (one_a_plane cs)) (omega arith) in
      let total : total_in (λ d. d.step) other (c ∷ filter (elsewhere c) (one_a_plane cs)) ≡ 0 =
      ap (λ left. total_in (λ d. d.step) other (c ∷ left)) none ∙ grind (arith, nat_tests) in
      sym (first_in-step other (c ∷ cs)) ∙ sym (total_in-one (λ d. d.step) other (c ∷ cs)) ∙ total,
)

-- where the components share a plane, it is the first
module _ (desc : Desc) (laid : IsLaidOut desc) (all : has_all_planes desc ≡ true) (one : length (one_a_plane (components desc)) ≡ 1) where
  plane_is : (j : ℕ) → j < desc.count → (component_of desc j).plane ≡ (one_plane (components desc) one).0
  plane_is j listed =
      ⊎_elim
      (λ same. same)
      (λ differ. absurd
      (omega (
        arith,
        (one_plane (components desc) one).1 (component_of desc j).plane differ,
        step_by desc j
            (component_of desc j).plane laid listed refl,
        bytes_read-positive (component_of desc j),
      )))
      (cases_eq (component_of desc j).plane (one_plane (components desc) one).0)

  pub plane_zero : (j : ℕ) → j < desc.count → (component_of desc j).plane ≡ 0
  plane_zero j listed =
      ⊎_elim
      (λ none. none)
      (λ (some : 0 < (component_of desc j).plane).
      let first = plane_used desc j 0 all listed some in
      absurd (omega (arith, first.2, plane_is first.0 first.1, plane_is j listed)))
      (eq-zero-or-pos (component_of desc j).plane)

  pub no_other_plane : (plane : ℕ) → 0 < plane → plane_step desc plane ≡ 0
  no_other_plane plane some =
      ⊎_elim
      (λ none. none)
      (λ (step : 0 < plane_step desc plane).
      let first = component_in desc plane step in
      absurd (omega (arith, first.2, plane_zero first.0 first.1)))
      (eq-zero-or-pos (plane_step desc plane))
