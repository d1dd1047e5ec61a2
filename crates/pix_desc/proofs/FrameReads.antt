-- Which bits of a pixel a descriptor's components read.
use Rattle.std.proofs.Common.{◌≡◌, ℕ, ◌+◌, ◌*◌, ◌<◌, ◌≤◌, ◌≢◌, ⊎_elim, true, ◌&&◌, ℤ, pos, List, [], ◌∷◌, suc, All, length, get_or, nat_eq}
use Rattle.std.proofs.Common.{eqb-true, eq-eqb, sym, refl, ap, subst, ◌∙◌, arith}
use Rattle.std.specs.Int.{bit_at}
use Rattle.std.specs.Ordering.{int_eq}
use Rattle.std.proofs.lemmas.Bool.{cases_lt, cond-false, ne_eqb, and_parts, and_from, both_ways, true_from_ne_false}
use Rattle.std.proofs.lemmas.Bool.Decides.{Decides-int_eq}
use Rattle.std.proofs.lemmas.List.Folds.{list_any_at}
use Rattle.pix_desc.specs.declared.desc.Comp.{Comp}
use Rattle.pix_desc.specs.declared.desc.Desc.{Desc}
use Rattle.pix_desc.specs.Component.{components, component_of, bit_position, reads_bit, bit_of}
use Rattle.pix_desc.specs.Frame.{plane_step, step_in, row_start, frame_component, reads_pixel_bit}
use Rattle.pix_desc.specs.Layouts.{IsLaidOut}
use Rattle.pix_desc.proofs.ComponentLists.{get_or-components, length-components, list_any-below_at, list_any-below_false, some_component-at}
use Rattle.pix_desc.proofs.BitPositions.{same_position, position_inside, frame_bit}

-- bit i of component j is bit k of a pixel in the plane
pub record IsReadBy (desc : Desc) (plane k j i : ℕ) : Type 0 where
  pub listed : j < desc.count
  pub there : (component_of desc j).plane ≡ plane
  pub inside : i < (component_of desc j).depth
  pub at : bit_position desc (component_of desc j) i ≡ pos k

-- what a component reads, and where
pub read_position : (desc : Desc) (c : Comp) (k : ℤ) → reads_bit desc c k ≡ true → (i : ℕ) × (i < c.depth) × (bit_position desc c i ≡ k)
read_position desc c k reads =
    let at = list_any-below_at (λ i. int_eq (bit_position desc c i) k) c.depth reads in
    (at.0, at.1, (Decides-int_eq (bit_position desc c at.0) k).0 at.2)

pub position_reads : (desc : Desc) (c : Comp) (k : ℤ) (i : ℕ) → i < c.depth → bit_position desc c i ≡ k → reads_bit desc c k ≡ true
position_reads desc c k i inside at =
    true_from_ne_false (reads_bit desc c k) (λ none.
    both_ways (int_eq (bit_position desc c i) k) (list_any-below_false (λ t. int_eq (bit_position desc c t) k) c.depth i none inside)
    ((Decides-int_eq (bit_position desc c i) k).1 at))

-- a bit that is read is a bit of some component
pub read_by : (desc : Desc) (plane k : ℕ) → reads_pixel_bit desc plane k ≡ true → (j : ℕ) × (i : ℕ) × IsReadBy desc plane k j i
read_by desc plane k reads =
    let at = some_component-at desc (λ c. nat_eq c.plane plane && reads_bit desc c (pos k)) reads in
    let c = component_of desc at.0 in
    let both = and_parts (nat_eq c.plane plane) (reads_bit desc c (pos k)) at.2 in
    let position = read_position desc c (pos k) both.1 in
    (at.0, position.0, record { listed = at.1; there = eqb-true c.plane plane both.0; inside = position.1; at = position.2 })

-- a bit of a component is read
pub reads_from : (desc : Desc) (plane k j i : ℕ) → IsReadBy desc plane k j i → reads_pixel_bit desc plane k ≡ true
reads_from desc plane k j i by =
    let is : get_or (components desc) j (component_of desc j) ≡ component_of desc j =
    get_or-components desc j (component_of desc j) by.listed in
    list_any_at (λ c. nat_eq c.plane plane && reads_bit desc c (pos k)) (components desc) j (component_of desc j)
    (omega (arith, by.listed, length-components desc))
    (subst (λ c. (nat_eq c.plane plane && reads_bit desc c (pos k)) ≡ true) (sym is)
    (and_from (nat_eq (component_of desc j).plane plane) (reads_bit desc (component_of desc j) (pos k))
    (eq-eqb (component_of desc j).plane plane by.there) (position_reads desc (component_of desc j) (pos k) i by.inside by.at)))

-- the step of the plane is that of the component
step_by : (desc : Desc) (plane k j i : ℕ) → IsLaidOut desc → IsReadBy desc plane k j i → (component_of desc j).step ≡ plane_step desc plane
step_by desc plane k j i laid by = sym (laid.step j by.listed) ∙ ap (plane_step desc) by.there

-- what is read lies in the pixel
pub read_inside : (desc : Desc) (plane k j i : ℕ) → IsLaidOut desc → IsReadBy desc plane k j i → k < 8 * plane_step desc plane
read_inside desc plane k j i laid by =
    let c = component_of desc j in
    let position = same_position desc c i k (laid.first j by.listed) by.at in
    let inside = position_inside desc c i (laid.inside j by.listed) (laid.bits j by.listed) by.inside in
    omega (arith, position, inside, step_by desc plane k j i laid by)

-- a bit of a component of a raw frame, where the component reads bit k of a pixel
pub frame_bit_by : (desc : Desc) (width height : ℕ) (frame : List ℕ) (plane x y k j i : ℕ) → IsLaidOut desc → All (λ byte. byte < 256) frame
    → IsReadBy desc plane k j i
    → bit_at (frame_component desc width height frame j x y) i
    ≡ bit_of frame (8 * (row_start desc width height plane y + x * plane_step desc plane) + k)
frame_bit_by desc width height frame plane x y k j i laid bytes by =
    frame_bit desc width height frame j x y i k laid bytes by.listed by.inside by.at
    ∙ ap (λ p. bit_of frame (8 * (row_start desc width height p y + x * (component_of desc j).step) + k)) by.there
    ∙ ap (λ s. bit_of frame (8 * (row_start desc width height plane y + x * s) + k)) (step_by desc plane k j i laid by)

-- a plane in which no component lies has no bytes
step_none : (plane : ℕ) (cs : List Comp) → ((i : ℕ) (d : Comp) → i < length cs → (get_or cs i d).plane ≢ plane) → step_in plane cs ≡ 0
step_none plane [] none = refl
step_none plane (c ∷ cs) none =
    cond-false (nat_eq c.plane plane) c.step (step_in plane cs) (ne_eqb c.plane plane (none 0 c (omega arith)))
    ∙ step_none plane cs (λ i d below. none (suc i) d (omega arith))

-- a plane that has bytes is one of the first four
pub plane_below : (desc : Desc) (plane : ℕ) → IsLaidOut desc → 0 < plane_step desc plane → plane < 4
plane_below desc plane laid some =
    ⊎_elim
    (λ below. below)
    (λ (past : 4 ≤ plane).
    let none = step_none plane (components desc) (λ i d inside same.
    let listed : i < desc.count = omega (arith, inside, length-components desc) in
    let is : (component_of desc i).plane ≡ plane = ap (λ c. c.plane) (sym (get_or-components desc i d listed)) ∙ same in
    absurd (omega (arith, is, laid.plane i listed))) in
    absurd (omega (arith, none)))
    (cases_lt plane 4)
