-- The planes of a raw frame, one behind the other.
use Rattle.std.proofs.Common.{◌≡◌, ℕ, zero, suc, ◌+◌, ◌-◌, ◌*◌, ◌<◌, ◌≤◌, refl, arith, subst, add-zero, add-suc, le_refl, length, drop, ap}
use Rattle.std.proofs.Common.{◌∙◌, nat_eq, if◌then◌else◌, add-one, drop_of_length-le}
use Rattle.std.proofs.Math.Nat.{mul-le-mul_left}
use Rattle.std.proofs.Math.Seq.{drop-cons}
use Rattle.pix_desc.specs.declared.desc.Desc.{Desc}
use Rattle.pix_desc.specs.Component.{components, component_of, no_component}
use Rattle.pix_desc.proofs.ComponentLists.{length-components, get_or-components}
use Rattle.pix_desc.specs.Frame.{step_in, plane_start, row_length, frame_length, row_start}

-- the step of a plane among the components from one on is that component's, or the step among those behind it
pub step_in-drop : (desc : Desc) (plane j : ℕ) → j < desc.count
    → step_in plane (drop j (components desc)) ≡ (if nat_eq (component_of desc j).plane plane then
    (component_of desc j).step else step_in plane (drop (j + 1) (components desc)))
step_in-drop desc plane j listed =
    let within : j < length (components desc) = omega (arith, length-components desc) in
    ap (step_in plane) (drop-cons (components desc) j no_component within) ∙ rw (get_or-components desc j no_component listed, add-one) refl

-- behind the last component there is none
pub step_in-none : (desc : Desc) (plane : ℕ) → step_in plane (drop desc.count (components desc)) ≡ 0
step_in-none desc plane = ap (step_in plane) (drop_of_length-le (components desc) (omega (arith, length-components desc)))

-- one plane more of rows of at most 8 bytes a pixel
pub planes-bound : (len row width height plane : ℕ) → len ≤ plane * (8 * (width * height)) → row ≤ width * 8
    → len + height * row ≤ (plane + 1) * (8 * (width * height))
planes-bound len row width height plane before most = let rows : height * row ≤ height * (width * 8) = mul-le-mul_left height most in grind
    (arith, rows)

-- the planes lie in their order
plane_start-rises : (desc : Desc) (width height plane k : ℕ) → plane_start desc width height plane ≤ plane_start desc width height
    (plane + k)
plane_start-rises desc width height plane zero = rw add-zero (le_refl (plane_start desc width height plane))
plane_start-rises desc width height plane (suc k) = let before = plane_start-rises desc width height plane k in rw add-suc
    (omega (arith, before))

-- a row ends in its plane
row-fits : (row height length : ℕ) → row < height → row * length + length ≤ height * length
row-fits row height length within = grind arith

-- a row lies in its frame
pub row_start-inside : (desc : Desc) (width height plane row : ℕ) → plane < 4 → row < height
    → row_start desc width height plane row + row_length desc width plane ≤ frame_length desc width height
unfolding row_start frame_length
row_start-inside desc width height plane row in_frame in_plane =
    let start = plane_start desc width height in
    let later : start (suc plane) ≤ start 4 = subst (λ n. start (suc plane) ≤ start n) {x = suc plane + (3 - plane)} {y = 4} (omega arith)
    (plane_start-rises desc width height (suc plane) (3 - plane)) in
    let fits = row-fits row height (row_length desc width plane) in_plane in
    omega (arith, later, fits)
