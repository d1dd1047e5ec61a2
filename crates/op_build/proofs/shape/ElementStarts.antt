-- Where in a frame the elements of a pixel begin, also the spare ones.
use Rattle.std.proofs.Common.{◌≡◌, ℕ, zero, suc, ◌+◌, ◌-◌, ◌*◌, ◌/◌, ◌%◌, ◌<◌, ◌≤◌, ⊎_elim, List, [], ◌∷◌, take, length, get_or}
use Rattle.std.proofs.Common.{eq-zero-or-pos, sym, ap, ◌∙◌, arith}
use Rattle.std.specs.Prelude.{sum}
use Rattle.std.proofs.lemmas.Bool.{cases_lt}
use Rattle.std.proofs.lemmas.List.Sums.{sum_by-cons, sum_by_more}
use Rattle.std.proofs.lemmas.Nat.{div-add-mod'}
use Rattle.pix_desc.specs.declared.desc.Desc.{Desc}
use Rattle.pix_desc.specs.Component.{component_of}
use Rattle.pix_desc.specs.Frame.{plane_step, plane_start, row_start}
use Rattle.pix_desc.specs.Layouts.{IsLaidOut}
use Rattle.op_list.specs.declared.position.PixelPosition.{PixelPosition}
use Rattle.op_list.specs.Pixel.{element_in, pixel_count, pixel_number}
use Rattle.op_list.proofs.Elements.{elements_in_order}
use Rattle.pix_desc.specs.Shape.{element_bytes, element_counts}
use Rattle.pix_desc.proofs.ElementCounts.{count_at, length-counts}
use Rattle.pix_desc.proofs.PlaneSteps.{component_in}

-- Element i of a pixel is element r of those in plane p.
pub record IsInPlane (ns : List ℕ) (i p r : ℕ) : Type 0 where
  pub plane : p < length ns
  pub inside : r < get_or ns p 0
  pub index : i ≡ sum (take p ns) + r

-- the plane of an element
pub find_in_plane : (ns : List ℕ) (i : ℕ) → i < sum ns → (p : ℕ) × (r : ℕ) × IsInPlane ns i p r
find_in_plane [] i within = absurd (omega arith)
find_in_plane (n ∷ ns) i within =
    ⊎_elim
    (λ (here : i < n). (0, i, record { plane = omega arith; inside = here; index = omega arith }))
    (λ (later : n ≤ i).
    let found = find_in_plane ns (i - n) (omega (arith, sum_by-cons (λ k. k) n ns)) in (
      suc found.0,
      found.1,
      record {
        plane = omega (arith, found.2.plane);
        inside = found.2.inside;
        index = omega (arith, found.2.index, sum_by-cons (λ k. k) n (take found.0 ns));
      },
    ))
    (cases_lt i n)

-- the bytes before an element, of those of the elements before it
in_bytes : (width rows row x size before count rest step : ℕ) → count * size ≡ step
    → (width * rows * before + (row * width + x) * count + rest) * size
    ≡ width * rows * (before * size) + row * (width * step) + x * step + rest * size
in_bytes width rows row x size before count rest step steps = omega (arith, ap (λ t. row * (width * t)) steps, ap (λ t. x * t) steps)

module _ (desc : Desc) (size : ℕ) (laid : IsLaidOut desc) (bytes_are : element_bytes desc ≡ size)
    (whole : (j : ℕ) → j < desc.count → (component_of desc j).step % size ≡ 0) where
  -- the bytes of a pixel in a plane are whole elements
  pub whole_steps : (plane : ℕ) → plane_step desc plane / size * size ≡ plane_step desc plane
  whole_steps plane =
      ⊎_elim
      (λ (none : plane_step desc plane ≡ 0). omega (arith, div-add-mod' (plane_step desc plane) size))
      (λ (some : 0 < plane_step desc plane).
      let at = component_in desc plane some in
      let step : plane_step desc plane ≡ (component_of desc at.0).step = ap (plane_step desc) (sym at.2) ∙ laid.step at.0 at.1 in
      omega (arith, div-add-mod' (plane_step desc plane) size, ap (λ s. s % size) step, whole at.0 at.1))
      (eq-zero-or-pos (plane_step desc plane))

  pub plane_start_is : (width rows plane : ℕ) → plane ≤ 4
      → plane_start desc width rows plane ≡ width * rows * (sum (take plane (element_counts desc)) * size)
  plane_start_is width rows zero within = omega arith
  plane_start_is width rows (suc plane) within =
      let before = sum (take plane (element_counts desc)) in
      let count = plane_step desc plane / size in
      let next : suc plane ≡ plane + 1 = omega arith in
      let listed : plane < length (element_counts desc) = omega (arith, length-counts desc) in
      let here = count_at desc size plane bytes_are (omega arith) in
      let more : sum (take (suc plane) (element_counts desc)) ≡ before + count =
      ap (λ t. sum (take t (element_counts desc))) next ∙ sum_by_more (λ n. n) (element_counts desc) plane 0 listed
      ∙ ap (λ t. before + t) here in
      omega (
        arith,
        plane_start_is width rows plane (omega arith),
        ap (λ t. width * rows * (t * size)) more,
        ap (λ t. rows * (width * t))
            (whole_steps plane),
      )

  pub element_starts : (position : PixelPosition) (i p r : ℕ) → IsInPlane (element_counts desc) i p r
      → element_in (pixel_count position) (pixel_number position) 0 (element_counts desc) i * size
      ≡ row_start desc position.width position.rows p position.row + position.x * plane_step desc p + r * size
  unfolding row_start
  element_starts position i p r there =
      let step = plane_step desc p in
      let counts = element_counts desc in
      let before = sum (take p counts) in
      let below : p < 4 = omega (arith, there.plane, length-counts desc) in
      let steps : get_or counts p 0 * size ≡ step = ap (λ t. t * size) (count_at desc size p bytes_are below) ∙ whole_steps p in
      ap (λ k. element_in (pixel_count position) (pixel_number position) 0 counts k * size) there.index
      ∙ ap (λ t. t * size) (elements_in_order (pixel_count position) (pixel_number position) counts p r there.inside)
      ∙ in_bytes position.width position.rows position.row position.x size before (get_or counts p 0) r step steps
      ∙ ap (λ t. t + position.row * (position.width * step) + position.x * step + r * size)
      (sym (plane_start_is position.width position.rows p (omega arith)))

-- and the word of a pixel behind those of the pixels before it
pub word_begins : (desc : Desc) (width rows j x row : ℕ) → IsLaidOut desc → j < desc.count → (component_of desc j).plane ≡ 0
    → (width * rows * 0 + (row * width + x) * 1 + 0) * (component_of desc j).step
    ≡ row_start desc width rows (component_of desc j).plane row + x * (component_of desc j).step
unfolding row_start
word_begins desc width rows j x row laid listed first =
    omega (arith, ap (plane_start desc width rows) first, ap (λ s. row * (width * s)) (laid.step j listed))
