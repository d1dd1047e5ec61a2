-- Where the bytes of the pixels stand in a raw frame, and which byte of which pixel each byte is.
use Rattle.std.proofs.Common.{◌≡◌, ℕ, zero, suc, ◌+◌, ◌-◌, ◌*◌, ◌/◌, ◌%◌, ◌<◌, ◌≤◌, ⊎_elim, ◌++◌, map, length, get_or, length-append}
use Rattle.std.proofs.Common.{get_or-append-add, sym, refl, ap, subst, ◌∙◌, arith}
use Rattle.std.specs.List.{range_with_len}
use Rattle.std.proofs.Math.ListN.{get_or-append}
use Rattle.std.proofs.lemmas.Bool.{cases_lt}
use Rattle.std.proofs.lemmas.List.FromFn.{length-map-range_with_len, get_or-map-range_with_len}
use Rattle.std.proofs.lemmas.Nat.{div-mul-add, mod-mul-add, mul-add-lt, div_below, div-add-mod'}
use Rattle.pix_desc.specs.declared.desc.Desc.{Desc}
use Rattle.pix_desc.specs.Frame.{plane_step, row_length, plane_length, plane_start, row_start, pixel_byte, plane_byte, planes_of}

-- the planes before one end where it begins
plane_end : (desc : Desc) (width height m p : ℕ) → p < m
    → plane_start desc width height p + plane_length desc width height p ≤ plane_start desc width height m
plane_end desc width height zero p below = absurd (omega arith)
plane_end desc width height (suc m) p below =
    ⊎_elim
    (λ (earlier : p < m). omega (arith, plane_end desc width height m p earlier))
    (λ (last : m ≤ p).
    let same : p ≡ m = omega arith in
    subst (λ q. plane_start desc width height q + plane_length desc width height q ≤ plane_start desc width height m
    + plane_length desc width height m) (sym same) (omega arith))
    (cases_lt p m)

pub length-planes_of : (desc : Desc) (width height : ℕ) (value : ℕ → ℕ → ℕ → ℕ) (m : ℕ)
    → length (planes_of desc width height value m) ≡ plane_start desc width height m
length-planes_of desc width height value zero = refl
length-planes_of desc width height value (suc m) =
    length-append (planes_of desc width height value m)
    (map (plane_byte desc width value m) (range_with_len 0 (plane_length desc width height m)))
    ∙ (let before = length-planes_of desc width height value m in let here =
    length-map-range_with_len (plane_byte desc width value m) 0 (plane_length desc width height m) in omega arith)

-- byte k of plane p
plane_at : (desc : Desc) (width height : ℕ) (value : ℕ → ℕ → ℕ → ℕ) (m p k : ℕ) → p < m → k < plane_length desc width height p
    → get_or (planes_of desc width height value m) (plane_start desc width height p + k) 0 ≡ plane_byte desc width value p k
plane_at desc width height value zero p k below within = absurd (omega arith)
plane_at desc width height value (suc m) p k below within =
    let before = planes_of desc width height value m in
    let bytes = map (plane_byte desc width value m) (range_with_len 0 (plane_length desc width height m)) in
    let long : length before ≡ plane_start desc width height m = length-planes_of desc width height value m in
    ⊎_elim
    (λ (earlier : p < m).
    get_or-append before bytes 0 (plane_start desc width height p + k) (omega (arith, long, plane_end desc width height m p earlier))
    ∙ plane_at desc width height value m p k earlier within)
    (λ (last : m ≤ p).
    let same : p ≡ m = omega arith in
    let inside : k < plane_length desc width height m = subst (λ q. k < plane_length desc width height q) same within in
    ap (λ q. get_or (before ++ bytes) (plane_start desc width height q + k) 0) same
    ∙ ap (λ n. get_or (before ++ bytes) (n + k) 0) (sym long)
    ∙ get_or-append-add before bytes k 0
    ∙ get_or-map-range_with_len (plane_byte desc width value m) 0 (plane_length desc width height m) k k 0 inside (omega arith)
    ∙ ap (λ q. plane_byte desc width value q k) (sym same))
    (cases_lt p m)

-- Byte `at` of the frame is byte o of the pixel at x and y in plane p.
pub record IsByteOf (desc : Desc) (width height at p x y o : ℕ) : Type 0 where
  pub plane : p < 4
  pub column : x < width
  pub row : y < height
  pub byte : o < plane_step desc p
  pub index : at ≡ row_start desc width height p y + x * plane_step desc p + o

-- the plane that a byte lies in
find_plane : (desc : Desc) (width height m at : ℕ) → at < plane_start desc width height m
    → (p : ℕ) × (k : ℕ) × (p < m) × (k < plane_length desc width height p) × (at ≡ plane_start desc width height p + k)
find_plane desc width height zero at below = absurd (omega arith)
find_plane desc width height (suc m) at below =
    ⊎_elim
    (λ (earlier : at < plane_start desc width height m). let found = find_plane desc width height m at earlier in
    (found.0, found.1, omega (arith, found.2), found.3, found.4))
    (λ (last : plane_start desc width height m ≤ at). (m, at - plane_start desc width height m, omega arith, omega arith, omega arith))
    (cases_lt at (plane_start desc width height m))

-- the row, the column and the byte of the pixel of byte k of a plane
byte_in_plane : (k height width step : ℕ) → k < height * (width * step)
    → (k / (width * step) < height) × (k % (width * step) / step < width) × (k % (width * step) % step < step)
    × (k ≡ k / (width * step) * (width * step) + (k % (width * step) / step * step + k % (width * step) % step))
byte_in_plane k height width step below =
    let row = width * step in
    let some : 0 < row = ⊎_elim (λ p. p) (λ none. let zero_row : row ≡ 0 = omega arith in
    absurd (omega (arith, ap (λ r. height * r) zero_row))) (cases_lt 0 row) in
    let some_step : 0 < step = ⊎_elim (λ p. p) (λ none. let zero_step : step ≡ 0 = omega arith in
    absurd (omega (arith, ap (λ s. width * s) zero_step))) (cases_lt 0 step) in
    let rest : k % row < row = omega arith in (
      div_below k row height some below,
      div_below (k % row) step width some_step rest,
      omega arith,
      omega (arith, div-add-mod' k row, div-add-mod' (k % row) step),
    )

-- each byte of the planes is a byte of a pixel
pub find_byte : (desc : Desc) (width height at : ℕ) → at < plane_start desc width height 4
    → (p x y o : ℕ) × IsByteOf desc width height at p x y o
unfolding row_start
find_byte desc width height at below =
    let found = find_plane desc width height 4 at below in
    let p = found.0 in
    let k = found.1 in
    let step = plane_step desc p in
    let row = width * step in
    let parts = byte_in_plane k height width step found.3 in (
      p,
      k % row / step,
      k / row,
      k % row % step,
      record { plane = found.2; column = parts.1; row = parts.0; byte = parts.2; index = omega (arith, found.4, parts.3) },
    )

-- byte k of a plane, where it is byte o of the pixel at x and y
plane_byte_is : (desc : Desc) (width : ℕ) (value : ℕ → ℕ → ℕ → ℕ) (p x y o : ℕ) → x < width → o < plane_step desc p
    → plane_byte desc width value p (y * row_length desc width p + (x * plane_step desc p + o)) ≡ pixel_byte desc p (λ j. value j x y) o
plane_byte_is desc width value p x y o column byte =
    let step = plane_step desc p in
    let row = row_length desc width p in
    let rest : x * step + o < row = omega (arith, mul-add-lt x step o width column byte) in
    let pixel = λ (k r : ℕ). pixel_byte desc p (λ j. value j (r / step) (k / row)) (r % step) in
    ap (λ r. pixel (y * row + (x * step + o)) r) (mod-mul-add y row (x * step + o) rest)
    ∙ ap (λ q. pixel_byte desc p (λ j. value j ((x * step + o) / step) q) ((x * step + o) % step)) (div-mul-add y row (x * step + o) rest)
    ∙ ap (λ q. pixel_byte desc p (λ j. value j q y) ((x * step + o) % step)) (div-mul-add x step o byte)
    ∙ ap (pixel_byte desc p (λ j. value j x y)) (mod-mul-add x step o byte)

-- each byte of the planes that are made of values
pub byte_of_planes : (desc : Desc) (width height : ℕ) (value : ℕ → ℕ → ℕ → ℕ) (at p x y o : ℕ) → IsByteOf desc width height at p x y o
    → get_or (planes_of desc width height value 4) at 0 ≡ pixel_byte desc p (λ j. value j x y) o
unfolding row_start
byte_of_planes desc width height value at p x y o is =
    let step = plane_step desc p in
    let row = row_length desc width p in
    let k = y * row + (x * step + o) in
    let rest : x * step + o < row = omega (arith, mul-add-lt x step o width is.column is.byte) in
    let within : k < plane_length desc width height p = omega (arith, mul-add-lt y row (x * step + o) height is.row rest) in
    let index : at ≡ plane_start desc width height p + k = omega (arith, is.index) in
    ap (λ t. get_or (planes_of desc width height value 4) t 0) index
    ∙ plane_at desc width height value 4 p k is.plane within
    ∙ plane_byte_is desc width value p x y o is.column is.byte
