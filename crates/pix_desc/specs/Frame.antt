-- Raw frames: the planes in order, each with its rows from the top and no padding; behind them, for a palette format, 256 entries of 4
-- bytes.
use Rattle.std.specs.Prelude.{◌≡◌, ℕ, zero, suc, ◌+◌, ◌*◌, ◌/◌, ◌%◌, ◌^◌, ◌<◌, pos, Bool, false, ◌&&◌, if◌then◌else◌, nat_eq, List, [], ◌∷◌}
use Rattle.std.specs.Prelude.{◌++◌, map, drop, length, sum_by, All}
use Rattle.std.specs.List.{range_with_len, list_any}
use Rattle.pix_desc.specs.declared.desc.Comp.{Comp}
use Rattle.pix_desc.specs.declared.desc.Desc.{Desc}
use Rattle.pix_desc.specs.Component.{components, component_of, component, is_narrow, first_byte, count_of, reads_bit, bit_of}

-- the bytes of a pixel in a plane: the step of the first component that lies in it, and 0 where none does
abbrev pub step_in : ℕ → List Comp → ℕ
step_in plane [] = 0
step_in plane (c ∷ cs) = if nat_eq c.plane plane then c.step else step_in plane cs

-- the bytes of a pixel in a plane of the format
abbrev pub plane_step : Desc → ℕ → ℕ
plane_step desc plane = step_in plane (components desc)

-- the bytes of a row of a plane
abbrev pub row_length : Desc → ℕ → ℕ → ℕ
row_length desc width plane = width * plane_step desc plane

-- the bytes of a plane
abbrev pub plane_length : Desc → ℕ → ℕ → ℕ → ℕ
plane_length desc width height plane = height * row_length desc width plane

-- the bytes of the planes before one
abbrev pub plane_start : Desc → ℕ → ℕ → ℕ → ℕ
plane_start desc width height zero = 0
plane_start desc width height (suc plane) = plane_start desc width height plane + plane_length desc width height plane

-- the bytes of a raw frame
unfoldable pub frame_length : Desc → ℕ → ℕ → ℕ
frame_length desc width height = plane_start desc width height 4 + (if desc.palette then 1024 else 0)

-- where row y of a plane begins in a raw frame
unfoldable pub row_start : Desc → ℕ → ℕ → ℕ → ℕ → ℕ
row_start desc width height plane y = plane_start desc width height plane + y * row_length desc width plane

-- the value of component j of the pixel at x and y; of a palette format, the index
unfoldable pub frame_component : Desc → ℕ → ℕ → List ℕ → ℕ → ℕ → ℕ → ℕ
frame_component desc width height frame j x y = component desc j (drop (row_start desc width height (component_of desc j).plane y) frame) x

-- whether some component reads bit k of a pixel in a plane
abbrev pub reads_pixel_bit : Desc → ℕ → ℕ → Bool
reads_pixel_bit desc plane k = list_any (λ c. nat_eq c.plane plane && reads_bit desc c (pos k)) (components desc)

-- A raw frame says these values: component j of the pixel at x and y reads as value j x y, and every bit that no component reads is 0.
pub record IsFrameOf (desc : Desc) (width height : ℕ) (value : ℕ → ℕ → ℕ → ℕ) (frame : List ℕ) : Type 0 where
  pub bytes : All (λ byte. byte < 256) frame
  pub size : length frame ≡ frame_length desc width height
  pub reads : (j x y : ℕ) → j < desc.count → x < width → y < height → frame_component desc width height frame j x y ≡ value j x y
  pub spare : (plane x y k : ℕ) → x < width → y < height → k < 8 * plane_step desc plane → reads_pixel_bit desc plane k ≡ false
      → bit_of frame (8 * (row_start desc width height plane y + x * plane_step desc plane) + k) ≡ 0

-- what a component of value v puts into byte k of its pixel
abbrev pub part : Desc → Comp → ℕ → ℕ → ℕ
part desc c v k =
    let number = v * 2 ^ c.shift in
    let first = count_of (first_byte desc c) in
    if is_narrow c then (if nat_eq k first then number else 0)
    else (if nat_eq k first then (if desc.be then number / 256 else number % 256)
    else (if nat_eq k (first + 1) then (if desc.be then number % 256 else number / 256) else 0))

-- byte k of a pixel in a plane is the sum of what the plane's components put into it
abbrev pub pixel_byte : Desc → ℕ → (ℕ → ℕ) → ℕ → ℕ
pixel_byte desc plane values k =
    sum_by (λ j. if nat_eq (component_of desc j).plane plane then part desc (component_of desc j) (values j) k else 0)
    (range_with_len 0 desc.count)

-- byte k of a plane
abbrev pub plane_byte : Desc → ℕ → (ℕ → ℕ → ℕ → ℕ) → ℕ → ℕ → ℕ
plane_byte desc width value plane k =
    let step = plane_step desc plane in
    let row = row_length desc width plane in
    pixel_byte desc plane (λ j. value j (k % row / step) (k / row)) (k % row % step)

-- the planes before one
abbrev pub planes_of : Desc → ℕ → ℕ → (ℕ → ℕ → ℕ → ℕ) → ℕ → List ℕ
planes_of desc width height value zero = []
planes_of desc width height value (suc plane) =
    planes_of desc width height value plane ++ map (plane_byte desc width value plane)
    (range_with_len 0 (plane_length desc width height plane))

-- the raw frame of these values, for a format without a palette
unfoldable pub frame_of : Desc → ℕ → ℕ → (ℕ → ℕ → ℕ → ℕ) → List ℕ
frame_of desc width height value = planes_of desc width height value 4

-- each value fits the depth of its component
abbrev pub FitDepths : Desc → ℕ → ℕ → (ℕ → ℕ → ℕ → ℕ) → Type 0
FitDepths desc width height value = (j x y : ℕ) → j < desc.count → x < width → y < height → value j x y < 2 ^ (component_of desc j).depth

-- the two give the same values within the frame
abbrev pub AgreeWithin : Desc → ℕ → ℕ → (ℕ → ℕ → ℕ → ℕ) → (ℕ → ℕ → ℕ → ℕ) → Type 0
AgreeWithin desc width height value other = (j x y : ℕ) → j < desc.count → x < width → y < height → value j x y ≡ other j x y

-- Values have exactly one raw frame: `frame_of` makes it where they fit the depths, and no other list of bytes says them.
pub record HasOneFrame (desc : Desc) (width height : ℕ) (value : ℕ → ℕ → ℕ → ℕ) : Type 0 where
  pub says : FitDepths desc width height value → IsFrameOf desc width height value (frame_of desc width height value)
  pub only : (frame : List ℕ) → IsFrameOf desc width height value frame → frame ≡ frame_of desc width height value
