-- Which descriptors are accepted, which layout their pixels have, and why the others are refused.
use Rattle.std.specs.Prelude.{◌≡◌, ◌≢◌, ℕ, ◌+◌, ◌-◌, ◌*◌, ◌/◌, ◌%◌, ◌<◌, ◌≤◌, pos, ◌+ℤ◌, Bool, true, false, not, ◌&&◌, ◌||◌, if◌then◌else◌}
use Rattle.std.specs.Prelude.{nat_lt, nat_le, nat_eq, List, [], ◌∷◌, length, filter, sum_by, count_by, Result, Ok, Err, IsOk}
use Rattle.std.specs.List.{range_with_len, list_any, list_all}
use Rattle.std.specs.Ordering.{int_eq}
use lib.Signed.{le_z}
use Rattle.pix_desc.specs.declared.desc.Comp.{Comp}
use Rattle.pix_desc.specs.declared.desc.Desc.{Desc}
use Rattle.pix_desc.specs.declared.desc.Layout.{Layout}
use Rattle.pix_desc.specs.declared.desc.Layout.TheVariants.{Elements, Word}
use Rattle.pix_desc.specs.declared.desc.DescFault.{DescFault}
use Rattle.pix_desc.specs.declared.desc.DescFault.TheVariants.{ComponentCount, DepthRange, Overlap, OutsideStep, MixedLayout, PlaneCount}
use Rattle.pix_desc.specs.Frame.{plane_step}
use Rattle.pix_desc.specs.Component.{components, component_of, bytes_read, first_byte, bit_position, reads_bit, count_of}

-- the numbers of components that the flags allow: palette, rgb, alpha
abbrev pub is_count : Bool → Bool → Bool → ℕ → Bool
is_count true false true n = nat_eq n 1
is_count true rgb alpha n = false
is_count false true false n = nat_eq n 3
is_count false true true n = nat_eq n 4
is_count false false false n = nat_eq n 1 || nat_eq n 3
is_count false false true n = nat_eq n 2 || nat_eq n 4

-- whether some component has the property
abbrev pub some_component : Desc → (Comp → Bool) → Bool
some_component desc has = list_any has (components desc)

-- whether an earlier and a later one of these components have the property
abbrev pub some_two : (Comp → Comp → Bool) → List Comp → Bool
some_two have [] = false
some_two have (c ∷ cs) = list_any (have c) cs || some_two have cs

-- whether an earlier and a later component of the descriptor have it
abbrev pub some_pair : Desc → (Comp → Comp → Bool) → Bool
some_pair desc have = some_two have (components desc)

-- a depth of 1 to 16 bits, in a number of 16
abbrev pub is_depth : Comp → Bool
is_depth c = nat_le 1 c.depth && nat_le c.depth 16 && nat_le (c.shift + c.depth) 16

-- whether two components read a bit at the same position, whatever their planes
abbrev pub share_bit : Desc → Comp → Comp → Bool
share_bit desc a b = list_any (λ i. reads_bit desc b (bit_position desc a i)) (range_with_len 0 a.depth)

-- whether two components of one plane read a common bit of the pixel
abbrev pub overlap : Desc → Comp → Comp → Bool
overlap desc a b = nat_eq a.plane b.plane && share_bit desc a b

-- the bytes that a component is read from lie in its pixel, which has 1 to 8 bytes
abbrev pub is_inside : Desc → Comp → Bool
is_inside desc c = nat_le 1 c.step && nat_le c.step 8 && le_z (pos 0) (first_byte desc c) && le_z (first_byte desc c +ℤ pos (bytes_read c))
    (pos c.step)

-- two components of one plane differ in step
abbrev pub differ_in_step : Comp → Comp → Bool
differ_in_step a b = nat_eq a.plane b.plane && not (nat_eq a.step b.step)

-- one component of each plane used
abbrev pub one_a_plane : List Comp → List Comp
one_a_plane [] = []
one_a_plane (c ∷ cs) = c ∷ filter (λ d. not (nat_eq d.plane c.plane)) (one_a_plane cs)

-- two components differ in shift or in depth
abbrev pub differ_in_shape : Comp → Comp → Bool
differ_in_shape a b = not (nat_eq a.shift b.shift && nat_eq a.depth b.depth)

-- the number that a component is read from begins at a multiple of its size, and so does the next pixel's
abbrev pub is_aligned : Desc → Comp → Bool
is_aligned desc c = nat_eq (count_of (first_byte desc c) % bytes_read c) 0 && nat_eq (c.step % bytes_read c) 0

-- how many numbers of its components' size a pixel has in all its planes
abbrev pub element_count : List Comp → ℕ
element_count cs = sum_by (λ c. c.step / bytes_read c) (one_a_plane cs)

-- Elements: the pixel is at most four aligned numbers of one size, and all components have the same shift and depth, so that no number
-- holds two of them; a number may hold none
abbrev pub is_elements : Desc → Bool
is_elements desc = not (some_pair desc differ_in_shape) && list_all (is_aligned desc) (components desc) && nat_le
    (element_count (components desc)) 4

-- the lowest bit of a component in its pixel, taken as one number in the format's byte order
abbrev pub word_shift : Desc → Comp → ℕ
word_shift desc c =
    let first = count_of (first_byte desc c) in
    8 * (if desc.be then c.step - first - bytes_read c else first) + c.shift

-- whether a bit of that number belongs to a component
abbrev pub has_word_bit : Desc → ℕ → Comp → Bool
has_word_bit desc bit c = nat_le (word_shift desc c) bit && nat_lt bit (word_shift desc c + c.depth)

-- whether a bit of that number belongs to no component
abbrev pub is_spare : Desc → ℕ → Bool
is_spare desc bit = not (some_component desc (has_word_bit desc bit))

-- whether a run of spare bits begins at a bit
abbrev pub begins_spare : Desc → ℕ → Bool
begins_spare desc bit = is_spare desc bit && (nat_eq bit 0 || not (is_spare desc (bit - 1)))

-- how many runs of spare bits a pixel of so many bytes has
abbrev pub spare_runs : Desc → ℕ → ℕ
spare_runs desc step = count_by (begins_spare desc) (range_with_len 0 (8 * step))

-- a pixel of so many bytes is a number of 1, 2 or 4 bytes, which the components and the runs of spare bits cut into at most four fields
abbrev pub has_few_fields : Desc → ℕ → Bool
has_few_fields desc step = (nat_eq step 1 || nat_eq step 2 || nat_eq step 4) && nat_le (desc.count + spare_runs desc step) 4

-- Word: the pixel lies in one plane, and is one number of 1, 2 or 4 bytes with at most four fields
abbrev pub is_word : Desc → Bool
is_word desc = nat_eq (length (one_a_plane (components desc))) 1 && list_all (λ c. has_few_fields desc c.step) (components desc)

-- a component that is the only byte of its pixel
abbrev pub is_byte : Comp → Bool
is_byte c = nat_eq c.plane 0 && nat_eq c.step 1 && int_eq c.offset (pos 0) && nat_eq c.shift 0 && nat_eq c.depth 8

-- a palette format has one index of a byte a pixel
abbrev pub is_index : Desc → Bool
is_index desc = not desc.be && not (some_component desc (λ c. not (is_byte c)))

-- the steps of a plane differ, or no layout fits, or a palette format has another index
abbrev pub is_mixed : Desc → Bool
is_mixed desc = some_pair desc differ_in_step || not (is_elements desc || is_word desc) || (desc.palette && not (is_index desc))

-- below each plane used every plane is used
abbrev pub has_all_planes : Desc → Bool
has_all_planes desc = list_all (λ c. list_all (λ p. some_component desc (λ d. nat_eq d.plane p)) (range_with_len 0 c.plane))
    (components desc)

-- the layout of an accepted descriptor, or the first fault
unfoldable pub checked : Desc → Result Layout DescFault
checked desc =
    if not (is_count desc.palette desc.rgb desc.alpha desc.count) then Err ComponentCount
    else (if some_component desc (λ c. not (is_depth c)) then Err DepthRange
    else (if some_pair desc (overlap desc) then Err Overlap
    else (if some_component desc (λ c. not (is_inside desc c)) then Err OutsideStep
    else (if is_mixed desc then Err MixedLayout
    else (if not (has_all_planes desc) then Err PlaneCount
    else (if is_elements desc then Ok Elements else Ok Word))))))

-- the descriptor passes the check
pub record IsValid (desc : Desc) : Type 0 where
  pub passes : IsOk (checked desc)

-- what the check gives of every component
pub record IsLaidOut (desc : Desc) : Type 0 where
  pub some : 0 < desc.count
  pub most : desc.count ≤ 4
  pub deep : (j : ℕ) → j < desc.count → 0 < (component_of desc j).depth
  pub bits : (j : ℕ) → j < desc.count → (component_of desc j).shift + (component_of desc j).depth ≤ 16
  pub plane : (j : ℕ) → j < desc.count → (component_of desc j).plane < 4
  pub step : (j : ℕ) → j < desc.count → plane_step desc (component_of desc j).plane ≡ (component_of desc j).step
  pub small : (j : ℕ) → j < desc.count → (component_of desc j).step ≤ 8
  pub first : (j : ℕ) → j < desc.count → first_byte desc (component_of desc j) ≡ pos (count_of (first_byte desc (component_of desc j)))
  pub inside : (j : ℕ) → j < desc.count
      → count_of (first_byte desc (component_of desc j)) + bytes_read (component_of desc j) ≤ (component_of desc j).step
  pub apart : (i j a b : ℕ) → i < desc.count → j < desc.count → i ≢ j → (component_of desc i).plane ≡ (component_of desc j).plane
      → a < (component_of desc i).depth → b < (component_of desc j).depth
      → bit_position desc (component_of desc i) a ≢ bit_position desc (component_of desc j) b
