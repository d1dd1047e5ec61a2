-- How a pixel is stored as up to four numbers, its slots: the elements of its planes, or the fields of one word.
use Rattle.std.specs.Prelude.{ℕ, zero, suc, ◌+◌, ◌-◌, ◌*◌, ◌/◌, Bool, false, not, ◌&&◌, if◌then◌else◌, nat_lt, nat_le, nat_eq, List, []}
use Rattle.std.specs.Prelude.{◌∷◌, map, take, sum, slice_index_or, Option, Some, None}
use Rattle.std.specs.List.{range_with_len, find, position_or_len}
use Rattle.pix_desc.specs.declared.desc.Desc.{Desc}
use Rattle.pix_desc.specs.Component.{component_of, bytes_read, first_byte, count_of}
use Rattle.pix_desc.specs.Frame.{plane_step}
use Rattle.pix_desc.specs.Layouts.{is_elements, word_shift}

-- the bytes of an element: those that a component is read from, or those of the whole word
unfoldable pub element_bytes : Desc → ℕ
element_bytes desc = if is_elements desc then bytes_read (component_of desc 0) else (component_of desc 0).step

-- the elements of a pixel in each plane; a word is one
unfoldable pub element_counts : Desc → List ℕ
element_counts desc =
    let count = λ (plane : ℕ). plane_step desc plane / element_bytes desc in
    count 0 ∷ count 1 ∷ count 2 ∷ count 3 ∷ []

-- ---- elements

-- the element of a pixel that holds component j
abbrev pub element_index : Desc → ℕ → ℕ
element_index desc j =
    let c = component_of desc j in
    sum (take c.plane (element_counts desc)) + count_of (first_byte desc c) / element_bytes desc

-- the component that an element holds, and none where it is spare
abbrev pub element_slot : Desc → ℕ → Option ℕ
element_slot desc i = find (λ j. nat_eq (element_index desc j) i) (range_with_len 0 desc.count)

-- ---- fields of a word

-- A field: its width in bits, and the component that it holds, or none where it is spare.
pub record Field : Type 0 where
  pub width : ℕ
  pub slot : Option ℕ

-- the bit of the word at which a component ends
abbrev pub end_of : Desc → ℕ → ℕ
end_of desc j = word_shift desc (component_of desc j) + (component_of desc j).depth

-- the greatest of the ends of some components that are at or below a bit, and 0 where there is none
abbrev pub end_below : Desc → List ℕ → ℕ → ℕ
end_below desc [] top = 0
end_below desc (j ∷ js) top =
    let other = end_below desc js top in
    if nat_le (end_of desc j) top && nat_lt other (end_of desc j) then end_of desc j else other

-- the field below a bit of the word: a component's that ends there, or the spare bits down to the next component
abbrev pub field_for : Desc → ℕ → Option ℕ → Field
field_for desc top (Some j) = record { width = (component_of desc j).depth; slot = Some j }
field_for desc top None = record { width = top - end_below desc (range_with_len 0 desc.count) top; slot = None }

abbrev pub field_below : Desc → ℕ → Field
field_below desc top = field_for desc top (find (λ j. nat_eq (end_of desc j) top) (range_with_len 0 desc.count))

-- the fields below a bit of the word, at most so many, from the most significant down
abbrev pub fields_below : Desc → ℕ → ℕ → List Field
fields_below desc zero top = []
fields_below desc (suc most) top =
    if nat_eq top 0 then [] else (let field = field_below desc top in field ∷ fields_below desc most (top - field.width))

unfoldable pub fields : Desc → List Field
fields desc = fields_below desc 4 (8 * (component_of desc 0).step)

abbrev pub no_field : Field
no_field = record { width = 0; slot = None }

-- the widths of the fields, and 0 for those that are not there
unfoldable pub field_widths : Desc → List ℕ
field_widths desc =
    let width = λ (i : ℕ). (slice_index_or (fields desc) i no_field).width in
    width 0 ∷ width 1 ∷ width 2 ∷ width 3 ∷ []

-- ---- both

-- which component each slot of a pixel holds, none for a spare one
unfoldable pub slots : Desc → List (Option ℕ)
slots desc =
    if is_elements desc then map (element_slot desc) (range_with_len 0 (sum (element_counts desc))) else map (λ field. field.slot)
    (fields desc)

-- whether a slot holds component j, and the position of the slot that does
abbrev pub holds : ℕ → Option ℕ → Bool
holds j None = false
holds j (Some i) = nat_eq i j

abbrev pub position_of : Desc → ℕ → ℕ
position_of desc j = position_or_len (holds j) (slots desc)
