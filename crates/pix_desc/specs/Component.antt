-- Components of a pixel: where a descriptor says that they lie, and what is read there (FFmpeg, libavutil/pixdesc.h, AVComponentDescriptor
-- and av_read_image_line2).
use Rattle.std.specs.Prelude.{◌≡◌, ℕ, ◌+◌, ◌-◌, ◌*◌, ◌/◌, ◌%◌, ◌^◌, ℤ, pos, negsuc, ◌+ℤ◌, ◌*ℤ◌, ◌-ℤ◌, Bool, false, not, ◌&&◌, if◌then◌else◌}
use Rattle.std.specs.Prelude.{nat_le, List, map, length, slice_index, slice_index_or}
use Rattle.std.specs.List.{range_with_len, list_any}
use Rattle.std.specs.Int.{bit_at}
use Rattle.std.specs.Ordering.{int_eq}
use Rattle.pix_desc.specs.declared.desc.Comp.{Comp}
use Rattle.pix_desc.specs.declared.desc.Desc.{Desc}

-- the component of no bits: the entry behind those that a descriptor has
abbrev pub no_component : Comp
no_component = record { plane = 0; step = 0; offset = pos 0; shift = 0; depth = 0 }

-- component j, and the component of no bits where the descriptor has no entry j
abbrev pub component_of : Desc → ℕ → Comp
component_of desc j = slice_index_or desc.comps j no_component

-- the components that a descriptor has, in their order
abbrev pub components : Desc → List Comp
components desc = map (component_of desc) (range_with_len 0 desc.count)

-- a component is read from one byte where shift and depth leave room for it, else from a number of two bytes
abbrev pub is_narrow : Comp → Bool
is_narrow c = nat_le (c.shift + c.depth) 8

-- how many bytes a component is read from
abbrev pub bytes_read : Comp → ℕ
bytes_read c = if is_narrow c then 1 else 2

-- the first byte read, counted from the pixel's start: one byte of a big-endian format is the second of two
abbrev pub first_byte : Desc → Comp → ℤ
first_byte desc c = if desc.be && is_narrow c then c.offset +ℤ pos 1 else c.offset

-- a whole number as a count, and 0 below 0
abbrev pub count_of : ℤ → ℕ
count_of (pos n) = n
count_of (negsuc n) = 0

-- where in a row the first byte stands that component c of pixel x is read from
abbrev pub start_of : Desc → Comp → ℕ → ℕ
start_of desc c x = x * c.step + count_of (first_byte desc c)

-- the number read there: one byte, or two in the format's byte order
abbrev pub number_at : Desc → Comp → List ℕ → ℕ → ℕ
number_at desc c row at =
    if is_narrow c then slice_index row at
    else (if desc.be then 256 * slice_index row at + slice_index row (at + 1) else slice_index row at + 256 * slice_index row (at + 1))

-- the value of component j of pixel x of a plane's row: its bits of the number
abbrev pub component : Desc → ℕ → List ℕ → ℕ → ℕ
component desc j row x =
    let c = component_of desc j in
    number_at desc c row (start_of desc c x) / 2 ^ c.shift % 2 ^ c.depth

-- bit k of a list of bytes, counted from the lowest bit of the first byte
abbrev pub bit_of : List ℕ → ℕ → ℕ
bit_of bytes k = bit_at (slice_index bytes (k / 8)) (k % 8)

-- bit i of a component's value is this bit of its pixel, counted from the lowest bit of the pixel's first byte
abbrev pub bit_position : Desc → Comp → ℕ → ℤ
bit_position desc c i =
    let bit = c.shift + i in
    let byte = if desc.be && not (is_narrow c) then 1 - bit / 8 else bit / 8 in
    pos 8 *ℤ (first_byte desc c +ℤ pos byte) +ℤ pos (bit % 8)

-- whether a component reads a bit of its pixel
abbrev pub reads_bit : Desc → Comp → ℤ → Bool
reads_bit desc c k = list_any (λ i. int_eq (bit_position desc c i) k) (range_with_len 0 c.depth)

-- whether component j of pixel x reads bit k of a row
abbrev pub reads_row_bit : Desc → ℕ → ℕ → ℕ → Bool
reads_row_bit desc j x k = let c = component_of desc j in reads_bit desc c (pos k -ℤ pos (8 * (x * c.step)))

-- every bit of a row that component j of pixel x does not read is as before
pub record KeepsOtherBits (desc : Desc) (j x : ℕ) (old new : List ℕ) : Type 0 where
  pub size : length new ≡ length old
  pub bits : (k : ℕ) → reads_row_bit desc j x k ≡ false → bit_of new k ≡ bit_of old k
