-- The type of a format's elements, and whether they are turned round.
use Rattle.std.specs.Prelude.{Bool, not, ◌&&◌, if◌then◌else◌, nat_le}
use Rattle.pix_desc.specs.declared.desc.Desc.{Desc}
use Rattle.pix_desc.specs.Shape.{element_bytes}
use Rattle.op_list.specs.declared.types.PixType.{PixType}
use Rattle.op_list.specs.declared.types.PixType.TheVariants.{U8, U16, U32}
use Rattle.op_list.specs.Types.{is_same}

-- the type that has the bytes of an element
unfoldable pub element_type : Desc → PixType
element_type desc = if nat_le (element_bytes desc) 1 then U8 else (if nat_le (element_bytes desc) 2 then U16 else U32)

-- elements are little-endian numbers, so those of several bytes are turned round for a big-endian format
unfoldable pub is_swapped : Desc → Bool
is_swapped desc = desc.be && not (is_same (element_type desc) U8)
