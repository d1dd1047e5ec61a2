-- Elements are below their limit.
use Rattle.std.proofs.Common.{◌≡◌, ℕ, zero, suc, ◌+◌, ◌*◌, ◌^◌, ◌<◌, List, get_or, arith}
use Rattle.op_list.specs.declared.types.PixType.{PixType}
use Rattle.op_list.specs.declared.types.PixType.TheVariants.{U8, U16, U32, Rat}
use Rattle.op_list.specs.Types.{bits}
use Rattle.op_list.specs.Pixel.{number_at, element}

-- ---- an element of bytes is below 2 ^ bits
number_small : (count : ℕ) (frame : List ℕ) (at : ℕ) → ((k : ℕ) → get_or frame k 0 < 256) → number_at count frame at < 256 ^ count
number_small zero frame at low = omega arith
number_small (suc count) frame at low =
    let rest : number_at count frame (at + 1) < 256 ^ count = number_small count frame (at + 1) low in
    let first : get_or frame at 0 < 256 = low at in
    let power : 256 ^ suc count ≡ 256 * 256 ^ count = omega arith in
    omega (arith, rest, first, power)

pub element_small : (elem : PixType) (frame : List ℕ) (k : ℕ) → ((k : ℕ) → get_or frame k 0 < 256) → element elem frame k < 2 ^ bits elem
element_small U8 frame k low = number_small 1 frame (k * 1) low
element_small U16 frame k low = number_small 2 frame (k * 2) low
element_small U32 frame k low = number_small 4 frame (k * 4) low
element_small Rat frame k low = number_small 0 frame (k * 0) low
