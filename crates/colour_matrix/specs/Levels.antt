-- Levels: the value that a code stands for, by the code equations of ITU-T H.273 section 8.3.
use Rattle.std.specs.Prelude.{ℕ, ◌-◌, ◌^◌, pos}
use Rattle.frac_math.specs.Fraction.{ℚ, nat, over, ◌*ℚ◌, ◌+ℚ◌, ◌-ℚ◌, ◌/ℚ◌}
use Rattle.colour_matrix.specs.declared.class.Class.{Class}
use Rattle.colour_matrix.specs.declared.class.Class.TheVariants.{Direct, Luma, Chroma}
use Rattle.colour_matrix.specs.declared.class.Range.{Range}
use Rattle.colour_matrix.specs.declared.class.Range.TheVariants.{Full, Limited}
use Rattle.colour_matrix.specs.declared.class.Levels.{Levels}

-- a code at 8 bits put at a depth: 2^(depth - 8) * code, a fraction below 8 bits
unfoldable pub scaled_to : ℕ → ℕ → ℚ
scaled_to depth code = over (pos (2 ^ depth)) 256 *ℚ nat code

-- scale and base of a class, a depth and a range; red, green, blue and alpha have all codes
unfoldable pub levels : Class → ℕ → Range → Levels
levels Luma depth Limited = record { scale = scaled_to depth 219; base = scaled_to depth 16 }
levels Chroma depth Limited = record { scale = scaled_to depth 224; base = scaled_to depth 128 }
levels Luma depth Full = record { scale = nat (2 ^ depth - 1); base = nat 0 }
levels Chroma depth Full = record { scale = nat (2 ^ depth - 1); base = nat (2 ^ (depth - 1)) }
levels Direct depth range = record { scale = nat (2 ^ depth - 1); base = nat 0 }

-- code = scale * value + base, solved for the value
unfoldable pub from_code : Levels → ℚ → ℚ
from_code l code = (code -ℚ l.base) /ℚ l.scale

-- the code of a value, not yet rounded
unfoldable pub to_code : Levels → ℚ → ℚ
to_code l e = l.scale *ℚ e +ℚ l.base
