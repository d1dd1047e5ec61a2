-- The example by computation.
use Rattle.std.proofs.Common.{refl}
use Rattle.frac_math.specs.Fraction.{over}
use Rattle.frac_math.specs.Gcd.{gcd}
use Rattle.op_list.specs.Typing.{stage_after}
use Rattle.op_range.specs.Width.{fractions_width, width_after, own_width_from, has_fractions, own_width, width}
use Rattle.op_range.specs.Examples.{WordsToBytes}

pub words_to_bytes : WordsToBytes
unfolding over gcd stage_after fractions_width width_after own_width_from has_fractions own_width width
words_to_bytes = record { first = refl; second = refl; all = refl }
