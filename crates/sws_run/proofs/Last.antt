-- A byte behind the last frame.
use Rattle.std.proofs.Common.{◌≡◌, ℕ, ◌<◌, List, [], ◌∷◌, ◌++◌, length, refl, ap, arith, length-append}
use Rattle.sws_run.specs.Cut.{last_end, TooMany}

pub some_last : (front bytes rest : List ℕ) → 0 < length front → bytes ≡ front ++ rest → last_end bytes ≡ TooMany
some_last front [] rest some same = absurd (omega (arith, ap length same, length-append front rest))
some_last front (byte ∷ bytes) rest some same = refl
