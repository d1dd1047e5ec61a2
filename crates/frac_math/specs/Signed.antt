-- A size with a sign.
use Rattle.std.specs.Prelude.{Bool, true, false, ℕ, ℤ, pos, ◌+ℤ◌, ◌-ℤ◌}

-- n, or -n where the flag is set
abbrev pub with_sign : Bool → ℕ → ℤ
with_sign false n = pos 0 +ℤ pos n
with_sign true n = pos 0 -ℤ pos n
