-- Tests of the four values.
use Rattle.std.specs.Prelude.{ℕ, ◌+◌, Bool, ◌&&◌, if◌then◌else◌, Option, Some, None}

abbrev pub all_of_four : (ℕ → Bool) → Bool
all_of_four test = test 0 && test 1 && test 2 && test 3

-- how many of the four pass
abbrev pub count_of_four : (ℕ → Bool) → ℕ
count_of_four test = (if test 0 then 1 else 0) + (if test 1 then 1 else 0) + (if test 2 then 1 else 0) + (if test 3 then 1 else 0)

abbrev pub or_else : {A : Type 0} → Option A → Option A → Option A
or_else None other = other
or_else (Some x) other = Some x

abbrev pub if_so : Bool → ℕ → Option ℕ
if_so test i = if test then Some i else None

-- the lowest of the four that passes
abbrev pub lowest : (ℕ → Bool) → Option ℕ
lowest test = or_else (if_so (test 0) 0) (or_else (if_so (test 1) 1) (or_else (if_so (test 2) 2) (if_so (test 3) 3)))
