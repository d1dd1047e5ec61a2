-- What is read from a source and written to a sink, where the bytes left and the bytes written are told. Each word takes what is shown
-- before and after.
use Rattle.std.specs.Prelude.{ℕ, ◌<◌, List, [], length, take, Result, IfOk}
use Rattle.std.specs.Io.KnownBytes.{Consumes, Appends, IsAtEnd}
use Rattle.pix_io.specs.declared.transfer.Got.{Got}
use Rattle.pix_io.specs.declared.transfer.Got.TheVariants.{Whole, End, Short}
use Rattle.pix_io.specs.Shown.{Shown}

-- of a piece that is not empty, a write takes at least one byte
abbrev pub TakesSome : {E : Type 0} → Result ℕ E → List ℕ → Type 0
TakesSome r piece = IfOk r (λ n. 0 < length piece → 0 < n)

-- these bytes were taken from the front of the bytes left
abbrev pub Takes : Shown → Shown → List ℕ → Type 0
Takes old new bytes = Consumes old.bytes new.bytes bytes

-- a front of the bytes, shorter than they are, was taken from the bytes left
abbrev pub TakesPart : Shown → Shown → List ℕ → Type 0
TakesPart old new bytes = (n : ℕ) × (n < length bytes) × Takes old new (take n bytes)

-- these bytes were written
abbrev pub Writes : Shown → Shown → List ℕ → Type 0
Writes old new bytes = Appends old.bytes new.bytes bytes

-- a front of the bytes, shorter than they are, was written
abbrev pub WritesPart : Shown → Shown → List ℕ → Type 0
WritesPart old new bytes = (n : ℕ) × (n < length bytes) × Writes old new (take n bytes)

-- no byte is left
abbrev pub HasEnded : Shown → Type 0
HasEnded now = IsAtEnd now.bytes

-- What was taken stands at the front of the buffer: all of it, or at the input's end nothing, or the first n bytes.
abbrev pub TakesWhole : Shown → Shown → Got → List ℕ → Type 0
TakesWhole old new Whole buf = Takes old new buf
TakesWhole old new End buf = Takes old new [] × HasEnded new
TakesWhole old new (Short n) buf = Takes old new (take n buf) × HasEnded new

-- a short read gave some bytes, and fewer than the buffer has room for
abbrev pub IsInRange : Got → ℕ → Type 0
IsInRange Whole size = Unit {0}
IsInRange End size = Unit {0}
IsInRange (Short n) size = (0 < n) × (n < size)
