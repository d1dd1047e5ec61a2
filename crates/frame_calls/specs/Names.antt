-- The name of a format, as it is written for C.
use Rattle.std.specs.Prelude.{ℕ, ◌+◌, List, ◌∷◌, ◌++◌, drop, length, nat_lt, nat_le, not, if◌then◌else◌, Result, Ok, Err}
use Rattle.desc_table.specs.Format.{name_of, format_count}
use Rattle.frame_calls.specs.declared.refusal.Refusal.{Refusal}
use Rattle.frame_calls.specs.declared.refusal.Refusal.TheVariants as refusal

-- whether the name of a format can be written to so many bytes, or the first fault
unfoldable pub name_asked : ℕ → ℕ → Result Unit Refusal
name_asked format room =
    if not (nat_lt format format_count) then Err refusal.Format else (
    if nat_le room (length (name_of format)) then Err refusal.NameRoom else Ok tt)

-- the name in front, and a zero byte behind it
abbrev pub written_name : ℕ → List ℕ → List ℕ
written_name format room = name_of format ++ (0 ∷ drop (length (name_of format) + 1) room)
