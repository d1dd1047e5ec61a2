-- The sizes that a call gives, and its first fault.
use Rattle.std.specs.Prelude.{ℕ, ◌+◌, ◌^◌, Bool, ◌&&◌, not, nat_eq, nat_le, nat_lt, if◌then◌else◌, ◌≡◌, Result, Ok, Err}
use Rattle.desc_table.specs.Format.{desc_of, format_count}
use Rattle.pix_desc.specs.Frame.{frame_length}
use Rattle.pix_meaning.specs.declared.pair.Pair.{Pair}
use Rattle.frame_calls.specs.declared.refusal.Refusal.{Refusal}
use Rattle.frame_calls.specs.declared.refusal.Refusal.TheVariants as refusal
use Rattle.frame_calls.specs.declared.rows.Rows.{Rows}

-- whether a frame may be so large: 1 to 16384 pixels by 1 to 16384 rows
abbrev pub is_size : ℕ → ℕ → Bool
is_size width count = (nat_le 1 width && nat_le width 16384) && (nat_le 1 count && nat_le count 16384)

-- whether the size is one of a frame's, and the number of the row behind the last has 32 bits
abbrev pub are_rows : Rows → Bool
are_rows rows = is_size rows.width rows.count && nat_lt (rows.first + rows.count) (2 ^ 32)

-- the bytes of a frame of a format, or the first fault
unfoldable pub bytes_asked : ℕ → ℕ → ℕ → Result ℕ Refusal
bytes_asked format width count =
    if not (nat_lt format format_count) then Err refusal.Format else (
    if not (is_size width count) then Err refusal.Size else Ok (frame_length (desc_of format) width count))

-- whether rows can be converted, whose source and target have so many bytes, or the first fault
unfoldable pub rows_asked : Pair → Rows → ℕ → ℕ → Result Unit Refusal
rows_asked pair rows source target =
    if not (are_rows rows) then Err refusal.Size else (
    if not (nat_eq source (frame_length pair.from.desc rows.width rows.count)) then Err refusal.InputLength else (
    if not (nat_eq target (frame_length pair.to.desc rows.width rows.count)) then Err refusal.OutputLength else Ok tt))

-- whether rows can be converted for what was asked, or the first fault of both
abbrev pub rows_asked_of : Result Pair Refusal → Rows → ℕ → ℕ → Result Unit Refusal
rows_asked_of (Ok pair) rows source target = rows_asked pair rows source target
rows_asked_of (Err refusal) rows source target = Err refusal

-- why a call is refused: by the first fault, and by want of memory only where there is none
abbrev pub IsRefusalOf : {A : Type 0} → Result A Refusal → Refusal → Type 0
IsRefusalOf (Ok asked) why = why ≡ refusal.OutOfMemory
IsRefusalOf (Err first) why = why ≡ first
