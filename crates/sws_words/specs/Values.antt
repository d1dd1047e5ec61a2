-- The values of options.
use Rattle.std.specs.Prelude.{ℕ, ◌+◌, ◌-◌, ◌*◌, Bool, true, ◌&&◌, ◌==◌, nat_lt, nat_le, List, [], ◌∷◌, length, codes, if◌then◌else◌}
use Rattle.std.specs.Prelude.{Option, Some, None, is_some, option_and_then}
use Rattle.std.specs.List.{before_first, after_first}
use Rattle.std.specs.Char.{is_ascii_digit}
use Rattle.std.specs.Str.{bytes_eq}
use Rattle.colour_matrix.specs.declared.class.Range.{Range}
use Rattle.colour_matrix.specs.declared.class.Range.TheVariants.{Full, Limited}
use Rattle.colour_matrix.specs.Matrix.{matrix_named}
use Rattle.sws_words.specs.declared.task.Form.{Form}
use Rattle.sws_words.specs.declared.task.Form.TheVariants.{Raw, Y4m}
use Rattle.sws_words.specs.declared.options.TaskName.{TaskName}
use Rattle.sws_words.specs.declared.options.TaskName.TheVariants as task
use Rattle.sws_words.specs.declared.options.Values.{Values}
use Rattle.sws_words.specs.declared.options.Values.TheVariants.{Tasks, Forms, Sizes, Formats, Matrices, Ranges, Numbers}

-- the tasks by name
abbrev pub task_named : List ℕ → Option TaskName
task_named text =
    if bytes_eq text (codes "convert") then Some task.Convert else (
    if bytes_eq text (codes "list") then Some task.List else (
    if bytes_eq text (codes "ops") then Some task.Ops else (
    if bytes_eq text (codes "generate") then Some task.Generate else None)))

-- the forms of streams by name
abbrev pub form_named : List ℕ → Option Form
form_named text =
    if bytes_eq text (codes "raw") then Some Raw else (
    if bytes_eq text (codes "y4m") then Some Y4m else None)

-- the ranges by name
abbrev pub range_named : List ℕ → Option Range
range_named text =
    if bytes_eq text (codes "full") then Some Full else (
    if bytes_eq text (codes "limited") then Some Limited else None)

-- the number that digits stand for, after the digits of n
abbrev pub digits_after : ℕ → List ℕ → Option ℕ
digits_after n [] = Some n
digits_after n (d ∷ ds) = if is_ascii_digit d then digits_after (10 * n + (d - 48)) ds else None

-- the number of one to twenty decimal digits
abbrev pub number_of : List ℕ → Option ℕ
number_of text = if nat_lt 0 (length text) && nat_le (length text) 20 then digits_after 0 text else None

-- the number, where it is of the range
abbrev pub number_within : ℕ → ℕ → List ℕ → Option ℕ
number_within least most text = option_and_then (λ n. if nat_le least n && nat_le n most then Some n else None) (number_of text)

-- both, or neither
abbrev pub both : Option ℕ → Option ℕ → Option (ℕ × ℕ)
both (Some a) (Some b) = Some (a, b)
both (Some a) None = None
both None b = None

-- the width and the height of a text WxH
abbrev pub size_of : List ℕ → Option (ℕ × ℕ)
size_of text = both (number_of (before_first (λ b. b == 120) text)) (number_of (after_first (λ b. b == 120) text))

-- a frame has 1 to 16384 pixels each way, and at most 33554432
abbrev pub is_frame_size : ℕ → ℕ → Bool
is_frame_size width height =
    nat_le 1 width && nat_le width 16384 && nat_le 1 height && nat_le height 16384 && nat_le (width * height) 33554432

-- whether a text is one of the values
unfoldable pub is_value : Values → List ℕ → Bool
is_value Tasks text = is_some (task_named text)
is_value Forms text = is_some (form_named text)
is_value Sizes text = is_some (size_of text)
is_value Formats text = true
is_value Matrices text = is_some (matrix_named text)
is_value Ranges text = is_some (range_named text)
is_value (Numbers least most) text = is_some (number_within least most text)
