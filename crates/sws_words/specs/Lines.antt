-- Lines of words, and what a reference that was written apart from this program makes of them.
use Prim.Native.String.{String}
use Rattle.std.specs.Prelude.{◌≡◌, ℕ, ◌==◌, List, [], ◌∷◌, map, codes, if◌then◌else◌, Some, None, Result, Ok, Err}
use Rattle.colour_matrix.specs.Matrix.{bt601}
use Rattle.sws_words.specs.Rules.{task_of}
use Rattle.sws_words.specs.declared.fault.UsageFault.{UsageFault}
use Rattle.sws_words.specs.declared.fault.UsageFault.TheVariants as fault
use Rattle.sws_words.specs.declared.task.Form.TheVariants.{Raw, Y4m}
use Rattle.sws_words.specs.declared.task.Named.{Named}
use Rattle.sws_words.specs.declared.task.Task.{Task}
use Rattle.sws_words.specs.declared.task.Task.TheVariants as ask

-- a byte before the first of some words
abbrev pub before : ℕ → List (List ℕ) → List (List ℕ)
before byte [] = (byte ∷ []) ∷ []
before byte (word ∷ words) = (byte ∷ word) ∷ words

-- the words between single spaces (32)
abbrev pub words_in : List ℕ → List (List ℕ)
words_in [] = [] ∷ []
words_in (byte ∷ bytes) = if byte == 32 then [] ∷ words_in bytes else before byte (words_in bytes)

-- what a line asks for
abbrev pub meaning : String → Result Task UsageFault
meaning line = task_of (words_in (codes line))

-- one line for each rule
abbrev pub refused_lines : List String
refused_lines =
    "--colour red"
    ∷ "--task paint"
    ∷ "--in gray --size 1x1"
    ∷ "--task list --out gray"
    ∷ "--in gray --out gray --size 1x1 --dither 5"
    ∷ "--in rgb24 --out bgr24 --size 16385x1"
    ∷ "--in gray --out yuvj444p --size 1x1 --out-range limited"
    ∷ "--in gray --out rgb24 --size 1x1 --out-range limited"
    ∷ "--in gray --out rgb24 --size 1x1 --to y4m"
    ∷ []

-- the faults, in their order
abbrev pub faults : List UsageFault
faults =
    fault.Words ∷ fault.Task ∷ fault.Missing ∷ fault.Unwanted ∷ fault.Value ∷ fault.Size
    ∷ fault.FixedRange ∷ fault.RgbRange ∷ fault.NotStreamFormat ∷ []

abbrev pub RefusesEach : Type 0
RefusesEach = map meaning refused_lines ≡ map (λ fault. Err fault) faults

-- a side of the format at this row, with nothing else given
abbrev pub plain_side : ℕ → Named
plain_side id = record { format = Ok id; matrix = bt601; range = None }

-- rgb24 (14) to bgr24 (15), as raw frames of two by one pixel
abbrev pub plain_task : Task
plain_task = ask.Convert (record {
  source = Some (plain_side 14);
  source_matrix = bt601;
  source_range = None;
  width = 2;
  height = 1;
  source_form = Raw;
  target = plain_side 15;
  target_form = Raw;
  dither = 0;
  workers = 1;
  slice = 16;
})

-- a YUV4MPEG2 stream to one of gray (0)
abbrev pub stream_task : Task
stream_task = ask.Convert (record {
  source = None;
  source_matrix = bt601;
  source_range = None;
  width = 0;
  height = 0;
  source_form = Y4m;
  target = plain_side 0;
  target_form = Y4m;
  dither = 0;
  workers = 1;
  slice = 16;
})

-- the list of operations from rgb24 to gray
abbrev pub ops_task : Task
ops_task = ask.Ops (record { source = plain_side 14; target = plain_side 0; dither = 0 })

-- frames of rgb24 from the seed 7, to gray, by two workers
abbrev pub making_task : Task
making_task = ask.Generate (record {
  sides = record { source = plain_side 14; target = plain_side 0; dither = 0 };
  workers = 2;
  slice = 16;
  seed = 7;
})

abbrev pub accepted_lines : List String
accepted_lines =
    "--in rgb24 --out bgr24 --size 2x1"
    ∷ "--size=02x01 --out=bgr24 --in=rgb24 --"
    ∷ "--from y4m --to y4m --out gray"
    ∷ "--task list"
    ∷ "--task ops --in rgb24 --out gray"
    ∷ "--task generate --in rgb24 --out gray --seed 7 --workers 2"
    ∷ []

abbrev pub AcceptsEach : Type 0
AcceptsEach =
    map meaning accepted_lines
    ≡ Ok plain_task ∷ Ok plain_task ∷ Ok stream_task ∷ Ok ask.List ∷ Ok ops_task ∷ Ok making_task ∷ []
