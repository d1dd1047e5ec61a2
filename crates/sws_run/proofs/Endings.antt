-- Facts about endings.
use Rattle.std.proofs.Common.{ℕ}
use Rattle.sws_run.specs.declared.ended.Ended.{Ended}
use Rattle.sws_run.specs.declared.ended.Ended.TheVariants.{Done, ReadFault, WriteFault, OutOfMemory, Stream, Usage, Format, PaletteTarget}
use Rattle.sws_run.specs.declared.ended.Ended.TheVariants.{TooManyFrames}
use Rattle.sws_run.specs.Ending.{IsRefusal, IfDone, IfReadFault, IfWriteFault, IfOutOfMemory, UnlessReadFault, UnlessWriteFault}

pub done_map : (ended : Ended) (P Q : Type 0) → (P → Q) → IfDone ended P → IfDone ended Q
done_map (Done k) P Q f p = f p
done_map _ P Q f p = tt

pub read_map : (ended : Ended) (P Q : ℕ → Type 0) → ((k : ℕ) → P k → Q k) → IfReadFault ended P → IfReadFault ended Q
read_map (ReadFault k) P Q f p = f k p
read_map _ P Q f p = tt

pub write_map : (ended : Ended) (P Q : ℕ → Type 0) → ((k : ℕ) → P k → Q k) → IfWriteFault ended P → IfWriteFault ended Q
write_map (WriteFault k) P Q f p = f k p
write_map _ P Q f p = tt

pub memory_map : (ended : Ended) (P Q : ℕ → Type 0) → ((k : ℕ) → P k → Q k) → IfOutOfMemory ended P → IfOutOfMemory ended Q
memory_map (OutOfMemory k) P Q f p = f k p
memory_map _ P Q f p = tt

pub unless_read_map : (ended : Ended) (P Q : Type 0) → (P → Q) → UnlessReadFault ended P → UnlessReadFault ended Q
unless_read_map (ReadFault k) P Q f p = tt
unless_read_map (OutOfMemory k) P Q f p = tt
unless_read_map (Done k) P Q f p = f p
unless_read_map (Usage fault) P Q f p = f p
unless_read_map (Format side fault) P Q f p = f p
unless_read_map PaletteTarget P Q f p = f p
unless_read_map (Stream fault k) P Q f p = f p
unless_read_map (WriteFault k) P Q f p = f p
unless_read_map TooManyFrames P Q f p = f p

pub unless_write_map : (ended : Ended) (P Q : Type 0) → (P → Q) → UnlessWriteFault ended P → UnlessWriteFault ended Q
unless_write_map (WriteFault k) P Q f p = tt
unless_write_map (OutOfMemory k) P Q f p = tt
unless_write_map (Done k) P Q f p = f p
unless_write_map (Usage fault) P Q f p = f p
unless_write_map (Format side fault) P Q f p = f p
unless_write_map PaletteTarget P Q f p = f p
unless_write_map (Stream fault k) P Q f p = f p
unless_write_map (ReadFault k) P Q f p = f p
unless_write_map TooManyFrames P Q f p = f p

pub no_done : (ended : Ended) (P : Type 0) → IsRefusal ended → IfDone ended P
no_done (Done k) P h = absurd h
no_done _ P h = tt
