-- How a run ends.
use Rattle.std.specs.Prelude.{◌≤◌, ◌<◌, ◌≡◌, ◌⊎◌, ℕ}
use Rattle.sws_words.specs.declared.task.Form.{Form}
use Rattle.sws_words.specs.declared.task.Form.TheVariants.{Raw, Y4m}
use Rattle.y4m_io.specs.declared.fault.StreamFault.{StreamFault}
use Rattle.y4m_io.specs.declared.fault.StreamFault.TheVariants.{Truncated}
use Rattle.y4m_io.specs.HeaderLine.{IsHeaderFault}
use Rattle.y4m_io.specs.FrameLine.{IsFrameLineFault}
use Rattle.sws_run.specs.declared.ended.Ended.{Ended}
use Rattle.sws_run.specs.declared.ended.Ended.TheVariants.{Done, Usage, Format, PaletteTarget, Stream, ReadFault, WriteFault, OutOfMemory}
use Rattle.sws_run.specs.declared.ended.Ended.TheVariants.{TooManyFrames}
use Rattle.sws_run.specs.Cut.{most_frames}

-- the exit status
abbrev pub status_of : Ended → ℕ
status_of (Done frames) = 0
status_of (Usage fault) = 2
status_of (Format side fault) = 3
status_of PaletteTarget = 3
status_of (Stream fault frames) = 4
status_of (ReadFault frames) = 5
status_of (WriteFault frames) = 6
status_of (OutOfMemory frames) = 7
status_of TooManyFrames = 9

-- the words and the bytes decide this ending, and not the outside or memory
abbrev pub IsDecided : Ended → Type 0
IsDecided (ReadFault frames) = ⊥
IsDecided (WriteFault frames) = ⊥
IsDecided (OutOfMemory frames) = ⊥
IsDecided _ = Unit {0}

-- the words alone decide this ending: they are refused
abbrev pub IsRefusal : Ended → Type 0
IsRefusal (Usage fault) = Unit {0}
IsRefusal (Format side fault) = Unit {0}
IsRefusal PaletteTarget = Unit {0}
IsRefusal _ = ⊥

-- the faults that the frames of an input of this form can have
abbrev pub IsFrameFault : Form → StreamFault → Type 0
IsFrameFault Raw fault = fault ≡ Truncated
IsFrameFault Y4m fault = IsFrameLineFault fault

-- the faults that the header of an input of this form can have: the words say that of raw frames
abbrev pub IsOpeningFault : Form → StreamFault → Type 0
IsOpeningFault Raw fault = ⊥
IsOpeningFault Y4m fault = IsHeaderFault fault

-- an input of this form can end so: a fault of its header stands before any frame, and one of its frames before the last that there may be
abbrev pub CanEnd : Form → Ended → Type 0
CanEnd form (Done frames) = frames ≤ most_frames
CanEnd form (Stream fault frames) = (IsOpeningFault form fault × (frames ≡ 0)) ⊎ (IsFrameFault form fault × (frames < most_frames))
CanEnd form TooManyFrames = Unit {0}
CanEnd form _ = ⊥

-- a fact about a run that came to its end
abbrev pub IfDone : Ended → Type 0 → Type 0
IfDone (Done frames) P = P
IfDone _ P = Unit {0}

-- a fact about a read fault, of the number of frames written before it
abbrev pub IfReadFault : Ended → (ℕ → Type 0) → Type 0
IfReadFault (ReadFault frames) P = P frames
IfReadFault _ P = Unit {0}

-- a fact about a write fault, of the number of frames written before it
abbrev pub IfWriteFault : Ended → (ℕ → Type 0) → Type 0
IfWriteFault (WriteFault frames) P = P frames
IfWriteFault _ P = Unit {0}

-- a fact about want of memory, of the number of frames written before it
abbrev pub IfOutOfMemory : Ended → (ℕ → Type 0) → Type 0
IfOutOfMemory (OutOfMemory frames) P = P frames
IfOutOfMemory _ P = Unit {0}

-- a fact about every ending but a read fault and want of memory
abbrev pub UnlessReadFault : Ended → Type 0 → Type 0
UnlessReadFault (ReadFault frames) P = Unit {0}
UnlessReadFault (OutOfMemory frames) P = Unit {0}
UnlessReadFault _ P = P

-- a fact about every ending but a write fault and want of memory
abbrev pub UnlessWriteFault : Ended → Type 0 → Type 0
UnlessWriteFault (WriteFault frames) P = Unit {0}
UnlessWriteFault (OutOfMemory frames) P = Unit {0}
UnlessWriteFault _ P = P
