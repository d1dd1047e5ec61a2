-- What is seen of the source and the sink in memory.
use Rattle.std.specs.Prelude.{ℕ, List, ◌∷◌, drop, Some}
use Rattle.pix_io.specs.declared.mem_source.MemSource.{MemSource}
use Rattle.pix_io.specs.declared.mem_sink.MemSink.{MemSink}
use Rattle.pix_io.specs.Shown.{Shown}

-- the bytes that are left to read
abbrev pub bytes_left : MemSource → List ℕ
bytes_left s = drop s.at s.bytes.items

-- the most bytes that a read gives
abbrev pub most_read : MemSource → ℕ
most_read s = s.piece

-- how many reads there were, and how many of them failed
abbrev pub read_count : MemSource → ℕ
read_count s = s.calls

abbrev pub read_faults : MemSource → ℕ
read_faults s = s.faults

-- the numbers of the reads that fail
abbrev pub failing_reads : MemSource → List ℕ
failing_reads s = s.fails.items

-- what it shows
abbrev pub source_shown : MemSource → Shown
source_shown s = record { bytes = Some (bytes_left s); faults = read_faults s; made_with = failing_reads s }

-- the bytes written
abbrev pub bytes_written : MemSink → List ℕ
bytes_written s = s.bytes.items

-- how many bytes it holds, and the most that a write takes
abbrev pub room_of : MemSink → ℕ
room_of s = s.room

abbrev pub most_written : MemSink → ℕ
most_written s = s.piece

-- how many writes there were, and how many of them failed
abbrev pub write_count : MemSink → ℕ
write_count s = s.calls

abbrev pub write_faults : MemSink → ℕ
write_faults s = s.faults

-- the numbers of the writes that fail
abbrev pub failing_writes : MemSink → List ℕ
failing_writes s = s.fails.items

-- what it shows
abbrev pub sink_shown : MemSink → Shown
sink_shown s = record { bytes = Some (bytes_written s); faults = write_faults s; made_with = room_of s ∷ failing_writes s }
