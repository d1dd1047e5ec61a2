-- What a run promises, whatever it was asked for: six clauses. `source` and `source'` are what the source shows before and after the run,
-- `sink` and `sink'` what the sink shows, `notes` and `notes'` what the notes show. A clause that speaks of bytes read or written holds
-- where they are told.
use Rattle.std.specs.Prelude.{◌≡◌, ◌≤◌, ◌<◌, ◌⊎◌, ℕ, ◌-◌, List, [], length, take, drop, Option, None, Some, Result, Ok, Err, IfSome, IfErr}
use Rattle.pix_io.specs.Shown.{Shown}
use Rattle.pix_io.specs.Faults.{Rose, HasNoFault}
use Rattle.pix_io.specs.Streams.{Writes, WritesPart, HasEnded}
use Rattle.sws_run.specs.declared.ended.Ended.{Ended}
use Rattle.sws_run.specs.declared.ended.Ended.TheVariants.{Done}
use Rattle.sws_run.specs.declared.request.Request.{Request}
use Rattle.sws_run.specs.declared.request.Request.TheVariants as request
use Rattle.sws_run.specs.Request.{form_of}
use Rattle.sws_run.specs.Ending.{IsDecided, CanEnd, IfDone, IfReadFault, IfWriteFault, IfOutOfMemory, UnlessReadFault, UnlessWriteFault}
use Rattle.sws_run.specs.Cut.{frames_within}
use Rattle.sws_run.specs.NotesLine.{line_of}
use Rattle.sws_run.specs.Report.{report_frames}
use Rattle.sws_run.specs.Output.{input_by, output_by, ending_by, text_of, text_after, text_for, frames_in}

-- the run converts a stream
abbrev pub IsConversion : Result Request Ended → Type 0
IsConversion (Ok (request.Convert conversion)) = Unit {0}
IsConversion (Ok (request.Report report)) = ⊥
IsConversion (Err refusal) = ⊥

-- the bytes by which a run goes: those of the source, and none where it converts nothing
abbrev pub bytes_by : Result Request Ended → Shown → Option (List ℕ)
bytes_by (Ok (request.Convert conversion)) source = source.bytes
bytes_by (Ok (request.Report report)) source = Some []
bytes_by (Err refusal) source = Some []

-- what the words alone say of the ending
abbrev pub AgreesWith : Result Request Ended → Ended → Type 0
AgreesWith (Ok (request.Convert conversion)) ended = CanEnd (form_of conversion.input) ended
AgreesWith (Ok (request.Report report)) ended = ended ≡ Done (report_frames report)
AgreesWith (Err refusal) ended = ended ≡ refusal

-- a fact of all the bytes before, and of how many of them were taken from their front
abbrev pub IfTaken : Option (List ℕ) → Option (List ℕ) → (List ℕ → ℕ → Type 0) → Type 0
IfTaken None left P = Unit {0}
IfTaken (Some bytes) None P = ⊥
IfTaken (Some bytes) (Some rest) P = let n = length bytes - length rest in (rest ≡ drop n bytes) × P bytes n

-- Answer: an ending other than a fault of the outside and want of memory is the one that words and bytes decide, and exactly the output was
-- written. At Done of a conversion the source has no byte left. A run that converts nothing leaves the source alone, and one whose words
-- are refused the sink too, whatever the ending.
pub record GivesAnswer (asked : Result Request Ended) (source source' sink sink' : Shown) (ended : Ended) : Type 0 where
  pub words : IsDecided ended → AgreesWith asked ended
  pub ending : IsDecided ended → IfSome (bytes_by asked source) (λ bytes. ended ≡ ending_by asked bytes)
  pub output : IsDecided ended → IfSome (bytes_by asked source) (λ bytes. Writes sink sink' (text_of (output_by asked bytes)))
  pub read : IfDone ended (IsConversion asked → HasEnded source')
  pub unread : (IsConversion asked → ⊥) → source' ≡ source
  pub refused : IfErr asked (λ refusal. sink' ≡ sink)

-- Read fault: it comes only at a conversion, and only where the source's count rose. The frames are those that lie wholly in the bytes
-- taken, and the output for these bytes was written.
pub record GivesReadFault (asked : Result Request Ended) (source source' sink sink' : Shown) (ended : Ended) : Type 0 where
  pub cause : IfReadFault ended (λ frames. IsConversion asked × Rose source.faults source'.faults)
  pub place : IfReadFault ended (λ frames. IfTaken source.bytes source'.bytes (λ bytes n.
      (frames ≡ frames_within (input_by asked bytes) n) × Writes sink sink' (text_for (input_by asked bytes) (output_by asked bytes) n)))

-- Write fault: it comes only where the sink's count rose. A front of the output was written, shorter than it, and the frames are those that
-- lie wholly in it.
pub record GivesWriteFault (asked : Result Request Ended) (source source' sink sink' : Shown) (ended : Ended) : Type 0 where
  pub cause : IfWriteFault ended (λ frames. Rose sink.faults sink'.faults)
  pub place : IfWriteFault ended (λ frames. IfSome (bytes_by asked source)
      (λ bytes. (n : ℕ) × (n < length (text_of (output_by asked bytes)))
      × Writes sink sink' (take n (text_of (output_by asked bytes))) × (frames ≡ frames_in (output_by asked bytes) n)))

-- Memory: at want of memory nothing was written and no frame is told; or, at a conversion, the output after its frames was written, and the
-- input has as many.
pub record GivesOutOfMemory (asked : Result Request Ended) (source source' sink sink' : Shown) (ended : Ended) : Type 0 where
  pub output : IfOutOfMemory ended (λ frames. ((frames ≡ 0) × Writes sink sink' []) ⊎ (IsConversion asked × IfSome source.bytes (λ bytes.
      (frames ≤ length (input_by asked bytes).frames) × Writes sink sink' (text_after (output_by asked bytes) frames))))

-- Notes: the line of the ending was written and none of their calls failed; or their count rose, and a front of the line was written. What
-- they were made with is as it was.
pub record GivesNotes (notes notes' : Shown) (ended : Ended) : Type 0 where
  pub line : (Writes notes notes' (line_of ended) × HasNoFault notes notes') ⊎
      (WritesPart notes notes' (line_of ended) × Rose notes.faults notes'.faults)
  pub made : notes'.made_with ≡ notes.made_with

-- Completeness: where no count rose, the ending is decided or want of memory; a failed read or write is never passed over; what the
-- source and the sink were made with is as it was.
pub record IsComplete (source source' sink sink' : Shown) (ended : Ended) : Type 0 where
  pub read : UnlessReadFault ended (source'.faults ≡ source.faults)
  pub written : UnlessWriteFault ended (sink'.faults ≡ sink.faults)
  pub read_fault : (Rose source.faults source'.faults → ⊥) → IfReadFault ended (λ frames. ⊥)
  pub write_fault : (Rose sink.faults sink'.faults → ⊥) → IfWriteFault ended (λ frames. ⊥)
  pub source_made : source'.made_with ≡ source.made_with
  pub sink_made : sink'.made_with ≡ sink.made_with
