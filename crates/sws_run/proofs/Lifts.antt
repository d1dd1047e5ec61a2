-- From the frames of an input to the whole: the header of the input, and that of the output, stand before them.
use Rattle.std.proofs.Common.{◌≡◌, ℕ, ◌+◌, ◌-◌, ◌<◌, ◌≤◌, List, [], ◌∷◌, ◌++◌, length, refl, sym, ap, ◌∙◌, arith, subst, map}
use Rattle.std.proofs.Common.{take, drop, IfSome, Result, Ok, Err, OnErr, length-append, length-drop}
use Rattle.std.proofs.Common.{inl, inr, ◌⊎◌}
use Rattle.std.proofs.lemmas.Bool.Decides.{nat_tests}
use Rattle.std.proofs.Math.Seq.{take-append-add}
use Rattle.std.proofs.lemmas.List.{take-append-le}
use Rattle.std.specs.List.{concat}
use Rattle.std.specs.declared.option.Option.{Option}
use Rattle.std.specs.declared.option.Option.TheVariants.{None, Some}
use Rattle.pix_io.specs.Shown.{Shown}
use Rattle.pix_io.specs.Streams.{Writes, WritesPart, HasEnded}
use Rattle.pix_io.specs.Faults.{Rose, HasCause, HasNoFault}
use Rattle.pix_io.proofs.Calls.{Rose-after, Writes-trans, Writes-nil}
use Rattle.y4m_io.specs.declared.fault.StreamFault.{StreamFault}
use Rattle.y4m_io.specs.declared.fault.HeaderEnd.{HeaderEnd}
use Rattle.y4m_io.specs.declared.fault.HeaderEnd.TheVariants as header
use Rattle.y4m_io.specs.declared.header.Header.{Header}
use Rattle.y4m_io.specs.Reading.{header_fault, header_reads}
use Rattle.y4m_io.specs.HeaderLine.{HeaderLine}
use Rattle.sws_run.specs.declared.ended.Ended.{Ended}
use Rattle.sws_run.specs.declared.ended.Ended.TheVariants.{Stream, ReadFault, WriteFault}
use Rattle.sws_run.specs.declared.request.Input.{Input}
use Rattle.sws_run.specs.declared.request.Request.{Request}
use Rattle.sws_run.specs.declared.request.Conversion.{Conversion}
use Rattle.sws_run.specs.declared.request.Request.TheVariants as request
use Rattle.sws_run.specs.declared.converter.Converter.{Converter}
use Rattle.sws_run.specs.Request.{form_of}
use Rattle.sws_run.specs.Cut.{Cut, Frame, Frames, End, Broken, cut, cut_after, cut_behind, header_line_cut}
use Rattle.sws_run.specs.Cut.{source_length, frames_cut, most_frames, frames_within, whole_within}
use Rattle.sws_run.specs.Output.{Output, header_of, header_in, frame_text, output_for, input_by, output_by}
use Rattle.sws_run.specs.Output.{ending_by, ending_at, text_after, text_of, text_for, frames_in}
use Rattle.sws_run.specs.Frames.{IfTold, IsBehind, IsShortOf, TakesHeader, TakesHeaderPart, IsConverterOf, text_by, frames_by, texts_by}
use Rattle.sws_run.specs.Frames.{EndsFrames, StopsForMemory, StopsReading, StopsWriting, ended_by}
use Rattle.sws_run.specs.Ending.{CanEnd, IsOpeningFault}
use Rattle.sws_run.specs.Run.{IfTaken, IsConversion, GivesAnswer, GivesReadFault, GivesWriteFault, GivesOutOfMemory, IsComplete}
use Rattle.sws_run.proofs.Endings.{done_map, read_map, write_map, memory_map, unless_read_map, unless_write_map}
use Rattle.sws_run.proofs.Told.{told_map, told_then, told_now, told_old, some_map}
use Rattle.sws_run.proofs.Places.{behind_then}

-- ---- what an input is cut into, and what is put out for it

-- behind a header so many bytes long the input is cut into its frames
pub record Meets (conversion : Conversion) (header : Header) (converter : Converter) (n : ℕ) (bytes body : List ℕ) : Type 0 where
  pub size : ℕ
  pub behind : IsBehind size bytes body
  pub input : input_by (Ok (request.Convert conversion)) bytes
      ≡ record {
        header = Some (record { header = header; size = size });
        frames = (frames_by converter n body).frames;
        end = (frames_by converter n body).end;
      }
  pub output : output_by (Ok (request.Convert conversion)) bytes
      ≡ record { header = header_in conversion.target_form (header_of conversion header); frames = texts_by converter n body }
  pub ending : ending_by (Ok (request.Convert conversion)) bytes ≡ ending_at (frames_by converter n body).end
      (length (frames_by converter n body).frames)

cut_is : (input : Input) (bytes : List ℕ) (line : Result HeaderLine StreamFault) → header_line_cut input bytes ≡ line
    → cut input bytes ≡ cut_after (form_of input) line bytes
unfolding cut
cut_is input bytes line is = ap (λ l. cut_after (form_of input) l bytes) is

frames_are : (conversion : Conversion) (header : Header) (converter : Converter) (n : ℕ) (body : List ℕ)
    → IsConverterOf conversion header converter → n ≡ source_length header
    → frames_cut (form_of conversion.input) (source_length header) most_frames body ≡ frames_by converter n body
frames_are conversion header converter n body is long =
    ap (λ f. frames_cut f (source_length header) most_frames body) (sym is.source_form)
    ∙ ap (λ m. frames_cut converter.source_form m most_frames body) (sym long)

map_same : {X Y : Type 0} (f g : X → Y) → ((x : X) → f x ≡ g x) → (xs : List X) → map f xs ≡ map g xs
map_same f g same [] = refl
map_same f g same (x ∷ xs) = cc (same x, map_same f g same xs)

text_same : (conversion : Conversion) (header : Header) (converter : Converter) → IsConverterOf conversion header converter
    → (frame : List ℕ)
    → frame_text conversion header frame ≡ text_by converter frame
unfolding text_by
text_same conversion header converter is frame = cc (is.pair, is.width, is.height, is.target_form)

-- the cut of an input with its header
cut_meets : (conversion : Conversion) (header : Header) (converter : Converter) (n size : ℕ) (bytes body : List ℕ)
    → IsConverterOf conversion header converter → n ≡ source_length header
    → header_line_cut conversion.input bytes ≡ Ok (record { header = header; size = size }) → IsBehind size bytes body
    → cut conversion.input bytes ≡ record {
      header = Some (record { header = header; size = size });
      frames = (frames_by converter n body).frames;
      end = (frames_by converter n body).end;
    }
cut_meets conversion header converter n size bytes body is long line behind =
    let line' : HeaderLine = record { header = header; size = size } in
    let made = λ (f : Frames). let c : Cut = record { header = Some line'; frames = f.frames; end = f.end } in c in
    let frames : frames_cut (form_of conversion.input) (source_length header) most_frames (drop size bytes) ≡ frames_by converter n body =
    ap (frames_cut (form_of conversion.input) (source_length header) most_frames) (sym behind.left)
    ∙ frames_are conversion header converter n body is long in
    cut_is conversion.input bytes (Ok line') line ∙ ap made frames

pub meets : (conversion : Conversion) (header : Header) (converter : Converter) (n : ℕ) (bytes body : List ℕ)
    → IsConverterOf conversion header converter → n ≡ source_length header
    → TakesHeader conversion.input header bytes body → Meets conversion header converter n bytes body
unfolding input_by output_by ending_by
meets conversion header converter n bytes body is long taken =
    let whole = cut_meets conversion header converter n taken.0 bytes body is long taken.1 taken.2 in
    let frames = (frames_by converter n body).frames in
    let texts : map (λ frame. frame_text conversion header frame.bytes) frames ≡ texts_by converter n body =
    map_same (λ (frame : Frame). frame_text conversion header frame.bytes) (λ (frame : Frame). text_by converter frame.bytes)
    (λ frame. text_same conversion header converter is frame.bytes) frames in
    record {
      size = taken.0;
      behind = taken.2;
      input = whole;
      output = ap (output_for conversion) whole ∙ ap (λ l. let o : Output = record
          { header = header_in conversion.target_form (header_of conversion header); frames = l } in o) texts;
      ending = ap (λ c. ending_at c.end (length c.frames)) whole;
    }

pub meets_told : (conversion : Conversion) (header : Header) (converter : Converter) (n : ℕ) (a b : Option (List ℕ))
    → IsConverterOf conversion header converter → n ≡ source_length header
    → IfTold a b (TakesHeader conversion.input header) → IfTold a b (Meets conversion header converter n)
meets_told conversion header converter n a b is long taken =
    told_map a b (TakesHeader conversion.input header) (Meets conversion header converter n)
    (λ x y t. meets conversion header converter n x y is long t) taken

-- an input whose header is faulty
pub record Fails (conversion : Conversion) (fault : StreamFault) (bytes : List ℕ) : Type 0 where
  pub input : input_by (Ok (request.Convert conversion)) bytes ≡ record { header = None; frames = []; end = Broken fault }
  pub output : output_by (Ok (request.Convert conversion)) bytes ≡ record { header = []; frames = [] }
  pub ending : ending_by (Ok (request.Convert conversion)) bytes ≡ ending_at (Broken fault) 0

pub fails : (conversion : Conversion) (fault : StreamFault) (bytes : List ℕ) → header_line_cut conversion.input bytes ≡ Err fault
    → Fails conversion fault bytes
unfolding input_by output_by ending_by
fails conversion fault bytes is =
    let whole = cut_is conversion.input bytes (Err fault) is in
    record { input = whole; output = ap (output_for conversion) whole; ending = ap (λ c. ending_at c.end (length c.frames)) whole }

-- ---- how much was taken

-- n bytes were taken from the front
taken_is : (n : ℕ) (bytes rest : List ℕ) → IsBehind n bytes rest → length bytes - length rest ≡ n
taken_is n bytes rest behind = omega (arith, behind.within, ap length behind.left, length-drop n bytes)

pub taken_told : (a b : Option (List ℕ)) (P : List ℕ → ℕ → Type 0) → IfTold a b (λ bytes rest. (n : ℕ) × IsBehind n bytes rest × P bytes n)
    → IfTaken a b P
taken_told None b P p = tt
taken_told (Some bytes) None P p = absurd p
taken_told (Some bytes) (Some rest) P p =
    let n = taken_is p.0 bytes rest p.1 in (
      p.1.left ∙ ap (λ m. drop m bytes) (sym n),
      subst (P bytes) (sym n) p.2,
    )

-- ---- parts of an input and of an output with their headers

-- the frames that lie wholly in a header and n bytes
within_behind : (line : HeaderLine) (frames : List Frame) (end : End) (n : ℕ)
    → frames_within (record { header = Some line; frames = frames; end = end }) (line.size + n) ≡ whole_within
    (λ frame. frame.size) n frames
within_behind line frames end n =
    let rest : (line.size + n) - line.size ≡ n = omega arith in
    let fits : line.size ≤ line.size + n = omega arith in
    rw rest (grind (arith, nat_tests, fits, rest))

pub in_behind : (header : List ℕ) (frames : List (List ℕ)) (n : ℕ)
    → frames_in (record { header = header; frames = frames }) (length header + n) ≡ whole_within length n frames
in_behind header frames n =
    let rest : (length header + n) - length header ≡ n = omega arith in
    let fits : length header ≤ length header + n = omega arith in
    rw rest (grind (arith, nat_tests, fits, rest))

text_behind : (line : HeaderLine) (frames : List Frame) (end : End) (output : Output) (n : ℕ)
    → text_for (record { header = Some line; frames = frames; end = end }) output (line.size + n) ≡ text_after output
    (frames_within (record { header = Some line; frames = frames; end = end }) (line.size + n))
text_behind line frames end output n =
    let fits : line.size ≤ line.size + n = omega arith in
    grind (arith, nat_tests, fits)

-- what a read fault promises of what was taken and written
abbrev pub ReadPlace : Shown → Shown → ℕ → ℕ → Cut → Output → Type 0
ReadPlace sink sink' k n input output = (k ≡ frames_within input n) × Writes sink sink' (text_for input output n)

-- what a write fault promises of what was written
abbrev pub WritePlace : Shown → Shown → ℕ → Output → Type 0
WritePlace sink sink' k output =
    (n : ℕ) × (n < length (text_of output)) × Writes sink sink' (take n (text_of output)) × (k ≡ frames_in output n)

read_place : (line : HeaderLine) (frames : List Frame) (end : End) (header : List ℕ) (texts : List (List ℕ)) (sink sink' sink'' : Shown)
    (k n : ℕ)
    → Writes sink sink' header → k ≡ whole_within (λ frame. frame.size) n frames → Writes sink' sink'' (concat (take k texts))
    → ReadPlace sink sink'' k (line.size + n) (record { header = Some line; frames = frames; end = end })
    (record { header = header; frames = texts })
read_place line frames end header texts sink sink' sink'' k n first is more =
    let output : Output = record { header = header; frames = texts } in
    let count : k ≡ frames_within (record { header = Some line; frames = frames; end = end }) (line.size + n) = is
    ∙ sym (within_behind line frames end n) in
    let text : text_for (record { header = Some line; frames = frames; end = end }) output (line.size + n) ≡ header ++ concat
    (take k texts) =
    text_behind line frames end output n ∙ ap (text_after output) (sym count) in (
      count,
      subst (Writes sink sink'') (sym text) (Writes-trans sink sink' sink'' header (concat (take k texts)) first more),
    )

write_place : (header : List ℕ) (texts : List (List ℕ)) (sink sink' sink'' : Shown) (k n : ℕ)
    → Writes sink sink' header → n < length (concat texts) → Writes sink' sink'' (take n (concat texts)) → k ≡ whole_within length n texts
    → WritePlace sink sink'' k (record { header = header; frames = texts })
write_place header texts sink sink' sink'' k n first below more is = (
  length header + n,
  omega (arith, below, length-append header (concat texts)),
  subst (Writes sink sink'') (sym (take-append-add header (concat texts) n))
      (Writes-trans sink sink' sink'' header (take n (concat texts)) first more),
  is ∙ sym (in_behind header texts n),
)

-- a front of the header was written
header_place : (header : List ℕ) (texts : List (List ℕ)) (sink sink' : Shown) → WritesPart sink sink' header
    → WritePlace sink sink' 0 (record { header = header; frames = texts })
header_place header texts sink sink' part =
    let n = part.0 in
    let below : n < length header = part.1 in (
      n,
      omega (arith, below, length-append header (concat texts)),
      subst (Writes sink sink') (sym (take-append-le n header (concat texts) (omega (arith, below)))) part.2,
      grind (arith, nat_tests, below),
    )

-- ---- the clauses

pub answer_lift : (conversion : Conversion) (header : Header) (converter : Converter) (n : ℕ) (s0 s1 s2 k0 k1 k2 : Shown) (ended : Ended)
    → converter.source_form ≡ form_of conversion.input → IfTold s0.bytes s1.bytes (Meets conversion header converter n)
    → Writes k0 k1 (header_in conversion.target_form (header_of conversion header)) → EndsFrames converter n s1 s2 k1 k2 ended
    → GivesAnswer (Ok (request.Convert conversion)) s0 s2 k0 k2 ended
answer_lift conversion header converter n s0 s1 s2 k0 k1 k2 ended form told wrote ends = record {
  words = λ d. subst (λ f. CanEnd f ended) form (ends.known d);
  ending = λ d. told_now s0.bytes s1.bytes (Meets conversion header converter n)
      (λ y. ended ≡ ending_at (frames_by converter n y).end (length (frames_by converter n y).frames))
      (λ x. ended ≡ ending_by (Ok (request.Convert conversion)) x) (λ x y m e. e ∙ sym m.ending) told (ends.ending d);
  output = λ d. told_now s0.bytes s1.bytes (Meets conversion header converter n) (λ y. Writes k1 k2 (concat (texts_by converter n y)))
      (λ x. Writes k0 k2 (text_of (output_by (Ok (request.Convert conversion)) x)))
      (λ x y m w. subst (λ o. Writes k0 k2 (text_of o)) (sym m.output)
      (Writes-trans k0 k1 k2 (header_in conversion.target_form (header_of conversion header)) (concat (texts_by converter n y)) wrote w))
      told (ends.output d);
  read = done_map ended (HasEnded s2) (IsConversion (Ok (request.Convert conversion)) → HasEnded s2) (λ e. λ _. e) ends.read;
  unread = λ no. absurd (no tt);
  refused = tt;
}

pub read_lift : (conversion : Conversion) (header : Header) (converter : Converter) (n : ℕ) (s0 s1 s2 k0 k1 k2 : Shown) (ended : Ended)
    → HasNoFault s0 s1 → IfTold s0.bytes s1.bytes (Meets conversion header converter n)
    → Writes k0 k1 (header_in conversion.target_form (header_of conversion header)) → StopsReading converter n s1 s2 k1 k2 ended
    → GivesReadFault (Ok (request.Convert conversion)) s0 s2 k0 k2 ended
read_lift conversion header converter n s0 s1 s2 k0 k1 k2 ended quiet told wrote stops =
    let asked : Result Request Ended = Ok (request.Convert conversion) in
    let text = header_in conversion.target_form (header_of conversion header) in
    let P = λ (k : ℕ) (x : List ℕ) (m : ℕ). ReadPlace k0 k2 k m (input_by asked x) (output_by asked x) in
    let inner = λ (k : ℕ) (y z : List ℕ). let t : Type 0 = (m : ℕ) × IsBehind m y z ×
    (k ≡ whole_within (λ frame. frame.size) m (frames_by converter n y).frames)
    × Writes k1 k2 (concat (take k (texts_by converter n y))) in t in
    record {
      cause = read_map ended (λ k. Rose s1.faults s2.faults) (λ k. IsConversion asked × Rose s0.faults s2.faults)
          (λ k r. (tt, Rose-after s0.faults s1.faults s2.faults quiet.faults r)) stops.cause;
      place = read_map ended (λ k. IfTold s1.bytes s2.bytes (inner k)) (λ k. IfTaken s0.bytes s2.bytes (P k))
          (λ k p. taken_told s0.bytes s2.bytes (P k)
          (told_then s0.bytes s1.bytes s2.bytes (Meets conversion header converter n) (inner k) (λ x z. (m : ℕ) × IsBehind m x z × P k x m)
          (λ x y z m q. (
            m.size + q.0,
            behind_then m.size q.0 x y z m.behind q.1,
            subst (λ c. ReadPlace k0 k2 k (m.size + q.0) c (output_by asked x)) (sym m.input)
                (subst (ReadPlace k0 k2 k (m.size + q.0) (record {
                  header = Some (record { header = header; size = m.size });
                  frames = (frames_by converter n y).frames;
                  end = (frames_by converter n y).end;
                })) (sym m.output)
                (read_place (record { header = header; size = m.size }) (frames_by converter n y).frames (frames_by converter n y).end text
                (texts_by converter n y) k0 k1 k2 k q.0 wrote q.2 q.3)),
          )) told p)) stops.place;
    }

pub write_lift : (conversion : Conversion) (header : Header) (converter : Converter) (n : ℕ) (s0 s1 s2 k0 k1 k2 : Shown) (ended : Ended)
    → HasNoFault k0 k1 → IfTold s0.bytes s1.bytes (Meets conversion header converter n)
    → Writes k0 k1 (header_in conversion.target_form (header_of conversion header)) → StopsWriting converter n s1 s2 k1 k2 ended
    → GivesWriteFault (Ok (request.Convert conversion)) s0 s2 k0 k2 ended
write_lift conversion header converter n s0 s1 s2 k0 k1 k2 ended quiet told wrote stops =
    let asked : Result Request Ended = Ok (request.Convert conversion) in
    let text = header_in conversion.target_form (header_of conversion header) in
    let inner = λ (k : ℕ) (y : List ℕ). let t : Type 0 = (m : ℕ) × (m < length (concat (texts_by converter n y))) × Writes k1 k2
    (take m (concat (texts_by converter n y)))
    × (k ≡ whole_within length m (texts_by converter n y)) in t in
    record {
      cause = write_map ended (λ k. Rose k1.faults k2.faults) (λ k. Rose k0.faults k2.faults)
          (λ k r. Rose-after k0.faults k1.faults k2.faults quiet.faults r) stops.cause;
      place = write_map ended (λ k. IfSome s1.bytes (inner k)) (λ k. IfSome s0.bytes (λ x. WritePlace k0 k2 k (output_by asked x)))
          (λ k p. told_now s0.bytes s1.bytes (Meets conversion header converter n) (inner k) (λ x. WritePlace k0 k2 k (output_by asked x))
          (λ x y m q. subst (WritePlace k0 k2 k) (sym m.output) (write_place text
          (texts_by converter n y) k0 k1 k2 k q.0 wrote q.1 q.2 q.3)) told p) stops.place;
    }

pub complete_lift : (s0 s1 s2 k0 k1 k2 : Shown) (ended : Ended) → HasNoFault s0 s1 → HasNoFault k0 k1 → IsComplete s1 s2 k1 k2 ended
    → IsComplete s0 s2 k0 k2 ended
complete_lift s0 s1 s2 k0 k1 k2 ended reads writes whole = record {
  read = unless_read_map ended (s2.faults ≡ s1.faults) (s2.faults ≡ s0.faults) (λ e. e ∙ reads.faults) whole.read;
  written = unless_write_map ended (k2.faults ≡ k1.faults) (k2.faults ≡ k0.faults) (λ e. e ∙ writes.faults) whole.written;
  read_fault = λ no. whole.read_fault (λ rose. no (Rose-after s0.faults s1.faults s2.faults reads.faults rose));
  write_fault = λ no. whole.write_fault (λ rose. no (Rose-after k0.faults k1.faults k2.faults writes.faults rose));
  source_made = whole.source_made ∙ reads.made;
  sink_made = whole.sink_made ∙ writes.made;
}

pub memory_lift : (conversion : Conversion) (header : Header) (converter : Converter) (n : ℕ) (s0 s1 s2 k0 k1 k2 : Shown) (ended : Ended)
    → IfTold s0.bytes s1.bytes (Meets conversion header converter n)
    → Writes k0 k1 (header_in conversion.target_form (header_of conversion header)) → StopsForMemory converter n s1 k1 k2 ended
    → GivesOutOfMemory (Ok (request.Convert conversion)) s0 s2 k0 k2 ended
memory_lift conversion header converter n s0 s1 s2 k0 k1 k2 ended told wrote stops =
    let asked : Result Request Ended = Ok (request.Convert conversion) in
    let text = header_in conversion.target_form (header_of conversion header) in
    let inner = λ (k : ℕ) (y : List ℕ). let t : Type 0 = (k ≤ length (frames_by converter n y).frames)
    × Writes k1 k2 (concat (take k (texts_by converter n y))) in t in
    let outer = λ (k : ℕ) (x : List ℕ). let t : Type 0 = (k ≤ length (input_by asked x).frames)
    × Writes k0 k2 (text_after (output_by asked x) k) in t in
    record {
      output = memory_map ended (λ k. IfSome s1.bytes (inner k))
          (λ k. ((k ≡ 0) × Writes k0 k2 []) ⊎ (IsConversion asked × IfSome s0.bytes (outer k)))
          (λ k p. inr (
            tt,
            told_now s0.bytes s1.bytes (Meets conversion header converter n) (inner k) (outer k)
                (λ x y m q. (
                  subst (λ c. k ≤ length c.frames) (sym m.input) q.0,
                  subst (λ o. Writes k0 k2 (text_after o k)) (sym m.output)
                      (Writes-trans k0 k1 k2 text (concat (take k (texts_by converter n y))) wrote q.1),
                )) told p,
          )) stops;
    }

-- ---- a run that does not come to its frames

pub header_answer : (conversion : Conversion) (fault : StreamFault) (s0 s1 k : Shown) → IsOpeningFault (form_of conversion.input) fault
    → IfSome s0.bytes (λ bytes. header_line_cut conversion.input bytes ≡ Err fault)
    → GivesAnswer (Ok (request.Convert conversion)) s0 s1 k k (Stream fault 0)
header_answer conversion fault s0 s1 k known is = record {
  words = λ _. inl (known, refl);
  ending = λ _. some_map s0.bytes (λ bytes. header_line_cut conversion.input bytes ≡ Err fault)
      (λ x. Stream fault 0 ≡ ending_by (Ok (request.Convert conversion)) x)
      (λ x e. sym (fails conversion fault x e).ending) is;
  output = λ _. some_map s0.bytes (λ bytes. header_line_cut conversion.input bytes ≡ Err fault)
      (λ x. Writes k k (text_of (output_by (Ok (request.Convert conversion)) x)))
      (λ x e. subst (λ o. Writes k k (text_of o)) (sym (fails conversion fault x e).output) (Writes-nil k)) is;
  read = tt;
  unread = λ no. absurd (no tt);
  refused = tt;
}

-- an input whose header is faulty has no frame, and nothing is put out for it
empty_place : (fault : StreamFault) (k : Shown) (n : ℕ) → ReadPlace k k 0 n (record { header = None; frames = []; end = Broken fault })
    (record { header = []; frames = [] })
empty_place fault k n =
    let fits : 0 ≤ n = omega arith in
    let none : text_for (record { header = None; frames = []; end = Broken fault }) (record { header = []; frames = [] }) n ≡ [] = grind
    (arith, nat_tests, fits) in (
      (let e : 0 ≡ frames_within (record { header = None; frames = []; end = Broken fault }) n = grind (arith, nat_tests, fits) in e),
      subst (Writes k k) (sym none) (Writes-nil k),
    )

part_at : (conversion : Conversion) (k : Shown) (bytes : List ℕ) (n : ℕ) (line : Result HeaderLine StreamFault)
    → header_line_cut conversion.input bytes ≡ line → IsShortOf n line
    → ReadPlace k k 0 n (input_by (Ok (request.Convert conversion)) bytes) (output_by (Ok (request.Convert conversion)) bytes)
unfolding input_by
part_at conversion k bytes n (Ok line) is short =
    let output = output_by (Ok (request.Convert conversion)) bytes in
    subst (λ c. ReadPlace k k 0 n c output) (sym (cut_is conversion.input bytes (Ok line) is)) (
      (let below : n < line.size = short in grind (arith, nat_tests, below)),
      (let below : n < line.size = short in
          let none : text_for (cut_behind (form_of conversion.input) line bytes) (output_by (Ok (request.Convert conversion)) bytes) n
          ≡ [] = grind (arith, nat_tests, below) in
          subst (Writes k k) (sym none) (Writes-nil k)),
    )
part_at conversion k bytes n (Err fault) is short =
    let failed = fails conversion fault bytes is in
    subst (λ c. ReadPlace k k 0 n c (output_by (Ok (request.Convert conversion)) bytes)) (sym failed.input)
    (subst (ReadPlace k k 0 n (record { header = None; frames = []; end = Broken fault })) (sym failed.output) (empty_place fault k n))

pub header_read_fault : (conversion : Conversion) (s0 s1 k : Shown) → Rose s0.faults s1.faults
    → IfTold s0.bytes s1.bytes (TakesHeaderPart conversion.input)
    → GivesReadFault (Ok (request.Convert conversion)) s0 s1 k k (ReadFault 0)
header_read_fault conversion s0 s1 k rose part =
    let asked : Result Request Ended = Ok (request.Convert conversion) in
    let P = λ (x : List ℕ) (m : ℕ). ReadPlace k k 0 m (input_by asked x) (output_by asked x) in
    record {
      cause = (tt, rose);
      place = taken_told s0.bytes s1.bytes P
          (told_map s0.bytes s1.bytes (TakesHeaderPart conversion.input) (λ x z. (m : ℕ) × IsBehind m x z × P x m)
          (λ x z p. (p.0, p.1, part_at conversion k x p.0 (header_line_cut conversion.input x) refl p.2)) part);
    }

pub header_write_fault : (conversion : Conversion) (header : Header) (converter : Converter) (n : ℕ) (s0 s1 k0 k1 : Shown)
    → Rose k0.faults k1.faults
    → IfTold s0.bytes s1.bytes (Meets conversion header converter n)
    → WritesPart k0 k1 (header_in conversion.target_form (header_of conversion header))
    → GivesWriteFault (Ok (request.Convert conversion)) s0 s1 k0 k1 (WriteFault 0)
header_write_fault conversion header converter n s0 s1 k0 k1 rose told part = record {
  cause = rose;
  place = told_old s0.bytes s1.bytes (Meets conversion header converter n)
      (λ x. WritePlace k0 k1 0 (output_by (Ok (request.Convert conversion)) x))
      (λ x y m. subst (WritePlace k0 k1 0) (sym m.output) (header_place (header_in conversion.target_form (header_of conversion header))
      (texts_by converter n y) k0 k1 part)) told;
}

-- ---- an input that gave no header

pub exit_answer : (conversion : Conversion) (end : HeaderEnd) (s0 s1 k : Shown)
    → IfSome (header_fault end) (IsOpeningFault (form_of conversion.input))
    → IfSome (header_fault end) (λ fault. IfSome s0.bytes (λ bytes. header_line_cut conversion.input bytes ≡ Err fault))
    → GivesAnswer (Ok (request.Convert conversion)) s0 s1 k k (ended_by end)
exit_answer conversion (header.Stream fault) s0 s1 k known is = header_answer conversion fault s0 s1 k known is
exit_answer conversion header.ReadFault s0 s1 k known is =
    record {
      words = λ no. absurd no;
      ending = λ no. absurd no;
      output = λ no. absurd no;
      read = tt;
      unread = λ no. absurd (no tt);
      refused = tt;
    }
exit_answer conversion header.OutOfMemory s0 s1 k known is =
    record {
      words = λ no. absurd no;
      ending = λ no. absurd no;
      output = λ no. absurd no;
      read = tt;
      unread = λ no. absurd (no tt);
      refused = tt;
    }

pub exit_read_fault : (conversion : Conversion) (end : HeaderEnd) (s0 s1 k : Shown) → HasCause s0 s1 (header_reads {T = Header} (Err end))
    → OnErr (header_reads {T = Header} (Err end)) (IfTold s0.bytes s1.bytes (TakesHeaderPart conversion.input))
    → GivesReadFault (Ok (request.Convert conversion)) s0 s1 k k (ended_by end)
exit_read_fault conversion (header.Stream fault) s0 s1 k cause part = record { cause = tt; place = tt }
exit_read_fault conversion header.ReadFault s0 s1 k cause part = header_read_fault conversion s0 s1 k cause.failed part
exit_read_fault conversion header.OutOfMemory s0 s1 k cause part = record { cause = tt; place = tt }

pub exit_write_fault : (conversion : Conversion) (end : HeaderEnd) (s0 s1 k : Shown)
    → GivesWriteFault (Ok (request.Convert conversion)) s0 s1 k k (ended_by end)
exit_write_fault conversion (header.Stream fault) s0 s1 k = record { cause = tt; place = tt }
exit_write_fault conversion header.ReadFault s0 s1 k = record { cause = tt; place = tt }
exit_write_fault conversion header.OutOfMemory s0 s1 k = record { cause = tt; place = tt }

pub exit_memory : (conversion : Conversion) (end : HeaderEnd) (s0 s1 k : Shown)
    → GivesOutOfMemory (Ok (request.Convert conversion)) s0 s1 k k (ended_by end)
exit_memory conversion (header.Stream fault) s0 s1 k = record { output = tt }
exit_memory conversion header.ReadFault s0 s1 k = record { output = tt }
exit_memory conversion header.OutOfMemory s0 s1 k = record { output = inl (refl, Writes-nil k) }

pub exit_complete : (end : HeaderEnd) (s0 s1 k : Shown) → HasCause s0 s1 (header_reads {T = Header} (Err end))
    → IsComplete s0 s1 k k (ended_by end)
exit_complete (header.Stream fault) s0 s1 k cause =
    record { read = cause.kept; written = refl; read_fault = λ _. tt; write_fault = λ _. tt; source_made = cause.made; sink_made = refl }
exit_complete header.ReadFault s0 s1 k cause =
    record {
      read = tt;
      written = refl;
      read_fault = λ no. no cause.failed;
      write_fault = λ _. tt;
      source_made = cause.made;
      sink_made = refl;
    }
exit_complete header.OutOfMemory s0 s1 k cause =
    record { read = tt; written = tt; read_fault = λ _. tt; write_fault = λ _. tt; source_made = cause.made; sink_made = refl }
