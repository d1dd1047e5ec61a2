-- The run over the frames of an input, at each of its exits.
use Rattle.std.proofs.Common.{◌≡◌, ℕ, ◌+◌, ◌<◌, ◌≤◌, List, [], ◌++◌, length, sym, ap, ◌∙◌, arith, subst, map}
use Rattle.std.proofs.Common.{take, IfSome}
use Rattle.std.proofs.lemmas.List.{drop-map, length-map}
use Rattle.std.proofs.Math.Seq.{take-length}
use Rattle.std.specs.List.{sum_by, concat}
use Rattle.std.specs.declared.option.Option.{Option}
use Rattle.pix_io.specs.Shown.{Shown}
use Rattle.pix_io.specs.Streams.{Writes, WritesPart}
use Rattle.pix_io.proofs.Calls.{Writes-trans, Writes-nil}
use Rattle.pix_meaning.specs.Target.{target_frame}
use Rattle.y4m_io.specs.declared.fault.StreamFault.{StreamFault}
use Rattle.sws_run.specs.declared.converter.Converter.{Converter}
use Rattle.sws_run.specs.Cut.{Frame, Frames, End, Clean, Broken, Faulty, piece_cut, last_end, most_frames}
use Rattle.sws_run.specs.Cut.{whole_within}
use Rattle.sws_run.specs.Output.{ending_at, front_in}
use Rattle.sws_run.specs.Frames.{IfTold, IsBehind, TakesFrame, TakesPiece, text_by, frames_by, texts_by}
use Rattle.sws_run.proofs.Told.{some_map, some_map2, some_always, told_then, told_now, told_same, told_with, told_old}
use Rattle.sws_run.proofs.Parts.{StandsAt, stands_at, concat-next, ends_in}
use Rattle.sws_run.proofs.Places.{IsAt, at_start, at_frame, at_next, at_nothing, at_faulty, at_last, at_part, at_million, behind_then}
use Rattle.sws_run.proofs.Places.{behind_none}

-- k frames are behind
abbrev pub IsBehindFrames : Converter → ℕ → ℕ → List ℕ → List ℕ → Type 0
IsBehindFrames converter size k bytes rest = IsAt converter.source_form size most_frames k bytes rest

-- the texts of k frames are written
abbrev pub WritesTexts : Converter → ℕ → Shown → Shown → ℕ → List ℕ → Type 0
WritesTexts converter size sink sink' k bytes = Writes sink sink' (concat (take k (texts_by converter size bytes)))

-- there are k frames, and then this end
abbrev pub HasFrames : Converter → ℕ → ℕ → End → List ℕ → Type 0
HasFrames converter size k end bytes = (length (frames_by converter size bytes).frames ≡ k) × ((frames_by converter size bytes).end ≡ end)

pub start_place : (converter : Converter) (size : ℕ) (a : Option (List ℕ)) → IfTold a a (IsBehindFrames converter size 0)
start_place converter size a = told_same a (IsBehindFrames converter size 0) (λ x. at_start converter.source_form size most_frames x)

pub start_texts : (converter : Converter) (size : ℕ) (a : Option (List ℕ)) (sink : Shown)
    → IfSome a (WritesTexts converter size sink sink 0)
start_texts converter size a sink = some_always a (WritesTexts converter size sink sink 0) (λ x. Writes-nil sink)

-- ---- the frames' end

pub end_nothing : (converter : Converter) (size k : ℕ) (a b : Option (List ℕ)) → k < most_frames
    → IfTold a b (IsBehindFrames converter size k) → IfSome b (λ rest. rest ≡ [])
    → IfSome a (HasFrames converter size k Clean)
end_nothing converter size k a b more at none =
    told_now a b (IsBehindFrames converter size k) (λ rest. rest ≡ []) (HasFrames converter size k Clean)
    (λ x y p e. at_nothing converter.source_form size most_frames k x y more p e) at none

pub end_faulty : (converter : Converter) (size k : ℕ) (fault : StreamFault) (a b : Option (List ℕ)) → k < most_frames
    → IfTold a b (IsBehindFrames converter size k)
    → IfSome b (λ rest. piece_cut converter.source_form size rest ≡ Faulty fault) → IfSome a (HasFrames converter size k (Broken fault))
end_faulty converter size k fault a b more at is =
    told_now a b (IsBehindFrames converter size k) (λ rest. piece_cut converter.source_form size rest ≡ Faulty fault)
    (HasFrames converter size k (Broken fault))
    (λ x y p e. at_faulty converter.source_form size most_frames k x y fault more p e) at is

pub end_last : (converter : Converter) (size : ℕ) (end : End) (a b : Option (List ℕ))
    → IfTold a b (IsBehindFrames converter size most_frames)
    → IfSome b (λ rest. last_end rest ≡ end) → IfSome a (HasFrames converter size most_frames end)
end_last converter size end a b at is =
    told_now a b (IsBehindFrames converter size most_frames) (λ rest. last_end rest ≡ end) (HasFrames converter size most_frames end)
    (λ x y p e. let here = at_last converter.source_form size most_frames x y p in (here.0, here.1 ∙ e)) at is

ending_of_frames : (cut : Frames) (k : ℕ) (end : End) → length cut.frames ≡ k → cut.end ≡ end
    → ending_at end k ≡ ending_at cut.end (length cut.frames)
ending_of_frames cut k end count is = sym (ap (λ e. ending_at e (length cut.frames)) is ∙ ap (ending_at end) count)

pub ends_as : (converter : Converter) (size k : ℕ) (end : End) (a : Option (List ℕ)) → IfSome a (HasFrames converter size k end)
    → IfSome a (λ bytes. ending_at end k ≡ ending_at (frames_by converter size bytes).end (length (frames_by converter size bytes).frames))
ends_as converter size k end a is =
    some_map a (HasFrames converter size k end) (λ bytes. ending_at end k ≡ ending_at (frames_by converter size bytes).end
    (length (frames_by converter size bytes).frames))
    (λ x p. ending_of_frames (frames_by converter size x) k end p.0 p.1) is

all_texts : (texts : List (List ℕ)) (k : ℕ) → length texts ≡ k → take k texts ≡ texts
all_texts texts k count = ap (λ n. take n texts) (sym count) ∙ take-length texts

pub texts_whole : (converter : Converter) (size k : ℕ) (end : End) (a : Option (List ℕ)) (sink sink' : Shown)
    → IfSome a (HasFrames converter size k end)
    → IfSome a (WritesTexts converter size sink sink' k) → IfSome a (λ bytes. Writes sink sink' (concat (texts_by converter size bytes)))
texts_whole converter size k end a sink sink' is wrote =
    some_map2 a (HasFrames converter size k end) (WritesTexts converter size sink sink' k)
    (λ bytes. Writes sink sink' (concat (texts_by converter size bytes)))
    (λ x p w. subst (λ texts. Writes sink sink' (concat texts))
    (all_texts (texts_by converter size x) k (length-map (frames_by converter size x).frames (λ frame. text_by converter frame.bytes)
    ∙ p.0)) w) is wrote

-- ---- a read fault

-- the frames that lie wholly in what was taken are k
abbrev pub IsWithin : Converter → ℕ → ℕ → List ℕ → List ℕ → Type 0
IsWithin converter size k bytes rest =
    (n : ℕ) × IsBehind n bytes rest × (k ≡ whole_within (λ frame. frame.size) n (frames_by converter size bytes).frames)

within_part : (converter : Converter) (size k : ℕ) (bytes mid rest : List ℕ) → k < most_frames → IsBehindFrames converter size k bytes mid
    → TakesPiece converter.source_form size mid rest → IsWithin converter size k bytes rest
within_part converter size k bytes mid rest more at part =
    let front = sum_by (λ frame. frame.size) (take k (frames_by converter size bytes).frames) in (
      front + part.0,
      behind_then front part.0 bytes mid rest at.behind part.1,
      sym (at_part converter.source_form size most_frames k part.0 bytes mid more at part.2),
    )

within_last : (converter : Converter) (size : ℕ) (bytes mid rest : List ℕ) → IsBehindFrames converter size most_frames bytes mid
    → rest ≡ mid
    → IsWithin converter size most_frames bytes rest
within_last converter size bytes mid rest at same =
    let front = sum_by (λ frame. frame.size) (take most_frames (frames_by converter size bytes).frames) in (
      front + 0,
      subst (IsBehind (front + 0) bytes) (sym same) (behind_then front 0 bytes mid mid at.behind (behind_none mid)),
      sym (at_million converter.source_form size most_frames bytes mid at),
    )

with_texts : (converter : Converter) (size k : ℕ) (a b : Option (List ℕ)) (sink sink' : Shown) → IfTold a b (IsWithin converter size k)
    → IfSome a (WritesTexts converter size sink sink' k)
    → IfTold a b (λ bytes rest. (n : ℕ) × IsBehind n bytes rest ×
    (k ≡ whole_within (λ frame. frame.size) n (frames_by converter size bytes).frames)
    × Writes sink sink' (concat (take k (texts_by converter size bytes))))
with_texts converter size k a b sink sink' within wrote =
    told_with a b (IsWithin converter size k) (WritesTexts converter size sink sink' k) _ (λ x y p w. (p.0, p.1, p.2, w)) within wrote

pub stops_in_part : (converter : Converter) (size k : ℕ) (a b c : Option (List ℕ)) (sink sink' : Shown) → k < most_frames
    → IfTold a b (IsBehindFrames converter size k)
    → IfTold b c (TakesPiece converter.source_form size) → IfSome a (WritesTexts converter size sink sink' k)
    → IfTold a c (λ bytes rest. (n : ℕ) × IsBehind n bytes rest ×
    (k ≡ whole_within (λ frame. frame.size) n (frames_by converter size bytes).frames)
    × Writes sink sink' (concat (take k (texts_by converter size bytes))))
stops_in_part converter size k a b c sink sink' more at part wrote =
    with_texts converter size k a c sink sink'
    (told_then a b c (IsBehindFrames converter size k) (TakesPiece converter.source_form size) (IsWithin converter size k)
    (λ x y z p q. within_part converter size k x y z more p q) at part) wrote

pub stops_at_last : (converter : Converter) (size : ℕ) (a b c : Option (List ℕ)) (sink sink' : Shown)
    → IfTold a b (IsBehindFrames converter size most_frames)
    → IfTold b c (λ bytes rest. rest ≡ bytes) → IfSome a (WritesTexts converter size sink sink' most_frames)
    → IfTold a c (λ bytes rest. (n : ℕ) × IsBehind n bytes rest ×
    (most_frames ≡ whole_within (λ frame. frame.size) n (frames_by converter size bytes).frames)
    × Writes sink sink' (concat (take most_frames (texts_by converter size bytes))))
stops_at_last converter size a b c sink sink' at kept wrote =
    with_texts converter size most_frames a c sink sink'
    (told_then a b c (IsBehindFrames converter size most_frames) (λ bytes rest. rest ≡ bytes) (IsWithin converter size most_frames)
    (λ x y z p q. within_last converter size x y z p q) at kept) wrote

-- ---- want of memory

pub stops_for_memory : (converter : Converter) (size k : ℕ) (a b : Option (List ℕ)) (sink sink' : Shown)
    → IfTold a b (IsBehindFrames converter size k) → IfSome a (WritesTexts converter size sink sink' k)
    → IfSome a (λ bytes. (k ≤ length (frames_by converter size bytes).frames) × Writes sink sink'
    (concat (take k (texts_by converter size bytes))))
stops_for_memory converter size k a b sink sink' at wrote =
    some_map2 a (λ bytes. k ≤ length (frames_by converter size bytes).frames) (WritesTexts converter size sink sink' k)
    (λ bytes. (k ≤ length (frames_by converter size bytes).frames) × Writes sink sink' (concat (take k (texts_by converter size bytes))))
    (λ x p q. (p, q))
    (told_old a b (IsBehindFrames converter size k) (λ bytes. k ≤ length (frames_by converter size bytes).frames) (λ x y p. p.within) at)
    wrote

-- ---- a frame more

pub text_is : (converter : Converter) (frame target : List ℕ) → target
    ≡ target_frame converter.pair converter.width converter.height frame
    → front_in converter.target_form ++ target ≡ text_by converter frame
unfolding text_by
text_is converter frame target is = ap (λ t. front_in converter.target_form ++ t) is

pub next_place : (converter : Converter) (size k : ℕ) (frame : List ℕ) (a b c : Option (List ℕ)) → k < most_frames
    → IfTold a b (IsBehindFrames converter size k)
    → IfTold b c (TakesFrame converter.source_form size frame) → IfTold a c (IsBehindFrames converter size (k + 1))
next_place converter size k frame a b c more at taken =
    told_then a b c (IsBehindFrames converter size k) (TakesFrame converter.source_form size frame) (IsBehindFrames converter size (k + 1))
    (λ x y z p q. at_next converter.source_form size most_frames k x y z (record { bytes = frame; size = q.0 }) more p q.1 q.2) at taken

-- the text of frame k stands in the output
abbrev pub HasText : Converter → ℕ → ℕ → List ℕ → List ℕ → Type 0
HasText converter size k text bytes = (texts : List (List ℕ)) × StandsAt k text texts (texts_by converter size bytes)

text_stands : (converter : Converter) (size k : ℕ) (frame : Frame) (frames all : List Frame) → StandsAt k frame frames all
    → StandsAt k (text_by converter frame.bytes) (map (λ f. text_by converter f.bytes) frames) (map (λ f. text_by converter f.bytes) all)
text_stands converter size k frame frames all at =
    let text = λ (f : Frame). text_by converter f.bytes in
    stands_at k (text frame) (map text frames) (map text all) (omega (arith, length-map all text, at.within))
    (drop-map text k all ∙ ap (map text) at.here)

pub has_text : (converter : Converter) (size k : ℕ) (frame : List ℕ) (a b c : Option (List ℕ)) → k < most_frames
    → IfTold a b (IsBehindFrames converter size k)
    → IfTold b c (TakesFrame converter.source_form size frame) → IfSome a (HasText converter size k (text_by converter frame))
has_text converter size k frame a b c more at taken =
    told_old a c (λ x z. HasText converter size k (text_by converter frame) x) (HasText converter size k (text_by converter frame))
    (λ x z p. p)
    (told_then a b c (IsBehindFrames converter size k) (TakesFrame converter.source_form size frame)
    (λ x z. HasText converter size k (text_by converter frame) x)
    (λ x y z p q. (
      _,
      text_stands converter size k (record { bytes = frame; size = q.0 }) _ (frames_by converter size x).frames
          (at_frame converter.source_form size most_frames k x y (record { bytes = frame; size = q.0 }) more p q.1),
    )) at taken)

pub next_texts : (converter : Converter) (size k : ℕ) (text : List ℕ) (a : Option (List ℕ)) (sink sink' sink'' : Shown)
    → IfSome a (HasText converter size k text)
    → IfSome a (WritesTexts converter size sink sink' k) → Writes sink' sink'' text
    → IfSome a (WritesTexts converter size sink sink'' (k + 1))
next_texts converter size k text a sink sink' sink'' has wrote more =
    some_map2 a (HasText converter size k text) (WritesTexts converter size sink sink' k) (WritesTexts converter size sink sink'' (k + 1))
    (λ x p w. subst (Writes sink sink'') (sym (concat-next k text p.0 (texts_by converter size x) p.1))
    (Writes-trans sink sink' sink'' (concat (take k (texts_by converter size x))) text w more)) has wrote

part_written : (converter : Converter) (size k : ℕ) (text bytes : List ℕ) (sink sink' sink'' : Shown) → HasText converter size k text bytes
    → WritesTexts converter size sink sink' k bytes → WritesPart sink' sink'' text
    → (n : ℕ) × (n < length (concat (texts_by converter size bytes))) × Writes sink sink'' (take n (concat (texts_by converter size bytes)))
    × (k ≡ whole_within length n (texts_by converter size bytes))
part_written converter size k text bytes sink sink' sink'' has wrote part =
    let all = texts_by converter size bytes in
    let ends = ends_in k part.0 text has.0 all has.1 part.1 in (
      length (concat (take k all)) + part.0,
      ends.shorter,
      subst (Writes sink sink'') (sym ends.front) (Writes-trans sink sink' sink'' (concat (take k all)) (take part.0 text) wrote part.2),
      ends.whole,
    )

pub stops_writing : (converter : Converter) (size k : ℕ) (text : List ℕ) (a : Option (List ℕ)) (sink sink' sink'' : Shown)
    → IfSome a (HasText converter size k text)
    → IfSome a (WritesTexts converter size sink sink' k) → WritesPart sink' sink'' text
    → IfSome a (λ bytes. (n : ℕ) × (n < length (concat (texts_by converter size bytes))) × Writes sink sink''
    (take n (concat (texts_by converter size bytes)))
    × (k ≡ whole_within length n (texts_by converter size bytes)))
stops_writing converter size k text a sink sink' sink'' has wrote part =
    some_map2 a (HasText converter size k text) (WritesTexts converter size sink sink' k) _
    (λ x p w. part_written converter size k text x sink sink' sink'' p w part) has wrote
