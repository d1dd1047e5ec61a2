-- A frame behind its line, as it is read.
use Rattle.std.proofs.Common.{◌≡◌, true, false, Bool, ℕ, ◌+◌, ◌<◌, ◌≤◌, List, [], ◌∷◌, ◌++◌, length, refl, sym, ap, ◌∙◌}
use Rattle.std.proofs.Common.{arith, subst, take, drop, length-append, length-drop, length-take-le, take_at, drop_at, Result, Ok, Err, IfOk}
use Rattle.std.proofs.Common.{OnErr, if◌then◌else◌, IfSome, nat_le}
use Rattle.std.proofs.lemmas.Bool.Decides.{nat_tests}
use Rattle.std.specs.declared.option.Option.{Option}
use Rattle.std.specs.declared.option.Option.TheVariants.{None, Some}
use Rattle.std.specs.List.{list_any}
use Rattle.sws_words.specs.declared.task.Form.{Form}
use Rattle.sws_words.specs.declared.task.Form.TheVariants.{Raw, Y4m}
use Rattle.y4m_io.specs.declared.fault.StreamFault.{StreamFault}
use Rattle.y4m_io.specs.declared.fault.StreamFault.TheVariants.{Truncated}
use Rattle.y4m_io.specs.Lines.{is_newline}
use Rattle.y4m_io.specs.FrameLine.{frame_line_cut, IsFrameLineFault}
use Rattle.y4m_io.specs.declared.fault.HeaderEnd.{HeaderEnd}
use Rattle.y4m_io.specs.declared.fault.HeaderEnd.TheVariants as header
use Rattle.y4m_io.specs.declared.header.Header.{Header}
use Rattle.y4m_io.specs.HeaderLine.{HeaderLine, header_cut}
use Rattle.sws_run.specs.declared.request.Input.TheVariants as input
use Rattle.std.specs.Io.KnownBytes.{Consumes}
use Rattle.frame_slices.specs.declared.frame_slice.Place.{Place}
use Rattle.frame_slices.specs.declared.unfinished.Unfinished.{Unfinished}
use Rattle.frame_slices.specs.declared.unfinished.Unfinished.TheVariants as left
use Rattle.frame_slices.specs.Converting.{ConvertsNext, LeavesOff}
use Rattle.frame_slices.specs.FrameSlices.{Reads}
use Rattle.pix_desc.specs.Frame.{frame_length}
use Rattle.pix_io.specs.Shown.{Shown}
use Rattle.pix_io.specs.declared.stream.Failed.{Failed}
use Rattle.pix_io.specs.declared.transfer.Got.TheVariants as got
use Rattle.pix_meaning.specs.declared.pair.Pair.{Pair}
use Rattle.y4m_io.specs.Reading.{header_reads, IsNoFrameLine, TakesOpen, TakesFrameLine}
use Rattle.y4m_io.specs.Reading as reading
use Rattle.y4m_io.proofs.LineShapes.{frame_line_cut-size, frame_line_cut-unfinished, header_cut-size, header_cut-unfinished}
use Rattle.sws_run.specs.Cut.{Whole, Faulty, front_cut, piece_behind, piece_cut}
use Rattle.sws_run.specs.Frames.{IfTold, IsBehind, IsShort, IsShortOf, TakesFrame, TakesPiece, TakesHeader, TakesHeaderPart}
use Rattle.sws_run.specs.declared.converter.Converter.{Converter}
use Rattle.sws_run.specs.declared.frame.FrameEnd.TheVariants as end
use Rattle.sws_run.specs.Frames.{ConvertsFrame, IsFrameFor, LeavesFrame, size_by}
use Rattle.sws_run.proofs.Places.{behind_then}
use Rattle.sws_run.proofs.Told.{some_map, told_map, told_now, told_takes, told_then, takes_all}

-- ---- pieces

piece_front : (form : Form) (size : ℕ) (bytes : List ℕ) (front : Result (Option ℕ) StreamFault) → front_cut form bytes ≡ front
    → piece_cut form size bytes ≡ piece_behind size bytes front
unfolding piece_cut
piece_front form size bytes front is = ap (piece_behind size bytes) is

piece_enough : (front size : ℕ) (bytes : List ℕ) → front + size ≤ length bytes
    → piece_behind size bytes (Ok (Some front)) ≡ Whole (record { bytes = take size (drop front bytes); size = front + size })
piece_enough front size bytes fits = grind (arith, nat_tests, fits)

piece_few : (front size : ℕ) (bytes : List ℕ) → length bytes < front + size → piece_behind size bytes (Ok (Some front)) ≡ Faulty Truncated
piece_few front size bytes short = grind (arith, nat_tests, short)

-- a whole frame behind its line
pub whole_behind : (form : Form) (front : ℕ) (bytes mid rest frame : List ℕ) → front_cut form bytes ≡ Ok (Some front)
    → IsBehind front bytes mid → mid ≡ frame ++ rest
    → TakesFrame form (length frame) frame bytes rest
whole_behind form front bytes mid rest frame is behind same =
    let size : length mid ≡ length frame + length rest = ap length same ∙ length-append frame rest in
    let fits : front + length frame ≤ length bytes = omega (arith, behind.within, ap length behind.left, length-drop front bytes, size) in
    let taken : take (length frame) (drop front bytes) ≡ frame = ap (take (length frame)) (sym behind.left ∙ same)
    ∙ take_at frame rest (length frame) refl in
    let left : rest ≡ drop (length frame) mid = sym (ap (drop (length frame)) same ∙ drop_at frame rest (length frame) refl) in
    let here : IsBehind (length frame) mid rest = record { within = omega (arith, size); left = left } in (
      front + length frame,
      piece_front form (length frame) bytes (Ok (Some front)) is ∙ piece_enough front (length frame) bytes fits
          ∙ ap (λ (b : List ℕ). Whole (record { bytes = b; size = front + length frame })) taken,
      behind_then front (length frame) bytes mid rest behind here,
    )

-- its size is the one that was asked for
pub of_size : (form : Form) (size : ℕ) (frame bytes rest : List ℕ) → length frame ≡ size → TakesFrame form (length frame) frame bytes rest
    → TakesFrame form size frame bytes rest
of_size form size frame bytes rest long = subst (λ n. TakesFrame form n frame bytes rest) long

-- the input ends in a frame behind its line
pub short_behind : (form : Form) (front size : ℕ) (bytes mid : List ℕ) → front_cut form bytes ≡ Ok (Some front) → IsBehind front bytes mid
    → length mid < size
    → piece_cut form size bytes ≡ Faulty Truncated
short_behind form front size bytes mid is behind short =
    piece_front form size bytes (Ok (Some front)) is
    ∙ piece_few front size bytes (omega (arith, behind.within, ap length behind.left, length-drop front bytes, short))

short_if : (n front size : ℕ) (bytes : List ℕ) → n < front + size → (b : Bool)
    → IsShort n (if b then Whole (record { bytes = take size (drop front bytes); size = front + size }) else Faulty Truncated)
short_if n front size bytes short true = short
short_if n front size bytes short false = tt

short_piece : (form : Form) (n front size : ℕ) (bytes : List ℕ) → front_cut form bytes ≡ Ok (Some front) → n < front + size
    → IsShort n (piece_cut form size bytes)
short_piece form n front size bytes is short =
    subst (IsShort n) (sym (piece_front form size bytes (Ok (Some front)) is))
    (short_if n front size bytes short (nat_le (front + size) (length bytes)))

-- a part of a frame behind its line
pub part_behind : (form : Form) (front n : ℕ) (bytes mid rest part : List ℕ) (size : ℕ) → front_cut form bytes ≡ Ok (Some front)
    → IsBehind front bytes mid → mid ≡ part ++ rest
    → length part ≡ n → n < size → TakesPiece form size bytes rest
part_behind form front n bytes mid rest part size is behind same long short =
    let total : length mid ≡ length part + length rest = ap length same ∙ length-append part rest in
    let left : rest ≡ drop n mid = sym (ap (drop n) same ∙ drop_at part rest n long) in
    let here : IsBehind n mid rest = record { within = omega (arith, total, long); left = left } in (
      front + n,
      behind_then front n bytes mid rest behind here,
      short_piece form (front + n) front size bytes is (omega (arith, short)),
    )

-- ---- raw frames

pub raw_front : (bytes : List ℕ) → 0 < length bytes → front_cut Raw bytes ≡ Ok (Some 0)
raw_front [] some = absurd (omega arith)
raw_front (byte ∷ bytes) some = refl

all_left : (bytes : List ℕ) → IsBehind 0 bytes bytes
all_left bytes = record { within = omega arith; left = refl }

pub raw_whole : (frame bytes rest : List ℕ) → 0 < length frame → bytes ≡ frame ++ rest
    → TakesFrame Raw (length frame) frame bytes rest
raw_whole frame bytes rest some same =
    let more : 0 < length bytes = omega (arith, ap length same, length-append frame rest) in
    whole_behind Raw 0 bytes bytes rest frame (raw_front bytes more) (all_left bytes) same

pub raw_short : (bytes : List ℕ) (size : ℕ) → 0 < length bytes → length bytes < size → piece_cut Raw size bytes ≡ Faulty Truncated
raw_short bytes size some short = short_behind Raw 0 size bytes bytes (raw_front bytes some) (all_left bytes) short

raw_part_at : (part bytes rest : List ℕ) (n size : ℕ) → bytes ≡ part ++ rest → length part ≡ n → n < size → TakesPiece Raw size bytes rest
unfolding piece_cut
raw_part_at part [] rest n size same long short =
    let none : n ≡ 0 = omega (arith, ap length same, length-append part rest, long) in
    let empty : rest ≡ [] = sym (drop_at part rest (length part) refl) ∙ ap (drop (length part)) (sym same)
    ∙ (let e : length part ≡ 0 = omega (arith, long, none) in rw e refl) in
    (0, record { within = omega arith; left = empty }, tt)
raw_part_at part (byte ∷ bytes) rest n size same long short = part_behind Raw 0 n (byte ∷ bytes) (byte ∷ bytes) rest part size refl
    (all_left (byte ∷ bytes)) same long short

pub raw_part : (part bytes rest : List ℕ) (n size : ℕ) → bytes ≡ part ++ rest → length part ≡ n → n < size → TakesPiece Raw size bytes rest
raw_part part bytes rest n size same long short = raw_part_at part bytes rest n size same long short

-- ---- frames of a stream

-- a frame line was taken
pub line_front : (bytes mid : List ℕ) (size : ℕ) → frame_line_cut bytes ≡ Ok (Some size) → bytes ≡ take size bytes ++ mid
    → IsBehind size bytes mid
line_front bytes mid size is same =
    let fits = (frame_line_cut-size bytes size is).1 in
    record { within = fits; left = sym (ap (drop size) same ∙ drop_at (take size bytes) mid size (length-take-le size bytes fits)) }

pub line_fault_piece : (size : ℕ) (bytes : List ℕ) (fault : StreamFault) → frame_line_cut bytes ≡ Err fault
    → piece_cut Y4m size bytes ≡ Faulty fault
line_fault_piece size bytes fault is = piece_front Y4m size bytes (Err fault) is

open_piece : (front rest : List ℕ) (size : ℕ) (cut : Result (Option ℕ) StreamFault) → list_any is_newline front ≡ false
    → frame_line_cut (front ++ rest) ≡ cut
    → IsShort (length front) (piece_behind size (front ++ rest) cut)
open_piece front rest size (Err fault) none is = tt
open_piece front rest size (Ok None) none is = tt
open_piece front rest size (Ok (Some line)) none is =
    short_if (length front) line size (front ++ rest) (let below = frame_line_cut-unfinished front rest line none is in omega
    (arith, below)) (nat_le (line + size) (length (front ++ rest)))

-- a part of a frame line was taken
pub open_part : (front rest : List ℕ) (size : ℕ) → list_any is_newline front ≡ false → TakesPiece Y4m size (front ++ rest) rest
open_part front rest size none = (
  length front,
  record { within = omega (arith, length-append front rest); left = sym (drop_at front rest (length front) refl) },
  subst (IsShort (length front)) (sym (piece_front Y4m size (front ++ rest) (frame_line_cut (front ++ rest)) refl))
      (open_piece front rest size (frame_line_cut (front ++ rest)) none refl),
)

-- the line in front of a frame was taken
pub record HasLine (bytes mid : List ℕ) : Type 0 where
  pub size : ℕ
  pub is : frame_line_cut bytes ≡ Ok (Some size)
  pub behind : IsBehind size bytes mid

line_told_at : (a b : Option (List ℕ)) → IfSome a (λ bytes. (size : ℕ) × (frame_line_cut bytes ≡ Ok (Some size)) × Consumes a b
    (take size bytes)) → IfTold a b HasLine
line_told_at None b p = tt
line_told_at (Some x) None p = absurd p.2
line_told_at (Some x) (Some y) p = record { size = p.0; is = p.1; behind = line_front x y p.0 p.1 p.2 }

pub line_told : (a b : Shown) → TakesFrameLine a b → IfTold a.bytes b.bytes HasLine
line_told a b = line_told_at a.bytes b.bytes

-- the fault of a line is that of the frame
pub line_faulty : (a b : Shown) (size : ℕ) (fault : StreamFault) → IsFrameLineFault fault → IsNoFrameLine a fault
    → LeavesFrame Y4m size a b (end.Stream fault)
line_faulty a b size fault known found = (
  known,
  some_map a.bytes (λ bytes. frame_line_cut bytes ≡ Err fault)
      (λ bytes. piece_cut Y4m size bytes ≡ Faulty fault) (λ bytes. line_fault_piece size bytes fault) found,
)

open_told_at : (a b : Option (List ℕ)) (front : List ℕ) (size : ℕ) → list_any is_newline front ≡ false → Consumes a b front
    → IfTold a b (TakesPiece Y4m size)
open_told_at None b front size none p = tt
open_told_at (Some x) None front size none p = absurd p
open_told_at (Some x) (Some y) front size none p = subst (λ bytes. TakesPiece Y4m size bytes y) (sym p) (open_part front y size none)

-- a read of the line failed
pub open_told : (a b : Shown) (size : ℕ) → TakesOpen a b → LeavesFrame Y4m size a b end.ReadFault
open_told a b size taken = open_told_at a.bytes b.bytes taken.0 size taken.1 taken.2

-- ---- a frame that is read and converted

-- how many bytes it has
size_for : (converter : Converter) (pair : Pair) (whole : Place) → pair ≡ converter.pair → IsFrameFor converter whole
    → frame_length pair.from.desc whole.width whole.rows ≡ size_by converter
size_for converter pair whole same is = rw (same, is.width, is.height) refl

module _ (converter : Converter) (pair : Pair) (whole : Place) (target : List ℕ) (same : pair ≡ converter.pair)
    (is : IsFrameFor converter whole) where
  converts : (form : Form) (a b c : Shown) (next : ConvertsNext pair whole.width whole.rows b c target)
      → IfTold a.bytes c.bytes (TakesFrame form (size_by converter) next.frame) → ConvertsFrame form converter a c target
  converts form a b c next taken =
      record { frame = next.frame; taken = taken; converted = rw (sym same, is.width, is.height) next.converted }

  pub raw_converts : (a b : Shown) → 0 < size_by converter → ConvertsNext pair whole.width whole.rows a b target
      → ConvertsFrame Raw converter a b target
  raw_converts a b some next =
      let frame = next.frame in
      let long : length frame ≡ size_by converter = next.size ∙ size_for converter pair whole same is in
      converts Raw a a b next (told_map a.bytes b.bytes (λ x y. x ≡ frame ++ y) (TakesFrame Raw (size_by converter) frame)
      (λ x y e. of_size Raw (size_by converter) frame x y long (raw_whole frame x y (omega (arith, long, some)) e))
      (told_takes a b frame next.read.taken))

  pub line_converts : (a b c : Shown) → IfTold a.bytes b.bytes HasLine → ConvertsNext pair whole.width whole.rows b c target
      → ConvertsFrame Y4m converter a c target
  line_converts a b c line next =
      let frame = next.frame in
      let long : length frame ≡ size_by converter = next.size ∙ size_for converter pair whole same is in
      converts Y4m a b c next (told_then a.bytes b.bytes c.bytes HasLine (λ x y. x ≡ frame ++ y)
      (TakesFrame Y4m (size_by converter) frame)
      (λ x y z l e. of_size Y4m (size_by converter) frame x z long (whole_behind Y4m l.size x y z frame l.is l.behind e))
      line (told_takes b c frame next.read.taken))

-- ---- a frame that is left off

-- of the size that the converter's frames have
pub off_by : (converter : Converter) (whole : Place) (a b : Shown) (why : Unfinished) → IsFrameFor converter whole
    → LeavesOff (frame_length whole.source whole.width whole.rows) a b why → LeavesOff (size_by converter) a b why
off_by converter whole a b why is = subst (λ size. LeavesOff size a b why) (rw (is.source, is.width, is.height) refl)

-- some bytes, fewer than so many
abbrev IsCut : ℕ → List ℕ → Type 0
IsCut size bytes = (0 < length bytes) × (length bytes < size)

-- fewer bytes than so many were taken
abbrev TakesFewer : ℕ → List ℕ → List ℕ → Type 0
TakesFewer size bytes rest = (part : List ℕ) × (bytes ≡ part ++ rest) × (length part < size)

nothing_left : (a b : Shown) (size : ℕ) → LeavesOff size a b left.End → IfSome a.bytes (λ bytes. bytes ≡ [])
nothing_left a b size off =
    let read : Reads a b (Ok got.End) off.0 = off.2 in
    takes_all a b [] read.taken.0 read.taken.1

short_left : (a b : Shown) (size n : ℕ) → LeavesOff size a b (left.Short n) → IfSome a.bytes (IsCut size)
short_left a b size n off =
    let frame : List ℕ = off.0 in
    let long : length frame ≡ size = off.1 in
    let read : Reads a b (Ok (got.Short n)) frame = off.2 in
    let some : 0 < n = read.range.0 in
    let small : n < length frame = read.range.1 in
    let front : length (take n frame) ≡ n = length-take-le n frame (omega (arith, small)) in
    some_map a.bytes (λ x. x ≡ take n frame) (IsCut size)
    (λ x e. (omega (arith, ap length e, front, some), omega (arith, ap length e, front, small, long)))
    (takes_all a b (take n frame) read.taken.0 read.taken.1)

part_left : (a b : Shown) (size : ℕ) (failed : Failed) → LeavesOff size a b (left.Failed failed)
    → IfTold a.bytes b.bytes (TakesFewer size)
part_left a b size failed off =
    let frame : List ℕ = off.0 in
    let long : length frame ≡ size = off.1 in
    let read : Reads a b (Err failed) frame = off.2 in
    let n : ℕ = read.part_taken.0 in
    let small : n < length frame = read.part_taken.1 in
    let front : length (take n frame) ≡ n = length-take-le n frame (omega (arith, small)) in
    told_map a.bytes b.bytes (λ x y. x ≡ take n frame ++ y) (TakesFewer size)
    (λ x y e. (take n frame, e, omega (arith, front, small, long))) (told_takes a b (take n frame) read.part_taken.2)

module _ (a b : Shown) (size : ℕ) where
  pub raw_cut : (n : ℕ) → LeavesOff size a b (left.Short n) → LeavesFrame Raw size a b (end.Stream Truncated)
  raw_cut n off = (
    refl,
    some_map a.bytes (IsCut size) (λ x. piece_cut Raw size x ≡ Faulty Truncated)
        (λ x p. raw_short x size p.0 p.1) (short_left a b size n off),
  )

  pub raw_failed : (failed : Failed) → LeavesOff size a b (left.Failed failed) → LeavesFrame Raw size a b end.ReadFault
  raw_failed failed off = told_map a.bytes b.bytes (TakesFewer size) (TakesPiece Raw size)
      (λ x y p. raw_part p.0 x y (length p.0) size p.1 refl p.2) (part_left a b size failed off)

module _ (a b c : Shown) (size : ℕ) (line : IfTold a.bytes b.bytes HasLine) where
  pub line_nothing : 0 < size → LeavesOff size b c left.End → LeavesFrame Y4m size a c (end.Stream Truncated)
  line_nothing some off = (
    tt,
    told_now a.bytes b.bytes HasLine (λ y. y ≡ []) (λ x. piece_cut Y4m size x ≡ Faulty Truncated)
        (λ x y l e. short_behind Y4m l.size size x y l.is l.behind (omega (arith, ap length e, some))) line (nothing_left b c size off),
  )

  pub line_cut : (n : ℕ) → LeavesOff size b c (left.Short n) → LeavesFrame Y4m size a c (end.Stream Truncated)
  line_cut n off = (
    tt,
    told_now a.bytes b.bytes HasLine (IsCut size) (λ x. piece_cut Y4m size x ≡ Faulty Truncated)
        (λ x y l p. short_behind Y4m l.size size x y l.is l.behind p.1) line (short_left b c size n off),
  )

  pub line_failed : (failed : Failed) → LeavesOff size b c (left.Failed failed) → LeavesFrame Y4m size a c end.ReadFault
  line_failed failed off = told_then a.bytes b.bytes c.bytes HasLine (TakesFewer size) (TakesPiece Y4m size)
      (λ x y z l p. part_behind Y4m l.size (length p.0) x y z p.0 size l.is l.behind p.1 refl p.2) line (part_left b c size failed off)

-- ---- the header of a stream

header_told_at : (a b : Option (List ℕ)) (h : Header) → IfSome a
    (λ bytes. (size : ℕ) × (header_cut bytes ≡ Ok (record { header = h; size = size })) × Consumes a b (take size bytes))
    → IfTold a b (TakesHeader input.Y4m h)
header_told_at None b h p = tt
header_told_at (Some x) None h p = absurd p.2
header_told_at (Some x) (Some y) h p =
    let fits : p.0 ≤ length x = (header_cut-size x (record { header = h; size = p.0 }) p.1).1 in
    (p.0, p.1, record { within = fits; left = sym (ap (drop p.0) p.2 ∙ drop_at (take p.0 x) y p.0 (length-take-le p.0 x fits)) })

-- the header's line was taken
pub header_told : (a b : Shown) (result : Result Header HeaderEnd) → IfOk result (reading.TakesHeader a b)
    → IfOk result (λ h. IfTold a.bytes b.bytes (TakesHeader input.Y4m h))
header_told a b (Ok h) p = header_told_at a.bytes b.bytes h p
header_told a b (Err end) p = tt

open_header_at : (front rest : List ℕ) (cut : Result HeaderLine StreamFault) → list_any is_newline front ≡ false
    → header_cut (front ++ rest) ≡ cut → IsShortOf (length front) cut
open_header_at front rest (Err fault) none is = tt
open_header_at front rest (Ok line) none is = header_cut-unfinished front rest line none is

open_header : (a b : Option (List ℕ)) (front : List ℕ) → list_any is_newline front ≡ false → Consumes a b front
    → IfTold a b (TakesHeaderPart input.Y4m)
open_header None b front none p = tt
open_header (Some x) None front none p = absurd p
open_header (Some x) (Some y) front none p =
    subst (λ bytes. TakesHeaderPart input.Y4m bytes y) (sym p) (
      length front,
      record { within = omega (arith, length-append front y); left = sym (drop_at front y (length front) refl) },
      open_header_at front y (header_cut (front ++ y)) none refl,
    )

-- a read of the header failed
pub header_open : (a b : Shown) (result : Result Header HeaderEnd) → OnErr (header_reads result) (TakesOpen a b)
    → OnErr (header_reads result) (IfTold a.bytes b.bytes (TakesHeaderPart input.Y4m))
header_open a b (Ok h) p = tt
header_open a b (Err (header.Stream fault)) p = tt
header_open a b (Err header.ReadFault) p = open_header a.bytes b.bytes p.0 p.1 p.2
header_open a b (Err header.OutOfMemory) p = tt
