-- A line of the stream depends on its own bytes alone.
use Rattle.std.proofs.Common.{◌≡◌, ℕ, ◌+◌, ◌<◌, ◌≤◌, Bool, true, false, cond, ◌||◌, List, [], ◌∷◌, ◌++◌, length, take, drop, refl, sym, ap}
use Rattle.std.proofs.Common.{◌∙◌, subst, inl, inr, arith, length-append, append_assoc, length-take-le, take-append-drop, append-nil}
use Rattle.std.specs.Prelude.{None, Some, Result, Ok, Err, IsErr}
use Rattle.std.specs.List.{list_any}
use Rattle.std.proofs.Math.Seq.{take-append-add}
use Rattle.std.proofs.lemmas.Bool.{eqb-true, cases_Bool, cases_lt}
use Rattle.std.proofs.lemmas.List.{take-append-le}
use Rattle.std.proofs.lemmas.List.Folds.{list_any-append}
use Rattle.y4m_io.specs.declared.fault.StreamFault.{StreamFault}
use Rattle.y4m_io.specs.declared.header.Header.{Header}
use Rattle.y4m_io.specs.declared.line.LineKind.{LineKind}
use Rattle.y4m_io.specs.declared.line.LineKind.TheVariants as kind
use Rattle.y4m_io.specs.Lines.{is_newline, line_of, line_cut}
use Rattle.y4m_io.specs.Tags.{tags_of}
use Rattle.y4m_io.specs.HeaderLine.{HeaderLine, header_in, with_size, header_of, header_cut}
use Rattle.y4m_io.specs.FrameLine.{frame_line_in, frame_line_cut}
use Rattle.y4m_io.specs.LineKinds.{is_front, has_word, wrong_word, cut_off, line_in}
use Rattle.y4m_io.proofs.LineFronts.{line_of-append, line_cut-whole, line_cut-long, line_cut-short, is_front-front, is_front-word}
use Rattle.y4m_io.proofs.LineFronts.{line_in-whole, line_in-short}
use Rattle.y4m_io.proofs.LineCuts.{header_cut-line, frame_line_cut-line}

-- either no byte is a newline, or the line is followed by one
data Shape (bytes : List ℕ) : Type 0 where
  endless : list_any is_newline bytes ≡ false → Shape bytes
  ended : (line rest : List ℕ) → bytes ≡ line ++ 10 ∷ rest → list_any is_newline line ≡ false → Shape bytes

shape_more : (first : ℕ) (bytes : List ℕ) (test : Bool) → is_newline first ≡ test → Shape bytes → Shape (first ∷ bytes)
shape_more first bytes true is shape = ended [] bytes (ap (λ b. b ∷ bytes) (eqb-true first 10 is)) refl
shape_more first bytes false is (endless none) = endless (rw (is, none) refl)
shape_more first bytes false is (ended line rest same closed) = ended (first ∷ line) rest (ap (λ l. first ∷ l) same) (rw (is, closed) refl)

shape_of : (bytes : List ℕ) → Shape bytes
shape_of [] = endless refl
shape_of (first ∷ bytes) = shape_more first bytes (is_newline first) refl (shape_of bytes)

or_first : (a b : Bool) → (a || b) ≡ false → a ≡ false
or_first true b none = none
or_first false b none = refl

with_size-size : (size : ℕ) (header : Result Header StreamFault) (line : HeaderLine) → with_size size header ≡ Ok line → line.size ≡ size
with_size-size size (Err fault) line is = let no : ⊥ = cc in absurd no
with_size-size size (Ok header) line is = let same : record { header = header; size = size } ≡ line = cc in
    ap (λ (l : HeaderLine). l.size) (sym same)

-- what a line that is there looks like
pub record IsLine (kind : LineKind) (bytes line : List ℕ) : Type 0 where
  pub rest : List ℕ
  pub is : bytes ≡ line ++ 10 ∷ rest
  pub closed : list_any is_newline line ≡ false
  pub short : length line ≤ 1024
  pub front : is_front kind (line ++ 10 ∷ []) ≡ true

line_cut-shape : (bytes line : List ℕ) → Shape bytes → line_cut bytes ≡ Ok line
    → (rest : List ℕ) × (bytes ≡ line ++ 10 ∷ rest) × (list_any is_newline line ≡ false) × (length line ≤ 1024)
line_cut-shape bytes line (endless none) is = elim (cases_lt 1024 (length bytes)) [
  | inl long ↦ let no : ⊥ = cc (ap line_cut (append-nil bytes), line_cut-long bytes [] none long) in absurd no
  | inr short ↦ let no : ⊥ = cc (line_cut-short bytes none short) in absurd no
]
line_cut-shape bytes line (ended front rest same closed) is = elim (cases_lt 1024 (length front)) [
  | inl long ↦ let no : ⊥ = cc (ap line_cut same, line_cut-long front (10 ∷ rest) closed long) in absurd no
  | inr short ↦ let all : front ≡ line = cc (ap line_cut same, line_cut-whole front rest closed short) in
      rw (← all) (rest, same, closed, short)
]

pub line_in-shape : (kind : LineKind) (bytes line : List ℕ) → line_in kind bytes ≡ Ok line → IsLine kind bytes line
line_in-shape kind bytes line is = elim (cases_Bool (has_word kind bytes)) [
  | inl word ↦
      let cut : line_cut bytes ≡ Ok line = sym (ap (λ b. cond b (line_cut bytes) (Err (wrong_word kind))) word) ∙ is in
      let shape = line_cut-shape bytes line (shape_of bytes) cut in
      let front : is_front kind (line ++ 10 ∷ []) ≡ true =
      is_front-front kind (line ++ 10 ∷ []) shape.0 (ap (is_front kind) (append_assoc line (10 ∷ []) shape.0 ∙ sym shape.1)
      ∙ is_front-word kind bytes word) in
      record { rest = shape.0; is = shape.1; closed = shape.2; short = shape.3; front = front }
  | inr none ↦ let no : ⊥ = cc (ap (λ b. cond b (line_cut bytes) (Err (wrong_word kind))) none) in absurd no
]

-- the bytes of a line and its newline
pub take-line : (kind : LineKind) (bytes line : List ℕ) → IsLine kind bytes line → take (length line + 1) bytes ≡ line ++ 10 ∷ []
take-line kind bytes line shape = ap (take (length line + 1)) shape.is ∙ take-append-add line (10 ∷ shape.rest) 1

pub line_in-size : (kind : LineKind) (bytes line : List ℕ) → line_in kind bytes ≡ Ok line → length line + 1 ≤ length bytes
line_in-size kind bytes line is =
    let shape = line_in-shape kind bytes line is in
    omega (arith, ap length shape.is, length-append line (10 ∷ shape.rest))

-- it is the same whatever follows it
pub line_in-alone : (kind : LineKind) (bytes line rest : List ℕ) → line_in kind bytes ≡ Ok line
    → line_in kind (take (length line + 1) bytes ++ rest) ≡ Ok line
line_in-alone kind bytes line rest is =
    let shape = line_in-shape kind bytes line is in
    ap (λ l. line_in kind (l ++ rest)) (take-line kind bytes line shape) ∙ ap (line_in kind) (append_assoc line (10 ∷ []) rest)
    ∙ line_in-whole kind line rest shape.closed shape.short shape.front

-- a front of the bytes that ends inside it has no line
pub line_in-inside : (kind : LineKind) (bytes line : List ℕ) (n : ℕ) → line_in kind bytes ≡ Ok line → n ≤ length line
    → line_in kind (take n bytes) ≡ Err (cut_off kind n)
line_in-inside kind bytes line n is below =
    let shape = line_in-shape kind bytes line is in
    let front : take n bytes ≡ take n line = ap (take n) shape.is ∙ take-append-le n line (10 ∷ shape.rest) below in
    let long : length (take n line) ≡ n = length-take-le n line below in
    let whole : take n line ++ drop n line ≡ line = take-append-drop n line in
    let open_front : list_any is_newline (take n line) ≡ false = or_first _ _ (sym (list_any-append is_newline (take n line) (drop n line))
    ∙ ap (list_any is_newline) whole ∙ shape.closed) in
    let more : is_front kind (take n line) ≡ true = is_front-front kind (take n line) (drop n line ++ 10 ∷ [])
    (ap (is_front kind) (sym (append_assoc (take n line) (drop n line) (10 ∷ [])) ∙ ap (λ l. l ++ 10 ∷ []) whole) ∙ shape.front) in
    ap (line_in kind) front ∙ line_in-short kind (take n line) open_front (omega (arith, shape.short)) more
    ∙ ap (λ m. Err (cut_off kind m)) long

-- bytes without a newline are no whole line
pub line_in-unfinished : (kind : LineKind) (front rest line : List ℕ) → list_any is_newline front ≡ false
    → line_in kind (front ++ rest) ≡ Ok line → length front ≤ length line
line_in-unfinished kind front rest line closed is =
    let shape = line_in-shape kind (front ++ rest) line is in
    let same : front ++ line_of rest ≡ line =
    sym (line_of-append front rest closed) ∙ ap line_of shape.is ∙ line_of-append line (10 ∷ shape.rest) shape.closed ∙ append-nil line in
    omega (arith, ap length same, length-append front (line_of rest))

-- ---- headers

pub record IsHeaderLine (bytes : List ℕ) (header : HeaderLine) : Type 0 where
  pub line : List ℕ
  pub cut : line_in kind.Header bytes ≡ Ok line
  pub size : header.size ≡ length line + 1
  pub says : header_in (Ok line) ≡ Ok header

header_in-Ok : (cut : Result (List ℕ) StreamFault) (bytes : List ℕ) (header : HeaderLine) → line_in kind.Header bytes ≡ cut
    → header_in cut ≡ Ok header → IsHeaderLine bytes header
header_in-Ok (Err fault) bytes header cut is = let no : ⊥ = cc in absurd no
header_in-Ok (Ok line) bytes header cut is = record {
  line = line;
  cut = cut;
  size = with_size-size (length line + 1)
      (header_of (tags_of line)) header is;
  says = is;
}

pub header_cut-Ok : (bytes : List ℕ) (header : HeaderLine) → header_cut bytes ≡ Ok header → IsHeaderLine bytes header
header_cut-Ok bytes header is = header_in-Ok (line_in kind.Header bytes) bytes header refl (sym (header_cut-line bytes) ∙ is)

pub header_cut-size : (bytes : List ℕ) (header : HeaderLine) → header_cut bytes ≡ Ok header
    → (1 ≤ header.size) × (header.size ≤ length bytes)
header_cut-size bytes header is =
    let found = header_cut-Ok bytes header is in
    (omega (arith, found.size), omega (arith, found.size, line_in-size kind.Header bytes found.line found.cut))

pub header_cut-alone : (bytes rest : List ℕ) (header : HeaderLine) → header_cut bytes ≡ Ok header
    → header_cut (take header.size bytes ++ rest) ≡ Ok header
header_cut-alone bytes rest header is =
    let found = header_cut-Ok bytes header is in
    ap (λ n. header_cut (take n bytes ++ rest)) found.size ∙ header_cut-line (take (length found.line + 1) bytes ++ rest)
    ∙ ap header_in (line_in-alone kind.Header bytes found.line rest found.cut) ∙ found.says

pub header_cut-inside : (bytes : List ℕ) (header : HeaderLine) (n : ℕ) → header_cut bytes ≡ Ok header → n < header.size
    → IsErr (header_cut (take n bytes))
header_cut-inside bytes header n is below =
    let found = header_cut-Ok bytes header is in
    let none = header_cut-line (take n bytes)
    ∙ ap header_in (line_in-inside kind.Header bytes found.line n found.cut (omega (arith, found.size))) in
    subst (λ r. IsErr r) (sym none) refl

pub header_cut-unfinished : (front rest : List ℕ) (header : HeaderLine) → list_any is_newline front ≡ false
    → header_cut (front ++ rest) ≡ Ok header → length front < header.size
header_cut-unfinished front rest header closed is =
    let found = header_cut-Ok (front ++ rest) header is in
    omega (arith, found.size, line_in-unfinished kind.Header front rest found.line closed found.cut)

-- ---- frame lines

pub record IsFrameLine (bytes : List ℕ) (size : ℕ) : Type 0 where
  pub line : List ℕ
  pub cut : line_in kind.Frame bytes ≡ Ok line
  pub size_is : size ≡ length line + 1

frame_line_cut-some : (bytes : List ℕ) → 0 < length bytes → frame_line_cut bytes ≡ frame_line_in (line_in kind.Frame bytes)
frame_line_cut-some [] some = absurd (omega arith)
frame_line_cut-some (first ∷ rest) some = frame_line_cut-line first rest

frame_line_in-Ok : (cut : Result (List ℕ) StreamFault) (bytes : List ℕ) (size : ℕ) → line_in kind.Frame bytes ≡ cut
    → frame_line_in cut ≡ Ok (Some size) → IsFrameLine bytes size
frame_line_in-Ok (Err fault) bytes size cut is = let no : ⊥ = cc in absurd no
frame_line_in-Ok (Ok line) bytes size cut is = let same : size ≡ length line + 1 = cc in record { line = line; cut = cut; size_is = same }

frame_line_cut-nothing : frame_line_cut [] ≡ Ok None
unfolding frame_line_cut
frame_line_cut-nothing = refl

pub frame_line_cut-Ok : (bytes : List ℕ) (size : ℕ) → frame_line_cut bytes ≡ Ok (Some size) → IsFrameLine bytes size
frame_line_cut-Ok [] size is = let no : ⊥ = cc frame_line_cut-nothing in absurd no
frame_line_cut-Ok (first ∷ rest) size is =
    frame_line_in-Ok (line_in kind.Frame (first ∷ rest)) (first ∷ rest) size refl (sym (frame_line_cut-line first rest) ∙ is)

pub frame_line_cut-size : (bytes : List ℕ) (size : ℕ) → frame_line_cut bytes ≡ Ok (Some size) → (1 ≤ size) × (size ≤ length bytes)
frame_line_cut-size bytes size is =
    let found = frame_line_cut-Ok bytes size is in
    (omega (arith, found.size_is), omega (arith, found.size_is, line_in-size kind.Frame bytes found.line found.cut))

pub frame_line_cut-alone : (bytes rest : List ℕ) (size : ℕ) → frame_line_cut bytes ≡ Ok (Some size)
    → frame_line_cut (take size bytes ++ rest) ≡ Ok (Some size)
frame_line_cut-alone bytes rest size is =
    let found = frame_line_cut-Ok bytes size is in
    let fits = line_in-size kind.Frame bytes found.line found.cut in
    let front = take (length found.line + 1) bytes in
    let some : 0 < length (front ++ rest) = omega (arith, length-append front rest, length-take-le (length found.line + 1) bytes fits) in
    ap (λ n. frame_line_cut (take n bytes ++ rest)) found.size_is ∙ frame_line_cut-some (front ++ rest) some
    ∙ ap frame_line_in (line_in-alone kind.Frame bytes found.line rest found.cut) ∙ ap (λ n. Ok (Some n)) (sym found.size_is)

pub frame_line_cut-inside : (bytes : List ℕ) (size n : ℕ) → frame_line_cut bytes ≡ Ok (Some size) → 0 < n → n < size
    → IsErr (frame_line_cut (take n bytes))
frame_line_cut-inside bytes size n is some below =
    let found = frame_line_cut-Ok bytes size is in
    let fits = line_in-size kind.Frame bytes found.line found.cut in
    let long = length-take-le n bytes (omega (arith, fits, found.size_is)) in
    let none = frame_line_cut-some (take n bytes) (omega (arith, long))
    ∙ ap frame_line_in (line_in-inside kind.Frame bytes found.line n found.cut (omega (arith, found.size_is))) in
    subst (λ r. IsErr r) (sym none) refl

pub frame_line_cut-unfinished : (front rest : List ℕ) (size : ℕ) → list_any is_newline front ≡ false
    → frame_line_cut (front ++ rest) ≡ Ok (Some size) → length front < size
frame_line_cut-unfinished front rest size closed is =
    let found = frame_line_cut-Ok (front ++ rest) size is in
    omega (arith, found.size_is, line_in-unfinished kind.Frame front rest found.line closed found.cut)
