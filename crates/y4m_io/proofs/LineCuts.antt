-- The cuts of header lines and frame lines, by the line that they cut.
use Rattle.std.proofs.Common.{◌≡◌, ℕ, ◌+◌, ◌-◌, ◌≤◌, true, false, cond, List, [], ◌∷◌, length, take, drop, filter, refl, sym, ap, ◌∙◌}
use Rattle.std.proofs.Common.{arith}
use Rattle.std.specs.Prelude.{Option, None, Some, IfSome, Result, Ok, Err, IfOk, IfErr}
use Rattle.std.specs.List.{slice_split}
use Rattle.std.proofs.lemmas.List.{drop-take}
use Rattle.std.specs.Io.KnownBytes.{Consumes, IsAtEnd}
use Rattle.y4m_io.specs.declared.fault.StreamFault.{StreamFault}
use Rattle.y4m_io.specs.declared.fault.StreamFault.TheVariants.{NoMagic, NoFrameLine, Truncated}
use Rattle.y4m_io.specs.declared.fault.HeaderEnd.{HeaderEnd}
use Rattle.y4m_io.specs.declared.fault.HeaderEnd.TheVariants.{Stream, ReadFault, OutOfMemory}
use Rattle.y4m_io.specs.declared.fault.LineEnd.{LineEnd}
use Rattle.y4m_io.specs.declared.fault.LineEnd.TheVariants as line
use Rattle.y4m_io.specs.declared.header.Header.{Header}
use Rattle.y4m_io.specs.declared.line.LineKind.TheVariants as kind
use Rattle.y4m_io.specs.Lines.{line_cut}
use Rattle.y4m_io.specs.Tags.{is_space, is_tag, tags_of}
use Rattle.y4m_io.specs.HeaderLine.{has_magic, header_in, with_size, header_of, header_cut}
use Rattle.y4m_io.specs.FrameLine.{has_frame_word, frame_line_in, frame_line_cut}
use Rattle.y4m_io.specs.Reading.{header_fault, line_fault}
use Rattle.y4m_io.specs.LineKinds.{line_in, IsNoLine}

-- a header is what its line says
pub header_cut-line : (bytes : List ℕ) → header_cut bytes ≡ header_in (line_in kind.Header bytes)
unfolding header_cut
header_cut-line bytes = elim (has_magic bytes) as (λ b. cond b (header_in (line_cut bytes)) (Err NoMagic) ≡ header_in
    (cond b (line_cut bytes) (Err NoMagic))) [
      | true ↦ refl
      | false ↦ refl
    ]

-- a frame line is its line
pub frame_line_cut-line : (first : ℕ) (rest : List ℕ) → frame_line_cut (first ∷ rest) ≡ frame_line_in (line_in kind.Frame (first ∷ rest))
unfolding frame_line_cut
frame_line_cut-line first rest =
    elim (has_frame_word (first ∷ rest)) as (λ b. cond b (frame_line_in (line_cut (first ∷ rest))) (Err NoFrameLine) ≡ frame_line_in
    (cond b (line_cut (first ∷ rest)) (Err NoFrameLine))) [
      | true ↦ refl
      | false ↦ refl
    ]

-- the tags of a line that stands in a buffer
pub tags_of-take : (buf : List ℕ) (size : ℕ) → 9 ≤ size
    → filter is_tag (slice_split is_space (take (size - 9) (drop 9 buf))) ≡ tags_of (take size buf)
tags_of-take buf size long =
    let same : take (size - 9) (drop 9 buf) ≡ drop 9 (take size buf) =
    sym (drop-take 9 (size - 9) buf) ∙ ap (λ n. drop 9 (take n buf)) {x = 9 + (size - 9)} {y = size} (omega arith) in
    ap (λ text. filter is_tag (slice_split is_space text)) same

-- ---- where the bytes left are told

-- the line of a header
pub header_told : (a b : Option (List ℕ)) (line : List ℕ) (size : ℕ) (header : Header)
    → IfSome a (λ bytes. (line_in kind.Header bytes ≡ Ok line) × Consumes a b (take (size + 1) bytes)) → length line ≡ size
    → header_of (tags_of line) ≡ Ok header
    → IfSome a (λ bytes. (n : ℕ) × (header_cut bytes ≡ Ok (record { header = header; size = n })) × Consumes a b (take n bytes))
header_told None b line size header told long says = tt
header_told (Some x) b line size header told long says = (
  size + 1,
  header_cut-line x ∙ ap header_in told.0 ∙ ap (with_size (length line + 1)) says
      ∙ ap (λ n. Ok (record { header = header; size = n + 1 })) long,
  told.1,
)

-- the line of no header
pub header_fault_told : (a b : Option (List ℕ)) (line : List ℕ) (size : ℕ) (fault : StreamFault)
    → IfSome a (λ bytes. (line_in kind.Header bytes ≡ Ok line) × Consumes a b (take (size + 1) bytes))
    → header_of (tags_of line) ≡ Err fault
    → IfSome a (λ bytes. header_cut bytes ≡ Err fault)
header_fault_told None b line size fault told says = tt
header_fault_told (Some x) b line size fault told says = header_cut-line x ∙ ap header_in told.0 ∙ ap (with_size (length line + 1)) says

-- no line of a header
pub no_header_told : (a : Option (List ℕ)) (fault : StreamFault) → IfSome a (IsNoLine kind.Header fault)
    → IfSome a (λ bytes. header_cut bytes ≡ Err fault)
no_header_told None fault told = tt
no_header_told (Some x) fault told = header_cut-line x ∙ ap header_in told.1

-- nothing at all is no header
pub nothing_told : (a b : Option (List ℕ)) → Consumes a b [] → IsAtEnd b → IfSome a (λ bytes. header_cut bytes ≡ Err NoMagic)
unfolding header_cut
nothing_told None b taken end = tt
nothing_told (Some x) None taken end = absurd taken
nothing_told (Some x) (Some y) taken end = ap header_cut (taken ∙ end)

-- no byte is no line
frame_nothing : line_in kind.Frame [] ≡ Err Truncated
unfolding line_cut
frame_nothing = refl

-- a frame line
pub frame_told : (a b : Option (List ℕ)) (line : List ℕ) (size : ℕ)
    → IfSome a (λ bytes. (line_in kind.Frame bytes ≡ Ok line) × Consumes a b (take (size + 1) bytes)) → length line ≡ size
    → IfSome a (λ bytes. (n : ℕ) × (frame_line_cut bytes ≡ Ok (Some n)) × Consumes a b (take n bytes))
frame_told None b line size told long = tt
frame_told (Some []) b line size told long = let no : ⊥ = cc (sym frame_nothing ∙ told.0) in absurd no
frame_told (Some (first ∷ rest)) b line size told long =
    (size + 1, frame_line_cut-line first rest ∙ ap frame_line_in told.0 ∙ ap (λ n. Ok (Some (n + 1))) long, told.1)

-- no frame line
no_frame_told : (a : Option (List ℕ)) (fault : StreamFault) → IfSome a (IsNoLine kind.Frame fault)
    → IfSome a (λ bytes. frame_line_cut bytes ≡ Err fault)
no_frame_told None fault told = tt
no_frame_told (Some []) fault told = absurd (omega (arith, told.0))
no_frame_told (Some (first ∷ rest)) fault told = frame_line_cut-line first rest ∙ ap frame_line_in told.1

pub frame_fault_told : (a : Option (List ℕ)) (end : LineEnd) → IfSome (line_fault end) (λ fault. IfSome a (IsNoLine kind.Frame fault))
    → IfSome (line_fault end) (λ fault. IfSome a (λ bytes. frame_line_cut bytes ≡ Err fault))
frame_fault_told a (line.Stream fault) told = no_frame_told a fault told
frame_fault_told a line.ReadFault told = tt

-- what an answer says of a header, and of a fault
pub header_answer : (result : Result Header HeaderEnd) (says : Result Header StreamFault) (P : Header → Type 0)
    → IfOk result (λ header. says ≡ Ok header) → ((header : Header) → says ≡ Ok header → P header) → IfOk result P
header_answer (Ok header) says P is holds = holds header is
header_answer (Err end) says P is holds = tt

pub fault_answer : (result : Result Header HeaderEnd) (says : Result Header StreamFault) (P : StreamFault → Type 0)
    → IfErr result (λ end. IfSome (header_fault end) (λ fault. says ≡ Err fault)) → ((fault : StreamFault) → says ≡ Err fault → P fault)
    → IfErr result (λ end. IfSome (header_fault end) P)
fault_answer (Ok header) says P is holds = tt
fault_answer (Err (Stream fault)) says P is holds = holds fault is
fault_answer (Err ReadFault) says P is holds = tt
fault_answer (Err OutOfMemory) says P is holds = tt
