-- Fronts of lines.
use Rattle.std.proofs.Common.{◌≡◌, ℕ, ◌<◌, ◌≤◌, Bool, true, false, ◌&&◌, ◌||◌, List, [], ◌∷◌, ◌++◌, length, get_or, refl, sym, ap, ◌∙◌}
use Rattle.std.proofs.Common.{arith, ◌==◌, length-append, append-nil, append_assoc, inl, inr}
use Rattle.std.specs.Prelude.{Ok, Err, nat_le}
use Rattle.std.specs.Cmp.{first_so, second_so}
use Rattle.std.specs.List.{list_any}
use Rattle.std.proofs.Math.Numerals.{one-add}
use Rattle.std.proofs.lemmas.List.{get_or_append_left}
use Rattle.std.proofs.lemmas.Bool.{false_from_ne_true, cases_lt, le-leb, lt-leb, lt-ltb, le-ltb}
use Rattle.std.proofs.lemmas.Bool.Decides.{nat_tests}
use Rattle.y4m_io.specs.declared.fault.StreamFault.TheVariants.{LineTooLong, Truncated}
use Rattle.y4m_io.specs.declared.line.LineKind.{LineKind}
use Rattle.y4m_io.specs.declared.line.LineKind.TheVariants.{Header, Frame}
use Rattle.y4m_io.specs.Lines.{is_newline, line_of, line_cut, agrees}
use Rattle.y4m_io.specs.Tags.{magic}
use Rattle.y4m_io.specs.HeaderLine.{has_magic, ends_word}
use Rattle.y4m_io.specs.FrameLine.{frame_word}
use Rattle.y4m_io.specs.LineKinds.{is_front, has_word, word_size, wrong_word, cut_off, line_in}

or_first : (a b : Bool) → (a || b) ≡ false → a ≡ false
or_first true b none = none
or_first false b none = refl

or_second : (a b : Bool) → (a || b) ≡ false → b ≡ false
or_second true b none = cc
or_second false b none = none

-- a byte that is no newline is a part of the line
line_of-cons : (x : ℕ) (xs : List ℕ) → is_newline x ≡ false → line_of (x ∷ xs) ≡ x ∷ line_of xs
line_of-cons x xs other = rw (other, one-add) refl

-- the line goes on behind bytes without a newline
pub line_of-append : (xs ys : List ℕ) → list_any is_newline xs ≡ false → line_of (xs ++ ys) ≡ xs ++ line_of ys
line_of-append [] ys closed = refl
line_of-append (x ∷ xs) ys closed =
    line_of-cons x (xs ++ ys) (or_first _ _ closed) ∙ ap (λ l. x ∷ l) (line_of-append xs ys (or_second _ _ closed))

-- a newline ends the line
pub line_of-newline : (rest : List ℕ) → line_of (10 ∷ rest) ≡ []
line_of-newline rest = refl

-- bytes without a newline, and then one
pub line_cut-whole : (xs rest : List ℕ) → list_any is_newline xs ≡ false → length xs ≤ 1024 → line_cut (xs ++ 10 ∷ rest) ≡ Ok xs
unfolding line_cut
line_cut-whole xs rest closed short =
    let line : line_of (xs ++ 10 ∷ rest) ≡ xs = line_of-append xs (10 ∷ rest) closed ∙ append-nil xs in
    let more = length-append xs (10 ∷ rest) in
    rw line (grind (arith, nat_tests))

-- more than 1024 bytes without a newline
pub line_cut-long : (xs rest : List ℕ) → list_any is_newline xs ≡ false → 1024 < length xs → line_cut (xs ++ rest) ≡ Err LineTooLong
unfolding line_cut
line_cut-long xs rest closed long =
    let line : line_of (xs ++ rest) ≡ xs ++ line_of rest = line_of-append xs rest closed in
    let more = length-append xs (line_of rest) in
    rw line (grind (arith, nat_tests))

-- at most 1024 bytes without a newline, and no more
pub line_cut-short : (xs : List ℕ) → list_any is_newline xs ≡ false → length xs ≤ 1024 → line_cut xs ≡ Err Truncated
unfolding line_cut
line_cut-short xs closed short =
    let line : line_of xs ≡ xs = ap line_of (sym (append-nil xs)) ∙ line_of-append xs [] closed ∙ append-nil xs in
    rw line (grind (arith, nat_tests))

-- more bytes agree with a word only where fewer do
agrees-front : (word xs ys : List ℕ) → agrees word (xs ++ ys) ≡ true → agrees word xs ≡ true
agrees-front [] xs ys same = refl
agrees-front (letter ∷ word) [] ys same = refl
agrees-front (letter ∷ word) (x ∷ xs) ys same = rw (first_so (x == letter) _ same)
    (agrees-front word xs ys (second_so (x == letter) _ same))

-- bytes behind a word do not matter
agrees-append : (word xs ys : List ℕ) → length word ≤ length xs → agrees word (xs ++ ys) ≡ agrees word xs
agrees-append [] xs ys long = refl
agrees-append (letter ∷ word) [] ys long = absurd (omega arith)
agrees-append (letter ∷ word) (x ∷ xs) ys long = ap (λ b. (x == letter) && b) (agrees-append word xs ys (omega arith))

-- a byte that the word does not have stands behind the word
agrees-behind : (word xs : List ℕ) (byte : ℕ) → list_any (λ letter. byte == letter) word ≡ false → agrees word (xs ++ byte ∷ []) ≡ true
    → length word ≤ length xs
agrees-behind [] xs byte lacks same = omega arith
agrees-behind (letter ∷ word) [] byte lacks same = cc (first_so (byte == letter) _ same, or_first (byte == letter) _ lacks)
agrees-behind (letter ∷ word) (x ∷ xs) byte lacks same =
    let rest = agrees-behind word xs byte (or_second (byte == letter) _ lacks) (second_so (x == letter) _ same) in
    omega (arith, rest)

-- ---- the words of both kinds

-- the byte behind the first word of a header line
abbrev follows_word : List ℕ → Bool
follows_word bytes = nat_le (length bytes) 9 || ends_word (get_or bytes 9 0)

-- it is the same with more bytes behind it
follows_word-append : (xs ys : List ℕ) → 10 ≤ length xs → follows_word (xs ++ ys) ≡ follows_word xs
follows_word-append xs ys long =
    let more = length-append xs ys in
    let same : get_or (xs ++ ys) 9 0 ≡ get_or xs 9 0 = get_or_append_left xs ys 0 9 (omega arith) in
    let one : nat_le (length (xs ++ ys)) 9 ≡ false = lt-leb (length (xs ++ ys)) 9 (omega arith) in
    let other : nat_le (length xs) 9 ≡ false = lt-leb (length xs) 9 (omega arith) in
    rw (one, other, same) refl

follows_word-front : (xs ys : List ℕ) → follows_word (xs ++ ys) ≡ true → follows_word xs ≡ true
follows_word-front xs ys follows =
    elim (cases_lt 9 (length xs)) [
      | inl long ↦ sym (follows_word-append xs ys (omega (arith, long))) ∙ follows
      | inr short ↦ rw (le-leb (length xs) 9 short) refl
    ]

-- what holds of more bytes holds of fewer
pub is_front-front : (kind : LineKind) (xs ys : List ℕ) → is_front kind (xs ++ ys) ≡ true → is_front kind xs ≡ true
is_front-front Header xs ys same =
    rw (agrees-front magic xs ys (first_so _ _ same)) (follows_word-front xs ys (second_so (agrees magic (xs ++ ys)) _ same))
is_front-front Frame xs ys same = agrees-front frame_word xs ys same

-- a line begins with its word where a front of it does that has more than the word
pub has_word-append : (kind : LineKind) (xs ys : List ℕ) → 10 ≤ length xs → is_front kind xs ≡ true → has_word kind (xs ++ ys) ≡ true
has_word-append Header xs ys long same =
    let more : nat_le 9 (length (xs ++ ys)) ≡ true = le-leb 9 (length (xs ++ ys)) (omega (arith, length-append xs ys)) in
    let word : agrees magic (xs ++ ys) ≡ true = agrees-append magic xs ys (omega arith) ∙ first_so _ _ same in
    rw (more, word) (follows_word-append xs ys long ∙ second_so (agrees magic xs) _ same)
has_word-append Frame xs ys long same = agrees-append frame_word xs ys (omega arith) ∙ same

-- the word stands in front of the newline
pub word_size-newline : (kind : LineKind) (xs : List ℕ) → is_front kind (xs ++ 10 ∷ []) ≡ true → word_size kind ≤ length xs
word_size-newline Header xs same = agrees-behind magic xs 10 refl (first_so _ _ same)
word_size-newline Frame xs same = agrees-behind frame_word xs 10 refl same

pub has_word-newline : (kind : LineKind) (xs rest : List ℕ) → is_front kind (xs ++ 10 ∷ []) ≡ true → has_word kind (xs ++ 10 ∷ rest) ≡ true
has_word-newline Header xs rest same =
    let behind : 9 ≤ length xs = word_size-newline Header xs same in
    let long : 10 ≤ length (xs ++ 10 ∷ []) = omega (arith, behind, length-append xs (10 ∷ [])) in
    ap has_magic (sym (append_assoc xs (10 ∷ []) rest)) ∙ has_word-append Header (xs ++ 10 ∷ []) rest long same
has_word-newline Frame xs rest same =
    agrees-append frame_word xs (10 ∷ rest) (word_size-newline Frame xs same) ∙ agrees-front frame_word xs (10 ∷ []) same

-- nothing begins as every line does
pub is_front-nothing : (kind : LineKind) → is_front kind [] ≡ true
is_front-nothing Header = refl
is_front-nothing Frame = refl

-- bytes with the word begin as the line does
pub is_front-word : (kind : LineKind) (bytes : List ℕ) → has_word kind bytes ≡ true → is_front kind bytes ≡ true
is_front-word Header bytes same = second_so _ _ same
is_front-word Frame bytes same = same

-- ---- where a read of the line ends

-- at its newline
pub line_in-whole : (kind : LineKind) (xs rest : List ℕ) → list_any is_newline xs ≡ false → length xs ≤ 1024
    → is_front kind (xs ++ 10 ∷ []) ≡ true
    → line_in kind (xs ++ 10 ∷ rest) ≡ Ok xs
line_in-whole kind xs rest closed short same = rw (has_word-newline kind xs rest same) (line_cut-whole xs rest closed short)

-- at the first byte that is wrong
pub line_in-wrong : (kind : LineKind) (xs rest : List ℕ) → is_front kind xs ≡ false → line_in kind (xs ++ rest) ≡ Err (wrong_word kind)
line_in-wrong kind xs rest differs =
    let none : has_word kind (xs ++ rest) ≡ false = false_from_ne_true _
    (λ same. cc (is_front-front kind xs rest (is_front-word kind (xs ++ rest) same))) in
    rw none refl

-- at more bytes than a line has
pub line_in-long : (kind : LineKind) (xs rest : List ℕ) → list_any is_newline xs ≡ false → 1024 < length xs → is_front kind xs ≡ true
    → line_in kind (xs ++ rest) ≡ Err LineTooLong
line_in-long kind xs rest closed long same = rw (has_word-append kind xs rest (omega arith) same) (line_cut-long xs rest closed long)

-- at the end of the input
pub line_in-short : (kind : LineKind) (xs : List ℕ) → list_any is_newline xs ≡ false → length xs ≤ 1024 → is_front kind xs ≡ true
    → line_in kind xs ≡ Err (cut_off kind (length xs))
line_in-short Header xs closed short same =
    elim (cases_lt (length xs) 9) [
      | inl few ↦ rw (lt-leb 9 (length xs) few, lt-ltb (length xs) 9 few) refl
      | inr long ↦ rw (le-leb 9 (length xs) long, same, le-ltb (length xs) 9 long) (line_cut-short xs closed short)
    ]
line_in-short Frame xs closed short same = rw same (line_cut-short xs closed short)
