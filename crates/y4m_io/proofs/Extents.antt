-- Numbers that are read digit by digit.
use Rattle.std.proofs.Common.{◌≡◌, ℕ, ◌+◌, ◌-◌, ◌*◌, ◌<◌, ◌≤◌, true, false, List, [], ◌∷◌, ◌++◌, length, take, get_or, refl, ap, ◌∙◌, arith}
use Rattle.std.proofs.Common.{add-one}
use Rattle.std.specs.Prelude.{None, nat_le}
use Rattle.std.specs.List.{list_all}
use Rattle.std.specs.Char.{is_ascii_digit, digit_value}
use Rattle.std.specs.Str.Parse.{digits_value}
use Rattle.std.proofs.Math.Seq.{take-suc}
use Rattle.std.proofs.Math.Bool.{and-false}
use Rattle.std.specs.Cmp.{first_so, second_so}
use Rattle.std.proofs.lemmas.Bool.{lt-leb, leb-true}
use Rattle.std.proofs.lemmas.List.Folds.{list_all-append}
use Rattle.std.proofs.lemmas.Int.Digits.{digits_value_push}
use Rattle.std.proofs.lemmas.Str.{digit_value_digit}
use Rattle.y4m_io.specs.HeaderLine.{is_numeral, extent_of}

-- a number above the limit is no extent
pub extent_of-large : (text : List ℕ) → 16384 < digits_value 10 text → None ≡ extent_of text
extent_of-large text large =
    let over : nat_le (digits_value 10 text) 16384 ≡ false = lt-leb (digits_value 10 text) 16384 large in
    rw (over, and-false (nat_le 1 (digits_value 10 text)), and-false (is_numeral text)) refl

-- the value of a decimal digit
pub digit_value-digit : (code : ℕ) → is_ascii_digit code ≡ true → digit_value code ≡ code - 48
digit_value-digit code digit =
    let least : 48 ≤ code = leb-true 48 code (first_so _ _ digit) in
    let most : code ≤ 57 = leb-true code 57 (second_so (nat_le 48 code) _ digit) in
    let value = digit_value_digit code (least, most) in
    omega (arith, value)

-- one digit more
next-front : (text : List ℕ) (place : ℕ) → place < length text → take (place + 1) text ≡ take place text ++ (get_or text place 0 ∷ [])
next-front text place below = ap (λ n. take n text) (add-one place) ∙ take-suc text place 0 below

pub digits-next : (text : List ℕ) (place number digit : ℕ) → place < length text → number ≡ digits_value 10 (take place text)
    → digit_value (get_or text place 0) ≡ digit
    → number * 10 + digit ≡ digits_value 10 (take (place + 1) text)
digits-next text place number digit below is value =
    let next = ap (digits_value 10) (next-front text place below) ∙ digits_value_push 10 (take place text) (get_or text place 0) in
    omega (arith, next, is, value)

pub all_digits-next : (text : List ℕ) (place : ℕ) → place < length text → list_all is_ascii_digit (take place text) ≡ true
    → is_ascii_digit (get_or text place 0) ≡ true
    → list_all is_ascii_digit (take (place + 1) text) ≡ true
all_digits-next text place below before now =
    ap (list_all is_ascii_digit) (next-front text place below) ∙ list_all-append is_ascii_digit (take place text) (get_or text place 0 ∷ [])
    ∙ rw (before, now) refl
