-- Reads that go on behind others.
use Rattle.std.proofs.Common.{◌≡◌, ℕ, ◌+◌, ◌<◌, ◌≤◌, List, [], ◌∷◌, ◌++◌, length, take, sym, ◌∙◌, ap, subst, arith, Result, Ok, Err, IfOk}
use Rattle.std.proofs.Common.{length-append, append-nil}
use Rattle.std.proofs.lemmas.Bool.Decides.{nat_tests}
use Rattle.std.proofs.Math.Seq.{take-append-add, take-append_seam}
use Rattle.std.proofs.lemmas.List.{take-append-le}
use Rattle.pix_io.specs.Shown.{Shown}
use Rattle.pix_io.specs.Faults.{HasNoFault}
use Rattle.pix_io.specs.Streams.{Takes, IsInRange, Writes, WritesPart}
use Rattle.pix_io.specs.declared.stream.Failed.{Failed}
use Rattle.pix_io.specs.declared.transfer.Got.{Got}
use Rattle.pix_io.specs.declared.transfer.Got.TheVariants.{Whole, End, Short}
use Rattle.pix_io.proofs.Calls.{HasCause-after, HasCause-ok, HasNoFault-trans, HasNoFault-refl, Takes-trans, Takes-nil, Writes-trans}
use Rattle.frame_slices.specs.FrameSlices.{Reads, StopsInside, got_behind}

-- a read into a buffer that is not empty
pub stops_inside : (result : Result Got Failed) (size : ℕ) → 0 < size → IfOk result (λ got. IsInRange got size)
    → IfOk result (λ got. StopsInside got size)
stops_inside (Ok Whole) size some range = tt
stops_inside (Ok End) size some range = some
stops_inside (Ok (Short n)) size some range = range
stops_inside (Err e) size some range = tt

-- the front of three lists that ends in the second
front_in_second : (first second rest : List ℕ) (n : ℕ) → n ≤ length second → take (length first + n) (first ++ (second ++ rest)) ≡ first
    ++ take n second
front_in_second first second rest n within = take-append-add first (second ++ rest) n
    ∙ ap (λ l. first ++ l) (take-append-le n second rest within)

module _ (a b c : Shown) (first second rest : List ℕ) where
  -- a short read
  pub short_on : (n : ℕ) → Takes a b first → HasNoFault a b → Reads b c (Ok (Short n)) second
      → Reads a c (Ok (Short (length first + n))) (first ++ (second ++ rest))
  short_on n before quiet now =
      let some : 0 < n = now.range.0 in
      let inside : n < length second = now.range.1 in
      let longer = length-append first (second ++ rest) in
      let long = length-append second rest in
      record {
        taken = (
          subst (Takes a c) (sym (front_in_second first second rest n (omega arith)))
              (Takes-trans a b c first (take n second) before now.taken.0),
          now.taken.1,
        );
        range = (omega arith, omega (arith, longer, long));
        part_taken = tt;
        cause = HasCause-after a b c (Ok (Short (length first + n))) quiet
            (record { later = now.cause.later; failed = tt; kept = now.cause.kept; made = now.cause.made });
      }

  -- a read that failed
  pub failed_on : (e : Failed) → Takes a b first → HasNoFault a b → Reads b c (Err e) second → Reads a c (Err e) (first ++ (second ++ rest))
  failed_on e before quiet now =
      let n : ℕ = now.part_taken.0 in
      let inside : n < length second = now.part_taken.1 in
      let longer = length-append first (second ++ rest) in
      let long = length-append second rest in
      record {
        taken = tt;
        range = tt;
        part_taken = (
          length first + n,
          omega (arith, longer, long),
          subst (Takes a c)
              (sym (front_in_second first second rest n (omega arith))) (Takes-trans a b c first (take n second) before now.part_taken.2),
        );
        cause = HasCause-after a b c (Err e) quiet now.cause;
      }

positive_end : (n : ℕ) → 0 < n → got_behind n End ≡ Short n
positive_end n some = grind (arith, nat_tests, some)

-- a read that met the end of the input
pub end_on : (a b c : Shown) (first second rest : List ℕ) → Takes a b first → HasNoFault a b → Reads b c (Ok End) second
    → Reads a c (Ok (got_behind (length first) End)) (first ++ (second ++ rest))
end_on a b c [] second rest before quiet now =
    record {
      taken = (Takes-trans a b c [] [] before now.taken.0, now.taken.1);
      range = omega (arith, length-append second rest, now.range);
      part_taken = tt;
      cause = HasCause-after a b c (Ok End) quiet
          (record { later = now.cause.later; failed = tt; kept = now.cause.kept; made = now.cause.made });
    }
end_on a b c (x ∷ first) second rest before quiet now =
    let all = x ∷ first in
    let front : take (length all) (all ++ (second ++ rest)) ≡ all ++ [] = take-append_seam all (second ++ rest) ∙ sym (append-nil all) in
    let some : 0 < length all = omega arith in
    subst (λ got. Reads a c (Ok got) (all ++ (second ++ rest))) (sym (positive_end (length all) some))
    (record {
      taken = (subst (Takes a c) (sym front) (Takes-trans a b c all [] before now.taken.0), now.taken.1);
      range = (some, omega (arith, length-append all (second ++ rest), length-append second rest, now.range));
      part_taken = tt;
      cause = HasCause-after a b c (Ok (Short (length all))) quiet
          (record { later = now.cause.later; failed = tt; kept = now.cause.kept; made = now.cause.made });
    })

-- a read of all
pub whole_on : (a b c : Shown) (first second : List ℕ) → Takes a b first → HasNoFault a b → Reads b c (Ok Whole) second
    → Takes a c (first ++ second) × HasNoFault a c
whole_on a b c first second before quiet now =
    (Takes-trans a b c first second before now.taken, HasNoFault-trans a b c quiet (HasCause-ok b c Whole now.cause))

-- what was read is all that there was to read
pub all_read : (a c : Shown) (bytes : List ℕ) → Takes a c bytes → HasNoFault a c → Reads a c (Ok Whole) bytes
all_read a c bytes taken quiet =
    record {
      taken = taken;
      range = tt;
      part_taken = tt;
      cause =
          record { later = omega (arith, quiet.faults); failed = tt; kept = quiet.faults; made = quiet.made };
    }

-- ---- behind what was read, of a whole that they make

module _ (a b c : Shown) (first second rest bytes : List ℕ) where
  pub end_at : (n : ℕ) (got : Got) → bytes ≡ first ++ (second ++ rest) → n ≡ length first → got ≡ got_behind n End → Takes a b first
      → HasNoFault a b
      → Reads b c (Ok End) second → Reads a c (Ok got) bytes
  end_at n got whole filled is before quiet now =
      subst (λ l. Reads a c (Ok got) l) (sym whole)
      (subst (λ g. Reads a c (Ok g) (first ++ (second ++ rest))) (sym (is ∙ ap (λ k. got_behind k End) filled))
      (end_on a b c first second rest before quiet now))

  pub short_at : (n m : ℕ) → bytes ≡ first ++ (second ++ rest) → n ≡ length first → Takes a b first → HasNoFault a b
      → Reads b c (Ok (Short m)) second → Reads a c (Ok (Short (n + m))) bytes
  short_at n m whole filled before quiet now =
      subst (λ l. Reads a c (Ok (Short (n + m))) l) (sym whole)
      (subst (λ k. Reads a c (Ok (Short (k + m))) (first ++ (second ++ rest))) (sym filled)
      (short_on a b c first second rest m before quiet now))

  pub failed_at : (e : Failed) → bytes ≡ first ++ (second ++ rest) → Takes a b first → HasNoFault a b → Reads b c (Err e) second
      → Reads a c (Err e) bytes
  failed_at e whole before quiet now = subst (Reads a c (Err e)) (sym whole) (failed_on a b c first second rest e before quiet now)

  -- a write that failed behind others
  pub write_failed_at : bytes ≡ first ++ (second ++ rest) → Writes a b first → WritesPart b c second → WritesPart a c bytes
  write_failed_at whole before now =
      let n : ℕ = now.0 in
      let inside : n < length second = now.1 in
      let longer = length-append first (second ++ rest) in
      let long = length-append second rest in
      subst (WritesPart a c) (sym whole) (
        length first + n,
        omega (arith, longer, long),
        subst (Writes a c) (sym (front_in_second first second rest n (omega arith)))
            (Writes-trans a b c first (take n second) before now.2),
      )

-- ---- a read that stopped in the front of what was to be read

module _ (a c : Shown) (first rest : List ℕ) where
  pub end_in_front : Reads a c (Ok End) first → Reads a c (Ok End) (first ++ rest)
  end_in_front now = end_on a a c [] first rest (Takes-nil a) (HasNoFault-refl a) now

  pub short_in_front : (n : ℕ) → Reads a c (Ok (Short n)) first → Reads a c (Ok (Short n)) (first ++ rest)
  short_in_front n now =
      subst (λ k. Reads a c (Ok (Short k)) (first ++ rest)) {x = 0 + n} {y = n} (omega arith)
      (short_on a a c [] first rest n (Takes-nil a) (HasNoFault-refl a) now)

  pub failed_in_front : (e : Failed) → Reads a c (Err e) first → Reads a c (Err e) (first ++ rest)
  failed_in_front e now = failed_on a a c [] first rest e (Takes-nil a) (HasNoFault-refl a) now

  -- where nothing more was to be read
  pub whole_in_front : rest ≡ [] → Reads a c (Ok Whole) first → Reads a c (Ok Whole) (first ++ rest)
  whole_in_front nothing now = subst (λ l. Reads a c (Ok Whole) (first ++ l)) (sym nothing)
      (subst (Reads a c (Ok Whole)) (sym (append-nil first)) now)

-- two parts that were read whole
pub both_read : (a b c : Shown) (first second : List ℕ) → Takes a b first → HasNoFault a b → Reads b c (Ok Whole) second
    → Reads a c (Ok Whole) (first ++ second)
both_read a b c first second before quiet now =
    let both = whole_on a b c first second before quiet now in
    all_read a c (first ++ second) both.0 both.1
