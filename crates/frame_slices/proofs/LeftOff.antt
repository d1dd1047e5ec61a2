-- A frame that was left off in its front or in its part, and one that was read whole and converted.
use Rattle.std.proofs.Common.{◌≡◌, Bool, true, false, nat_eq, if◌then◌else◌, ℕ, List, [], ◌++◌, length, map, Option, Some, Result, Ok, Err}
use Rattle.std.proofs.Common.{refl, sym, ◌∙◌, ap, subst, append-nil}
use Rattle.std.specs.Prelude.{MatchOption}
use Rattle.std.proofs.lemmas.Option.{none-some, same_Some}
use Rattle.pix_desc.specs.Frame.{frame_length}
use Rattle.pix_io.specs.Shown.{Shown}
use Rattle.pix_io.specs.Faults.{HasNoFault}
use Rattle.pix_io.specs.Streams.{Takes}
use Rattle.pix_io.specs.declared.stream.Failed.{Failed}
use Rattle.pix_io.specs.declared.transfer.Got.{Got}
use Rattle.pix_io.specs.declared.transfer.Got.TheVariants as got
use Rattle.pix_io.proofs.Calls.{HasCause-ok, HasNoFault-trans}
use Rattle.pix_meaning.specs.declared.pair.Pair.{Pair}
use Rattle.pix_meaning.specs.Pairs.{IsValidPair}
use Rattle.frame_slices.specs.declared.frame_slice.Place.{Place}
use Rattle.frame_slices.specs.declared.frame_slice.FrameSlice.{FrameSlice}
use Rattle.frame_slices.specs.declared.unfinished.Unfinished.{Unfinished}
use Rattle.frame_slices.specs.declared.unfinished.Unfinished.TheVariants as left
use Rattle.frame_slices.specs.FrameSlices.{place_of, source_in, target_in, HaveOnePalette, Reads, got_behind}
use Rattle.frame_slices.specs.Handing.{part_in, front_in, AreOfFrame, AreBut, IsPart}
use Rattle.frame_slices.specs.Converting.{ConvertsNext, LeavesOff, LeavesOffIn, read_of}
use Rattle.frame_slices.specs.Parts.{ConvertsRest, LeavesOffPart, left_behind}
use Rattle.frame_slices.proofs.ReadsOn.{end_in_front, short_in_front, failed_in_front, end_on, short_on, failed_on, both_read}
use Rattle.frame_slices.proofs.SlicePlanes.{palette_kept}
use Rattle.frame_slices.proofs.SliceFrame.{MakeFrame, target_is}
use Rattle.frame_slices.proofs.Fronts.{length_of_source, of_same_frame, front_kept}

-- ---- bytes that were being read

-- those of a read that stopped are a front of more
in_front : (a c : Shown) (first rest : List ℕ) (why : Unfinished) (result : Result Got Failed) → read_of why ≡ Some result
    → Reads a c result first → Reads a c result (first ++ rest)
in_front a c first rest left.End result is now =
    let same = same_Some (Ok got.End) result is in
    subst (λ r. Reads a c r (first ++ rest)) same (end_in_front a c first rest (subst (λ r. Reads a c r first) (sym same) now))
in_front a c first rest (left.Short n) result is now =
    let same = same_Some (Ok (got.Short n)) result is in
    subst (λ r. Reads a c r (first ++ rest)) same (short_in_front a c first rest n (subst (λ r. Reads a c r first) (sym same) now))
in_front a c first rest (left.Failed e) result is now =
    let same = same_Some (Err e) result is in
    subst (λ r. Reads a c r (first ++ rest)) same (failed_in_front a c first rest e (subst (λ r. Reads a c r first) (sym same) now))
in_front a c first rest left.OutOfMemory result is now = absurd (none-some result is)

-- how a read is told that met the end behind n bytes
end_or_short : (none : Bool) (n : ℕ) → read_of (if none then left.End else left.Short n)
    ≡ Some (Ok (if none then got.End else got.Short n))
end_or_short true n = refl
end_or_short false n = refl

end_behind : (n : ℕ) → read_of (left_behind n left.End) ≡ Some (Ok (got_behind n got.End))
end_behind n = end_or_short (nat_eq n 0) n

-- a fact on them may be another
left_off_as : (P Q : List ℕ → Type 0) (a b : Shown) (why : Unfinished) → ((bytes : List ℕ) → P bytes → Q bytes) → LeavesOffIn P a b why
    → LeavesOffIn Q a b why
left_off_as P Q a b left.End means off = (off.0, means off.0 off.1, off.2)
left_off_as P Q a b (left.Short n) means off = (off.0, means off.0 off.1, off.2)
left_off_as P Q a b (left.Failed e) means off = (off.0, means off.0 off.1, off.2)
left_off_as P Q a b left.OutOfMemory means off = off

-- bytes before them that were taken
left_off_behind : (P Q : List ℕ → Type 0) (a b c : Shown) (first : List ℕ) (n : ℕ) (why : Unfinished) → n ≡ length first
    → Takes a b first → HasNoFault a b → ((bytes : List ℕ) → P bytes → Q (first ++ (bytes ++ []))) → LeavesOffIn P b c why
    → LeavesOffIn Q a c (left_behind n why)
left_off_behind P Q a b c first n left.End filled before quiet means off =
    subst (λ m. LeavesOffIn Q a c (left_behind m left.End)) (sym filled)
    (subst (λ o. MatchOption o (HasNoFault a c) (λ result. (bytes : List ℕ) × Q bytes × Reads a c result bytes))
    (sym (end_behind (length first)))
    (first ++ (off.0 ++ []), means off.0 off.1, end_on a b c first off.0 [] before quiet off.2))
left_off_behind P Q a b c first n (left.Short m) filled before quiet means off =
    subst (λ k. LeavesOffIn Q a c (left_behind k (left.Short m))) (sym filled)
    (first ++ (off.0 ++ []), means off.0 off.1, short_on a b c first off.0 [] m before quiet off.2)
left_off_behind P Q a b c first n (left.Failed e) filled before quiet means off =
    (first ++ (off.0 ++ []), means off.0 off.1, failed_on a b c first off.0 [] e before quiet off.2)
left_off_behind P Q a b c first n left.OutOfMemory filled before quiet means off = HasNoFault-trans a b c quiet off

-- ---- a frame whose front is read, and then its part

-- slices of a frame make it of their front and their part
abbrev pub Splits : Place → Option ℕ → List FrameSlice → Type 0
Splits whole part slices = (all : List FrameSlice) → map place_of all ≡ map place_of slices → source_in whole all
    ≡ front_in whole part all ++ part_in part all

module _ (whole : Place) (part : Option ℕ) (slices : List FrameSlice) (of : AreOfFrame whole slices) (splits : Splits whole part slices) where
  -- it was left off in its front
  pub off_in_front : (a c : Shown) (why : Unfinished) (result : Result Got Failed) → read_of why ≡ Some result
      → Reads a c result (front_in whole part slices) → LeavesOff (frame_length whole.source whole.width whole.rows) a c why
  off_in_front a c why result is now =
      let front = front_in whole part slices in
      let rest = part_in part slices in
      let size : length (front ++ rest) ≡ frame_length whole.source whole.width whole.rows =
      ap length (sym (splits slices refl)) ∙ length_of_source whole slices of in
      subst (λ o. MatchOption o (HasNoFault a c) (λ r. (bytes : List ℕ) × (length bytes ≡ frame_length whole.source whole.width whole.rows)
      × Reads a c r bytes)) (sym is)
      (front ++ rest, size, in_front a c front rest why result is now)

  -- the frame of slices whose part was read too
  whole_of : (all : List FrameSlice) → IsPart part → AreBut part slices all
      → source_in whole all ≡ front_in whole part slices ++ part_in part all
  whole_of all is but = splits all but.places ∙ ap (λ l. l ++ part_in part all) (front_kept whole part slices all is of.places but)

  -- it was left off in its part
  pub off_in_part : (a b c : Shown) (n : ℕ) (why : Unfinished) → IsPart part → Reads a b (Ok got.Whole) (front_in whole part slices)
      → n ≡ length (front_in whole part slices) → LeavesOffPart part b c slices why
      → LeavesOff (frame_length whole.source whole.width whole.rows) a c (left_behind n why)
  off_in_part a b c n why is front filled off =
      left_off_behind (λ bytes. (all : List FrameSlice) × AreBut part slices all × (bytes ≡ part_in part all))
      (λ frame. length frame ≡ frame_length whole.source whole.width whole.rows) a b c (front_in whole part slices) n why filled front.taken
      (HasCause-ok a b got.Whole front.cause)
      (λ bytes fact.
      ap (λ l. length (front_in whole part slices ++ l)) (append-nil bytes ∙ fact.2)
      ∙ ap length (sym (whole_of fact.0 is fact.1))
      ∙ length_of_source whole fact.0 (of_same_frame whole slices fact.0 fact.1.places of))
      off

  -- it was read, and converted
  pub next_converted : (pair : Pair) (a b c : Shown) (converted : List FrameSlice) → IsPart part → IsValidPair pair
      → pair.to.desc.palette ≡ false → pair.from.desc ≡ whole.source → pair.to.desc ≡ whole.target → HaveOnePalette slices
      → Reads a b (Ok got.Whole) (front_in whole part slices) → ConvertsRest pair part b c slices converted
      → ConvertsNext pair whole.width whole.rows a c (target_in whole converted)
  next_converted pair a b c converted is valid plain from to one front rest =
      let all = rest.all in
      let there = of_same_frame whole slices all rest.but.places of in
      let made : MakeFrame whole.source whole.target whole.width whole.rows all =
      record { places = there.places; covers = there.covers; behinds = palette_kept slices all rest.but.behind one; some = there.some } in
      record {
        frame = source_in whole all;
        read = subst (Reads a c (Ok got.Whole)) (sym (whole_of all is rest.but))
            (both_read a b c (front_in whole part slices) (part_in part all) front.taken (HasCause-ok a b got.Whole front.cause) rest.read);
        size = length_of_source whole all there ∙ ap (λ desc. frame_length desc whole.width whole.rows) (sym from);
        converted = target_is pair whole all converted valid plain from to made rest.places rest.outputs;
      }
