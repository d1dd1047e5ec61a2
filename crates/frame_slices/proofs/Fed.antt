-- Slices of which a part is read, and that are then handed over, one after the other.
use Rattle.std.proofs.Common.{◌≡◌, ◌⊎◌, ℕ, zero, suc, ◌+◌, ◌<◌, List, [], ◌∷◌, ◌++◌, length, map, Option, Some, Ok, Err, refl, sym}
use Rattle.std.proofs.Common.{◌∙◌, ap, ap₂, subst, inl, inr, ⊎_elim, arith, length-append, append-nil}
use Rattle.std.specs.Prelude.{Bool, true, false, nat_eq, if◌then◌else◌, slice_get}
use Rattle.std.specs.Sync.OnceLock.{Named}
use Rattle.std.proofs.lemmas.List.{map-append}
use Rattle.std.proofs.lemmas.Option.{same_Some, slice_get_within}
use Rattle.pix_io.specs.Shown.{Shown}
use Rattle.pix_io.specs.Faults.{HasNoFault}
use Rattle.pix_io.specs.Streams.{Takes}
use Rattle.pix_io.specs.declared.stream.Failed.{Failed}
use Rattle.pix_io.specs.declared.transfer.Got.{Got}
use Rattle.pix_io.specs.declared.transfer.Got.TheVariants.{End, Short}
use Rattle.frame_slices.specs.declared.frame_slice.FrameSlice.{FrameSlice}
use Rattle.frame_slices.specs.FrameSlices.{place_of, plane_of, behind_of, got_behind, Reads}
use Rattle.frame_slices.specs.Handing.{Token, ShowsSlice, AreHanded, part_of, part_in, IsOther, AreBut, IfWhole, Feeds}
use Rattle.frame_slices.proofs.Chained.{chain-append}
use Rattle.frame_slices.proofs.ReadsOn.{end_at, short_at, failed_at}

-- ---- a slice more

-- an element of a list with one more is one of the list, or that one
get_pushed : {X : Type 0} (xs : List X) (x y : X) (k : ℕ) → slice_get (xs ++ (x ∷ [])) k ≡ Some y
    → ((k < length xs) × (slice_get xs k ≡ Some y)) ⊎ ((k ≡ length xs) × (x ≡ y))
get_pushed [] x y zero found = inr (refl, same_Some x y found)
get_pushed [] x y (suc k) found = absurd (omega (arith, slice_get_within (x ∷ []) (suc k) y found))
get_pushed (w ∷ xs) x y zero found = inl (omega arith, found)
get_pushed (w ∷ xs) x y (suc k) found =
    ⊎_elim (λ was. inl (omega (arith, was.0), was.1)) (λ now. inr (ap suc now.0, now.1)) (get_pushed xs x y k found)

-- slices that were handed over, with one more
pub handed_more : (cells : List Named) (xs : List FrameSlice) (ts : List (Option Token)) (cell : Named) (x : FrameSlice) (t : Option Token)
    → slice_get cells (length xs) ≡ Some cell → ShowsSlice cell.id x t → AreHanded cells xs ts
    → AreHanded cells (xs ++ (x ∷ [])) (ts ++ (t ∷ []))
handed_more cells xs ts cell x t there shows handed = record {
  count = omega (arith, length-append ts (t ∷ []), length-append xs (x ∷ []), handed.count);
  each = λ k c s u at slice token. ⊎_elim
      (λ (was : (k < length xs) × (slice_get xs k ≡ Some s)). ⊎_elim
      (λ (before : (k < length ts) × (slice_get ts k ≡ Some u)). handed.each k c s u at was.1 before.1)
      (λ (last : (k ≡ length ts) × (t ≡ u)). absurd (omega (arith, was.0, last.0, handed.count)))
      (get_pushed ts t u k token))
      (λ (now : (k ≡ length xs) × (x ≡ s)). ⊎_elim
      (λ (before : (k < length ts) × (slice_get ts k ≡ Some u)). absurd (omega (arith, now.0, before.0, handed.count)))
      (λ (last : (k ≡ length ts) × (t ≡ u)).
      let same : cell ≡ c = same_Some cell c (sym there ∙ ap (slice_get cells) (sym now.0) ∙ at) in
      subst (λ v. ShowsSlice c.id s v) last.1
      (subst (λ v. ShowsSlice c.id v t) now.1 (subst (λ (n : Named). ShowsSlice n.id x t) same shows)))
      (get_pushed ts t u k token))
      (get_pushed xs x s k slice);
}

-- ---- slices that are others but for their part

-- what is made of two lists that agree, of one more that agrees, and of the same behind
map_at : {X Y : Type 0} (f : X → Y) (xs ys rest : List X) (x y : X) → map f ys ≡ map f xs → f y ≡ f x
    → map f (ys ++ (y ∷ rest)) ≡ map f (xs ++ (x ∷ rest))
map_at f xs ys rest x y before here = map-append f ys (y ∷ rest) ∙ ap₂ (λ l b. l ++ (b ∷ map f rest)) before here
    ∙ sym (map-append f xs (x ∷ rest))

module _ (part : Option ℕ) where
  -- a slice is another but for its part
  pub record IsBut (x y : FrameSlice) : Type 0 where
    pub others : (plane : ℕ) → plane < 4 → IsOther part plane → plane_of plane y ≡ plane_of plane x
    pub behind : behind_of y ≡ behind_of x
    pub place : y.place ≡ x.place

  -- slices so far and one more, where the others are the same
  pub but_at : (xs ys rest : List FrameSlice) (x y : FrameSlice) → AreBut part xs ys → IsBut x y
      → AreBut part (xs ++ (x ∷ rest)) (ys ++ (y ∷ rest))
  but_at xs ys rest x y before here = record {
    others = λ q used other. map_at (plane_of q) xs ys rest x y (before.others q used other) (here.others q used other);
    behind = map_at behind_of xs ys rest x y before.behind here.behind;
    places = map_at place_of xs ys rest x y before.places here.place;
  }

  -- the part of slices with one more
  pub part_more : (xs : List FrameSlice) (x : FrameSlice) → part_in part (xs ++ (x ∷ [])) ≡ part_in part xs ++ part_of part x
  part_more xs x = chain-append (part_of part) xs (x ∷ []) ∙ ap (λ l. part_in part xs ++ l) (append-nil (part_of part x))

-- ---- a read that stopped at a slice

-- where the end of the input was met, not all was read
stopped : (none : Bool) (n : ℕ) (fact : Type 0) → IfWhole (Ok (if none then End else Short n)) fact
stopped true n fact = tt
stopped false n fact = tt

module _ (part : Option ℕ) (a b c : Shown) (slices yielded left done rest : List FrameSlice) (x y : FrameSlice) (cells : List Named)
    (tokens : List (Option Token)) (whole : slices ≡ yielded ++ left) (step : left ≡ x ∷ rest) (but : AreBut part yielded done)
    (one : IsBut part x y) (taken : Takes a b (part_in part done)) (quiet : HasNoFault a b) where
  -- the slices read, that one, and those behind it
  abbrev every : List FrameSlice
  every = done ++ (y ∷ rest)

  -- they are the slices given, but for their part
  but_all : AreBut part slices every
  but_all = subst (λ l. AreBut part l every) (sym (whole ∙ ap (λ xs. yielded ++ xs) step)) (but_at part yielded done rest x y but one)

  -- their part: of those read, of that one, and of those behind it
  parts : part_in part every ≡ part_in part done ++ (part_of part y ++ part_in part rest)
  parts = chain-append (part_of part) done (y ∷ rest)

  -- at that one the end of the input was met
  pub feeds_end : (n : ℕ) (got : Got) → n ≡ length (part_in part done) → got ≡ got_behind n End → Reads b c (Ok End) (part_of part y)
      → Feeds part a c (Ok got) slices cells tokens
  feeds_end n got filled is now = record {
    all = every;
    read = end_at a b c (part_in part done) (part_of part y) (part_in part rest) (part_in part every) n got parts filled is taken quiet now;
    but = but_all;
    handed = subst (λ g. IfWhole (Ok g) (AreHanded cells every tokens)) (sym is) (stopped (nat_eq n 0) n (AreHanded cells every tokens));
  }

  -- its read was short
  pub feeds_short : (n m : ℕ) → n ≡ length (part_in part done) → Reads b c (Ok (Short m)) (part_of part y)
      → Feeds part a c (Ok (Short (n + m))) slices cells tokens
  feeds_short n m filled now = record {
    all = every;
    read = short_at a b c (part_in part done) (part_of part y) (part_in part rest) (part_in part every) n m parts filled taken quiet now;
    but = but_all;
    handed = tt;
  }

  -- its read failed
  pub feeds_failed : (e : Failed) → Reads b c (Err e) (part_of part y) → Feeds part a c (Err e) slices cells tokens
  feeds_failed e now = record {
    all = every;
    read = failed_at a b c (part_in part done) (part_of part y) (part_in part rest) (part_in part every) e parts taken quiet now;
    but = but_all;
    handed = tt;
  }
