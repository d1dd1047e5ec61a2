-- What the jobs of a closed board made are the target rows of the slices that were handed over.
use Rattle.std.proofs.Common.{◌≡◌, ◌⊎◌, ℕ, zero, suc, ◌+◌, ◌<◌, List, [], ◌∷◌, ◌++◌, Some, None, Option, length, map, get_or, refl, sym, ◌∙◌, ap, ap₂, arith, subst, inl, inr, ⊎_elim}
use Rattle.std.specs.Prelude.{slice_get, slice_index_or, option_map, IfSome}
use Rattle.std.proofs.lemmas.Option.{same_Some, slice_get_within, slice_get_cases, slice_get-map, get_or_from_slice_get}
use Rattle.std.proofs.lemmas.List.{length_push}
use Rattle.std.specs.Sync.OnceLock.{Named}
use Rattle.slice_claim.specs.Board.{origins_of, AreNumbered, AllDone}
use Rattle.slice_claim.specs.declared.board.Board.{Board}
use Rattle.pix_meaning.specs.declared.pair.Pair.{Pair}
use Rattle.pix_meaning.specs.Target.{target_rows}
use Rattle.row_plan.specs.Jobs.{pair_before}
use Rattle.row_plan.proofs.JobOrigins.{HasFourEntries, same_pair}
use Rattle.frame_slices.specs.declared.frame_slice.FrameSlice.{FrameSlice}
use Rattle.frame_slices.specs.declared.handed.Handed.{Handed}
use Rattle.frame_slices.specs.declared.handed.TargetRows.{TargetRows}
use Rattle.frame_slices.specs.declared.awaited.AwaitedSlice.{AwaitedSlice}
use Rattle.frame_slices.specs.FrameSlices.{place_of, target_of}
use Rattle.frame_slices.specs.Awaited.{awaited_number, awaited_origin, IsConvertedSlice, IsMadeFrom, AreTargetRows}
use Rattle.frame_slices.specs.Handing.{Token, HoldsSlice, ShowsSlice, AreHanded}
use Rattle.frame_slices.specs.Gathering.{AreOfSameCells, AreGathered, IsGathered, place_made, bytes_made}

-- ---- numbers

-- the jobs of a list have the numbers from `first` on
abbrev NumberedFrom : ℕ → List AwaitedSlice → Type 0
NumberedFrom first jobs = (k : ℕ) (job : AwaitedSlice) → slice_get jobs k ≡ Some job → job.number ≡ first + k

one_more : (first : ℕ) (xs : List AwaitedSlice) (y : AwaitedSlice) → NumberedFrom first xs → y.number ≡ first + length xs
    → NumberedFrom first (xs ++ (y ∷ []))
one_more first [] y all named zero job found = ap (λ (j : AwaitedSlice). j.number) (sym (same_Some _ _ found)) ∙ named
one_more first [] y all named (suc k) job found = absurd (omega (arith, slice_get_within (y ∷ []) (suc k) job found))
one_more first (x ∷ xs) y all named zero job found = all zero job found
one_more first (x ∷ xs) y all named (suc k) job found =
    one_more (suc first) xs y (λ n other there. all (suc n) other there ∙ omega arith) (named ∙ omega arith) k job found ∙ omega arith

-- so they are numbered with one more
pub numbered_more : (xs ys : List AwaitedSlice) (y : AwaitedSlice) → ys ≡ xs ++ (y ∷ []) → AreNumbered awaited_number xs
    → y.number ≡ length xs → AreNumbered awaited_number ys
numbered_more xs ys y pushed numbered named = subst (AreNumbered awaited_number) (sym pushed)
    (λ k job found. one_more 0 xs y (λ n other there. numbered n other there ∙ omega arith) (named ∙ omega arith) k job found ∙ omega arith)

-- ---- lists that grow

-- what stands in a list with one more
get_push : {X : Type 0} (xs : List X) (y x : X) (k : ℕ) → slice_get (xs ++ (y ∷ [])) k ≡ Some x
    → (slice_get xs k ≡ Some x) ⊎ ((k ≡ length xs) × (y ≡ x))
get_push [] y x zero found = inr (refl, same_Some y x found)
get_push [] y x (suc k) found = absurd (omega (arith, slice_get_within (y ∷ []) (suc k) x found))
get_push (z ∷ xs) y x zero found = inl found
get_push (z ∷ xs) y x (suc k) found = ⊎_elim (λ was. inl was) (λ it. inr (ap suc it.0, it.1)) (get_push xs y x k found)

pub get_there : {X : Type 0} (xs : List X) (y : X) (ys : List X) → slice_get (xs ++ (y ∷ ys)) (length xs) ≡ Some y
get_there [] y ys = refl
get_there (x ∷ xs) y ys = get_there xs y ys

-- the rows of one job more were gathered
pub gathered_more : (jobs : List AwaitedSlice) (tokens : List (Option Token)) (rows all : List TargetRows) (job : AwaitedSlice)
    (made : TargetRows) → all ≡ rows ++ (made ∷ []) → AreGathered jobs tokens rows → IsGathered job (slice_get tokens (length jobs)) made
    → AreGathered (jobs ++ (job ∷ [])) tokens all
gathered_more jobs tokens rows all job made pushed before now = subst (AreGathered (jobs ++ (job ∷ [])) tokens) (sym pushed) (record {
  count = length_push rows made ∙ omega (arith, before.count) ∙ sym (length_push jobs job);
  each = λ k j m found there.
      ⊎_elim
      (λ was.
      ⊎_elim (λ had. before.each k j m was had) (λ it. absurd (omega (arith, it.0, before.count, slice_get_within jobs k j was)))
      (get_push rows made m k there))
      (λ new.
      ⊎_elim (λ had. absurd (omega (arith, new.0, before.count, slice_get_within rows k m had)))
      (λ it. subst (λ n. IsGathered j (slice_get tokens n) m) (sym new.0)
      (subst (λ (x : TargetRows). IsGathered j (slice_get tokens (length jobs)) x) it.1
      (subst (λ (x : AwaitedSlice). IsGathered x (slice_get tokens (length jobs)) made) new.1 now)))
      (get_push rows made m k there))
      (get_push jobs job j k found);
})

-- ---- what a job made

-- a job of this pair and of the cell of this name
abbrev pub IsJobFor : Pair → ℕ → AwaitedSlice → Type 0
IsJobFor pair name job = pair_before pair (name ∷ []) ≡ awaited_origin job

-- its pair and its cell
of_pair : (pair : Pair) (name : ℕ) (job : AwaitedSlice) → HasFourEntries pair → IsJobFor pair name job → pair ≡ job.plan.now.pair
of_pair pair name job four given = (same_pair pair job.plan.now.pair (name ∷ []) (job.cell.now.id ∷ []) four given).0

of_cell : (pair : Pair) (name : ℕ) (job : AwaitedSlice) → HasFourEntries pair → IsJobFor pair name job → name ≡ job.cell.now.id
of_cell pair name job four given =
    ap (λ (l : List ℕ). get_or l 0 0) (same_pair pair job.plan.now.pair (name ∷ []) (job.cell.now.id ∷ []) four given).1

-- what was made of the slice that a cell holds are its target rows
rows_of_slice : (pair : Pair) (slice : FrameSlice) (held shown : Option Handed) (made : TargetRows) → shown ≡ held → HoldsSlice slice shown
    → AreTargetRows pair held made.place made.bytes.items → (place_made made ≡ place_of slice) × (bytes_made made ≡ target_of pair slice)
rows_of_slice pair slice None None made same holds rows = absurd holds
rows_of_slice pair slice None (Some handed) made same holds rows = absurd rows
rows_of_slice pair slice (Some other) None made same holds rows = absurd holds
rows_of_slice pair slice (Some other) (Some handed) made same holds rows =
    let one : handed ≡ other = same_Some handed other same in
    let place : other.place ≡ slice.place = ap (λ (h : Handed). h.place) (sym one) ∙ holds.0 in
    let input : other.input.items ≡ slice.input.items = ap (λ (h : Handed). h.input.items) (sym one) ∙ holds.1 in (
      rows.0 ∙ place,
      rows.1 ∙ (λ i. target_rows pair (place i).width (place i).rows (place i).first (input i)),
    )

-- the rows gathered from a job whose cell was handed this slice
gathered_rows : (pair : Pair) (name : ℕ) (slice : FrameSlice) (job : AwaitedSlice) (token : Option (Option Token)) (made : TargetRows)
    → HasFourEntries pair → IsJobFor pair name job → IsConvertedSlice job → ((shown : Token) → token ≡ Some (Some shown)
    → ShowsSlice name slice (Some shown)) → IsGathered job token made
    → (place_made made ≡ place_of slice) × (bytes_made made ≡ target_of pair slice)
gathered_rows pair name slice job token made four given done shows it =
    let from : IsMadeFrom job.plan.now.pair job.cell.now.id it.converted =
    subst (λ c. IfSome c (IsMadeFrom job.plan.now.pair job.cell.now.id)) it.made done in
    let rows : AreTargetRows pair it.converted.token.value it.converted.rows.place it.converted.rows.bytes.items =
    subst (λ p. AreTargetRows p it.converted.token.value it.converted.rows.place it.converted.rows.bytes.items)
    (sym (of_pair pair name job four given)) from.1 in
    let its : AreTargetRows pair it.converted.token.value made.place made.bytes.items =
    subst (λ (m : TargetRows). AreTargetRows pair it.converted.token.value m.place m.bytes.items) (sym it.rows_are) rows in
    rows_of_slice pair slice it.converted.token.value it.shown.value made it.same (shows it.shown it.shows).1 its

-- ---- all of them

-- what stands at a place of a list
pub found_at : {X : Type 0} (xs : List X) (k : ℕ) → k < length xs → (x : X) × (slice_get xs k ≡ Some x)
found_at xs k within = ⊎_elim (λ it. (it.0, it.2)) (λ past. absurd (omega (arith, past.0, within))) (slice_get_cases xs k).1

all_made : (pair : Pair) (slices : List FrameSlice) (rows : List TargetRows) → length rows ≡ length slices
    → ((k : ℕ) (slice : FrameSlice) (made : TargetRows) → slice_get slices k ≡ Some slice → slice_get rows k ≡ Some made
    → (place_made made ≡ place_of slice) × (bytes_made made ≡ target_of pair slice))
    → (map place_made rows ≡ map place_of slices) × (map bytes_made rows ≡ map (target_of pair) slices)
all_made pair [] [] long each = (refl, refl)
all_made pair [] (y ∷ ys) long each = absurd (omega (arith, long))
all_made pair (x ∷ xs) [] long each = absurd (omega (arith, long))
all_made pair (x ∷ xs) (y ∷ ys) long each =
    let here = each 0 x y refl refl in
    let behind = all_made pair xs ys (omega (arith, long)) (λ k slice made found there. each (suc k) slice made found there) in
    (ap₂ ◌∷◌ here.0 behind.0, ap₂ ◌∷◌ here.1 behind.1)

-- a board whose jobs are those of cells
module _ (pair : Pair) (cells : List Named) (board : Board AwaitedSlice) (jobs : List AwaitedSlice) (four : HasFourEntries pair)
    (origins : origins_of awaited_origin board ≡ map (λ (cell : Named). pair_before pair (cell.id ∷ [])) cells)
    (closed : AllDone awaited_number awaited_origin IsConvertedSlice board jobs) where
  job_is : (k : ℕ) (job : AwaitedSlice) (cell : Named) → slice_get jobs k ≡ Some job → slice_get cells k ≡ Some cell
      → IsJobFor pair cell.id job
  job_is k job cell found there =
      let name = λ (cell : Named). pair_before pair (cell.id ∷ []) in
      sym ((closed.1 k job found).0.1 ∙ ap (λ (l : List (List ℕ)). slice_index_or l k []) origins
      ∙ get_or_from_slice_get (map name cells) k (name cell) [] (slice_get-map name cells k ∙ ap (option_map name) there))

  -- what the jobs made and what shows the slices are of the same cells
  pub of_same_cells : (slices : List FrameSlice) (tokens : List (Option Token)) → length cells ≡ length slices → AreHanded cells slices tokens
      → AreOfSameCells jobs tokens
  of_same_cells slices tokens long handed k job converted token found made shown =
      let within : k < length slices = omega (arith, handed.count, slice_get_within tokens k (Some token) shown) in
      let slice = found_at slices k within in
      let cell = found_at cells k (omega (arith, long, within)) in
      let it = handed.each k cell.0 slice.0 (Some token) cell.1 slice.1 shown in
      let from : IsMadeFrom job.plan.now.pair job.cell.now.id converted =
      subst (λ c. IfSome c (IsMadeFrom job.plan.now.pair job.cell.now.id)) made (closed.1 k job found).1 in
      it.0 ∙ of_cell pair cell.0.id job four (job_is k job cell.0 found cell.1) ∙ sym from.0

  -- and the rows gathered are those of the slices
  pub gathered_all : (slices : List FrameSlice) (tokens : List (Option Token)) (rows : List TargetRows) → length cells ≡ length slices
      → length jobs ≡ length slices → AreGathered jobs tokens rows → AreHanded cells slices tokens
      → (map place_made rows ≡ map place_of slices) × (map bytes_made rows ≡ map (target_of pair) slices)
  gathered_all slices tokens rows long count gathered handed =
      all_made pair slices rows (gathered.count ∙ count)
      (λ k slice made found there.
      let within = slice_get_within slices k slice found in
      let job = found_at jobs k (omega (arith, count, within)) in
      let cell = found_at cells k (omega (arith, long, within)) in
      gathered_rows pair cell.0.id slice job.0 (slice_get tokens k) made four (job_is k job.0 cell.0 job.1 cell.1) (closed.1 k job.0 job.1).1
      (λ shown shows. handed.each k cell.0 slice (Some shown) cell.1 found shows)
      (gathered.each k job.0 made job.1 there))
