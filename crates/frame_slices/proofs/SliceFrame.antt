-- Slices put together are a frame whose slices they are, and their target rows make its target frame.
use Rattle.std.proofs.Common.{◌≡◌, false, ℕ, zero, suc, ◌+◌, ◌-◌, ◌*◌, ◌<◌, ◌≤◌, List, [], ◌∷◌, ◌++◌, length, map, get_or, take, drop}
use Rattle.std.proofs.Common.{length-append, refl, sym, ◌∙◌, ap, ap₂, subst, arith, append-nil, if◌then◌else◌}
use Rattle.std.specs.Prelude.{sum}
use Rattle.std.proofs.Math.Seq.{take-add}
use Rattle.std.proofs.lemmas.List.{nil_from_length, length-map, append_assoc, drop-drop, drop_at, take_at, length-drop, take-append-drop}
use Rattle.pix_desc.specs.declared.desc.Desc.{Desc}
use Rattle.pix_desc.specs.Frame.{row_length, plane_length, plane_start, row_start, frame_length}
use Rattle.pix_meaning.specs.declared.pair.Pair.{Pair}
use Rattle.pix_meaning.specs.Pairs.{IsValidPair}
use Rattle.pix_meaning.specs.Target.{target_rows, target_frame}
use Rattle.row_plan.specs.Slices.{RowSlice, plane_rows, planes_before, behind_planes, slice_of, slices_of, joined, joined_plane}
use Rattle.row_plan.specs.Slices.{joined_planes, behind_first, targets_of}
use Rattle.row_plan.proofs.SliceTargets.{targets_make_frame}
use Rattle.frame_slices.specs.declared.frame_slice.Place.{Place}
use Rattle.frame_slices.specs.declared.frame_slice.FrameSlice.{FrameSlice}
use Rattle.frame_slices.specs.FrameSlices.{place_of, rows_of, input_of, output_of, output_bytes, target_of, places_from, plane_of, plane_in}
use Rattle.frame_slices.specs.FrameSlices.{planes_in, behind_of, behind_in, source_in, target_in, target_plane_in, target_planes_in}
use Rattle.frame_slices.proofs.PlaneParts.{plane_cut}
use Rattle.frame_slices.proofs.SlicePlanes.{first_place, other_places, input_length, length-plane_of, length-planes_in, planes_from}
use Rattle.frame_slices.proofs.SlicePlanes.{planes_around, joined_is}

-- ---- a slice is its planes and what stands behind them

own_planes : (desc : Desc) (width rows p : ℕ) (bytes : List ℕ) → planes_before desc width rows bytes 0 rows p
    ≡ take (plane_start desc width rows p) bytes
own_planes desc width rows zero bytes = refl
own_planes desc width rows (suc p) bytes =
    ap (λ l. l ++ plane_rows desc width rows bytes 0 rows p) (own_planes desc width rows p bytes)
    ∙ ap (λ l. take (plane_start desc width rows p) bytes ++ l) (plane_cut desc width rows p bytes)
    ∙ sym (take-add (plane_start desc width rows p) (plane_length desc width rows p) bytes)

own_bytes : (desc : Desc) (width rows : ℕ) (bytes : List ℕ) → planes_before desc width rows bytes 0 rows 4
    ++ behind_planes desc width rows bytes ≡ bytes
own_bytes desc width rows bytes =
    ap (λ l. l ++ behind_planes desc width rows bytes) (own_planes desc width rows 4 bytes)
    ∙ take-append-drop (plane_start desc width rows 4) bytes

-- ---- a frame in which the slices lie from a row on

-- in each plane the rows of the slices stand at that row
abbrev Lie : Desc → ℕ → ℕ → List ℕ → ℕ → List FrameSlice → (ℕ → List ℕ) → Type 0
Lie source width height frame first slices rest = (p : ℕ) → p < 4 → drop (row_start source width height p first) frame ≡ plane_in p slices
    ++ rest p

module _ (source target : Desc) (width height : ℕ) (frame behind : List ℕ) where
  -- the rows of a plane of the first slice
  first_plane : (first p : ℕ) (slice : FrameSlice) (slices : List FrameSlice) (rest : ℕ → List ℕ) → p < 4
      → map place_of (slice ∷ slices) ≡ places_from source target width first (map rows_of (slice ∷ slices))
      → Lie source width height frame first (slice ∷ slices) rest
      → plane_rows source width height frame first slice.place.rows p
      ≡ plane_rows source width slice.place.rows slice.input.items 0 slice.place.rows p
  first_plane first p slice slices rest used places lie =
      let here = first_place source target width first slice slices places in
      let size : length (plane_of p slice) ≡ plane_length source width slice.place.rows p =
      length-plane_of slice p used ∙ ap (λ (place : Place). plane_length place.source place.width slice.place.rows p) here in
      ap (take (plane_length source width slice.place.rows p)) (lie p used ∙ append_assoc (plane_of p slice) (plane_in p slices) (rest p))
      ∙ take_at (plane_of p slice) (plane_in p slices ++ rest p) (plane_length source width slice.place.rows p) size
      ∙ ap (λ (place : Place). plane_rows place.source place.width slice.place.rows slice.input.items 0 slice.place.rows p) here

  -- so those before one too
  first_planes : (first p : ℕ) (slice : FrameSlice) (slices : List FrameSlice) (rest : ℕ → List ℕ) → p ≤ 4
      → map place_of (slice ∷ slices) ≡ places_from source target width first (map rows_of (slice ∷ slices))
      → Lie source width height frame first (slice ∷ slices) rest
      → planes_before source width height frame first slice.place.rows p
      ≡ planes_before source width slice.place.rows slice.input.items 0 slice.place.rows p
  first_planes first zero slice slices rest used places lie = refl
  first_planes first (suc p) slice slices rest used places lie =
      ap₂ ◌++◌ (first_planes first p slice slices rest (omega arith) places lie)
      (first_plane first p slice slices rest (omega arith) places lie)

  -- the other slices lie behind the first
  lie_behind : (first : ℕ) (slice : FrameSlice) (slices : List FrameSlice) (rest : ℕ → List ℕ)
      → map place_of (slice ∷ slices) ≡ places_from source target width first (map rows_of (slice ∷ slices))
      → Lie source width height frame first (slice ∷ slices) rest → Lie source width height frame (first + slice.place.rows) slices rest
  unfolding row_start
  lie_behind first slice slices rest places lie = λ p used.
      let here = first_place source target width first slice slices places in
      let size : length (plane_of p slice) ≡ plane_length source width slice.place.rows p =
      length-plane_of slice p used ∙ ap (λ (place : Place). plane_length place.source place.width slice.place.rows p) here in
      ap (λ n. drop n frame) {x = row_start source width height p (first + slice.place.rows)} {y =
      row_start source width height p first + plane_length source width slice.place.rows p} (omega arith)
      ∙ sym (drop-drop (plane_length source width slice.place.rows p) (row_start source width height p first) frame)
      ∙ ap (drop (plane_length source width slice.place.rows p)) (lie p used ∙ append_assoc (plane_of p slice) (plane_in p slices) (rest p))
      ∙ drop_at (plane_of p slice) (plane_in p slices ++ rest p) (plane_length source width slice.place.rows p) size

  slices_from : (first : ℕ) (slices : List FrameSlice) (rest : ℕ → List ℕ) → behind_planes source width height frame ≡ behind
      → map place_of slices ≡ places_from source target width first (map rows_of slices) → map behind_of slices ≡ map (λ _. behind) slices
      → Lie source width height frame first slices rest → slices_of source width height frame first (map rows_of slices)
      ≡ map input_of slices
  unfolding slice_of
  slices_from first [] rest ends places behinds lie = refl
  slices_from first (slice ∷ slices) rest ends places behinds lie =
      let rows = slice.place.rows in
      let here = first_place source target width first slice slices places in
      let own : behind_planes source width rows slice.input.items ≡ behind =
      sym (ap (λ (place : Place). behind_planes place.source place.width rows slice.input.items) here) ∙ ap (λ l. get_or l 0 []) behinds in
      let bytes : slice_of source width height frame first rows ≡ slice.input.items =
      ap₂ ◌++◌ (first_planes first 4 slice slices rest (omega arith) places lie) (ends ∙ sym own)
      ∙ own_bytes source width rows slice.input.items in
      ap₂ (λ (l : List ℕ) (others : List RowSlice). let made : RowSlice = record { rows = rows; bytes = l } in made ∷ others) bytes
      (slices_from (first + rows) slices rest ends (other_places source target width first slice slices places) (ap (drop 1) behinds)
      (lie_behind first slice slices rest places lie))

-- ---- slices put together

module _ (source target : Desc) (width height : ℕ) (slices : List FrameSlice) where
  -- what is so of slices that are a frame
  pub record MakeFrame : Type 0 where
    pub places : map place_of slices ≡ places_from source target width 0 (map rows_of slices)
    pub covers : sum (map rows_of slices) ≡ height
    pub behinds : map behind_of slices ≡ map (λ _. behind_in slices) slices
    pub some : 0 < length slices

  starts : MakeFrame → (p : ℕ) → p ≤ 4 → length (planes_in p slices) ≡ plane_start source width height p
  starts made p used = length-planes_in source target width p slices used made.places ∙ ap (λ n. plane_start source width n p) made.covers

  behind_there : MakeFrame → behind_planes source width height (joined source width (map input_of slices)) ≡ behind_in slices
  behind_there made =
      ap (behind_planes source width height) (joined_is source target width slices made.places)
      ∙ drop_at (planes_in 4 slices) (behind_in slices) (plane_start source width height 4) (starts made 4 (omega arith))

  all_lie : MakeFrame → Lie source width height (joined source width (map input_of slices)) 0 slices
      (λ p. planes_from (suc p) (3 - p) slices ++ behind_in slices)
  unfolding row_start
  all_lie made = λ p used.
      let frame = joined source width (map input_of slices) in
      let later = planes_from (suc p) (3 - p) slices in
      ap (λ n. drop n frame) {x = plane_start source width height p + 0 * row_length source width p} {y =
      plane_start source width height p} (omega arith)
      ∙ ap (drop (plane_start source width height p))
      (joined_is source target width slices made.places
      ∙ ap (λ l. l ++ behind_in slices) (planes_around p slices used)
      ∙ append_assoc (planes_in p slices) (plane_in p slices ++ later) (behind_in slices))
      ∙ drop_at (planes_in p slices) ((plane_in p slices ++ later) ++ behind_in slices) (plane_start source width height p)
      (starts made p (omega arith))
      ∙ append_assoc (plane_in p slices) later (behind_in slices)

  -- they are the slices of the frame that they make
  pub slices_are_its : MakeFrame → slices_of source width height (joined source width (map input_of slices)) 0 (map rows_of slices)
      ≡ map input_of slices
  slices_are_its made =
      slices_from source target width height (joined source width (map input_of slices)) (behind_in slices) 0 slices
      (λ p. planes_from (suc p) (3 - p) slices ++ behind_in slices)
      (behind_there made) made.places made.behinds (all_lie made)

-- a palette, or nothing
pub behind_size : (source target : Desc) (width first : ℕ) (slice : FrameSlice) (slices : List FrameSlice)
    → map place_of (slice ∷ slices) ≡ places_from source target width first (map rows_of (slice ∷ slices))
    → length (behind_of slice) ≡ (if source.palette then 1024 else 0)
unfolding frame_length
behind_size source target width first slice slices places =
    let place = slice.place in
    let start = plane_start place.source place.width place.rows 4 in
    let size : length slice.input.items ≡ start + (if place.source.palette then 1024 else 0) = input_length slice in
    let long : length (behind_of slice) ≡ (if place.source.palette then 1024 else 0) =
    omega (arith, length-drop start slice.input.items, size) in
    long ∙ ap (λ (other : Place). if other.source.palette then 1024 else 0) (first_place source target width first slice slices places)

pub length-joined : (source target : Desc) (width height : ℕ) (slices : List FrameSlice) → MakeFrame source target width height slices
    → length (joined source width (map input_of slices)) ≡ frame_length source width height
unfolding frame_length
length-joined source target width height [] made = absurd (omega (arith, made.some))
length-joined source target width height (slice ∷ slices) made =
    let all = slice ∷ slices in
    ap length (joined_is source target width all made.places)
    ∙ omega (
      arith,
      length-append (planes_in 4 all) (behind_of slice),
      starts source target width height all made 4 (omega arith),
      behind_size source target width 0 slice slices made.places,
    )

-- ---- converted

-- the target rows of slices are those of their sources
targets_from : (pair : Pair) (source target : Desc) (width first : ℕ) (old new : List FrameSlice)
    → map place_of old ≡ places_from source target width first (map rows_of old)
    → map place_of new ≡ map place_of old → map output_bytes new ≡ map (target_of pair) old
    → map output_of new ≡ targets_of pair width first (map input_of old)
targets_from pair source target width first [] [] places same outputs = refl
targets_from pair source target width first [] (x ∷ new) places same outputs = absurd (omega (arith, ap length same))
targets_from pair source target width first (x ∷ old) [] places same outputs = absurd (omega (arith, ap length same))
targets_from pair source target width first (x ∷ old) (y ∷ new) places same outputs =
    let place = first_place source target width first x old places in
    let rows : y.place.rows ≡ x.place.rows = ap (λ l. (get_or l 0 x.place).rows) same in
    let bytes : y.output.items ≡ target_rows pair width x.place.rows first x.input.items =
    ap (λ l. get_or l 0 []) outputs ∙ ap (λ (p : Place). target_rows pair p.width x.place.rows p.first x.input.items) place in
    let row = λ (n : ℕ) (l : List ℕ). let made : RowSlice = record { rows = n; bytes = l } in made in
    ap₂ (λ (s : RowSlice) (others : List RowSlice). s ∷ others)
    (ap₂ row rows bytes)
    (targets_from pair source target width (first + x.place.rows) old new (other_places source target width first x old places)
    (ap (drop 1) same) (ap (drop 1) outputs))

pub targets_are_its : (pair : Pair) (width height : ℕ) (old new : List FrameSlice) → IsValidPair pair → pair.to.desc.palette ≡ false
    → MakeFrame pair.from.desc pair.to.desc width height old → map place_of new ≡ map place_of old → map output_bytes new
    ≡ map (target_of pair) old
    → joined pair.to.desc width (map output_of new) ≡ target_frame pair width height (joined pair.from.desc width (map input_of old))
targets_are_its pair width height old new valid plain made same outputs =
    let source = pair.from.desc in
    let target = pair.to.desc in
    let frame = joined source width (map input_of old) in
    ap (joined target width)
    (targets_from pair source target width 0 old new made.places same outputs
    ∙ ap (targets_of pair width 0) (sym (slices_are_its source target width height old made)))
    ∙ targets_make_frame pair width height frame (map rows_of old) valid plain (length-joined source target width height old made)
    (subst (λ n. 0 < n) (sym (length-map old rows_of)) made.some) made.covers

-- ---- as a frame's own words say it

-- nothing stands behind the planes where there is no palette
pub nothing_behind : (source target : Desc) (width : ℕ) (slices : List FrameSlice) → map place_of slices
    ≡ places_from source target width 0 (map rows_of slices)
    → source.palette ≡ false → behind_in slices ≡ []
nothing_behind source target width [] places none = refl
nothing_behind source target width (slice ∷ slices) places none =
    nil_from_length (behind_of slice) (behind_size source target width 0 slice slices places ∙ ap (λ b. if b then 1024 else 0) none)

pub source_is : (whole : Place) (slices : List FrameSlice) → map place_of slices
    ≡ places_from whole.source whole.target whole.width 0 (map rows_of slices)
    → source_in whole slices ≡ planes_in 4 slices ++ behind_in slices
unfolding source_in
source_is whole slices places = joined_is whole.source whole.target whole.width slices places

pub target_is : (pair : Pair) (whole : Place) (old new : List FrameSlice) → IsValidPair pair → pair.to.desc.palette ≡ false
    → pair.from.desc ≡ whole.source → pair.to.desc ≡ whole.target → MakeFrame whole.source whole.target whole.width whole.rows old
    → map place_of new ≡ map place_of old → map output_bytes new ≡ map (target_of pair) old
    → target_in whole new ≡ target_frame pair whole.width whole.rows (source_in whole old)
unfolding source_in target_in
target_is pair whole old new valid plain from to made same outputs =
    let made_to : MakeFrame whole.source pair.to.desc whole.width whole.rows old =
    subst (λ desc. MakeFrame whole.source desc whole.width whole.rows old) (sym to) made in
    let made_both : MakeFrame pair.from.desc pair.to.desc whole.width whole.rows old =
    subst (λ desc. MakeFrame desc pair.to.desc whole.width whole.rows old) (sym from) made_to in
    ap (λ desc. joined desc whole.width (map output_of new)) (sym to)
    ∙ targets_are_its pair whole.width whole.rows old new valid plain made_both same outputs
    ∙ ap (λ desc. target_frame pair whole.width whole.rows (joined desc whole.width (map input_of old))) from

-- ---- the target frame is its planes

output_length : (slice : FrameSlice) → length slice.output.items ≡ frame_length slice.place.target slice.place.width slice.place.rows
output_length slice =
    let is : slice.output.len ≡ frame_length slice.place.target slice.place.width slice.place.rows = slice.output_size in
    sym slice.output.ok.0 ∙ is

target_plane_is : (source target : Desc) (width first p : ℕ) (slices : List FrameSlice)
    → map place_of slices ≡ places_from source target width first (map rows_of slices)
    → joined_plane target width (map output_of slices) p ≡ target_plane_in p slices
target_plane_is source target width first p [] places = refl
target_plane_is source target width first p (slice ∷ slices) places =
    ap₂ ◌++◌
    (sym (ap (λ (place : Place). plane_rows place.target place.width slice.place.rows slice.output.items 0 slice.place.rows p)
    (first_place source target width first slice slices places)))
    (target_plane_is source target width (first + slice.place.rows) p slices (other_places source target width first slice slices places))

target_planes_join : (source target : Desc) (width p : ℕ) (slices : List FrameSlice)
    → map place_of slices ≡ places_from source target width 0 (map rows_of slices)
    → joined_planes target width (map output_of slices) p ≡ target_planes_in p slices
target_planes_join source target width zero slices places = refl
target_planes_join source target width (suc p) slices places =
    ap₂ ◌++◌ (target_planes_join source target width p slices places) (target_plane_is source target width 0 p slices places)

-- nothing stands behind the planes of the target
target_behind : (source target : Desc) (width : ℕ) (slices : List FrameSlice) → map place_of slices
    ≡ places_from source target width 0 (map rows_of slices)
    → target.palette ≡ false → behind_first target width (map output_of slices) ≡ []
unfolding frame_length
target_behind source target width [] places none = refl
target_behind source target width (slice ∷ slices) places none =
    let rows = slice.place.rows in
    let bytes = slice.output.items in
    let start = plane_start target width rows 4 in
    let size : length bytes ≡ start + (if target.palette then 1024 else 0) =
    output_length slice ∙ ap (λ (place : Place). frame_length place.target place.width rows)
    (first_place source target width 0 slice slices places) in
    let none_there : length bytes ≡ start + 0 = size ∙ ap (λ b. start + (if b then 1024 else 0)) none in
    nil_from_length (drop start bytes) (omega (arith, length-drop start bytes, none_there))

pub target_planes_are : (whole : Place) (slices : List FrameSlice) → map place_of slices
    ≡ places_from whole.source whole.target whole.width 0 (map rows_of slices)
    → whole.target.palette ≡ false → target_in whole slices ≡ target_planes_in 4 slices
unfolding target_in joined
target_planes_are whole slices places none =
    ap₂ ◌++◌ (target_planes_join whole.source whole.target whole.width 4 slices places)
    (target_behind whole.source whole.target whole.width slices places none)
    ∙ append-nil (target_planes_in 4 slices)
