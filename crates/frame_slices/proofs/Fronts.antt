-- The front of a frame, which is read before its slices are converted, and the part that is read meanwhile.
use Rattle.std.proofs.Common.{◌≡◌, false, ℕ, zero, suc, ◌+◌, ◌-◌, ◌<◌, ◌≤◌, List, [], ◌∷◌, ◌++◌, length, map, get_or, drop, Option, None, Some}
use Rattle.std.proofs.Common.{Result, Ok, Err}
use Rattle.std.proofs.Common.{length-append, append-nil, refl, sym, ◌∙◌, ap, ap₂, subst, arith, if◌then◌else◌}
use Rattle.std.specs.Prelude.{sum, All}
use Rattle.std.proofs.lemmas.List.{nil_from_length}
use Rattle.pix_desc.specs.declared.desc.Desc.{Desc}
use Rattle.pix_desc.specs.Frame.{plane_length, plane_start, frame_length}
use Rattle.pix_io.specs.declared.stream.Failed.{Failed}
use Rattle.pix_io.specs.declared.transfer.Got.{Got}
use Rattle.pix_io.specs.declared.transfer.Got.TheVariants.{Whole, End, Short}
use Rattle.frame_slices.specs.declared.frame_slice.Place.{Place}
use Rattle.frame_slices.specs.declared.frame_slice.FrameSlice.{FrameSlice}
use Rattle.frame_slices.specs.FrameSlices.{place_of, rows_of, places_from, plane_of, plane_in, planes_in, behind_of, behind_in, source_in}
use Rattle.frame_slices.specs.FrameSlices.{HaveOnePalette}
use Rattle.frame_slices.specs.Handing.{part_in, front_in, AreOfFrame, AreBut, IsPart, IfWhole}
use Rattle.frame_slices.proofs.SlicePlanes.{length-plane_of, length-planes_in, planes_from, planes_until, planes_kept, all_planes_kept}
use Rattle.frame_slices.proofs.SlicePlanes.{same_places, same_rows, same_length, other_places}
use Rattle.frame_slices.proofs.SliceFrame.{behind_size, nothing_behind, source_is}

-- ---- the frame

-- it has its number of bytes, whatever stands behind the planes of its slices
pub length_of_source : (whole : Place) (slices : List FrameSlice) → AreOfFrame whole slices → length (source_in whole slices)
    ≡ frame_length whole.source whole.width whole.rows
unfolding frame_length
length_of_source whole [] of = absurd (omega (arith, of.some))
length_of_source whole (slice ∷ slices) of =
    let all = slice ∷ slices in
    let size : length (planes_in 4 all) ≡ plane_start whole.source whole.width whole.rows 4 =
    length-planes_in whole.source whole.target whole.width 4 all (omega arith) of.places
    ∙ ap (λ n. plane_start whole.source whole.width n 4) of.covers in
    ap length (source_is whole all of.places)
    ∙ omega (
      arith,
      length-append (planes_in 4 all) (behind_of slice),
      size,
      behind_size whole.source whole.target whole.width 0 slice slices of.places,
    )

-- slices with the same places are of the same frame
pub of_same_frame : (whole : Place) (old new : List FrameSlice) → map place_of new ≡ map place_of old → AreOfFrame whole old
    → AreOfFrame whole new
of_same_frame whole old new same of =
    record {
      some = subst (λ n. 0 < n) (sym (same_length new old same)) of.some;
      places = same_places whole.source whole.target whole.width 0 new old same of.places;
      covers = ap sum (same_rows new old same) ∙ of.covers;
    }

-- without a palette nothing stands behind the planes of any slice
none_behind : (source target : Desc) (width first : ℕ) (slices : List FrameSlice) → map place_of slices
    ≡ places_from source target width first (map rows_of slices)
    → source.palette ≡ false → map behind_of slices ≡ map (λ _. []) slices
none_behind source target width first [] places none = refl
none_behind source target width first (slice ∷ slices) places none =
    ap₂ ◌∷◌
    (nil_from_length (behind_of slice)
    (behind_size source target width first slice slices places ∙ ap (λ b. if b then 1024 else 0) none))
    (none_behind source target width (first + slice.place.rows) slices (other_places source target width first slice slices places) none)

pub no_palettes : (source target : Desc) (width : ℕ) (slices : List FrameSlice) → map place_of slices
    ≡ places_from source target width 0 (map rows_of slices)
    → source.palette ≡ false → HaveOnePalette slices
no_palettes source target width slices places none =
    none_behind source target width 0 slices places none
    ∙ ap (λ bytes. map (λ _. bytes) slices) (sym (nothing_behind source target width slices places none))

-- ---- the last plane

-- a plane without rows has none in slices with the same places
bare_plane : (q : ℕ) (old new : List FrameSlice) → q < 4 → map place_of new ≡ map place_of old
    → All (λ slice. length (plane_of q slice) ≡ 0) old → plane_in q new ≡ []
bare_plane q [] [] used same bare = refl
bare_plane q [] (y ∷ new) used same bare = absurd (omega (arith, ap length same))
bare_plane q (x ∷ old) [] used same bare = absurd (omega (arith, ap length same))
bare_plane q (x ∷ old) (y ∷ new) used same bare =
    let here : y.place ≡ x.place = ap (λ l. get_or l 0 x.place) same in
    let size : length (plane_of q y) ≡ 0 =
    length-plane_of y q used ∙ ap (λ (place : Place). plane_length place.source place.width place.rows q) here
    ∙ sym (length-plane_of x q used) ∙ bare 0 x (omega arith) in
    ap₂ ◌++◌ (nil_from_length (plane_of q y) size) (bare_plane q old new used (ap (drop 1) same) (λ k d within. bare (suc k) d (omega (arith, within))))

-- nor have those from one on
bare_planes : (p k : ℕ) (slices : List FrameSlice) → ((q : ℕ) → p ≤ q → q < p + k → plane_in q slices ≡ []) → planes_from p k slices ≡ []
bare_planes p zero slices bare = refl
bare_planes p (suc k) slices bare =
    ap₂ ◌++◌ (bare_planes p k slices (λ q from below. bare q from (omega (arith, below)))) (bare (p + k) (omega arith) (omega arith))

-- where nothing stands behind it the frame is its front and that plane
pub splits_at : (whole : Place) (p : ℕ) (old new : List FrameSlice) → p < 4 → whole.source.palette ≡ false
    → map place_of old ≡ places_from whole.source whole.target whole.width 0 (map rows_of old) → map place_of new ≡ map place_of old
    → ((q : ℕ) → p < q → q < 4 → All (λ slice. length (plane_of q slice) ≡ 0) old)
    → source_in whole new ≡ planes_in p new ++ plane_in p new
splits_at whole p old new used none places same bare =
    let placed = same_places whole.source whole.target whole.width 0 new old same places in
    let rest : planes_from (suc p) (4 - suc p) new ≡ [] =
    bare_planes (suc p) (4 - suc p) new
    (λ q from below. bare_plane q old new (omega (arith, below, used)) same (bare q (omega (arith, from)) (omega (arith, below, used)))) in
    source_is whole new placed
    ∙ ap (λ l. planes_in 4 new ++ l) (nothing_behind whole.source whole.target whole.width new placed none)
    ∙ append-nil (planes_in 4 new)
    ∙ planes_until 4 p new used
    ∙ ap (λ l. planes_in p new ++ (plane_in p new ++ l)) rest
    ∙ ap (λ l. planes_in p new ++ l) (append-nil (plane_in p new))

-- ---- the front

-- what stands behind the planes of the first slice
behind_at : (slices : List FrameSlice) → behind_in slices ≡ get_or (map behind_of slices) 0 []
behind_at [] = refl
behind_at (slice ∷ slices) = refl

-- it stays where slices change in their part alone
pub front_kept : (whole : Place) (part : Option ℕ) (old new : List FrameSlice) → IsPart part
    → map place_of old ≡ places_from whole.source whole.target whole.width 0 (map rows_of old) → AreBut part old new
    → front_in whole part new ≡ front_in whole part old
front_kept whole (Some p) old new is places but = planes_kept p p new old but.others is (omega arith)
front_kept whole None old new is places but =
    source_is whole new (same_places whole.source whole.target whole.width 0 new old but.places places)
    ∙ ap₂ ◌++◌ (all_planes_kept 4 new old (λ q used. but.others q used tt) (omega arith))
    (behind_at new ∙ ap (λ l. get_or l 0 []) but.behind ∙ sym (behind_at old))
    ∙ sym (source_is whole old places)

-- its number of bytes
pub length-front : (whole : Place) (p : ℕ) (slices : List FrameSlice) → p ≤ 4 → AreOfFrame whole slices → length (planes_in p slices)
    ≡ plane_start whole.source whole.width whole.rows p
length-front whole p slices used of =
    length-planes_in whole.source whole.target whole.width p slices used of.places
    ∙ ap (λ n. plane_start whole.source whole.width n p) of.covers

-- where all was read in the front, no part is left
pub nothing_left : (slices : List FrameSlice) → part_in None slices ≡ []
nothing_left [] = refl
nothing_left (slice ∷ slices) = nothing_left slices

-- what holds of the slices holds where the read was whole
pub if_whole : (result : Result Got Failed) (fact : Type 0) → fact → IfWhole result fact
if_whole (Ok Whole) fact holds = holds
if_whole (Ok End) fact holds = tt
if_whole (Ok (Short n)) fact holds = tt
if_whole (Err e) fact holds = tt
