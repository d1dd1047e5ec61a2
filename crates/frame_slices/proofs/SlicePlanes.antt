-- The planes of slices that lie one behind the other: their lengths, and that they are those of the slices put together.
use Rattle.std.proofs.Common.{◌≡◌, ◌≢◌, true, ap₂, ℕ, zero, suc, ◌+◌, ◌-◌, ◌*◌, ◌<◌, ◌≤◌, add-zero, add-suc, List, [], ◌∷◌, ◌++◌, length}
use Rattle.std.proofs.Common.{map, get_or, drop, length-append, refl, sym, ◌∙◌, ap, subst, arith, append-nil}
use Rattle.std.specs.Prelude.{sum, All}
use Rattle.std.specs.List.{concat}
use Rattle.std.proofs.lemmas.List.{append_assoc, length-map}
use Rattle.pix_desc.specs.declared.desc.Desc.{Desc}
use Rattle.pix_desc.specs.Frame.{row_length, plane_length, plane_start, frame_length}
use Rattle.std.proofs.lemmas.List.Sums.{sum_by-cons}
use Rattle.row_plan.specs.Slices.{plane_rows, behind_planes, joined_plane, joined_planes, behind_first, joined}
use Rattle.row_plan.proofs.SlicePlanes.{length-plane_rows, planes_in_frame}
use Rattle.frame_slices.specs.declared.frame_slice.Place.{Place}
use Rattle.frame_slices.specs.declared.frame_slice.FrameSlice.{FrameSlice}
use Rattle.frame_slices.specs.FrameSlices.{place_of, rows_of, input_of, places_from, plane_of, plane_in, planes_in, behind_of, behind_in}
use Rattle.frame_slices.specs.FrameSlices.{target_plane_in, target_planes_in, HaveOnePalette}

-- the place of the first, and the places of the others
pub first_place : (source target : Desc) (width first : ℕ) (slice : FrameSlice) (slices : List FrameSlice)
    → map place_of (slice ∷ slices) ≡ places_from source target width first (map rows_of (slice ∷ slices))
    → slice.place ≡ record { source = source; target = target; width = width; first = first; rows = slice.place.rows }
first_place source target width first slice slices places = ap (λ l. get_or l 0 slice.place) places

pub other_places : (source target : Desc) (width first : ℕ) (slice : FrameSlice) (slices : List FrameSlice)
    → map place_of (slice ∷ slices) ≡ places_from source target width first (map rows_of (slice ∷ slices))
    → map place_of slices ≡ places_from source target width (first + slice.place.rows) (map rows_of slices)
other_places source target width first slice slices places = ap (drop 1) places

-- ---- lengths

pub input_length : (slice : FrameSlice) → length slice.input.items ≡ frame_length slice.place.source slice.place.width slice.place.rows
input_length slice = let is : slice.input.len ≡ frame_length slice.place.source slice.place.width slice.place.rows = slice.input_size in
    sym slice.input.ok.0 ∙ is

-- a plane of a slice
pub length-plane_of : (slice : FrameSlice) (p : ℕ) → p < 4 → length (plane_of p slice)
    ≡ plane_length slice.place.source slice.place.width slice.place.rows p
length-plane_of slice p used =
    let place = slice.place in
    length-plane_rows place.source place.width place.rows 0 place.rows p slice.input.items used (omega arith)
    (planes_in_frame place.source place.width place.rows slice.input.items (input_length slice))

rows_together : (a b row : ℕ) → a * row + b * row ≡ (a + b) * row
rows_together a b row = omega arith

pub length-plane_in : (source target : Desc) (width first p : ℕ) (slices : List FrameSlice) → p < 4
    → map place_of slices ≡ places_from source target width first (map rows_of slices)
    → length (plane_in p slices) ≡ plane_length source width (sum (map rows_of slices)) p
length-plane_in source target width first p [] used places = omega arith
length-plane_in source target width first p (slice ∷ slices) used places =
    let here = first_place source target width first slice slices places in
    let size : length (plane_of p slice) ≡ plane_length source width slice.place.rows p =
    length-plane_of slice p used ∙ ap (λ (place : Place). plane_length place.source place.width slice.place.rows p) here in
    let rest = length-plane_in source target width (first + slice.place.rows) p slices used
    (other_places source target width first slice slices places) in
    let all = sum_by-cons (λ n. n) slice.place.rows (map rows_of slices) in
    length-append (plane_of p slice) (plane_in p slices)
    ∙ ap₂ ◌+◌ size rest
    ∙ rows_together slice.place.rows (sum (map rows_of slices)) (row_length source width p)
    ∙ ap (λ n. n * row_length source width p) (sym all)

pub length-planes_in : (source target : Desc) (width p : ℕ) (slices : List FrameSlice) → p ≤ 4
    → map place_of slices ≡ places_from source target width 0 (map rows_of slices)
    → length (planes_in p slices) ≡ plane_start source width (sum (map rows_of slices)) p
length-planes_in source target width zero slices used places = refl
length-planes_in source target width (suc p) slices used places =
    omega (
      arith,
      length-append (planes_in p slices) (plane_in p slices),
      length-planes_in source target width p slices (omega arith) places,
      length-plane_in source target width 0 p slices (omega arith) places,
    )

-- ---- planes behind a plane

-- the next k planes from one on
abbrev pub planes_from : ℕ → ℕ → List FrameSlice → List ℕ
planes_from p zero slices = []
planes_from p (suc k) slices = planes_from p k slices ++ plane_in (p + k) slices

planes_split : (p k : ℕ) (slices : List FrameSlice) → planes_in (p + k) slices ≡ planes_in p slices ++ planes_from p k slices
planes_split p zero slices = rw add-zero (sym (append-nil (planes_in p slices)))
planes_split p (suc k) slices =
    rw add-suc (ap (λ l. l ++ plane_in (p + k) slices) (planes_split p k slices)
    ∙ append_assoc (planes_in p slices) (planes_from p k slices) (plane_in (p + k) slices))

-- the first planes: those before one, that one, and those behind it
pub planes_until : (n p : ℕ) (slices : List FrameSlice) → p < n → planes_in n slices ≡ planes_in p slices
    ++ (plane_in p slices ++ planes_from (suc p) (n - suc p) slices)
planes_until n p slices before =
    ap (λ k. planes_in k slices) {x = n} {y = suc p + (n - suc p)} (omega arith)
    ∙ planes_split (suc p) (n - suc p) slices
    ∙ append_assoc (planes_in p slices) (plane_in p slices) (planes_from (suc p) (n - suc p) slices)

-- so all of them
pub planes_around : (p : ℕ) (slices : List FrameSlice) → p < 4 → planes_in 4 slices ≡ planes_in p slices
    ++ (plane_in p slices ++ planes_from (suc p) (3 - p) slices)
planes_around p slices used =
    planes_until 4 p slices used ∙ ap (λ k. planes_in p slices ++ (plane_in p slices ++ planes_from (suc p) k slices)) {x = 4 - suc p} {y =
    3 - p} (omega arith)

-- ---- slices put together

joined_plane_is : (source target : Desc) (width first p : ℕ) (slices : List FrameSlice)
    → map place_of slices ≡ places_from source target width first (map rows_of slices)
    → joined_plane source width (map input_of slices) p ≡ plane_in p slices
joined_plane_is source target width first p [] places = refl
joined_plane_is source target width first p (slice ∷ slices) places =
    let here = first_place source target width first slice slices places in
    ap (λ l. l ++ joined_plane source width (map input_of slices) p)
    (sym (ap (λ (place : Place). plane_rows place.source place.width slice.place.rows slice.input.items 0 slice.place.rows p) here))
    ∙ ap (λ l. plane_of p slice ++ l)
    (joined_plane_is source target width (first + slice.place.rows) p slices
    (other_places source target width first slice slices places))

joined_planes_are : (source target : Desc) (width p : ℕ) (slices : List FrameSlice)
    → map place_of slices ≡ places_from source target width 0 (map rows_of slices)
    → joined_planes source width (map input_of slices) p ≡ planes_in p slices
joined_planes_are source target width zero slices places = refl
joined_planes_are source target width (suc p) slices places =
    ap (λ l. l ++ joined_plane source width (map input_of slices) p) (joined_planes_are source target width p slices places)
    ∙ ap (λ l. planes_in p slices ++ l) (joined_plane_is source target width 0 p slices places)

behind_first_is : (source target : Desc) (width : ℕ) (slices : List FrameSlice) → map place_of slices
    ≡ places_from source target width 0 (map rows_of slices)
    → behind_first source width (map input_of slices) ≡ behind_in slices
behind_first_is source target width [] places = refl
behind_first_is source target width (slice ∷ slices) places =
    sym (ap (λ (place : Place). behind_planes place.source place.width slice.place.rows slice.input.items)
    (first_place source target width 0 slice slices places))

pub joined_is : (source target : Desc) (width : ℕ) (slices : List FrameSlice) → map place_of slices
    ≡ places_from source target width 0 (map rows_of slices)
    → joined source width (map input_of slices) ≡ planes_in 4 slices ++ behind_in slices
unfolding joined
joined_is source target width slices places =
    ap (λ l. l ++ behind_first source width (map input_of slices)) (joined_planes_are source target width 4 slices places)
    ∙ ap (λ l. planes_in 4 slices ++ l) (behind_first_is source target width slices places)

-- ---- planes of the target

abbrev pub target_planes_from : ℕ → ℕ → List FrameSlice → List ℕ
target_planes_from p zero slices = []
target_planes_from p (suc k) slices = target_planes_from p k slices ++ target_plane_in (p + k) slices

target_planes_split : (p k : ℕ) (slices : List FrameSlice) → target_planes_in (p + k) slices ≡ target_planes_in p slices
    ++ target_planes_from p k slices
target_planes_split p zero slices = rw add-zero (sym (append-nil (target_planes_in p slices)))
target_planes_split p (suc k) slices =
    rw add-suc (ap (λ l. l ++ target_plane_in (p + k) slices) (target_planes_split p k slices)
    ∙ append_assoc (target_planes_in p slices) (target_planes_from p k slices) (target_plane_in (p + k) slices))

pub target_planes_around : (p : ℕ) (slices : List FrameSlice) → p < 4
    → target_planes_in 4 slices ≡ target_planes_in p slices ++ (target_plane_in p slices ++ target_planes_from (suc p) (3 - p) slices)
target_planes_around p slices used =
    ap (λ n. target_planes_in n slices) {x = 4} {y = suc p + (3 - p)} (omega arith)
    ∙ target_planes_split (suc p) (3 - p) slices
    ∙ append_assoc (target_planes_in p slices) (target_plane_in p slices) (target_planes_from (suc p) (3 - p) slices)

-- ---- slices whose places are the same

pub rows_are : (slices : List FrameSlice) → map rows_of slices ≡ map (λ (place : Place). place.rows) (map place_of slices)
rows_are [] = refl
rows_are (slice ∷ slices) = ap (λ l. slice.place.rows ∷ l) (rows_are slices)

pub same_rows : (xs ys : List FrameSlice) → map place_of xs ≡ map place_of ys → map rows_of xs ≡ map rows_of ys
same_rows xs ys same = rows_are xs ∙ ap (map (λ (place : Place). place.rows)) same ∙ sym (rows_are ys)

pub same_places : (source target : Desc) (width first : ℕ) (xs ys : List FrameSlice) → map place_of xs ≡ map place_of ys
    → map place_of ys ≡ places_from source target width first (map rows_of ys) → map place_of xs
    ≡ places_from source target width first (map rows_of xs)
same_places source target width first xs ys same places = same ∙ places
    ∙ ap (places_from source target width first) (sym (same_rows xs ys same))

-- planes before one that alone was changed
pub planes_kept : (n p : ℕ) (xs ys : List FrameSlice) → ((q : ℕ) → q < 4 → q ≢ n → map (plane_of q) xs ≡ map (plane_of q) ys) → n < 4
    → p ≤ n
    → planes_in p xs ≡ planes_in p ys
planes_kept n zero xs ys others used before = refl
planes_kept n (suc p) xs ys others used before =
    ap₂ ◌++◌ (planes_kept n p xs ys others used (omega arith)) (ap concat (others p (omega arith) (omega arith)))

pub all_planes_kept : (p : ℕ) (xs ys : List FrameSlice) → ((q : ℕ) → q < 4 → map (plane_of q) xs ≡ map (plane_of q) ys) → p ≤ 4
    → planes_in p xs ≡ planes_in p ys
all_planes_kept zero xs ys same used = refl
all_planes_kept (suc p) xs ys same used = ap₂ ◌++◌ (all_planes_kept p xs ys same (omega arith)) (ap concat (same p (omega arith)))

-- ---- one palette

-- where all have it, the first has it
pub palette_set : (palette : List ℕ) (xs ys : List FrameSlice) → 0 < length xs → map behind_of ys ≡ map (λ _. palette) xs → behind_in ys
    ≡ palette
palette_set palette [] ys some same = absurd (omega (arith, some))
palette_set palette (x ∷ xs) [] some same = absurd (omega (arith, ap length same))
palette_set palette (x ∷ xs) (y ∷ ys) some same = ap (λ l. get_or l 0 palette) same

constant_maps : {X Y : Type 0} (a : List ℕ) (xs : List X) (ys : List Y) → length xs ≡ length ys → map (λ _. a) xs ≡ map (λ _. a) ys
constant_maps a [] [] same = refl
constant_maps a [] (y ∷ ys) same = absurd (omega (arith, same))
constant_maps a (x ∷ xs) [] same = absurd (omega (arith, same))
constant_maps a (x ∷ xs) (y ∷ ys) same = ap (λ l. a ∷ l) (constant_maps a xs ys (omega (arith, same)))

pub one_palette : (palette : List ℕ) (xs ys : List FrameSlice) → 0 < length xs → map behind_of ys ≡ map (λ _. palette) xs
    → HaveOnePalette ys
one_palette palette xs ys some same =
    let long : length xs ≡ length ys = sym (length-map xs (λ _. palette)) ∙ sym (ap length same) ∙ length-map ys behind_of in
    same ∙ constant_maps palette xs ys long ∙ ap (λ b. map (λ _. b) ys) (sym (palette_set palette xs ys some same))

-- what is behind the planes was kept
pub palette_kept : (xs ys : List FrameSlice) → map behind_of ys ≡ map behind_of xs → HaveOnePalette xs → HaveOnePalette ys
palette_kept [] [] same one = refl
palette_kept [] (y ∷ ys) same one = absurd (omega (arith, ap length same))
palette_kept (x ∷ xs) ys same one = one_palette (behind_of x) (x ∷ xs) ys (omega arith) (same ∙ one)

-- ---- all places have the frame's formats

pub places_are_of : (source target : Desc) (width first : ℕ) (counts : List ℕ) (k : ℕ) (d : Place)
    → k < length (places_from source target width first counts)
    → (source ≡ (get_or (places_from source target width first counts) k d).source)
    × (target ≡ (get_or (places_from source target width first counts) k d).target)
places_are_of source target width first [] k d within = absurd (omega (arith, within))
places_are_of source target width first (rows ∷ counts) zero d within = (refl, refl)
places_are_of source target width first (rows ∷ counts) (suc k) d within = places_are_of source target width (first + rows) counts k d
    (omega (arith, within))

pub all_have : (source target : Desc) (width : ℕ) (slices : List FrameSlice) → map place_of slices
    ≡ places_from source target width 0 (map rows_of slices)
    → source.palette ≡ true → All (λ place. place.source.palette ≡ true) (map place_of slices)
all_have source target width slices places has =
    subst (All (λ place. place.source.palette ≡ true)) (sym places)
    (λ k d within. subst (λ (desc : Desc). desc.palette ≡ true) (places_are_of source target width 0 (map rows_of slices) k d within).0 has)

pub same_length : (xs ys : List FrameSlice) → map place_of xs ≡ map place_of ys → length xs ≡ length ys
same_length xs ys same = sym (length-map xs place_of) ∙ ap length same ∙ length-map ys place_of
