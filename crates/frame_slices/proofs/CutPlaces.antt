-- Slices of so many rows each cut the whole frame.
use Rattle.std.proofs.Common.{◌≡◌, ℕ, zero, suc, ◌+◌, ◌-◌, ◌*◌, ◌/◌, ◌<◌, ◌≤◌, min, List, [], ◌∷◌, ◌++◌, length, map, replicate, drop, refl}
use Rattle.std.proofs.Common.{sym, ◌∙◌, ap, arith}
use Rattle.std.specs.Prelude.{sum}
use Rattle.std.specs.List.{range_with_len}
use Rattle.std.proofs.lemmas.List.{drop-replicate, length-map}
use Rattle.std.proofs.Math.Nat.{div-mul-le_self, lt-div-mul-add, mul-le-mul_left}
use Rattle.std.proofs.lemmas.List.FromFn.{map-range_with_len_more, length-map-range_with_len}
use Rattle.std.proofs.lemmas.List.Sums.{sum_by-cons, sum_by_push}
use Rattle.pix_desc.specs.declared.desc.Desc.{Desc}
use Rattle.pix_desc.specs.Frame.{plane_start, frame_length}
use Rattle.frame_slices.proofs.SlicePlanes.{rows_are}
use Rattle.frame_slices.specs.declared.frame_slice.Place.{Place}
use Rattle.frame_slices.specs.declared.frame_slice.FrameSlice.{FrameSlice}
use Rattle.frame_slices.specs.FrameSlices.{place_of, rows_of, behind_of, places_from, slice_place, slice_count, palette_length, AreCut}

-- ---- behind the planes of a slice of zeros

pub behind_zeros : (slice : FrameSlice) → slice.input.items ≡ replicate slice.input.len 0 → behind_of slice
    ≡ replicate (palette_length slice.place.source) 0
unfolding frame_length
behind_zeros slice zeros =
    let place = slice.place in
    let start = plane_start place.source place.width place.rows 4 in
    let size : slice.input.len ≡ start + palette_length place.source = slice.input_size in
    ap (drop start) zeros ∙ drop-replicate start slice.input.len 0
    ∙ ap (λ n. replicate n 0) {x = slice.input.len - start} {y = palette_length place.source} (omega arith)

-- ---- the rows of slices

places-push : (source target : Desc) (width first : ℕ) (counts : List ℕ) (rows : ℕ)
    → places_from source target width first (counts ++ (rows ∷ []))
    ≡ places_from source target width first counts
    ++ (record { source = source; target = target; width = width; first = first + sum counts; rows = rows } ∷ [])
places-push source target width first [] rows =
    ap (λ n. let made : Place = record { source = source; target = target; width = width; first = n; rows = rows } in made
    ∷ []) {x = first} {y = first + 0} (omega arith)
places-push source target width first (count ∷ counts) rows =
    let here : Place = record { source = source; target = target; width = width; first = first; rows = count } in
    ap (λ l. here ∷ l)
    (places-push source target width (first + count) counts rows
    ∙ ap (λ n. let made : Place = record { source = source; target = target; width = width; first = n; rows = rows } in
    places_from source target width (first + count) counts ++ (made ∷ []))
    {x = first + count + sum counts} {y = first + sum (count ∷ counts)} (omega (arith, sum_by-cons (λ n. n) count counts)))

more : {X : Type 0} (f : ℕ → X) (n : ℕ) → map f (range_with_len 0 (suc n)) ≡ map f (range_with_len 0 n) ++ (f n ∷ [])
more f n = ap (λ m. map f (range_with_len 0 m)) {x = suc n} {y = n + 1} (omega arith) ∙ map-range_with_len_more f 0 n n (omega arith)

-- the first n slices have all their rows
module _ (whole : Place) (each : ℕ) where
  abbrev counts : ℕ → List ℕ
  counts n = map (λ k. min each (whole.rows - k * each)) (range_with_len 0 n)

  sum_counts : (n : ℕ) → n * each ≤ whole.rows → sum (counts n) ≡ n * each
  sum_counts zero within = let none : sum [] ≡ 0 = refl in omega (arith, none)
  sum_counts (suc n) within =
      ap sum (more (λ k. min each (whole.rows - k * each)) n)
      ∙ sum_by_push (λ m. m) (counts n) (min each (whole.rows - n * each))
      ∙ omega (arith, sum_counts n (omega arith), within)

  places_are : (n : ℕ) → n * each < whole.rows + each → map (slice_place whole each) (range_with_len 0 n)
      ≡ places_from whole.source whole.target whole.width 0 (counts n)
  places_are zero within = refl
  places_are (suc n) within =
      let all : sum (counts n) ≡ n * each = sum_counts n (omega (arith, within)) in
      more (slice_place whole each) n
      ∙ ap (λ l. l ++ (slice_place whole each n ∷ [])) (places_are n (omega (arith, within)))
      ∙ ap (λ k. let made : Place = record {
        source = whole.source;
        target = whole.target;
        width = whole.width;
        first = k;
        rows =
            min each (whole.rows - n * each);
      } in places_from whole.source whole.target whole.width 0 (counts n) ++ (made ∷ []))
      {x = n * each} {y = 0 + sum (counts n)} (omega (arith, all))
      ∙ sym (places-push whole.source whole.target whole.width 0 (counts n) (min each (whole.rows - n * each)))
      ∙ ap (places_from whole.source whole.target whole.width 0) (sym (more (λ k. min each (whole.rows - k * each)) n))

  -- all n + 1 of them cover the frame
  all_rows : (n : ℕ) → n * each < whole.rows → whole.rows ≤ (n + 1) * each → sum (counts (suc n)) ≡ whole.rows
  all_rows n below reached =
      ap sum (more (λ k. min each (whole.rows - k * each)) n)
      ∙ sum_by_push (λ m. m) (counts n) (min each (whole.rows - n * each))
      ∙ omega (arith, sum_counts n (omega (arith, below)), below, reached)

rows_of_places : (whole : Place) (each : ℕ) (ks : List ℕ) → map (λ (place : Place). place.rows) (map (slice_place whole each) ks)
    ≡ map (λ k. min each (whole.rows - k * each)) ks
rows_of_places whole each [] = refl
rows_of_places whole each (k ∷ ks) = ap (λ l. min each (whole.rows - k * each) ∷ l) (rows_of_places whole each ks)

module _ (whole : Place) (each : ℕ) (slices : List FrameSlice) (some : 0 < each) (filled : 0 < whole.rows)
    (cut : AreCut whole each slices) where
  rows_of_cut : map rows_of slices ≡ counts whole each (suc ((whole.rows - 1) / each))
  rows_of_cut =
      rows_are slices ∙ ap (map (λ (place : Place). place.rows)) cut ∙ rows_of_places whole each (range_with_len 0 (slice_count whole each))
      ∙ ap (counts whole each) {x = slice_count whole each} {y = suc ((whole.rows - 1) / each)} (omega arith)

  -- the last slice begins in the frame, and ends at its end
  begins : (whole.rows - 1) / each * each < whole.rows
  begins = omega (arith, filled, div-mul-le_self (whole.rows - 1) each)

  reaches : whole.rows ≤ ((whole.rows - 1) / each + 1) * each
  reaches = omega (arith, filled, lt-div-mul-add {a = whole.rows - 1} {b = each} some)

  pub cut_places : map place_of slices ≡ places_from whole.source whole.target whole.width 0 (map rows_of slices)
  cut_places =
      cut
      ∙ ap (λ n. map (slice_place whole each) (range_with_len 0 n)) {x = slice_count whole each} {y = suc ((whole.rows - 1) / each)}
      (omega arith)
      ∙ places_are whole each (suc ((whole.rows - 1) / each)) (omega (arith, begins))
      ∙ ap (places_from whole.source whole.target whole.width 0) (sym rows_of_cut)

  pub cut_covers : sum (map rows_of slices) ≡ whole.rows
  cut_covers = ap sum rows_of_cut ∙ all_rows whole each ((whole.rows - 1) / each) begins reaches

  cut_count : length slices ≡ (whole.rows - 1) / each + 1
  cut_count = sym (length-map slices place_of) ∙ ap length cut
      ∙ length-map-range_with_len (slice_place whole each) 0 (slice_count whole each)

  pub cut_some : 0 < length slices
  cut_some = omega (arith, cut_count)

  pub cut_few : whole.rows ≤ 16384 → length slices ≤ 16384
  cut_few low = omega (arith, low, cut_count, mul-le-mul_left ((whole.rows - 1) / each) some, begins)

pub more_places : (whole : Place) (each k : ℕ) → map (slice_place whole each) (range_with_len 0 (k + 1))
    ≡ map (slice_place whole each) (range_with_len 0 k) ++ (slice_place whole each k ∷ [])
more_places whole each k = map-range_with_len_more (slice_place whole each) 0 k k (omega arith)
