-- Colours of a palette: what a block holds.
use Rattle.std.proofs.Common.{◌≡◌, ℕ, zero, suc, ◌+◌, ◌*◌, ◌<◌, ◌≤◌, ◌⊎◌, inl, true, false, Bool, List, ◌++◌, slice_index}
use Rattle.std.proofs.Common.{slice_index_or, length, refl, sym, ap, ◌∙◌, arith, subst, below_more, get_or-append-add}
use Rattle.std.proofs.Math.ListN.{get_or-append}
use Rattle.std.proofs.lemmas.List.{nil_from_length}
use Rattle.std.proofs.lemmas.Slice.Eq.{bytes_eq-Decides}
use Rattle.op_list.specs.declared.types.PixType.{PixType}
use Rattle.op_list.specs.declared.types.PixType.TheVariants.{U8, U16, U32, Rat}
use Rattle.op_list.specs.declared.types.Stage.TheVariants.{Start}
use Rattle.op_list.specs.declared.op.Op.TheVariants.{Read}
use Rattle.op_list.specs.declared.position.PixelPosition.{PixelPosition}
use Rattle.op_list.specs.declared.values.Values.{Values}
use Rattle.op_list.specs.Types.{bits, bytes, is_same, is_whole_type}
use Rattle.op_list.specs.Typing.{are_good, are_counts}
use Rattle.op_list.specs.Pixel.{colours, palette_colours, pixel_count, pixel_number}
use Rattle.op_list.specs.Values.{number}
use Rattle.op_list.specs.Apply.{apply}
use Rattle.std.specs.Prelude.{◌&&◌, [], ◌∷◌}
use Rattle.std.specs.Str.{bytes_eq}
use Rattle.std.proofs.lemmas.Bool.{and_parts}
use Rattle.kernel_planes.specs.Block.{Holds, AreBelow, colour_byte, colour_in}
use Rattle.kernel_planes.specs.Planes.{AreRows, row_at, row_frame, row_list}

pub hold_next : {W : Type 0} (number : W → ℕ) (before after : List W) (given : ℕ → ℕ → ℕ) (v n : ℕ)
    → ((i : ℕ) (d : W) → i < n → number (slice_index_or after (64 * v + i) d) ≡ given v i)
    → ((j : ℕ) (d : W) → (j < 64 * v) ⊎ (64 * v + 64 ≤ j) → slice_index_or after j d ≡ slice_index_or before j d)
    → Holds number before v n given → n ≤ 64 → Holds number after (v + 1) n given
hold_next {W} number before after given v n here kept done few u i d below within =
    below_more (λ t. number (slice_index_or after (64 * t + i) d) ≡ given t i) v
    (λ t lt. ap number (kept (64 * t + i) d (inl (omega arith))) ∙ done t i d lt within)
    (here i d within) u below

pub below_next : {W : Type 0} (number : W → ℕ) (before after : List W) (v limit : ℕ)
    → ((i : ℕ) (d : W) → i < 64 → number (slice_index_or after (64 * v + i) d) < limit)
    → ((j : ℕ) (d : W) → (j < 64 * v) ⊎ (64 * v + 64 ≤ j) → slice_index_or after j d ≡ slice_index_or before j d)
    → AreBelow number before v limit → AreBelow number after (v + 1) limit
below_next {W} number before after v limit here kept low u i d below within =
    below_more (λ t. number (slice_index_or after (64 * t + i) d) < limit) v
    (λ t lt. subst (λ x. number x < limit) (sym (kept (64 * t + i) d (inl (omega arith)))) (low t i d lt within))
    (here i d within) u below

-- a colour of a frame of indices and entries
pub colour_at : (indices palette : List ℕ) (position : PixelPosition) (v : ℕ) → v < 4 → length indices ≡ pixel_count position
    → pixel_number position < pixel_count position
    → slice_index (palette_colours (indices ++ palette) position) v ≡ colour_in indices palette (pixel_number position) (colour_byte v)
unfolding palette_colours
colour_at indices palette position v small size inside =
    let index : slice_index (indices ++ palette) (pixel_number position) ≡ slice_index indices (pixel_number position) =
    get_or-append indices palette 0 (pixel_number position) (omega (arith, size, inside)) in
    ap (λ k. slice_index (colours (indices ++ palette) (pixel_count position + 4 * k)) v) index
    ∙ ap (λ t. slice_index (colours (indices ++ palette) (t + 4 * slice_index indices (pixel_number position))) v) (sym size)
    ∙ entry v (4 * slice_index indices (pixel_number position)) small
  where
    there : (e k : ℕ) → slice_index (indices ++ palette) (length indices + e + k) ≡ slice_index palette (e + k)
    there e k = let same : length indices + e + k ≡ length indices + (e + k) = omega arith in
        ap (slice_index (indices ++ palette)) same ∙ get_or-append-add indices palette (e + k) 0

    entry : (v e : ℕ) → v < 4 → slice_index (colours (indices ++ palette) (length indices + e)) v ≡ slice_index palette (e + colour_byte v)
    entry zero e h = there e 2
    entry (suc zero) e h = there e 1
    entry (suc (suc zero)) e h = let none : length indices + e ≡ length indices + e + 0 = omega arith in
        ap (slice_index (indices ++ palette)) none ∙ there e 0
    entry (suc (suc (suc zero))) e h = there e 3
    entry (suc (suc (suc (suc v)))) e h = absurd (omega (arith, h))

-- ---- the Read
palette_bytes : (elem : PixType) (planes : List ℕ) → are_good Start (Read elem planes true) ≡ true → is_same elem U8 ≡ true
unfolding are_good
palette_bytes elem planes good =
    let p = and_parts (is_whole_type elem && are_counts 4 planes) (is_same elem U8 && bytes_eq planes (1 ∷ 0 ∷ 0 ∷ 0 ∷ [])) good in
    (and_parts (is_same elem U8) (bytes_eq planes (1 ∷ 0 ∷ 0 ∷ 0 ∷ [])) p.1).0

byte_bits : (elem : PixType) → is_same elem U8 ≡ true → bits elem ≡ 8
byte_bits U8 h = refl
byte_bits U16 h = cc
byte_bits U32 h = cc
byte_bits Rat h = cc

pub palette_bits : (elem : PixType) (planes : List ℕ) (palette : Bool) → palette ≡ true → are_good Start (Read elem planes palette) ≡ true
    → bits elem ≡ 8
palette_bits elem planes true is good = byte_bits elem (palette_bytes elem planes good)
palette_bits elem planes false is good = cc

-- a palette's Read states one plane, of bytes
pub palette_planes : (elem : PixType) (planes : List ℕ) (palette : Bool) → palette ≡ true
    → are_good Start (Read elem planes palette) ≡ true → (bytes elem ≡ 1) × (planes ≡ 1 ∷ 0 ∷ 0 ∷ 0 ∷ [])
unfolding are_good
palette_planes elem planes false is good = cc
palette_planes elem planes true is good =
    let p = and_parts (is_whole_type elem && are_counts 4 planes) (is_same elem U8 && bytes_eq planes (1 ∷ 0 ∷ 0 ∷ 0 ∷ [])) good in
    let q = and_parts (is_same elem U8) (bytes_eq planes (1 ∷ 0 ∷ 0 ∷ 0 ∷ [])) p.1 in
    (one_byte elem q.0, (bytes_eq-Decides planes (1 ∷ 0 ∷ 0 ∷ 0 ∷ [])).0 q.1)
  where
    one_byte : (elem : PixType) → is_same elem U8 ≡ true → bytes elem ≡ 1
    one_byte U8 h = refl
    one_byte U16 h = cc
    one_byte U32 h = cc
    one_byte Rat h = cc

-- the rows of such a frame: the indices alone
pub indices_alone : (elem : PixType) (planes : List ℕ) (palette : Bool) (width : ℕ) (first second third fourth behind : List ℕ)
    → palette ≡ true → are_good Start (Read elem planes palette) ≡ true
    → AreRows (Read elem planes palette) width (row_list first second third fourth)
    → (length first ≡ width) × (row_frame (row_list first second third fourth) behind ≡ first ++ behind)
indices_alone elem planes palette width first second third fourth behind is good rows =
    let read = palette_planes elem planes palette is good in
    let size : (p : ℕ) → p < 4 → length (row_at (row_list first second third fourth) p)
    ≡ width * slice_index (1 ∷ 0 ∷ 0 ∷ 0 ∷ []) p * 1 = rw (read.0, read.1) at rows in
    let no_second : second ≡ [] = nil_from_length second (omega (arith, size 1 (omega arith))) in
    let no_third : third ≡ [] = nil_from_length third (omega (arith, size 2 (omega arith))) in
    let no_fourth : fourth ≡ [] = nil_from_length fourth (omega (arith, size 3 (omega arith))) in
    (omega (arith, size 0 (omega arith)), rw (no_second, no_third, no_fourth) refl)

pub palette_value : (elem : PixType) (planes : List ℕ) (palette : Bool) (frame : List ℕ) (position : PixelPosition) (values : Values)
    (v : ℕ) → palette ≡ true
    → number (apply frame position Start (Read elem planes palette) values) v ≡ slice_index (palette_colours frame position) v
unfolding apply
palette_value elem planes true frame position values v is = refl
palette_value elem planes false frame position values v is = cc
