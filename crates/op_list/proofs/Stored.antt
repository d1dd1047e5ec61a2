-- Elements of frames: what they are read from, when two frames have the same, and that they determine the frame.
use Rattle.std.proofs.Common.{◌≡◌, ◌≢◌, ℕ, zero, suc, ◌+◌, ◌*◌, ◌/◌, ◌%◌, ◌^◌, ◌<◌, ◌≤◌, ⊎_elim, List, length, slice_index, refl, sym, ap}
use Rattle.std.proofs.Common.{◌∙◌, arith, subst}
use Rattle.std.specs.Prelude.{sum, All}
use Rattle.std.proofs.lemmas.Bool.{cases_lt, cond_below, cond_above}
use Rattle.std.proofs.lemmas.Grind.{same_number_lists}
use Rattle.std.proofs.lemmas.List.{get_or_past}
use Rattle.std.proofs.lemmas.List.Elements.{All-get_or}
use Rattle.std.proofs.lemmas.Nat.{mul-add-lt, div-add-mod'}
use Rattle.std.proofs.Math.Nat.{div-lt_iff_lt-mul, mod-lt}
use Rattle.op_list.specs.declared.types.PixType.{PixType}
use Rattle.op_list.specs.declared.types.PixType.TheVariants.{U8, U16, U32, Rat}
use Rattle.op_list.specs.declared.position.PixelPosition.{PixelPosition}
use Rattle.op_list.specs.Types.{bits, bytes}
use Rattle.op_list.specs.Pixel.{number_at, element, element_in, element_of, pixel_count, pixel_number, HasElements}
use Rattle.op_list.specs.Store.{IsOtherPixel, HaveSameElements, ElementsMakeFrame}
use Rattle.op_list.proofs.Elements.{bytes_positive, element_ends}
use Rattle.op_list.proofs.Indices.{index_below, same_index, factor_positive, each_index}

-- an element of a pixel is the one of its index in the frame
pub element_of-is : (elem : PixType) (planes frame : List ℕ) (position : PixelPosition) (i : ℕ) → i < sum planes
    → element_of elem planes frame position i ≡ element elem frame (element_in (pixel_count position) (pixel_number position) 0 planes i)
unfolding element_of
element_of-is elem planes frame position i within =
    sym (cond_below i (sum planes) (element elem frame (element_in (pixel_count position) (pixel_number position) 0 planes i)) 0 within)

-- and 0 past those of the pixel
pub element_of-past : (elem : PixType) (planes frame : List ℕ) (position : PixelPosition) (i : ℕ) → sum planes ≤ i
    → element_of elem planes frame position i ≡ 0
unfolding element_of
element_of-past elem planes frame position i past =
    sym (cond_above i (sum planes)
    (element elem frame (element_in (pixel_count position) (pixel_number position) 0 planes i)) 0 0 past refl)

-- an element of a pixel is kept where only element k of the frame is changed, and that is another one
pub element_kept : (elem : PixType) (planes old new : List ℕ) (position : PixelPosition) (k j : ℕ)
    → ((n : ℕ) → n ≢ k → element elem new n ≡ element elem old n)
    → (j < sum planes → element_in (pixel_count position) (pixel_number position) 0 planes j ≢ k)
    → element_of elem planes new position j ≡ element_of elem planes old position j
element_kept elem planes old new position k j kept differs =
    ⊎_elim
    (λ (here : j < sum planes).
    element_of-is elem planes new position j here
    ∙ kept (element_in (pixel_count position) (pixel_number position) 0 planes j) (differs here)
    ∙ sym (element_of-is elem planes old position j here))
    (λ (past : sum planes ≤ j). element_of-past elem planes new position j past ∙ sym (element_of-past elem planes old position j past))
    (cases_lt j (sum planes))

pub number_below : (position : PixelPosition) → position.x < position.width → position.row < position.rows
    → pixel_number position < pixel_count position
number_below position column row = mul-add-lt position.row position.width position.x position.rows row column

-- an element of a pixel lies in the frame
pub index_ends : (elem : PixType) (planes frame : List ℕ) (position : PixelPosition) (i : ℕ) → HasElements elem planes frame position
    → i < sum planes
    → (element_in (pixel_count position) (pixel_number position) 0 planes i + 1) * bytes elem ≤ length frame
index_ends elem planes frame position i h within =
    let index = element_in (pixel_count position) (pixel_number position) 0 planes i in
    let below : index < pixel_count position * (0 + sum planes) =
    index_below (pixel_count position) (pixel_number position) 0 planes i (number_below position h.column h.row) within in
    element_ends elem planes frame position index h (omega (arith, below))

-- another element of the pixel is kept
pub other_element_kept : (elem : PixType) (planes old new : List ℕ) (position : PixelPosition) (i j : ℕ) → position.x < position.width
    → position.row < position.rows → i < sum planes → j ≢ i
    → ((n : ℕ) → n ≢ element_in (pixel_count position) (pixel_number position) 0 planes i → element elem new n ≡ element elem old n)
    → element_of elem planes new position j ≡ element_of elem planes old position j
other_element_kept elem planes old new position i j column row within differs kept =
    let pixels = pixel_count position in
    let pixel = pixel_number position in
    element_kept elem planes old new position (element_in pixels pixel 0 planes i) j kept
    (λ here same. differs
    (same_index pixels pixel pixel 0 planes j i (number_below position column row) (number_below position column row) here within same).1)

-- and so are those of another pixel
pub other_pixel_kept : (elem : PixType) (planes old new : List ℕ) (position other : PixelPosition) (i j : ℕ) → position.x < position.width
    → position.row < position.rows → i < sum planes → IsOtherPixel position other
    → ((n : ℕ) → n ≢ element_in (pixel_count position) (pixel_number position) 0 planes i → element elem new n ≡ element elem old n)
    → element_of elem planes new other j ≡ element_of elem planes old other j
other_pixel_kept elem planes old new position other i j column row within is kept =
    let pixels = pixel_count position in
    let pixel = pixel_number position in
    let count : pixel_count other ≡ pixels = ap (λ t. t * other.rows) is.width ∙ ap (λ t. position.width * t) is.rows in
    let below : pixel_number other < pixels = subst (λ t. pixel_number other < t) count (number_below other is.column is.row) in
    element_kept elem planes old new other (element_in pixels pixel 0 planes i) j kept
    (λ here same.
    is.differs
    (same_index pixels (pixel_number other) pixel 0 planes j i below (number_below position column row) here within
    (ap (λ t. element_in t (pixel_number other) 0 planes j) (sym count) ∙ same)).0)

-- ---- a frame of bytes

pub byte_below : (xs : List ℕ) (k : ℕ) → All (λ byte. byte < 256) xs → slice_index xs k < 256
byte_below xs k all =
    ⊎_elim
    (λ (here : k < length xs). All-get_or (λ byte. byte < 256) xs k 0 here all)
    (λ (past : length xs ≤ k). subst (λ b. b < 256) (sym (get_or_past xs k 0 past)) (omega arith))
    (cases_lt k (length xs))

-- an element of so many bits
pub element_below : (elem : PixType) (frame : List ℕ) (k : ℕ) → All (λ byte. byte < 256) frame → element elem frame k < 2 ^ bits elem
element_below U8 frame k all = omega (arith, byte_below frame (k * 1) all)
element_below U16 frame k all = omega (arith, byte_below frame (k * 2) all, byte_below frame (k * 2 + 1) all)
element_below U32 frame k all =
    omega (
      arith,
      byte_below frame (k * 4) all,
      byte_below frame (k * 4 + 1) all,
      byte_below frame (k * 4 + 1 + 1) all,
      byte_below frame
          (k * 4 + 1 + 1 + 1) all,
    )
element_below Rat frame k all = omega arith

-- ---- elements determine a frame

-- equal numbers have equal bytes
same_bytes : (count : ℕ) (a b : List ℕ) (at t : ℕ) → All (λ byte. byte < 256) a → All (λ byte. byte < 256) b
    → number_at count a at ≡ number_at count b at
    → t < count → slice_index a (at + t) ≡ slice_index b (at + t)
same_bytes zero a b at t small low same within = absurd (omega (arith, within))
same_bytes (suc count) a b at zero small low same within =
    let start : at + 0 ≡ at = omega arith in
    let first : slice_index a at ≡ slice_index b at = omega (arith, same, byte_below a at small, byte_below b at low) in
    ap (slice_index a) start ∙ first ∙ ap (slice_index b) (sym start)
same_bytes (suc count) a b at (suc t) small low same within =
    let rest : number_at count a (at + 1) ≡ number_at count b (at + 1) = omega (arith, same, byte_below a at small, byte_below b at low) in
    let next : at + suc t ≡ at + 1 + t = omega arith in
    ap (slice_index a) next ∙ same_bytes count a b (at + 1) t small low rest (omega (arith, within)) ∙ ap (slice_index b) (sym next)

-- element k of both frames is the same
same_element : (elem : PixType) (planes : List ℕ) (width rows : ℕ) (a b : List ℕ) (k : ℕ) → k < width * rows * sum planes
    → HaveSameElements elem planes width rows (width * rows) a b → element elem a k ≡ element elem b k
same_element elem planes width rows a b k below same =
    let found = each_index (width * rows) 0 planes k below in
    let pixel = found.0 in
    let wide : 0 < width = factor_positive rows width pixel (omega (arith, found.2.inside)) in
    let x = pixel % width in
    let row = pixel / width in
    let number : row * width + x ≡ pixel = div-add-mod' pixel width in
    let position : PixelPosition = record { width = width; rows = rows; x = x; row = row; y = 0 } in
    let index : element_in (width * rows) (row * width + x) 0 planes found.1 ≡ k =
    ap (λ t. element_in (width * rows) t 0 planes found.1) number ∙ found.2.index ∙ omega arith in
    ap (element elem a) (sym index) ∙ sym (element_of-is elem planes a position found.1 found.2.within)
    ∙ same x row 0 found.1 (mod-lt pixel wide) ((div-lt_iff_lt-mul wide).1 (omega (arith, found.2.inside)))
    (omega (arith, number, found.2.inside))
    ∙ element_of-is elem planes b position found.1 found.2.within ∙ ap (element elem b) index

pub elements_make_frame : ElementsMakeFrame
elements_make_frame elem planes width rows a b whole size_a size_b small low same =
    let size = bytes elem in
    let some : 0 < size = bytes_positive elem whole in
    same_number_lists a b (size_a ∙ sym size_b)
    (λ t within.
    let k = t / size in
    let below : k < width * rows * sum planes = (div-lt_iff_lt-mul some).1 (omega (arith, within, size_a)) in
    let number : k * size + t % size ≡ t = div-add-mod' t size in
    ap (slice_index a) (sym number)
    ∙ same_bytes size a b (k * size) (t % size) small low (same_element elem planes width rows a b k below same) (mod-lt t some)
    ∙ ap (slice_index b) number)
