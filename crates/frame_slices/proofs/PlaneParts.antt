-- A plane in the bytes of a slice: where it stands, and what is so when its bytes are replaced.
use Rattle.std.proofs.Common.{◌≡◌, ◌≢◌, true, if◌then◌else◌, add-zero, add-suc, le_refl, ℕ, zero, suc, ◌+◌, ◌-◌, ◌*◌, ◌^◌, ◌<◌, ◌≤◌, ⊎_elim}
use Rattle.std.proofs.Common.{List, ◌++◌, length, take, drop, sym, ◌∙◌, ap, subst, arith}
use Rattle.std.proofs.Math.Nat.{mul-le-mul_left}
use Rattle.std.proofs.lemmas.Bool.{cases_lt}
use Rattle.std.proofs.lemmas.List.{drop-drop, drop_at, take_at, length-take-le, length-drop, length-append, take-append-drop}
use Rattle.std.proofs.lemmas.List.{take-append-le, drop-append-le}
use Rattle.pix_desc.specs.declared.desc.Desc.{Desc}
use Rattle.pix_desc.specs.Frame.{row_length, plane_length, plane_start, row_start, frame_length}
use Rattle.row_plan.specs.Slices.{plane_rows, behind_planes}
use borrow.Rule.Slice.PartMut.{put_mid, post_of}

-- ---- where planes stand

plane_start-rises : (desc : Desc) (width rows plane k : ℕ) → plane_start desc width rows plane ≤ plane_start desc width rows (plane + k)
plane_start-rises desc width rows plane zero = rw add-zero (le_refl (plane_start desc width rows plane))
plane_start-rises desc width rows plane (suc k) = let before = plane_start-rises desc width rows plane k in
    rw add-suc (omega (arith, before))

pub planes_below : (desc : Desc) (width rows p q : ℕ) → p < q → plane_start desc width rows (suc p) ≤ plane_start desc width rows q
planes_below desc width rows p q below =
    subst (λ n. plane_start desc width rows (suc p) ≤ plane_start desc width rows n) {x = suc p + (q - suc p)} {y = q} (omega arith)
    (plane_start-rises desc width rows (suc p) (q - suc p))

-- the rows of a plane of a slice stand behind the planes before it
pub plane_cut : (desc : Desc) (width rows p : ℕ) (bytes : List ℕ)
    → plane_rows desc width rows bytes 0 rows p ≡ take (plane_length desc width rows p) (drop (plane_start desc width rows p) bytes)
unfolding row_start
plane_cut desc width rows p bytes =
    ap (λ n. take (plane_length desc width rows p) (drop n bytes)) {x = plane_start desc width rows p + 0 * row_length desc width p} {y =
    plane_start desc width rows p} (omega arith)

-- ---- bytes replaced

-- those that were put there
pub put_there : (xs ys : List ℕ) (a k : ℕ) → a ≤ length xs → length ys ≡ k → take k (drop a (put_mid a k xs ys)) ≡ ys
put_there xs ys a k within long =
    ap (take k) (drop_at (take a xs) (ys ++ post_of a k xs) a (length-take-le a xs within)) ∙ take_at ys (post_of a k xs) k long

-- those behind them
pub put_behind : (xs ys : List ℕ) (a k b : ℕ) → a ≤ length xs → length ys ≡ k → a + k ≤ b → drop b (put_mid a k xs ys) ≡ drop b xs
put_behind xs ys a k b within long later =
    let rest = b - (a + k) in
    let whole = put_mid a k xs ys in
    let after : drop k (drop a whole) ≡ drop k (drop a xs) =
    ap (drop k) (drop_at (take a xs) (ys ++ post_of a k xs) a (length-take-le a xs within)) ∙ drop_at ys (post_of a k xs) k long in
    let far : (zs : List ℕ) → drop b zs ≡ drop rest (drop k (drop a zs)) =
    λ zs. ap (λ n. drop n zs) {x = b} {y = a + k + rest} (omega arith) ∙ sym (drop-drop rest (a + k) zs)
    ∙ ap (drop rest) (sym (drop-drop k a zs)) in
    far whole ∙ ap (drop rest) after ∙ sym (far xs)

-- a part of a front does not depend on what follows the front
front_part : (front rest other : List ℕ) (b m : ℕ) → b + m ≤ length front → take m (drop b (front ++ rest))
    ≡ take m (drop b (front ++ other))
front_part front rest other b m within =
    let part : (more : List ℕ) → take m (drop b (front ++ more)) ≡ take m (drop b front) =
    λ more. ap (take m) (drop-append-le b front more (omega arith))
    ∙ take-append-le m (drop b front) more (omega (arith, length-drop b front)) in
    part rest ∙ sym (part other)

-- those before them
pub put_before : (xs ys : List ℕ) (a k b m : ℕ) → a ≤ length xs → b + m ≤ a → take m (drop b (put_mid a k xs ys)) ≡ take m (drop b xs)
put_before xs ys a k b m within earlier =
    front_part (take a xs) (ys ++ post_of a k xs) (drop a xs) b m (omega (arith, length-take-le a xs within))
    ∙ ap (λ zs. take m (drop b zs)) (take-append-drop a xs)

-- the bytes of a buffer that holds so many
pub items_are : (len : ℕ) (bytes rest : List ℕ) → length bytes ≡ len → take len (bytes ++ rest) ≡ bytes
items_are len bytes rest size = take_at bytes rest len size

pub length_put : (xs ys : List ℕ) (a k : ℕ) → a + k ≤ length xs → length ys ≡ k → length (put_mid a k xs ys) ≡ length xs
length_put xs ys a k within long =
    omega (
      arith,
      length-append (take a xs) (ys ++ post_of a k xs),
      length-append ys (post_of a k xs),
      length-take-le a xs (omega arith),
      length-drop k (drop a xs),
      length-drop a xs,
    )

-- ---- a plane replaced

module _ (desc : Desc) (width rows p a k : ℕ) (xs ys : List ℕ) where
  pub plane_put : a ≡ plane_start desc width rows p → a + k ≡ plane_start desc width rows (suc p) → a ≤ length xs → length ys ≡ k
      → plane_rows desc width rows (put_mid a k xs ys) 0 rows p ≡ ys
  plane_put start end within long =
      plane_cut desc width rows p (put_mid a k xs ys)
      ∙ ap (λ n. take n (drop (plane_start desc width rows p) (put_mid a k xs ys))) {x = plane_length desc width rows p} {y = k}
      (omega arith)
      ∙ ap (λ n. take k (drop n (put_mid a k xs ys))) (sym start)
      ∙ put_there xs ys a k within long

  -- planes before what is replaced
  pub earlier_kept : (q : ℕ) → plane_start desc width rows (suc q) ≤ a → a ≤ length xs
      → plane_rows desc width rows (put_mid a k xs ys) 0 rows q ≡ plane_rows desc width rows xs 0 rows q
  earlier_kept q earlier within =
      plane_cut desc width rows q (put_mid a k xs ys)
      ∙ put_before xs ys a k (plane_start desc width rows q) (plane_length desc width rows q) within earlier
      ∙ sym (plane_cut desc width rows q xs)

  pub others_kept : (q : ℕ) → q ≢ p → a ≡ plane_start desc width rows p → a + k ≡ plane_start desc width rows (suc p) → a ≤ length xs
      → length ys ≡ k
      → plane_rows desc width rows (put_mid a k xs ys) 0 rows q ≡ plane_rows desc width rows xs 0 rows q
  others_kept q other start end within long =
      ⊎_elim
      (λ (below : q < p). earlier_kept q (omega (arith, planes_below desc width rows q p below)) within)
      (λ (above : p ≤ q).
      let later = planes_below desc width rows p q (omega arith) in
      plane_cut desc width rows q (put_mid a k xs ys)
      ∙ ap (take (plane_length desc width rows q)) (put_behind xs ys a k (plane_start desc width rows q) within long (omega (arith, later)))
      ∙ sym (plane_cut desc width rows q xs))
      (cases_lt q p)

  pub behind_kept : p < 4 → a + k ≡ plane_start desc width rows (suc p) → a ≤ length xs → length ys ≡ k
      → behind_planes desc width rows (put_mid a k xs ys) ≡ behind_planes desc width rows xs
  behind_kept used end within long = put_behind xs ys a k (plane_start desc width rows 4) within long
      (omega (arith, planes_below desc width rows p 4 used))

-- what stands from a plane's start to its end is the plane
pub plane_between : (desc : Desc) (width rows p a e : ℕ) (xs : List ℕ) → a ≡ plane_start desc width rows p → e
    ≡ plane_start desc width rows (suc p)
    → take (e - a) (drop a xs) ≡ plane_rows desc width rows xs 0 rows p
plane_between desc width rows p a e xs start end =
    ap (λ n. take n (drop a xs)) {x = e - a} {y = plane_length desc width rows p} (omega arith)
    ∙ ap (λ n. take (plane_length desc width rows p) (drop n xs)) start
    ∙ sym (plane_cut desc width rows p xs)

-- a frame has at most so many bytes
pub area_small : (width height all at : ℕ) → width ≤ 16384 → height ≤ 16384 → all ≤ 32 * (width * height) + 1024 → at ≤ all → at ≤ 2 ^ 34
area_small width height all at narrow low most inside =
    let area : width * height ≤ width * 16384 = mul-le-mul_left width low in
    omega (arith, area)

-- the palette stands behind the planes
pub palette_size : (desc : Desc) (width rows size : ℕ) → size ≡ frame_length desc width rows → desc.palette ≡ true → size
    ≡ plane_start desc width rows 4 + 1024
unfolding frame_length
palette_size desc width rows size is has = is ∙ ap (λ b. plane_start desc width rows 4 + (if b then 1024 else 0)) has
