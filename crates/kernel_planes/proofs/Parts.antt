-- A part of a slice: what is read from it, and what it leaves when it is put back.
use Rattle.std.proofs.Common.{◌≡◌, ℕ, ◌+◌, ◌*◌, ◌<◌, ◌≤◌, List, ◌++◌, take, drop, length, get_or, sym, ap, ◌∙◌, arith, get_or-append-add}
use Rattle.std.proofs.lemmas.List.{get_or_append_left, get_or-take, get_or-drop, length-take-le}
use Rattle.std.proofs.Math.Nat.{mul-le-mul_right}
use borrow.Rule.Slice.PartMut.{put_mid, post_of}

-- an element of a part
pub part_is : {X : Type 0} (a n : ℕ) (xs : List X) (i : ℕ) (d : X) → i < n → get_or (take n (drop a xs)) i d ≡ get_or xs (a + i) d
part_is {X} a n xs i d small = get_or-take n (drop a xs) i d small ∙ get_or-drop a xs i d

-- an element of a part that was put back
pub put_is : {X : Type 0} (a : ℕ) (xs ys rest : List X) (i : ℕ) (d : X) → a ≤ length xs → i < length ys
    → get_or (take a xs ++ (ys ++ rest)) (a + i) d ≡ get_or ys i d
put_is {X} a xs ys rest i d room small =
    let long : length (take a xs) ≡ a = length-take-le a xs room in
    let same : length (take a xs) + i ≡ a + i = omega (arith, long) in
    sym (ap (λ n. get_or (take a xs ++ (ys ++ rest)) n d) same) ∙ get_or-append-add (take a xs) (ys ++ rest) i d
    ∙ get_or_append_left ys rest d i small

-- the same, at a place of the whole
pub put_back : {X : Type 0} (a n : ℕ) (xs ys : List X) (k i : ℕ) (d : X) → a ≤ length xs → i < length ys → k ≡ a + i
    → get_or (put_mid a n xs ys) k d ≡ get_or ys i d
put_back {X} a n xs ys k i d room small same =
    ap (λ t. get_or (put_mid a n xs ys) t d) same ∙ put_is a xs ys (post_of a n xs) i d room small

-- the bytes of 64 pixels hold value v of pixel i
pub pixel_below : (count i v : ℕ) → v < count → i < 64 → count * i + v < 64 * count
pixel_below count i v few below =
    let rows : (i + 1) * count ≤ 64 * count = mul-le-mul_right count (omega (arith, below)) in
    omega (arith, rows, few)
