-- Which element of a frame is element i of a pixel: each lies in the frame, no two are the same, and each of the frame is one.
use Rattle.std.proofs.Common.{◌≡◌, ℕ, ◌+◌, ◌-◌, ◌*◌, ◌/◌, ◌%◌, ◌<◌, ◌≤◌, ⊎_elim, List, [], ◌∷◌, sym, ap, ◌∙◌, arith}
use Rattle.std.specs.Prelude.{sum}
use Rattle.std.proofs.lemmas.Bool.{cases_lt}
use Rattle.std.proofs.lemmas.Nat.{mul-add-lt, same_from_place, div-add-mod'}
use Rattle.std.proofs.Math.Nat.{div-lt_iff_lt-mul, mod-lt, pos_of_ne-zero}
use Rattle.op_list.specs.Pixel.{element_in}
use Rattle.op_list.proofs.Elements.{sum-cons, in_first, in_rest}

-- those of the first plane lie before its end
first_below : (pixels pixel before n i : ℕ) (planes : List ℕ) → pixel < pixels → i < n
    → element_in pixels pixel before (n ∷ planes) i < pixels * (before + n)
first_below pixels pixel before n i planes inside here =
    let row : pixel * n + i < n * pixels = mul-add-lt pixel n i pixels inside here in
    omega (arith, row, in_first pixels pixel before n i planes here)

-- each lies behind the planes that are passed over
pub index_from : (pixels pixel before : ℕ) (planes : List ℕ) (i : ℕ) → i < sum planes
    → pixels * before ≤ element_in pixels pixel before planes i
index_from pixels pixel before [] i within = absurd (omega (arith, within))
index_from pixels pixel before (n ∷ planes) i within =
    ⊎_elim
    (λ (here : i < n). omega (arith, in_first pixels pixel before n i planes here))
    (λ (later : n ≤ i).
    let rest : pixels * (before + n) ≤ element_in pixels pixel (before + n) planes (i - n) =
    index_from pixels pixel (before + n) planes (i - n) (omega (arith, within, later, sum-cons n planes)) in
    omega (arith, rest, in_rest pixels pixel before n i planes later))
    (cases_lt i n)

-- and before the end of the planes
pub index_below : (pixels pixel before : ℕ) (planes : List ℕ) (i : ℕ) → pixel < pixels → i < sum planes
    → element_in pixels pixel before planes i < pixels * (before + sum planes)
index_below pixels pixel before [] i inside within = absurd (omega (arith, within))
index_below pixels pixel before (n ∷ planes) i inside within =
    let all : pixels * (before + sum (n ∷ planes)) ≡ pixels * (before + n) + pixels * sum planes =
    omega (arith, ap (λ t. pixels * t) (sum-cons n planes)) in
    ⊎_elim
    (λ (here : i < n). omega (arith, all, first_below pixels pixel before n i planes inside here))
    (λ (later : n ≤ i).
    let rest : element_in pixels pixel (before + n) planes (i - n) < pixels * (before + n + sum planes) =
    index_below pixels pixel (before + n) planes (i - n) inside (omega (arith, within, later, sum-cons n planes)) in
    omega (arith, all, rest, in_rest pixels pixel before n i planes later))
    (cases_lt i n)

-- those of the first plane lie before the others
first_before_rest : (pixels x y before n i j : ℕ) (planes : List ℕ) → x < pixels → i < n → n ≤ j → j < sum (n ∷ planes)
    → element_in pixels x before (n ∷ planes) i < element_in pixels y before (n ∷ planes) j
first_before_rest pixels x y before n i j planes inside here later within =
    let rest : pixels * (before + n) ≤ element_in pixels y (before + n) planes (j - n) =
    index_from pixels y (before + n) planes (j - n) (omega (arith, within, later, sum-cons n planes)) in
    omega (arith, rest, first_below pixels x before n i planes inside here, in_rest pixels y before n j planes later)

-- an element of the frame is one element of one pixel
pub same_index : (pixels x y before : ℕ) (planes : List ℕ) (i j : ℕ) → x < pixels → y < pixels → i < sum planes → j < sum planes
    → element_in pixels x before planes i ≡ element_in pixels y before planes j → (x ≡ y) × (i ≡ j)
same_index pixels x y before [] i j inside other within more same = absurd (omega (arith, within))
same_index pixels x y before (n ∷ planes) i j inside other within more same =
    ⊎_elim
    (λ (here : i < n).
    ⊎_elim
    (λ (near : j < n).
    same_from_place x i y j n here near
    (omega (arith, same, in_first pixels x before n i planes here, in_first pixels y before n j planes near)))
    (λ (far : n ≤ j). absurd (omega (arith, same, first_before_rest pixels x y before n i j planes inside here far more)))
    (cases_lt j n))
    (λ (later : n ≤ i).
    ⊎_elim
    (λ (near : j < n). absurd (omega (arith, same, first_before_rest pixels y x before n j i planes other near later within)))
    (λ (far : n ≤ j).
    let rest : (x ≡ y) × (i - n ≡ j - n) =
    same_index pixels x y (before + n) planes (i - n) (j - n) inside other (omega (arith, within, later, sum-cons n planes))
    (omega (arith, more, far, sum-cons n planes))
    (sym (in_rest pixels x before n i planes later) ∙ same ∙ in_rest pixels y before n j planes far) in
    (rest.0, omega (arith, rest.1, later, far)))
    (cases_lt j n))
    (cases_lt i n)

-- a product with a number below it has no factor 0
pub factor_positive : (m n k : ℕ) → k < m * n → 0 < n
factor_positive m n k below =
    pos_of_ne-zero (λ (none : n ≡ 0). let empty : m * n ≡ m * 0 = ap (λ t. m * t) none in omega (arith, empty, below))

-- Element k behind the planes that are passed over is element i of a pixel.
pub record IsElementOf (pixels before : ℕ) (planes : List ℕ) (k pixel i : ℕ) : Type 0 where
  pub inside : pixel < pixels
  pub within : i < sum planes
  pub index : element_in pixels pixel before planes i ≡ pixels * before + k

in_first_plane : (pixels before n k : ℕ) (planes : List ℕ) → k < pixels * n → 0 < n
    → IsElementOf pixels before (n ∷ planes) k (k / n) (k % n)
in_first_plane pixels before n k planes below some =
    let here : k % n < n = mod-lt k some in
    record {
      inside = (div-lt_iff_lt-mul some).1 below;
      within = omega (arith, here, sum-cons n planes);
      index = omega (arith, in_first pixels (k / n) before n (k % n) planes here, div-add-mod' k n);
    }

in_later_plane : (pixels before n k pixel i : ℕ) (planes : List ℕ) → pixels * n ≤ k
    → IsElementOf pixels (before + n) planes (k - pixels * n) pixel i
    → IsElementOf pixels before (n ∷ planes) k pixel (i + n)
in_later_plane pixels before n k pixel i planes later is =
    let back : i + n - n ≡ i = omega arith in
    let rest : element_in pixels pixel (before + n) planes (i + n - n) ≡ pixels * (before + n) + (k - pixels * n) =
    ap (element_in pixels pixel (before + n) planes) back ∙ is.index in
    record {
      inside = is.inside;
      within = omega (arith, is.within, sum-cons n planes);
      index = omega (arith, in_rest pixels pixel before n (i + n) planes (omega arith), rest, later);
    }

-- each element of a frame is one of a pixel
pub each_index : (pixels before : ℕ) (planes : List ℕ) (k : ℕ) → k < pixels * sum planes
    → (pixel : ℕ) × (i : ℕ) × IsElementOf pixels before planes k pixel i
each_index pixels before [] k below = absurd (let none : pixels * 0 ≡ 0 = omega arith in omega (arith, below, none))
each_index pixels before (n ∷ planes) k below =
    let all : pixels * sum (n ∷ planes) ≡ pixels * n + pixels * sum planes = omega (arith, ap (λ t. pixels * t) (sum-cons n planes)) in
    ⊎_elim
    (λ (here : k < pixels * n). (k / n, k % n, in_first_plane pixels before n k planes here (factor_positive pixels n k here)))
    (λ (later : pixels * n ≤ k).
    let found = each_index pixels (before + n) planes (k - pixels * n) (omega (arith, below, all, later)) in
    (found.0, found.1 + n, in_later_plane pixels before n k found.0 found.1 planes later found.2))
    (cases_lt k (pixels * n))
