-- A frame of which one row more is converted.
use Rattle.std.proofs.Common.{◌≡◌, ℕ, ◌+◌, ◌*◌, ◌<◌, ◌≤◌, ⊎_elim, List, slice_index, refl, sym, ◌∙◌, ap, arith, mul-le-mul_left}
use Rattle.std.specs.Prelude.{sum}
use Rattle.std.proofs.lemmas.Bool.{cases_lt}
use Rattle.op_list.specs.declared.types.PixType.{PixType}
use Rattle.op_list.specs.declared.position.PixelPosition.{PixelPosition}
use Rattle.op_list.specs.Values.{four}
use Rattle.op_list.specs.Pixel.{element_of}
use Rattle.op_list.specs.Store.{HaveSameElements}
use Rattle.op_list.proofs.Stored.{element_of-past}
use Rattle.op_list.proofs.Four.{get_or-four}
use Rattle.kernel_planes.specs.Block.{IsOtherRow, position_at}

-- the numbers that a row was given are the elements of the wanted frame
pub record IsRowOf (elem : PixType) (planes : List ℕ) (width rows row y : ℕ) (numbers : ℕ → List ℕ) (old new wanted : List ℕ) : Type 0 where
  pub stored : (x v : ℕ) → x < width → v < sum planes
      → element_of elem planes new (position_at width rows row y x) v ≡ slice_index (numbers x) v
  pub others : (other : PixelPosition) → IsOtherRow width rows row other → (v : ℕ)
      → element_of elem planes new other v ≡ element_of elem planes old other v
  pub numbers_are : (x : ℕ) → x < width → numbers x ≡ four (λ i. element_of elem planes wanted (position_at width rows row y x) i)
  pub few : sum planes ≤ 4

-- an element does not depend on the row by which the dither goes
same_row : (elem : PixType) (planes frame : List ℕ) (width rows x row y y' i : ℕ)
    → element_of elem planes frame (position_at width rows row y x) i ≡ element_of elem planes frame (position_at width rows row y' x) i
unfolding element_of
same_row elem planes frame width rows x row y y' i = refl

in_row : (elem : PixType) (planes : List ℕ) (width rows row y : ℕ) (numbers : ℕ → List ℕ) (old new wanted : List ℕ) (x i : ℕ) → x < width
    → IsRowOf elem planes width rows row y numbers old new wanted
    → element_of elem planes new (position_at width rows row y x) i ≡ element_of elem planes wanted (position_at width rows row y x) i
in_row elem planes width rows row y numbers old new wanted x i inside is =
    let place = position_at width rows row y x in
    ⊎_elim
    (λ (here : i < sum planes).
    is.stored x i inside here ∙ ap (λ l. slice_index l i) (is.numbers_are x inside)
    ∙ get_or-four (λ k. element_of elem planes wanted place k) i 0 (omega (arith, here, is.few)))
    (λ (past : sum planes ≤ i). element_of-past elem planes new place i past ∙ sym (element_of-past elem planes wanted place i past))
    (cases_lt i (sum planes))

-- a pixel of an earlier row, and the row of a pixel before the end of a row
earlier_pixel : (width x row later : ℕ) → x < width → row < later → row * width + x < later * width
earlier_pixel width x row later inside before =
    let rows : width * (row + 1) ≤ width * later = mul-le-mul_left width (omega (arith, before)) in
    omega (arith, rows, inside)

row_before : (width x row later : ℕ) → row * width + x < later * width → row < later
row_before width x row later below =
    ⊎_elim (λ (h : row < later). h)
    (λ (h : later ≤ row). let rows : width * later ≤ width * row = mul-le-mul_left width h in absurd (omega (arith, rows, below)))
    (cases_lt row later)

-- where the rows before it were converted, one row more is
pub row_more : (elem : PixType) (planes : List ℕ) (width rows row y : ℕ) (numbers : ℕ → List ℕ) (old new wanted : List ℕ)
    → IsRowOf elem planes width rows row y numbers old new wanted
    → HaveSameElements elem planes width rows (row * width) old wanted
    → HaveSameElements elem planes width rows ((row + 1) * width) new wanted
row_more elem planes width rows row y numbers old new wanted is before = λ x' row' y' i across down below.
    ⊎_elim
    (λ (earlier : row' < row).
    is.others (position_at width rows row' y' x') (record
    { width = refl; rows = refl; column = across; row = down; differs = λ same. absurd (omega (arith, same, earlier)) }) i
    ∙ before x' row' y' i across down (earlier_pixel width x' row' row across earlier))
    (λ (now : row ≤ row').
    let same : row' ≡ row = (let last = row_before width x' row' (row + 1) below in omega (arith, last, now)) in
    ap (λ r. element_of elem planes new (position_at width rows r y' x') i) same
    ∙ same_row elem planes new width rows x' row y' y i
    ∙ in_row elem planes width rows row y numbers old new wanted x' i across is
    ∙ same_row elem planes wanted width rows x' row y y' i
    ∙ ap (λ r. element_of elem planes wanted (position_at width rows r y' x') i) (sym same))
    (cases_lt row' row)
