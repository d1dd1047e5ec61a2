-- Which bits are kept when a component is written, and what components read then.
use Rattle.std.proofs.Common.{◌≡◌, ◌≢◌, ℕ, ◌+◌, ◌-◌, ◌*◌, ◌/◌, ◌%◌, ◌<◌, ◌≤◌, pos, ◌-ℤ◌, true, false, List, get_or, All, ◌⊎◌, inl, inr}
use Rattle.std.proofs.Common.{subst, sym, ◌∙◌, ap, arith}
use Rattle.std.specs.Int.{bit_at}
use Rattle.std.proofs.Math.Nat.{mod-lt}
use Rattle.std.proofs.lemmas.Bool.{cases_lt, both_ways, false_from_ne_true}
use Rattle.std.proofs.lemmas.Int.{ints}
use Rattle.std.proofs.lemmas.Nat.{pow_pos, same_from_place}
use Rattle.std.proofs.lemmas.Nat.Bits.{same_from_bits_below}
use Rattle.pix_desc.specs.declared.desc.Comp.{Comp}
use Rattle.pix_desc.specs.declared.desc.Desc.{Desc}
use Rattle.pix_desc.specs.Component.{component_of, component, count_of, first_byte, start_of, number_at, bytes_read, is_narrow, bit_of}
use Rattle.pix_desc.specs.Component.{bit_position, reads_bit, reads_row_bit, KeepsOtherBits}
use Rattle.pix_desc.specs.Frame.{plane_step}
use Rattle.pix_desc.specs.Layouts.{IsValid}
use Rattle.pix_desc.proofs.BitsOfBytes.{byte_of, IsBitAt, bit_here}
use Rattle.pix_desc.proofs.BitPositions.{byte_below, position_of, bit_position_is, position_inside, number_bit, component_bit}
use Rattle.pix_desc.proofs.FrameReads.{read_position, position_reads}
use Rattle.pix_desc.proofs.Valid.{laid_out}

-- a component reads the bits of its value
is_read : (desc : Desc) (c : Comp) (x k i : ℕ) → first_byte desc c ≡ pos (count_of (first_byte desc c)) → i < c.depth
    → IsBitAt (is_narrow c) desc.be (start_of desc c x) (c.shift + i) (k / 8) (k % 8)
    → reads_bit desc c (pos k -ℤ pos (8 * (x * c.step))) ≡ true
is_read desc c x k i first inside at =
    let byte : k / 8 ≡ x * c.step + count_of (first_byte desc c) + byte_of (is_narrow c) desc.be (c.shift + i) = at.byte in
    let sum : k ≡ 8 * (x * c.step) + position_of desc c (c.shift + i) = omega (arith, byte, at.bit) in
    position_reads desc c (pos k -ℤ pos (8 * (x * c.step))) i inside (omega (arith, ints, bit_position_is desc c i first, sum))

-- a write that keeps the bytes round a component's number, and the number's other bits, keeps each bit that the component does not read
pub kept_bit : (desc : Desc) (c : Comp) (x : ℕ) (old new : List ℕ) → first_byte desc c ≡ pos (count_of (first_byte desc c))
    → c.shift + c.depth ≤ 16
    → ((k : ℕ) → get_or old k 0 < 256) → ((k : ℕ) → get_or new k 0 < 256)
    → ((k : ℕ) → k < start_of desc c x → get_or new k 0 ≡ get_or old k 0)
    → ((k : ℕ) → start_of desc c x + bytes_read c ≤ k → get_or new k 0 ≡ get_or old k 0)
    → ((m : ℕ) → m < c.shift → bit_at (number_at desc c new (start_of desc c x)) m ≡ bit_at (number_at desc c old (start_of desc c x)) m)
    → ((m : ℕ) → c.shift + c.depth ≤ m
    → bit_at (number_at desc c new (start_of desc c x)) m ≡ bit_at (number_at desc c old (start_of desc c x)) m)
    → (k : ℕ) → reads_bit desc c (pos k -ℤ pos (8 * (x * c.step))) ≡ false → bit_of new k ≡ bit_of old k
kept_bit desc c x old new first bits bytes_old bytes_new before behind below above k unread =
    let at = start_of desc c x in
    let goal : Type 0 = bit_of new k ≡ bit_of old k in
    elim (cases_lt (k / 8) at) as (λ _. goal) [
      | inl early ↦ ap (λ b. bit_at b (k % 8)) (before (k / 8) early)
      | inr from ↦ elim (cases_lt (k / 8) (at + bytes_read c)) as (λ _. goal) [
        | inr past ↦ ap (λ b. bit_at b (k % 8)) (behind (k / 8) past)
        | inl to ↦
            let here = bit_here (is_narrow c) desc.be at (k / 8) (k % 8) (omega arith) from to in
            let m = here.0 in
            let bit_old = number_bit desc c old at m k bytes_old here.1 in
            let bit_new = number_bit desc c new at m k bytes_new here.1 in
            elim (cases_lt m c.shift) as (λ _. goal) [
              | inl low ↦ sym bit_new ∙ below m low ∙ bit_old
              | inr from ↦ elim (cases_lt m (c.shift + c.depth)) as (λ _. goal) [
                | inr high ↦ sym bit_new ∙ above m high ∙ bit_old
                | inl inside ↦
                    let bit : m ≡ c.shift + (m - c.shift) = omega arith in
                    let stands = subst (λ n. IsBitAt (is_narrow c) desc.be at n (k / 8) (k % 8)) bit here.1 in
                    absurd (both_ways (reads_bit desc c (pos k -ℤ pos (8 * (x * c.step)))) unread
                    (is_read desc c x k (m - c.shift) first (omega arith) stands))
              ]
            ]
      ]
    ]

-- a component's bits lie in its pixel
count_of-bit_position : (desc : Desc) (j i : ℕ) → IsValid desc → j < desc.count → i < (component_of desc j).depth
    → (bit_position desc (component_of desc j) i ≡ pos (count_of (bit_position desc (component_of desc j) i)))
    × (count_of (bit_position desc (component_of desc j) i) < 8 * (component_of desc j).step)
count_of-bit_position desc j i v listed below =
    let out = laid_out desc v in
    let c = component_of desc j in
    let position = bit_position_is desc c i (out.first j listed) in
    let count : count_of (bit_position desc c i) ≡ position_of desc c (c.shift + i) = ap count_of position in
    (position ∙ ap pos (sym count), omega (arith, count, position_inside desc c i (out.inside j listed) (out.bits j listed) below))

-- bit i of component j is the bit of the row at its position
pub bit_at-component : (desc : Desc) (j x i : ℕ) (row : List ℕ) → IsValid desc → j < desc.count → All (λ byte. byte < 256) row
    → i < (component_of desc j).depth
    → bit_at (component desc j row x) i
    ≡ bit_of row (8 * (x * (component_of desc j).step) + count_of (bit_position desc (component_of desc j) i))
bit_at-component desc j x i row v listed bytes below =
    let out = laid_out desc v in
    let c = component_of desc j in
    component_bit desc c row x i below (out.bits j listed) (λ k. byte_below row k bytes)
    ∙ ap (λ n. bit_of row (8 * (x * c.step) + n)) (sym (ap count_of (bit_position_is desc c i (out.first j listed))))

-- two components of a plane, or two pixels, have no bit of a row in common
unread : (desc : Desc) (i j x y b : ℕ) → IsValid desc → i < desc.count → j < desc.count
    → (component_of desc i).plane ≡ (component_of desc j).plane → (i ≢ j) ⊎ (x ≢ y)
    → b < (component_of desc j).depth
    → reads_row_bit desc i x (8 * (y * (component_of desc j).step) + count_of (bit_position desc (component_of desc j) b)) ≡ false
unread desc i j x y b v listed_i listed_j plane apart below =
    let out = laid_out desc v in
    let c = component_of desc i in
    let d = component_of desc j in
    let k = 8 * (y * d.step) + count_of (bit_position desc d b) in
    let start = pos k -ℤ pos (8 * (x * c.step)) in
    false_from_ne_true (reads_row_bit desc i x k) (λ read.
    let found = read_position desc c start read in
    let a = found.0 in
    let same = found.2 in
    let position_c = count_of-bit_position desc i a v listed_i found.1 in
    let position_d = count_of-bit_position desc j b v listed_j below in
    let step : c.step ≡ d.step = sym (out.step i listed_i) ∙ ap (plane_step desc) plane ∙ out.step j listed_j in
    let p = count_of (bit_position desc c a) in
    let q = count_of (bit_position desc d b) in
    let width = 8 * d.step in
    let steps : x * c.step ≡ x * d.step = ap (λ s. x * s) step in
    let sum : x * width + p ≡ y * width + q = omega (arith, ints, sym position_c.0 ∙ same, steps) in
    let small : p < width = omega (arith, position_c.1, step) in
    let one = same_from_place x p y q width small position_d.1 sum in
    elim apart as (λ _. ⊥) [
      | inr pixels ↦ pixels one.0
      | inl other ↦ out.apart i j a b listed_i listed_j other plane found.1 below (position_c.0 ∙ ap pos one.1 ∙ sym position_d.0)
    ])

-- a write of one component leaves the other as it is
pub component-kept : (desc : Desc) (i j x y : ℕ) (old new : List ℕ) → IsValid desc → i < desc.count → j < desc.count
    → (component_of desc i).plane ≡ (component_of desc j).plane → (i ≢ j) ⊎ (x ≢ y)
    → All (λ byte. byte < 256) old → All (λ byte. byte < 256) new → KeepsOtherBits desc i x old new
    → component desc j new y ≡ component desc j old y
component-kept desc i j x y old new v listed_i listed_j plane apart bytes_old bytes_new kept =
    let d = component_of desc j in
    same_from_bits_below d.depth (component desc j new y) (component desc j old y) (mod-lt _ (pow_pos d.depth)) (mod-lt _ (pow_pos d.depth))
    (λ b below.
    let k = 8 * (y * d.step) + count_of (bit_position desc d b) in
    bit_at-component desc j y b new v listed_j bytes_new below
    ∙ kept.bits k (unread desc i j x y b v listed_i listed_j plane apart below)
    ∙ sym (bit_at-component desc j y b old v listed_j bytes_old below))
