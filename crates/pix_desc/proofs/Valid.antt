-- What a descriptor that passes the check is known to be.
use Rattle.std.proofs.Common.{◌≡◌, ◌≢◌, ℕ, ◌+◌, ◌*◌, ◌<◌, ◌≤◌, pos, negsuc, ℤ, ◌+ℤ◌, Bool, true, false, not, ◌||◌, ◌&&◌, if◌then◌else◌}
use Rattle.std.proofs.Common.{nat_eq, nat_le, Result, Err, IsOk, List, length, inl, inr, refl, sym, ap, arith}
use Rattle.std.specs.List.{range_with_len, list_any, list_all}
use Rattle.std.specs.Ordering.{int_eq}
use Rattle.std.proofs.lemmas.Bool.{both_ways, false≢true, not-false, and_parts, and_cases, eqb-true, eq-eqb, or_parts, cases_order}
use Rattle.std.proofs.lemmas.Bool.{cases_lt}
use Rattle.std.proofs.lemmas.Bool.Decides.{nat_tests, Decides-int_eq}
use lib.Signed.{le_z}
use Rattle.pix_desc.specs.declared.desc.Comp.{Comp}
use Rattle.pix_desc.specs.declared.desc.Desc.{Desc}
use Rattle.pix_desc.specs.declared.desc.Layout.{Layout}
use Rattle.pix_desc.specs.declared.desc.DescFault.{DescFault}
use Rattle.pix_desc.specs.declared.desc.DescFault.TheVariants.{ComponentCount, DepthRange, Overlap, OutsideStep, MixedLayout, PlaneCount}
use Rattle.pix_desc.specs.Component.{no_component, components, component_of, bytes_read, first_byte, bit_position, reads_bit, count_of}
use Rattle.pix_desc.specs.Component.{start_of}
use Rattle.pix_desc.specs.Frame.{plane_step}
use Rattle.pix_desc.specs.Layouts.{IsValid, IsLaidOut, checked, is_count, some_component, some_pair, is_depth, overlap, is_inside}
use Rattle.pix_desc.specs.Layouts.{differ_in_step, is_elements, is_word, is_index, is_mixed, has_all_planes}
use Rattle.pix_desc.proofs.ComponentLists.{list_any-below_false, list_all-below_true, list_all-map_true, length-components}
use Rattle.pix_desc.proofs.ComponentLists.{get_or-components, some_component-false, some_component-at, some_pair-false, step_in-plane}

-- no fault's test holds of the descriptor
pub record HasNoFault (desc : Desc) : Type 0 where
  pub counted : is_count desc.palette desc.rgb desc.alpha desc.count ≡ true
  pub deep : some_component desc (λ c. not (is_depth c)) ≡ false
  pub apart : some_pair desc (overlap desc) ≡ false
  pub inside : some_component desc (λ c. not (is_inside desc c)) ≡ false
  pub unmixed : is_mixed desc ≡ false
  pub planes : has_all_planes desc ≡ true

-- a result that is no fault came past a fault's test
unless_fault : (b : Bool) (e : DescFault) (r : Result Layout DescFault) → IsOk (if b then Err e else r) → (b ≡ false) × IsOk r
unless_fault true e r h = absurd cc
unless_fault false e r h = (refl, h)

pub has_no_fault : (desc : Desc) → IsValid desc → HasNoFault desc
unfolding checked
has_no_fault desc v =
    let count = unless_fault (not (is_count desc.palette desc.rgb desc.alpha desc.count)) ComponentCount _ v.passes in
    let depth = unless_fault (some_component desc (λ c. not (is_depth c))) DepthRange _ count.1 in
    let overlaps = unless_fault (some_pair desc (overlap desc)) Overlap _ depth.1 in
    let outside = unless_fault (some_component desc (λ c. not (is_inside desc c))) OutsideStep _ overlaps.1 in
    let mixed = unless_fault (is_mixed desc) MixedLayout _ outside.1 in
    let plane = unless_fault (not (has_all_planes desc)) PlaneCount _ mixed.1 in
    record {
      counted = not-false (is_count desc.palette desc.rgb desc.alpha desc.count) count.0;
      deep = depth.0;
      apart = overlaps.0;
      inside = outside.0;
      unmixed = mixed.0;
      planes = not-false (has_all_planes desc) plane.0;
    }

-- there are one to four components
count_bounds : (palette rgb alpha : Bool) (n : ℕ) → is_count palette rgb alpha n ≡ true → (0 < n) × (n ≤ 4)
count_bounds true false true n h = grind (arith, nat_tests)
count_bounds true true true n h = absurd cc
count_bounds true true false n h = absurd cc
count_bounds true false false n h = absurd cc
count_bounds false true false n h = grind (arith, nat_tests)
count_bounds false true true n h = grind (arith, nat_tests)
count_bounds false false false n h = grind (arith, nat_tests)
count_bounds false false true n h = grind (arith, nat_tests)

-- what a depth's test says
depth_bounds : (c : Comp) → is_depth c ≡ true → (0 < c.depth) × (c.shift + c.depth ≤ 16)
depth_bounds c h = grind (arith, nat_tests)

-- what the test of a component's first byte says
offset_bounds : (f : ℤ) (w step : ℕ) → (nat_le 1 step && nat_le step 8 && le_z (pos 0) f && le_z (f +ℤ pos w) (pos step)) ≡ true
    → (step ≤ 8) × (f ≡ pos (count_of f)) × (count_of f + w ≤ step)
offset_bounds (pos n) w step h = (grind (arith, nat_tests), refl, grind (arith, nat_tests))
offset_bounds (negsuc n) w step h =
    absurd (false≢true (and_parts (nat_le 1 step && nat_le step 8) false
    (and_parts (nat_le 1 step && nat_le step 8 && false) (le_z (negsuc n +ℤ pos w) (pos step)) h).0).1)

-- five different numbers are not all below four
distinct_below : (a b c d e : ℕ) → a < 4 → b < 4 → c < 4 → d < 4 → e < 4 → a ≢ b → a ≢ c → a ≢ d → a ≢ e → b ≢ c → b ≢ d → b ≢ e → c ≢ d
    → c ≢ e → d ≢ e → ⊥
distinct_below a b c d e in_a in_b in_c in_d in_e ab ac ad ae bc bd be cd ce de = omega arith

-- a component lies in each plane below a plane that is used
pub plane_used : (desc : Desc) (j p : ℕ) → has_all_planes desc ≡ true → j < desc.count → p < (component_of desc j).plane
    → (i : ℕ) × (i < desc.count) × ((component_of desc i).plane ≡ p)
plane_used desc j p all listed below =
    let each = list_all-map_true (component_of desc)
    (λ c. list_all (λ q. some_component desc (λ d. nat_eq d.plane q)) (range_with_len 0 c.plane)) desc.count j all listed in
    let one = list_all-below_true (λ q. some_component desc (λ d. nat_eq d.plane q)) (component_of desc j).plane p each below in
    let at = some_component-at desc (λ d. nat_eq d.plane p) one in
    (at.0, at.1, eqb-true (component_of desc at.0).plane p at.2)

-- the planes of up to four components are below four
plane_below : (desc : Desc) (j : ℕ) → has_all_planes desc ≡ true → desc.count ≤ 4 → j < desc.count → (component_of desc j).plane < 4
plane_below desc j all most listed =
    let plane_of = λ (i : ℕ). (component_of desc i).plane in
    elim (cases_lt (plane_of j) 4) as (λ _. plane_of j < 4) [
      | inl below ↦ below
      | inr above ↦
          let a = plane_used desc j 0 all listed (omega arith) in
          let b = plane_used desc j 1 all listed (omega arith) in
          let c = plane_used desc j 2 all listed (omega arith) in
          let d = plane_used desc j 3 all listed (omega arith) in
          let differ = λ (p q : ℕ) (unlike : plane_of p ≢ plane_of q) (same : p ≡ q). unlike (ap plane_of same) in
          absurd (distinct_below a.0 b.0 c.0 d.0 j (omega (arith, a.1)) (omega (arith, b.1)) (omega (arith, c.1)) (omega (arith, d.1))
          (omega arith)
          (differ a.0 b.0 (omega (arith, a.2, b.2))) (differ a.0 c.0 (omega (arith, a.2, c.2))) (differ a.0 d.0 (omega (arith, a.2, d.2)))
          (differ a.0 j (omega (arith, a.2)))
          (differ b.0 c.0 (omega (arith, b.2, c.2))) (differ b.0 d.0 (omega (arith, b.2, d.2))) (differ b.0 j (omega (arith, b.2)))
          (differ c.0 d.0 (omega (arith, c.2, d.2))) (differ c.0 j (omega (arith, c.2)))
          (differ d.0 j (omega (arith, d.2))))
    ]

-- two components that do not overlap read no common bit
unlike_bits : (desc : Desc) (a b : Comp) (i k : ℕ) → overlap desc a b ≡ false → a.plane ≡ b.plane → i < a.depth → k < b.depth
    → bit_position desc a i ≢ bit_position desc b k
unlike_bits desc a b i k apart plane in_a in_b same =
    let tests = and_cases (nat_eq a.plane b.plane)
    (list_any (λ m. reads_bit desc b (bit_position desc a m)) (range_with_len 0 a.depth)) apart in
    elim tests as (λ _. ⊥) [
      | inl other ↦ both_ways (nat_eq a.plane b.plane) other (eq-eqb a.plane b.plane plane)
      | inr none ↦
          let unread = list_any-below_false (λ m. reads_bit desc b (bit_position desc a m)) a.depth i none in_a in
          let unlike = list_any-below_false (λ m. int_eq (bit_position desc b m) (bit_position desc a i)) b.depth k unread in_b in
          both_ways (int_eq (bit_position desc b k) (bit_position desc a i)) unlike
          ((Decides-int_eq (bit_position desc b k) (bit_position desc a i)).1 (sym same))
    ]

-- the components of a plane have its step
step_at : (desc : Desc) (j : ℕ) → is_mixed desc ≡ false → j < desc.count
    → plane_step desc (component_of desc j).plane ≡ (component_of desc j).step
step_at desc j unmixed listed =
    let outer = or_parts (some_pair desc differ_in_step || not (is_elements desc || is_word desc))
    (desc.palette && not (is_index desc)) unmixed in
    let inner = or_parts (some_pair desc differ_in_step) (not (is_elements desc || is_word desc)) outer.0 in
    let steps = step_in-plane (components desc) j no_component inner.0 (omega (arith, length-components desc)) in
    rw (get_or-components desc j no_component listed) at steps

pub laid_out : (desc : Desc) → IsValid desc → IsLaidOut desc
laid_out desc v =
    let passed = has_no_fault desc v in
    let count = count_bounds desc.palette desc.rgb desc.alpha desc.count passed.counted in
    let depth_at = λ (j : ℕ) (listed : j < desc.count).
    depth_bounds (component_of desc j)
    (not-false (is_depth (component_of desc j)) (some_component-false desc (λ c. not (is_depth c)) j passed.deep listed)) in
    let bounds_at = λ (j : ℕ) (listed : j < desc.count).
    offset_bounds (first_byte desc (component_of desc j)) (bytes_read (component_of desc j)) (component_of desc j).step
    (not-false (is_inside desc (component_of desc j))
    (some_component-false desc (λ c. not (is_inside desc c)) j passed.inside listed)) in
    record {
      some = count.0;
      most = count.1;
      deep = λ j listed. (depth_at j listed).0;
      bits = λ j listed. (depth_at j listed).1;
      plane = λ j listed. plane_below desc j passed.planes count.1 listed;
      step = λ j listed. step_at desc j passed.unmixed listed;
      small = λ j listed. (bounds_at j listed).0;
      first = λ j listed. (bounds_at j listed).1;
      inside = λ j listed. (bounds_at j listed).2;
      apart = λ i j a b first second differ plane in_a in_b.
          elim (cases_order i j) as (λ _. bit_position desc (component_of desc i) a ≢ bit_position desc (component_of desc j) b) [
            | inl same ↦ absurd (differ same)
            | inr (inl before) ↦ unlike_bits desc (component_of desc i) (component_of desc j) a b
                (some_pair-false desc (overlap desc) i j passed.apart before second) plane in_a in_b
            | inr (inr behind) ↦ λ e. unlike_bits desc (component_of desc j) (component_of desc i) b a
                (some_pair-false desc (overlap desc) j i passed.apart behind first) (sym plane) in_b in_a (sym e)
          ];
    }

-- what component j of pixel x is read from lies in a row that has the pixel
pub inside_row : (desc : Desc) (j x : ℕ) (row : List ℕ) → IsValid desc → j < desc.count → (x + 1) * (component_of desc j).step ≤ length row
    → start_of desc (component_of desc j) x + bytes_read (component_of desc j) ≤ length row
inside_row desc j x row v listed inside = let within = (laid_out desc v).inside j listed in omega (arith, within)
