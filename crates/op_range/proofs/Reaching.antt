-- Which values reach the cap: the flags of a list from those of its first operation and of the others.
use Rattle.std.proofs.Common.{◌≡◌, ℕ, zero, suc, ◌-◌, ◌^◌, ◌<◌, ◌≤◌, ◌↔◌, Bool, true, false, ◌&&◌, ◌||◌, if◌then◌else◌, List, [], ◌∷◌}
use Rattle.std.proofs.Common.{length, get_or, take, drop, max, nat_lt, ltb-true, subst, refl, sym, ◌∙◌, ap, arith}
use Rattle.std.specs.Prelude.{Option, Some, None, IfSome, nat_le, slice_index, slice_index_or}
use Rattle.std.proofs.lemmas.List.{take_all}
use Rattle.std.proofs.lemmas.Bool.{leb-true}
use Rattle.std.proofs.lemmas.Bool.Decides.{nat_tests}
use Rattle.std.proofs.lemmas.Option.{cond_some}
use Rattle.op_list.specs.declared.types.Stage.{Stage}
use Rattle.op_list.specs.declared.types.Stage.TheVariants.{Start}
use Rattle.op_list.specs.declared.op.Op.{Op}
use Rattle.op_list.specs.declared.op.Op.TheVariants.{Read, Write, Convert}
use Rattle.op_list.specs.Types.{bits_at, is_rational}
use Rattle.op_list.specs.Typing.{are_typed, stage_after}
use Rattle.op_list.specs.Values.{four}
use Rattle.op_list.proofs.Four.{get_or-four, same_four}
use Rattle.op_list.proofs.Typed.{typed_parts}
use Rattle.op_range.specs.declared.width.Width.{Width}
use Rattle.op_range.specs.Width.{width_of, size_in, fractions_width, whole_width, width_after, own_size, own_width_from, has_fractions}
use Rattle.op_range.specs.Width.{own_width, width, IsLowestTooWide}
use Rattle.op_range.specs.Capped.{capped, capped_width, first_true}
use Rattle.op_range.proofs.Capping.{cap_twice, same_le, le_max}
use Rattle.op_range.proofs.Widths.{SameCapped, same_own, after_positive}

abbrev pub reaches : Stage → List Op → Width → ℕ → Bool
reaches stage ops w i = nat_le (2 ^ 126) (own_width_from stage ops w i)

-- ---- a width that is capped
pub record IsCapped (w after : Width) : Type 0 where
  pub small : w.denominator < 2 ^ 126
  pub same : SameCapped after w

pub is_capped : (w after : Width) → capped_width w ≡ Some after → IsCapped w after
is_capped w after h =
    let p = cond_some (nat_lt w.denominator (2 ^ 126)) (width_of w.denominator (λ i. capped (size_in w i))) after h in
    record { small = ltb-true w.denominator (2 ^ 126) p.0; same = subst (λ (x : Width). SameCapped x w) p.1 (itself_capped w) }
  where
    itself_capped : (w : Width) → SameCapped (width_of w.denominator (λ i. capped (size_in w i))) w
    itself_capped w = record {
      denominator = refl;
      sizes = λ i below. ap capped (get_or-four (λ j. capped (size_in w j)) i 0 below)
          ∙ cap_twice (size_in w i);
    }

pub is_too_wide : (w : Width) → capped_width w ≡ None → 2 ^ 126 ≤ w.denominator
is_too_wide w h = (elim (nat_lt w.denominator (2 ^ 126)) as
    (λ t. nat_lt w.denominator (2 ^ 126) ≡ t → (if t then Some (width_of w.denominator (λ i. capped (size_in w i))) else None) ≡ None
    → 2 ^ 126 ≤ w.denominator) [
      | true ↦ λ t e. absurd (cc)
      | false ↦ λ t e. grind (arith, t)
    ]) refl h

-- what the next call of the code asks of the width
pub capped_positive : (stage : Stage) (op : Op) (w after : Width) → 0 < w.denominator → capped_width (width_after stage op w)
    ≡ Some after → 0 < after.denominator
capped_positive stage op w after p h =
    let c = is_capped (width_after stage op w) after h in subst (λ (d : ℕ). 0 < d) (sym c.same.denominator)
    (after_positive stage op w p)

pub capped_small : (stage : Stage) (op : Op) (w after : Width) → capped_width (width_after stage op w) ≡ Some after
    → after.denominator < 2 ^ 126
capped_small stage op w after h = let c = is_capped (width_after stage op w) after h in subst (λ (d : ℕ). d < 2 ^ 126)
    (sym c.same.denominator) c.small

-- ---- no operation
pub empty_reached : (stage : Stage) (ops : List Op) (w : Width) → length ops < 1 → (false ∷ false ∷ false ∷ false ∷ [])
    ≡ four (λ i. reaches stage ops w i)
unfolding own_width_from
empty_reached stage [] w h = refl
empty_reached stage (op ∷ ops) w h = absurd (omega arith)

-- ---- an operation in front
here : (t : Bool) (w after : Width) (i : ℕ) → i < 4 → IsCapped w after → (t && nat_le (2 ^ 126) (size_in after i))
    ≡ nat_le (2 ^ 126) (if t then own_size w i else 0)
here true w after i below c =
    let not_wide : nat_le (2 ^ 126) w.denominator ≡ false = (let small = c.small in grind (arith, nat_tests)) in
    same_le (size_in after i) (size_in w i) (c.same.sizes i below)
    ∙ sym (le_max w.denominator (size_in w i) ∙ ap (λ b. b || nat_le (2 ^ 126) (size_in w i)) not_wide)
here false w after i below c = refl

each_reached : (stage : Stage) (op : Op) (ops : List Op) (w after : Width) (i : ℕ) → i < 4 → are_typed stage (op ∷ ops) ≡ true
    → capped_width (width_after stage op w) ≡ Some after
    → (is_rational (stage_after stage op) && nat_le (2 ^ 126) (size_in after i) || reaches (stage_after stage op) ops after i)
    ≡ reaches stage (op ∷ ops) w i
unfolding own_width_from
each_reached stage op ops w after i below typed h =
    let c = is_capped (width_after stage op w) after h in
    let next = stage_after stage op in
    let first = here (is_rational next) (width_after stage op w) after i below c in
    let second = same_le (own_width_from next ops after i) (own_width_from next ops (width_after stage op w) i)
    (same_own next ops after (width_after stage op w) i below (typed_parts stage op ops typed).2 c.same) in
    let both = le_max (if is_rational next then own_size (width_after stage op w) i else 0)
    (own_width_from next ops (width_after stage op w) i) in
    cc

-- as the code has it: its operations are a slice
pub some_reached : (stage next : Stage) (ops : List Op) (op : Op) (w after : Width) (rational : Bool) (behind flags : List Bool)
    → 1 ≤ length ops → op ≡ get_or ops 0 op → are_typed stage ops ≡ true
    → capped_width (width_after stage op w) ≡ Some after → next ≡ stage_after stage op → rational ≡ is_rational next
    → behind ≡ four (λ i. reaches next (take (length ops - 1) (drop 1 ops)) after i)
    → flags ≡ four (λ i. rational && nat_le (2 ^ 126) (slice_index after.sizes i) || slice_index_or behind i false)
    → flags ≡ four (λ i. reaches stage ops w i)
some_reached stage next [] op w after rational behind flags some is typed h there kind rest all = absurd (omega arith)
some_reached stage next (first ∷ ops) op w after rational behind flags some is typed h there kind rest all =
    all
    ∙ same_four (λ i. rational && nat_le (2 ^ 126) (slice_index after.sizes i) || slice_index_or behind i false)
    (λ i. reaches stage (first ∷ ops) w i)
    (λ i below.
    (let others : take (length (first ∷ ops) - 1) ops ≡ ops = take_all (length (first ∷ ops) - 1) ops (omega arith) in
    let same_first : capped_width (width_after stage first w) ≡ Some after = subst
    (λ (o : Op). capped_width (width_after stage o w) ≡ Some after) is h in
    let to : next ≡ stage_after stage first = there ∙ ap (stage_after stage) is in
    let flag : slice_index_or behind i false ≡ reaches (stage_after stage first) ops after i =
    ap (λ b. slice_index_or b i false) rest ∙ get_or-four (λ j. reaches next (take (length (first ∷ ops) - 1) ops) after j) i false
    below
    ∙ ap (λ s. reaches s (take (length (first ∷ ops) - 1) ops) after i) to ∙ ap (λ l. reaches (stage_after stage first) l after i)
    others in
    let front : rational ≡ is_rational (stage_after stage first) = kind ∙ ap is_rational to in
    ap (λ b. rational && nat_le (2 ^ 126) (slice_index after.sizes i) || b) flag
    ∙ ap (λ b. b && nat_le (2 ^ 126) (slice_index after.sizes i) || reaches (stage_after stage first) ops after i) front
    ∙ each_reached stage first ops w after i below typed same_first))

-- ---- a denominator that reaches the cap
stays : (t : Bool) (w : Width) (count : ℕ) → 2 ^ 126 ≤ (if t then w else whole_width count).denominator → t ≡ true
stays true w count h = refl
stays false w count h = absurd (omega arith)

moves : (t : Bool) (w : Width) (count : ℕ) → w.denominator < 2 ^ 126 → 2 ^ 126 ≤ (if t then w else whole_width count).denominator → ⊥
moves true w count small h = omega arith
moves false w count small h = omega arith

rational_there : (stage : Stage) (op : Op) (w : Width) → w.denominator < 2 ^ 126 → 2 ^ 126 ≤ (width_after stage op w).denominator
    → is_rational (stage_after stage op) ≡ true
unfolding width_after fractions_width stage_after
rational_there stage (Read elem planes palette) w small h = absurd (moves (is_rational stage) w (bits_at stage) small h)
rational_there stage (Write elem planes) w small h = absurd (moves (is_rational stage) w (bits_at stage) small h)
rational_there stage (Convert to expand) w small h = absurd (moves (is_rational stage) w (bits_at stage) small h)
rational_there stage op w small h = stays (is_rational stage) (fractions_width op w) (bits_at stage) h

front_reached : (stage : Stage) (op : Op) (ops : List Op) (w : Width) (i : ℕ) → w.denominator < 2 ^ 126
    → capped_width (width_after stage op w) ≡ None → true ≡ reaches stage (op ∷ ops) w i
unfolding own_width_from
front_reached stage op ops w i small h =
    let wide = is_too_wide (width_after stage op w) h in
    let there = rational_there stage op w small wide in
    let own : (if is_rational (stage_after stage op) then own_size (width_after stage op w) i else 0)
    ≡ own_size (width_after stage op w) i = chosen (is_rational (stage_after stage op)) (own_size (width_after stage op w) i)
    there in
    let most : 2 ^ 126 ≤ max (if is_rational (stage_after stage op) then own_size (width_after stage op w) i else 0)
    (own_width_from (stage_after stage op) ops (width_after stage op w) i) = omega (arith, own, wide) in
    reached_by most
  where
    chosen : (t : Bool) (n : ℕ) → t ≡ true → (if t then n else 0) ≡ n
    chosen true n h = refl
    chosen false n h = absurd (cc)

    reached_by : {n : ℕ} → 2 ^ 126 ≤ n → true ≡ nat_le (2 ^ 126) n
    reached_by h = grind (arith, nat_tests)

pub none_reached : (stage : Stage) (ops : List Op) (op : Op) (w : Width) → 1 ≤ length ops → op ≡ get_or ops 0 op
    → w.denominator < 2 ^ 126 → capped_width (width_after stage op w) ≡ None
    → (true ∷ true ∷ true ∷ true ∷ []) ≡ four (λ i. reaches stage ops w i)
none_reached stage [] op w some is small h = absurd (omega arith)
none_reached stage (first ∷ ops) op w some is small h =
    let same_first : capped_width (width_after stage first w) ≡ None = subst (λ (o : Op). capped_width (width_after stage o w) ≡ None)
    is h in
    same_four (λ i. true) (λ i. reaches stage (first ∷ ops) w i) (λ i below. front_reached stage first ops w i small same_first)

-- ---- a whole list
pub no_fractions : (stage : Stage) (ops : List Op) (w : Width) (i : ℕ) → has_fractions stage ops ≡ false → own_width_from stage ops w i ≡ 0
unfolding has_fractions own_width_from
no_fractions stage [] w i h = refl
no_fractions stage (op ∷ ops) w i h =
    let p = neither (is_rational (stage_after stage op)) (has_fractions (stage_after stage op) ops) h in
    let rest = no_fractions (stage_after stage op) ops (width_after stage op w) i p.1 in
    let own : (if is_rational (stage_after stage op) then own_size (width_after stage op w) i else 0) ≡ 0 = chosen
    (is_rational (stage_after stage op)) (own_size (width_after stage op w) i) p.0 in
    omega (arith, own, rest)
  where
    neither : (a b : Bool) → (a || b) ≡ false → (a ≡ false) × (b ≡ false)
    neither true b h = absurd (cc)
    neither false b h = (refl, h)

    chosen : (t : Bool) (n : ℕ) → t ≡ false → (if t then n else 0) ≡ 0
    chosen true n h = absurd (cc)
    chosen false n h = refl

own_reached : (ops : List Op) (i : ℕ) → nat_le (2 ^ 126) (own_width ops i) ≡ reaches Start ops (whole_width 0) i
unfolding own_width
own_reached ops i = (elim (has_fractions Start ops) as
    (λ t. has_fractions Start ops ≡ t → nat_le (2 ^ 126) (if t then own_width_from Start ops (whole_width 0) i else 2 ^ 32)
    ≡ reaches Start ops (whole_width 0) i) [
      | true ↦ λ t. refl
      | false ↦ λ t. ap (λ n. nat_le (2 ^ 126) n) (sym (no_fractions Start ops (whole_width 0) i t))
    ]) refl

-- the lowest value that is too wide, by four tests
pub record IsFault (ops : List Op) (answer : Option ℕ) : Type 0 where
  pub none : (answer ≡ None) ↔ (width ops < 2 ^ 126)
  pub lowest : IfSome answer (λ i. IsLowestTooWide ops i)

too_wide : (n : ℕ) → nat_le (2 ^ 126) n ≡ true → 2 ^ 126 ≤ n
too_wide n h = leb-true (2 ^ 126) n h

narrow : (n : ℕ) → nat_le (2 ^ 126) n ≡ false → n < 2 ^ 126
narrow n h = grind (arith, nat_tests, h)

below_one : (P : ℕ → Type 0) → P 0 → (j : ℕ) → j < 1 → P j
below_one P p zero h = p
below_one P p (suc j) h = absurd (omega arith)

below_two : (P : ℕ → Type 0) → P 0 → P 1 → (j : ℕ) → j < 2 → P j
below_two P p q zero h = p
below_two P p q (suc zero) h = q
below_two P p q (suc (suc j)) h = absurd (omega arith)

below_three : (P : ℕ → Type 0) → P 0 → P 1 → P 2 → (j : ℕ) → j < 3 → P j
below_three P p q r zero h = p
below_three P p q r (suc zero) h = q
below_three P p q r (suc (suc zero)) h = r
below_three P p q r (suc (suc (suc j))) h = absurd (omega arith)

is_fault : (ops : List Op) (i : ℕ) → i < 4 → 2 ^ 126 ≤ own_width ops i → 2 ^ 126 ≤ width ops
    → ((j : ℕ) → j < i → own_width ops j < 2 ^ 126) → IsFault ops (Some i)
is_fault ops i value wide all low =
    record { none = (λ h. absurd (cc), λ h. absurd (omega arith)); lowest = record { value = value; too_wide = wide; lowest = low } }

fault_by : (ops : List Op) (t0 t1 t2 t3 : Bool) → nat_le (2 ^ 126) (own_width ops 0) ≡ t0 → nat_le (2 ^ 126) (own_width ops 1) ≡ t1
    → nat_le (2 ^ 126) (own_width ops 2) ≡ t2
    → nat_le (2 ^ 126) (own_width ops 3) ≡ t3 → IsFault ops (first_true (t0 ∷ t1 ∷ t2 ∷ t3 ∷ []))
unfolding width
fault_by ops true t1 t2 t3 e0 e1 e2 e3 =
    let wide = too_wide (own_width ops 0) e0 in
    is_fault ops 0 (omega arith) wide (omega arith) (λ j h. absurd (omega arith))
fault_by ops false true t2 t3 e0 e1 e2 e3 =
    let wide = too_wide (own_width ops 1) e1 in
    is_fault ops 1 (omega arith) wide (omega arith) (below_one (λ j. own_width ops j < 2 ^ 126) (narrow (own_width ops 0) e0))
fault_by ops false false true t3 e0 e1 e2 e3 =
    let wide = too_wide (own_width ops 2) e2 in
    is_fault ops 2 (omega arith) wide (omega arith)
    (below_two (λ j. own_width ops j < 2 ^ 126) (narrow (own_width ops 0) e0) (narrow (own_width ops 1) e1))
fault_by ops false false false true e0 e1 e2 e3 =
    let wide = too_wide (own_width ops 3) e3 in
    is_fault ops 3 (omega arith) wide (omega arith)
    (below_three (λ j. own_width ops j < 2 ^ 126) (narrow (own_width ops 0) e0) (narrow (own_width ops 1) e1)
    (narrow (own_width ops 2) e2))
fault_by ops false false false false e0 e1 e2 e3 =
    let first = narrow (own_width ops 0) e0 in
    let second = narrow (own_width ops 1) e1 in
    let third = narrow (own_width ops 2) e2 in
    let fourth = narrow (own_width ops 3) e3 in
    record { none = (λ h. omega arith, λ h. refl); lowest = tt }

pub fault_is : (ops : List Op) (answer : Option ℕ) (flags : List Bool) → flags ≡ four (λ i. reaches Start ops (whole_width 0) i)
    → answer ≡ first_true flags → IsFault ops answer
fault_is ops answer flags is h =
    let tests : flags ≡ four (λ i. nat_le (2 ^ 126) (own_width ops i)) = is ∙ same_four (λ i. reaches Start ops (whole_width 0) i)
    (λ i. nat_le (2 ^ 126) (own_width ops i)) (λ i below. sym (own_reached ops i)) in
    subst (λ (o : Option ℕ). IsFault ops o) (sym (h ∙ ap first_true tests)) (fault_by ops _ _ _ _ refl refl refl refl)

pub fault_known : (ops given : List Op) (w : Width) (answer : Option ℕ) (flags : List Bool)
    → flags ≡ four (λ i. reaches Start given w i) → given ≡ ops → w ≡ whole_width 0 → answer ≡ first_true flags
    → IsFault ops answer
fault_known ops given w answer flags is same start h =
    fault_is ops answer flags (is ∙ ap (λ l. four (λ i. reaches Start l w i)) same ∙ ap (λ v. four (λ i. reaches Start ops v i)) start)
    h
