-- Join two shifts.
use Rattle.std.proofs.Common.{◌≡◌, ℕ, ◌+◌, ◌-◌, ◌*◌, ◌/◌, ◌%◌, ◌^◌, ◌<◌, ◌≤◌, Bool, true, false, not, ◌||◌, if◌then◌else◌, List, [], ◌∷◌}
use Rattle.std.proofs.Common.{lt-ltb, ltb-true, leb-true, pow_pos, mod-eq_of_lt, subst, refl, sym, ◌∙◌, ap, arith}
use Rattle.std.specs.Prelude.{Option, Some, None, IfSome, nat_lt, nat_le}
use Rattle.std.proofs.lemmas.Option.{same_Some, none-some, option_and_then_some}
use Rattle.std.proofs.lemmas.Bool.{and_from, both_ways}
use Rattle.std.proofs.lemmas.Nat.{pow-add, shr-shr, shl-shr, mul-mod_second}
use Rattle.std.proofs.Math.Nat.{mul_comm, mul_assoc, mul-le-mul_right, mul-le-mul_left, pow-le-pow_right}
use Rattle.frac_math.specs.Fraction.{ℚ, nat, is_at_most, order, ◌≤ℚ◌}
use Rattle.frac_math.proofs.FractionOrder.{le_trans_ℚ, order_is, lt_not_le_ℚ}
use Rattle.op_list.specs.declared.types.Stage.{Stage}
use Rattle.op_list.specs.declared.position.PixelPosition.{PixelPosition}
use Rattle.op_list.specs.declared.op.Op.{Op}
use Rattle.op_list.specs.declared.op.Op.TheVariants.{LeftShift, RightShift}
use Rattle.op_list.specs.declared.values.Values.{Values}
use Rattle.op_list.specs.declared.values.Values.TheVariants.{Numbers}
use Rattle.op_list.specs.Types.{bits_at, is_whole, is_rational}
use Rattle.op_list.specs.Typing.{may_follow, are_good, stage_after, stage_from, are_typed, is_write}
use Rattle.op_list.specs.Values.{four, number}
use Rattle.op_list.specs.Apply.{apply}
use Rattle.op_list.specs.Run.{run_from}
use Rattle.op_list.proofs.Applied.{whole_not_rational, left_shift}
use Rattle.op_list.proofs.Four.{get_or-four}
use Rattle.op_list.proofs.Typed.{typed_parts}
use Rattle.op_list.proofs.Wholes.{last_behind}
use Rattle.op_range.specs.declared.range.ValueRange.{ValueRange}
use Rattle.op_range.specs.Ranges.{range_in}
use Rattle.op_range.specs.Used.{is_used, used_from, Agree}
use Rattle.op_range.proofs.Agreeing.{agree_numbers}
use Rattle.op_range.proofs.Compared.{at_most_not_above}
use Rattle.op_range.proofs.Within.{number_at, nat_le_ℚ}
use Rattle.op_opt.specs.declared.change.Change.{Change}
use Rattle.op_opt.specs.JoinShifts.{has_room, used_have_room, sum_below, join_shifts}
use Rattle.op_opt.specs.Weight.{weight, weight_of}
use Rattle.op_opt.proofs.Ends.{is_read}
use Rattle.op_opt.proofs.PassedTests.{chosen, from_not, if_used, all_at}
use Rattle.op_opt.proofs.Replacing.{IsSound, Replaces, Replacement, At, same_by_agreement}

-- ---- numbers
product_after_mod : (x k m : ℕ) → x % m * k % m ≡ x * k % m
product_after_mod x k m = ap (λ p. p % m) (mul_comm (x % m) k) ∙ mul-mod_second k x m ∙ ap (λ p. p % m) (mul_comm k x)

left_twice : (n a b count : ℕ) → n * 2 ^ (a + b) % 2 ^ count ≡ n * 2 ^ a % 2 ^ count * 2 ^ b % 2 ^ count
left_twice n a b count =
    ap (λ p. n * p % 2 ^ count) (pow-add 2 a b) ∙ ap (λ p. p % 2 ^ count) (sym (mul_assoc n (2 ^ a) (2 ^ b)))
    ∙ sym (product_after_mod (n * 2 ^ a) (2 ^ b) (2 ^ count))

right_twice : (n a b : ℕ) → n / 2 ^ (a + b) ≡ n / 2 ^ a / 2 ^ b
right_twice n a b = sym (shr-shr n a b)

shifted_below : (n a count : ℕ) → a < count → n < 2 ^ (count - a) → n * 2 ^ a < 2 ^ count
shifted_below n a count below small =
    let sum : count - a + a ≡ count = omega arith in
    let more : (n + 1) * 2 ^ a ≤ 2 ^ (count - a) * 2 ^ a = mul-le-mul_right (2 ^ a) (omega (arith, small)) in
    let inside : n * 2 ^ a < 2 ^ (count - a) * 2 ^ a = omega (arith, more, pow_pos a) in
    subst (λ (p : ℕ). n * 2 ^ a < p) (sym (pow-add 2 (count - a) a) ∙ ap (λ k. 2 ^ k) sum) inside

back_to_left : (n a b count : ℕ) → b ≤ a → n * 2 ^ a < 2 ^ count → n * 2 ^ (a - b) % 2 ^ count ≡ n * 2 ^ a % 2 ^ count / 2 ^ b
back_to_left n a b count order small =
    let sum : a - b + b ≡ a = omega arith in
    let parts : n * 2 ^ (a - b) * 2 ^ b ≡ n * 2 ^ a = mul_assoc n (2 ^ (a - b)) (2 ^ b) ∙ ap (λ p. n * p) (sym (pow-add 2 (a - b) b)
    ∙ ap (λ k. 2 ^ k) sum) in
    let two : 0 < 2 = omega arith in
    let less : n * 2 ^ (a - b) ≤ n * 2 ^ a = mul-le-mul_left n (pow-le-pow_right two (omega arith)) in
    mod-eq_of_lt (omega (arith, less, small)) ∙ sym (shl-shr (n * 2 ^ (a - b)) b) ∙ ap (λ p. p / 2 ^ b) (parts ∙ sym (mod-eq_of_lt small))

back_to_right : (n a b count : ℕ) → a < b → n * 2 ^ a < 2 ^ count → n / 2 ^ (b - a) ≡ n * 2 ^ a % 2 ^ count / 2 ^ b
back_to_right n a b count order small =
    let sum : a + (b - a) ≡ b = omega arith in
    ap (λ p. p / 2 ^ (b - a)) (sym (shl-shr n a)) ∙ shr-shr (n * 2 ^ a) a (b - a) ∙ ap (λ k. n * 2 ^ a / 2 ^ k) sum
    ∙ ap (λ p. p / 2 ^ b) (sym (mod-eq_of_lt small))

-- ---- a bound with room
is_most : (x y : ℚ) → x ≤ℚ y → true ≡ is_at_most x y
is_most x y h = at_most_not_above x y (λ e. lt_not_le_ℚ y x (rw e at (order_is x y)) h)

not_below_lt : (m n : ℕ) → (m ≤ n → ⊥) → n < m
not_below_lt m n h = (elim (nat_le m n) as (λ t. nat_le m n ≡ t → n < m) [
  | true ↦ λ t. absurd (h (leb-true m n t))
  | false ↦ λ t. grind (arith, t)
]) refl

room_below : (n a count : ℕ) (greatest : Option ℚ) → has_room count a greatest ≡ true → IfSome greatest (λ most. nat n ≤ℚ most)
    → n < 2 ^ (count - a)
room_below n a count None room below = absurd (cc)
room_below n a count (Some most) room below =
    not_below_lt (2 ^ (count - a)) n
    (λ above. both_ways (is_at_most (nat (2 ^ (count - a))) most) (from_not _ room)
    (sym (is_most (nat (2 ^ (count - a))) most (le_trans_ℚ (nat (2 ^ (count - a))) (nat n) most (nat_le_ℚ (2 ^
    (count - a)) n above) below))))

-- ---- what two shifts make of a value
first_whole : (stage : Stage) (op : Op) (rest : List Op) → are_typed stage (op ∷ rest) ≡ true → may_follow stage op ≡ is_whole stage
    → is_rational stage ≡ false
first_whole stage op rest typed follows = whole_not_rational stage (sym follows ∙ (typed_parts stage op rest typed).0)

abbrev shifted : (ℕ → ℕ) → Values → Values
shifted f v = Numbers (four (λ i. f (number v i)))

-- shifts one after the other, in the used values
twice_agrees : (used : List Bool) (f g h : ℕ → ℕ) (v : Values) → ((i : ℕ) → i < 4 → is_used used i ≡ true
    → h (number v i) ≡ g (f (number v i)))
    → Agree used (shifted h v) (shifted g (shifted f v))
twice_agrees used f g h v same =
    agree_numbers used (λ i. h (number v i)) (λ i. g (number (shifted f v) i))
    (λ i below u. same i below u ∙ sym (ap g (get_or-four (λ j. f (number v j)) i 0 below)))

-- an operation that is a shift: what it makes of a number of so many bits
record IsShift (op : Op) (f : ℕ → ℕ → ℕ) : Type 0 where
  applies : (frame : List ℕ) (position : PixelPosition) (stage : Stage) (v : Values)
      → apply frame position stage op v ≡ shifted (f (bits_at stage)) v
  inner : is_write op ≡ false
  unread : is_read op ≡ false
  weighs : weight_of op ≡ 64
  follows : (stage : Stage) → may_follow stage op ≡ is_whole stage
  leaves : (stage : Stage) → stage_after stage op ≡ stage

left_is : (n : ℕ) → IsShift (LeftShift n) (λ count x. x * 2 ^ n % 2 ^ count)
unfolding apply weight_of may_follow stage_after
left_is n = record {
  applies = λ frame position stage v. refl;
  inner = refl;
  unread = refl;
  weighs = refl;
  follows = λ stage. refl;
  leaves =
      λ stage. refl;
}

right_is : (n : ℕ) → IsShift (RightShift n) (λ count x. x / 2 ^ n)
unfolding apply weight_of may_follow stage_after
right_is n = record {
  applies = λ frame position stage v. refl;
  inner = refl;
  unread = refl;
  weighs = refl;
  follows = λ stage. refl;
  leaves =
      λ stage. refl;
}

-- ---- two shifts as one
lighter : (a b g : Op) → weight_of a ≡ 64 → weight_of b ≡ 64 → weight_of g ≡ 64 → weight (g ∷ []) < weight (a ∷ b ∷ [])
unfolding weight
lighter a b g p q r = omega arith

one_typed : (stage : Stage) (op : Op) → may_follow stage op ≡ true → are_good stage op ≡ true → are_typed stage (op ∷ []) ≡ true
unfolding are_typed
one_typed stage op follows good = and_from _ true (and_from _ _ follows good) refl

one_leaves : (stage : Stage) (a b g : Op) → stage_after stage a ≡ stage → stage_after stage b ≡ stage → stage_after stage g ≡ stage
    → stage_from stage (g ∷ []) ≡ stage_from stage (a ∷ b ∷ [])
unfolding stage_from
one_leaves stage a b g first second joined = joined ∙ sym (ap (λ s. stage_after s b) first ∙ second)

runs_one : (frame : List ℕ) (position : PixelPosition) (stage : Stage) (g : Op) (v : Values)
    → run_from frame position stage (g ∷ []) v ≡ apply frame position stage g v
unfolding run_from
runs_one frame position stage g v = refl

runs_two : (frame : List ℕ) (position : PixelPosition) (stage : Stage) (a b : Op) (v : Values)
    → run_from frame position stage (a ∷ b ∷ []) v ≡ apply frame position (stage_after stage a) b (apply frame position stage a v)
unfolding run_from
runs_two frame position stage a b v = refl

agrees_after : (frame : List ℕ) (position : PixelPosition) (stage : Stage) (used : List Bool) (a b g : Op) (f1 f2 f : ℕ → ℕ
    → ℕ) (v : Values)
    → IsShift a f1 → IsShift b f2 → IsShift g f
    → ((i : ℕ) → i < 4 → is_used used i ≡ true → f (bits_at stage) (number v i) ≡ f2 (bits_at stage) (f1 (bits_at stage) (number v i)))
    → Agree used (run_from frame position stage (g ∷ []) v) (run_from frame position stage (a ∷ b ∷ []) v)
agrees_after frame position stage used a b g f1 f2 f v sa sb sg same =
    let count = bits_at stage in
    let two : run_from frame position stage (a ∷ b ∷ []) v ≡ shifted (f2 count) (shifted (f1 count) v) =
    runs_two frame position stage a b v ∙ ap (λ s. apply frame position s b (apply frame position stage a v)) (sa.leaves stage)
    ∙ sb.applies frame position stage (apply frame position stage a v)
    ∙ ap (λ w. shifted (f2 count) w) (sa.applies frame position stage v) in
    subst (λ (w : Values). Agree used (run_from frame position stage (g ∷ []) v) w) (sym two)
    (subst (λ (w : Values). Agree used w (shifted (f2 count) (shifted (f1 count) v))) (sym (runs_one frame position stage g v
    ∙ sg.applies frame position stage v))
    (twice_agrees used (f1 count) (f2 count) (f count) v same))

replaces : (stage : Stage) (ranges : List ValueRange) (a b g : Op) (f1 f2 f : ℕ → ℕ → ℕ) (rest : List Op) → IsShift a f1 → IsShift b f2
    → IsShift g f
    → (are_typed stage (a ∷ b ∷ []) ≡ true → are_good stage g ≡ true)
    → ((frame : List ℕ) (v : Values) → At stage ranges (a ∷ b ∷ rest) frame v → (i : ℕ) → i < 4 → is_used (used_from rest) i ≡ true
    → f (bits_at stage) (number v i) ≡ f2 (bits_at stage) (f1 (bits_at stage) (number v i)))
    → Replaces stage ranges (a ∷ b ∷ []) (Some g) rest
replaces stage ranges a b g f1 f2 f rest sa sb sg good same = record {
  inner = and_from _ _ (ap not sa.inner) (and_from _ true (ap not sb.inner) refl);
  unread = and_from _ _ (ap not sa.unread) (and_from _ true (ap not sb.unread) refl);
  lighter = lighter a b g sa.weighs sb.weighs sg.weighs;
  typed = λ h. (
    one_typed stage g (sg.follows stage ∙ sym (sa.follows stage) ∙ (typed_parts stage a (b ∷ []) h).0) (good h),
    one_leaves stage a b g (sa.leaves stage) (sb.leaves stage) (sg.leaves stage),
  );
  same = λ frame position v at.
      same_by_agreement frame position stage (a ∷ b ∷ []) rest (Some g) v at.typed
      (last_behind b rest sb.inner (last_behind a (b ∷ rest) sa.inner at.last))
      (one_leaves stage a b g (sa.leaves stage) (sb.leaves stage) (sg.leaves stage))
      (agrees_after frame position stage (used_from rest) a b g f1 f2 f v sa sb sg (same frame v at));
}

replacement : (stage : Stage) (ranges : List ValueRange) (a b g : Op) (rest : List Op) (change : Change)
    → Replaces stage ranges (a ∷ b ∷ []) (Some g) rest
    → Some (record { taken = 2; given = Some g }) ≡ Some change → Replacement stage ranges (a ∷ b ∷ rest) change
replacement stage ranges a b g rest change h is =
    subst (λ (c : Change). Replacement stage ranges (a ∷ b ∷ rest) c) (same_Some _ change is)
    (record { old = a ∷ b ∷ []; rest = rest; split = refl; behind = refl; replaces = h })

-- ---- the amounts
sum_is : (count a b n : ℕ) → sum_below count a b ≡ Some n → (nat_lt (a + b) count ≡ true) × (a + b ≡ n)
sum_is count a b n h = let c = chosen (nat_lt (a + b) count) (Some (a + b)) n h in (c.0, same_Some (a + b) n c.1)

left_good : (stage : Stage) (n : ℕ) → nat_lt n (bits_at stage) ≡ true → are_good stage (LeftShift n) ≡ true
unfolding are_good
left_good stage n h = h

right_good : (stage : Stage) (n : ℕ) → nat_lt n (bits_at stage) ≡ true → are_good stage (RightShift n) ≡ true
unfolding are_good
right_good stage n h = h

amount_left : (stage : Stage) (n : ℕ) (rest : List Op) → are_typed stage (LeftShift n ∷ rest) ≡ true → n < bits_at stage
amount_left stage n rest h = left_shift stage n (typed_parts stage (LeftShift n) rest h).1

amount_right : (stage : Stage) (a b : ℕ) (rest : List Op) → are_typed stage (LeftShift a ∷ RightShift b ∷ rest) ≡ true → b < bits_at stage
unfolding stage_after are_good
amount_right stage a b rest h =
    ltb-true b (bits_at stage) (typed_parts stage (RightShift b) rest (typed_parts stage (LeftShift a) (RightShift b ∷ rest) h).2).1

has_bits : (stage : Stage) (ranges : List ValueRange) (a : ℕ) (ops rest : List Op) (used : List Bool) (frame : List ℕ) (v : Values)
    → At stage ranges (LeftShift a ∷ ops) frame v → used_have_room (bits_at stage) a used ranges ≡ true → (i : ℕ) → i < 4
    → is_used used i ≡ true
    → number v i * 2 ^ a < 2 ^ bits_at stage
unfolding may_follow
has_bits stage ranges a ops rest used frame v at room i below u =
    let whole = first_whole stage (LeftShift a) ops at.typed refl in
    shifted_below (number v i) a (bits_at stage) (amount_left stage a ops at.typed)
    (room_below (number v i) a (bits_at stage) (range_in ranges i).greatest
    (if_used (is_used used i) _ (all_at (λ j. not (is_used used j) || has_room (bits_at stage) a
    (range_in ranges j).greatest) i below room) u)
    (number_at ranges v i (at.kind ∙ whole) below at.within).below)

between_cases : (stage : Stage) (ranges : List ValueRange) (a b : ℕ) (rest : List Op) (change : Change) (t : Bool) → nat_le b a ≡ t
    → used_have_room (bits_at stage) a (used_from rest) ranges ≡ true
    → Some (record { taken = 2; given = Some (if t then LeftShift (a - b) else RightShift (b - a)) }) ≡ Some change
    → Replacement stage ranges (LeftShift a ∷ RightShift b ∷ rest) change
between_cases stage ranges a b rest change true is room same =
    replacement stage ranges (LeftShift a) (RightShift b) (LeftShift (a - b)) rest change
    (replaces stage ranges (LeftShift a) (RightShift b) (LeftShift (a - b)) _ _ _ rest (left_is a) (right_is b) (left_is (a - b))
    (λ h. left_good stage (a - b) (lt-ltb (a - b) (bits_at stage) (omega (arith, amount_left stage a (RightShift b ∷ []) h))))
    (λ frame v at i below u.
    back_to_left (number v i) a b (bits_at stage) (leb-true b a is) (has_bits stage ranges a (RightShift b ∷ rest) rest
    (used_from rest) frame v at room i below u))) same
between_cases stage ranges a b rest change false is room same =
    let less : a < b = grind (arith, is) in
    replacement stage ranges (LeftShift a) (RightShift b) (RightShift (b - a)) rest change
    (replaces stage ranges (LeftShift a) (RightShift b) (RightShift (b - a)) _ _ _ rest (left_is a) (right_is b) (right_is (b - a))
    (λ h. right_good stage (b - a) (lt-ltb (b - a) (bits_at stage) (omega (arith, amount_right stage a b [] h))))
    (λ frame v at i below u.
    back_to_right (number v i) a b (bits_at stage) less (has_bits stage ranges a (RightShift b ∷ rest) rest
    (used_from rest) frame v at room i below u))) same

pub join_shifts_sound : IsSound (λ stage ranges ops. join_shifts stage ranges ops)
unfolding join_shifts
join_shifts_sound stage ranges (LeftShift a ∷ LeftShift b ∷ rest) change is =
    option_and_then_some _ (sum_below (bits_at stage) a b) change is
    (λ n sum same.
    (let s = sum_is (bits_at stage) a b n sum in
    replacement stage ranges (LeftShift a) (LeftShift b) (LeftShift n) rest change
    (replaces stage ranges (LeftShift a) (LeftShift b) (LeftShift n) _ _ _ rest (left_is a) (left_is b) (left_is n)
    (λ h. left_good stage n (ap (λ k. nat_lt k (bits_at stage)) (sym s.1) ∙ s.0))
    (λ frame v at i below u. ap (λ k. number v i * 2 ^ k % 2 ^ bits_at stage) (sym s.1)
    ∙ left_twice (number v i) a b (bits_at stage))) same))
join_shifts_sound stage ranges (RightShift a ∷ RightShift b ∷ rest) change is =
    option_and_then_some _ (sum_below (bits_at stage) a b) change is
    (λ n sum same.
    (let s = sum_is (bits_at stage) a b n sum in
    replacement stage ranges (RightShift a) (RightShift b) (RightShift n) rest change
    (replaces stage ranges (RightShift a) (RightShift b) (RightShift n) _ _ _ rest (right_is a) (right_is b) (right_is n)
    (λ h. right_good stage n (ap (λ k. nat_lt k (bits_at stage)) (sym s.1) ∙ s.0))
    (λ frame v at i below u. ap (λ k. number v i / 2 ^ k) (sym s.1) ∙ right_twice (number v i) a b)) same))
join_shifts_sound stage ranges (LeftShift a ∷ RightShift b ∷ rest) change is =
    let c = chosen (used_have_room (bits_at stage) a (used_from rest) ranges) _ change is in
    between_cases stage ranges a b rest change (nat_le b a) refl c.0 c.1
join_shifts_sound stage ranges _ change is = absurd (none-some change is)
