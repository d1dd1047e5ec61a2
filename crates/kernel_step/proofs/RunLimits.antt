-- The whole numbers of a block are below the limits that the ranges of its list state.
use Rattle.std.proofs.Common.{◌≡◌, ℕ, zero, suc, ◌+◌, ◌-◌, ◌*◌, ◌^◌, ◌<◌, ◌≤◌, Bool, true, false, ℤ, pos, negsuc, List, [], ◌∷◌}
use Rattle.std.proofs.Common.{length, map, take, get_or, slice_index, slice_index_or, refl, sym, ap, ◌∙◌, arith, subst, ⊎_elim}
use Rattle.std.specs.Prelude.{All, IfSome, Option, Some, None, if◌then◌else◌, nat_lt, ◌≤ℤ◌, ◌*ℤ◌, unsigned_abs, sum}
use Rattle.std.specs.Int.{Width}
use Rattle.std.proofs.lemmas.Bool.{cases_lt, cond_above, cond_below}
use Rattle.std.proofs.lemmas.Int.{ints}
use Rattle.std.proofs.lemmas.List.{get_or_default}
use Rattle.std.proofs.lemmas.Nat.{le-div}
use Rattle.frac_math.specs.Fraction.{ℚ, nat, ◌≤ℚ◌}
use Rattle.frac_math.proofs.FractionRing.{denominator_positive}
use Rattle.op_list.specs.declared.types.PixType.{PixType}
use Rattle.op_list.specs.declared.types.Stage.{Stage}
use Rattle.op_list.specs.declared.types.Stage.TheVariants.{Start}
use Rattle.op_list.specs.declared.op.Op.{Op}
use Rattle.op_list.specs.declared.op.Op.TheVariants.{Read, Convert}
use Rattle.op_list.specs.declared.position.PixelPosition.{PixelPosition}
use Rattle.op_list.specs.declared.values.Values.{Values}
use Rattle.op_list.specs.Types.{bits_at, bytes, is_rational}
use Rattle.op_list.specs.Typing.{may_follow, stage_after, are_typed, ends_with_write}
use Rattle.op_list.specs.Values.{number, no_values}
use Rattle.op_list.specs.Pixel.{number_at, element, element_in, element_of, palette_colours, pixel_count, pixel_number}
use Rattle.op_list.specs.Apply.{apply}
use Rattle.op_list.specs.Run.{run_from}
use Rattle.op_list.proofs.Applied.{whole_not_rational}
use Rattle.op_range.specs.Ranges.{range_in}
use Rattle.op_range.specs.Within.{FirstAreWithin, IsWithin, value_count}
use Rattle.op_range.specs.States.{EnclosesRun, range_of, ranges_of, states_of, states_from}
use Rattle.op_range.specs.declared.state.CompRange.{CompRange}
use Rattle.op_range.specs.declared.state.StateRange.{StateRange}
use Rattle.op_range.proofs.States.{all_left, states_enclose}
use Rattle.op_range.proofs.Within.{number_at as number_within}
use Rattle.kernel_planes.specs.Block.{pixel_at, AreBelow, Holds}
use Rattle.kernel_step.specs.Forms.{limit_of, limits_before, limits_in, no_range, op_at, range_at, stage_before, state_at}
use Rattle.kernel_step.specs.Forms.{AreHeld, AreReady, AreRuns, IsBounded, IsStep, IsStepBelow, makes_fractions, values_before}
use Rattle.kernel_step.proofs.Fours.{four_at}
use Rattle.kernel_step.specs.declared.form.Form.{Form}
use Rattle.kernel_step.proofs.Kernels.{first_follows, first_values, first_whole, kind_before, no_write}

-- ---- the states of a list, one by one
pub states_size : (stage : Stage) (ops : List Op) (ranges : List _) → length (states_from stage ops ranges) ≡ length ops
unfolding states_from
states_size stage [] ranges = refl
states_size stage (op ∷ ops) ranges = ap suc (states_size (stage_after stage op) ops _)

enclosed_at : (frame : List ℕ) (position : PixelPosition) (stage : Stage) (ops : List Op) (values : Values) (states : List StateRange)
    (k : ℕ) → EnclosesRun frame position stage ops values states → k < length ops
    → FirstAreWithin (value_count (op_at ops k)) (ranges_of (state_at states k))
    (run_from frame position stage (take (suc k) ops) values)
unfolding run_from
enclosed_at frame position stage [] values states k encloses within = absurd (omega (arith, within))
enclosed_at frame position stage (op ∷ ops) values [] k encloses within = absurd encloses
enclosed_at frame position stage (op ∷ ops) values (state ∷ states) zero encloses within = encloses.0
enclosed_at frame position stage (op ∷ ops) values (state ∷ states) (suc k) encloses within =
    enclosed_at frame position (stage_after stage op) ops (apply frame position stage op values) states k encloses.2 (omega (arith, within))

range_same : (state : StateRange) (v : ℕ) → range_in (ranges_of state) v ≡ range_of (range_at state v)
range_same state v = mapped state.comps v
  where
    mapped : (comps : List CompRange) (v : ℕ) → range_in (map range_of comps) v ≡ range_of (slice_index_or comps v no_range)
    mapped [] v = refl
    mapped (comp ∷ comps) zero = refl
    mapped (comp ∷ comps) (suc v) = mapped comps v

-- ---- whole numbers below a limit
numerator_most : (z : ℤ) (n d : ℕ) → (pos n *ℤ pos d) ≤ℤ (z *ℤ pos 1) → n * d ≤ unsigned_abs z
numerator_most (pos m) n d h = omega (arith, ints, h)
numerator_most (negsuc m) n d h = absurd (omega (arith, ints, h))

below_limit : (bound : Option ℚ) (n bits : ℕ) → n < 2 ^ bits → IfSome bound (λ x. nat n ≤ℚ x) → n < limit_of bound bits
below_limit None n bits small h = small
below_limit (Some x) n bits small h =
    let floor = le-div n (unsigned_abs x.numerator) x.denominator (denominator_positive x)
    (numerator_most x.numerator n x.denominator h.at_most) in
    omega (arith, small, floor)

-- each whole number on the way through a list, at every pixel of every frame of bytes
pub run_below : (ops : List Op) (frame : List ℕ) (position : PixelPosition) (k i v : ℕ) → are_typed Start ops ≡ true
    → ends_with_write ops ≡ true → All (λ byte. byte < 256) frame → 0 < k → k < length ops → v < 4
    → is_rational (stage_before ops k) ≡ false
    → number (values_before ops frame position k i) v < 2 ^ bits_at (stage_before ops k)
    → number (values_before ops frame position k i) v < limits_before ops k v
unfolding values_before
run_below ops frame position k i v typed whole bytes some within few kind small =
    let last : suc (k - 1) ≡ k = omega arith in
    let place = pixel_at position i in
    let values = values_before ops frame position k i in
    let state = state_at (states_of ops) (k - 1) in
    let range = range_at state v in
    let at : FirstAreWithin (value_count (op_at ops (k - 1))) (ranges_of state)
    (run_from frame place Start (take (suc (k - 1)) ops) no_values) =
    enclosed_at frame place Start ops no_values (states_of ops) (k - 1) (states_enclose ops typed whole frame place bytes) (omega arith) in
    let all : FirstAreWithin 4 (ranges_of state) values =
    subst (λ n. FirstAreWithin n (ranges_of state) values) (all_left (op_at ops (k - 1)) (no_write ops (k - 1) typed (omega arith)))
    (subst (λ t. FirstAreWithin (value_count (op_at ops (k - 1))) (ranges_of state) (run_from frame place Start (take t ops) no_values))
    last at) in
    let one : IsWithin (range_in (ranges_of state) v) (nat (number values v)) =
    number_within (ranges_of state) values v (kind_before ops frame position k i typed (omega arith) ∙ kind) few all in
    let bounded : IsWithin (range_of range) (nat (number values v)) =
    subst (λ r. IsWithin r (nat (number values v))) (range_same state v) one in
    let limit : limit_of range.greatest (bits_at (stage_before ops k)) ≡ limits_before ops k v =
    sym (four_at (λ u. limit_of (range_at state u).greatest (bits_at (stage_before ops k))) v 0 few) in
    subst (λ t. number values v < t) limit (below_limit range.greatest (number values v) (bits_at (stage_before ops k)) small bounded.below)

-- limits are within the bits of the type
pub limits_small : (ops : List Op) (k v : ℕ) → limits_before ops k v ≤ 2 ^ bits_at (stage_before ops k)
limits_small ops k v = small v
  where
    state : StateRange
    state = state_at (states_of ops) (k - 1)

    bits : ℕ
    bits = bits_at (stage_before ops k)

    one : (bound : Option ℚ) → limit_of bound bits ≤ 2 ^ bits
    one None = omega arith
    one (Some x) = omega arith

    small : (v : ℕ) → slice_index (limits_in state bits) v ≤ 2 ^ bits
    small zero = one (range_at state 0).greatest
    small (suc zero) = one (range_at state 1).greatest
    small (suc (suc zero)) = one (range_at state 2).greatest
    small (suc (suc (suc zero))) = one (range_at state 3).greatest
    small (suc (suc (suc (suc v)))) = omega arith

-- what holds all the numbers of a type holds those below the limits
pub held_below : (width : Width) (ops : List Op) (k : ℕ) (form : Form)
    → AreHeld width (λ v. 2 ^ bits_at (stage_before ops k)) (stage_before ops k) (op_at ops k) form
    → AreHeld width (limits_before ops k) (stage_before ops k) (op_at ops k) form
held_below width ops k form held whole makes v below =
    let all = held whole makes v below in
    record {
      one = all.one;
      bounds = λ m low. all.bounds m (omega (arith, low, limits_small ops k v));
      fits = λ m low. all.fits m (omega (arith, low, limits_small ops k v));
    }

-- ---- frames of bytes
pub bytes_of : (frame : List ℕ) → ((k : ℕ) → get_or frame k 0 < 256) → All (λ byte. byte < 256) frame
bytes_of frame low k d within = subst (λ byte. byte < 256) (get_or_default frame k 0 d within) (low k)

no_number : (count at : ℕ) → number_at count [] at ≡ 0
no_number zero at = refl
no_number (suc count) at = omega (arith, no_number count (at + 1))

no_element : (elem : PixType) (planes : List ℕ) (position : PixelPosition) (i : ℕ) → element_of elem planes [] position i ≡ 0
unfolding element_of
no_element elem planes position i = either (nat_lt i (sum planes))
  where
    either : (b : Bool) → (if b then element elem [] (element_in (pixel_count position) (pixel_number position) 0 planes i) else 0) ≡ 0
    either true = no_number (bytes elem) _
    either false = refl

-- what is read of an empty frame
pub nothing_read : (op : Op) (position : PixelPosition) (v : ℕ) → may_follow Start op ≡ true → v < 4
    → number (apply [] position Start op no_values) v ≡ 0
unfolding may_follow apply palette_colours
nothing_read (Read elem planes true) position v h few = four_at (λ i. 0) v 0 few
nothing_read (Read elem planes false) position v h few =
    four_at (λ i. element_of elem planes [] position i) v 0 few ∙ no_element elem planes position v
nothing_read op position v h few = cc

-- ---- the pixels of a block
-- the frame of the first n pixels, and no frame for those behind them
abbrev pub lane_frame : List ℕ → ℕ → ℕ → List ℕ
lane_frame frame n i = if nat_lt i n then frame else []

lane_bytes : (frame : List ℕ) (n i : ℕ) → All (λ byte. byte < 256) frame → All (λ byte. byte < 256) (lane_frame frame n i)
lane_bytes frame n i known = either (nat_lt i n)
  where
    either : (b : Bool) → All (λ byte. byte < 256) (if b then frame else [])
    either true = known
    either false = λ k d within. absurd (omega (arith, within))

pub first_lanes : {W N : Type 0} (digits : W → ℕ) (value : N → ℤ) (ops : List Op) (form : Form) (frame : List ℕ)
    (position : PixelPosition) (old new : List W) (numbers : List N) (n : ℕ)
    → are_typed Start ops ≡ true → 0 < length ops → form.count ≤ 4 → All (λ byte. byte < 256) frame
    → Holds digits old 4 n (λ v i. number (apply frame (pixel_at position i) Start (op_at ops 0) no_values) v)
    → ((v i : ℕ) (d : W) → v < 4 → i < n → slice_index_or new (64 * v + i) d ≡ slice_index_or old (64 * v + i) d)
    → ((v i : ℕ) (d : W) → v < 4 → n ≤ i → i < 64 → digits (slice_index_or new (64 * v + i) d) ≡ 0)
    → AreRuns digits value ops 1 position form new numbers
first_lanes {W} {N} digits value ops form frame position old new numbers n typed some few known set kept cleared = record {
  frames = lane_frame frame n;
  bytes = λ i. lane_bytes frame n i known;
  state = record {
    whole = λ is v i d below within.
        let small : v < 4 = omega (arith, below, few) in
        ⊎_elim
        (λ (here : i < n).
        ap digits (kept v i d small here) ∙ set v i d small here
        ∙ ap (λ f. number (apply f (pixel_at position i) Start (op_at ops 0) no_values) v) (cond_below i n frame [] here)
        ∙ ap (λ t. number t v) (sym (first_values ops (lane_frame frame n i) position i some)))
        (λ (behind : n ≤ i).
        cleared v i d small behind within
        ∙ sym (nothing_read (op_at ops 0) (pixel_at position i) v (first_follows ops typed some) small)
        ∙ ap (λ f. number (apply f (pixel_at position i) Start (op_at ops 0) no_values) v) (cond_above i n frame [] [] behind refl)
        ∙ ap (λ t. number t v) (sym (first_values ops (lane_frame frame n i) position i some)))
        (cases_lt i n);
    exact = λ is. absurd (let no : true ≡ false = sym is ∙ first_whole ops typed some in cc);
  };
}

-- a block stays below a limit where the pixels behind the first n become 0
pub rest_below : {W : Type 0} (digits : W → ℕ) (old new : List W) (n limit : ℕ) → 0 < limit → AreBelow digits old 4 limit
    → ((v i : ℕ) (d : W) → v < 4 → i < n → slice_index_or new (64 * v + i) d ≡ slice_index_or old (64 * v + i) d)
    → ((v i : ℕ) (d : W) → v < 4 → n ≤ i → i < 64 → digits (slice_index_or new (64 * v + i) d) ≡ 0)
    → AreBelow digits new 4 limit
rest_below digits old new n limit some low kept cleared v i d below within =
    ⊎_elim
    (λ (here : i < n). subst (λ x. digits x < limit) (sym (kept v i d below here)) (low v i d below within))
    (λ (behind : n ≤ i). subst (λ m. m < limit) (sym (cleared v i d below behind within)) some)
    (cases_lt i n)

-- an operation that is no Read looks at no frame
pub apply_alike : (bits : ℕ) (width : Width) (stage : Stage) (before : Form) (op : Op) (after : Form)
    → IsStep bits width stage before op after
    → (frame other : List ℕ) (position : PixelPosition) (values : Values)
    → apply frame position stage op values ≡ apply other position stage op values
unfolding apply
apply_alike bits width stage before (Read elem planes palette) after step frame other position values = absurd step
apply_alike bits width stage before op after step frame other position values = refl

fractions_count : (bits : ℕ) (width : Width) (stage : Stage) (before : Form) (op : Op) (after : Form)
    → IsStep bits width stage before op after
    → makes_fractions op ≡ true → after.count ≤ before.count
fractions_count bits width stage before (Convert to expand) after step makes = step.there
fractions_count bits width stage before op after step makes = absurd (cc makes)

-- the whole numbers of all 64 pixels before an operation that makes fractions of them
pub runs_ready : {W N : Type 0} (digits : W → ℕ) (value : N → ℤ) (bits : ℕ) (width : Width) (ops : List Op) (k : ℕ)
    (position : PixelPosition) (before after : Form) (values : List W) (numbers : List N)
    → are_typed Start ops ≡ true → ends_with_write ops ≡ true → 0 < k → k < length ops → before.count ≤ 4
    → AreRuns digits value ops k position before values numbers
    → IsBounded digits value (stage_before ops k) before values numbers
    → IsStepBelow bits width (limits_before ops k) (stage_before ops k) before (op_at ops k) after
    → AreReady digits width (stage_before ops k) (op_at ops k) after values
runs_ready digits value bits width ops k position before after values numbers typed whole some within few runs bounded step is makes v i d
    below inside =
    let count = fractions_count bits width (stage_before ops k) before (op_at ops k) after step.step makes in
    let there : v < before.count = omega (arith, below, count) in
    let m = digits (slice_index_or values (64 * v + i) d) in
    let same : m ≡ number (values_before ops (runs.frames i) position k i) v = runs.state.whole is v i d there inside in
    let low : number (values_before ops (runs.frames i) position k i) v < 2 ^ bits_at (stage_before ops k) =
    subst (λ t. t < 2 ^ bits_at (stage_before ops k)) same (bounded.small is v i d there inside) in
    let limit : m < limits_before ops k v =
    subst (λ t. t < limits_before ops k v) (sym same)
    (run_below ops (runs.frames i) position k i v typed whole (runs.bytes i) some within (omega (arith, there, few))
    (whole_not_rational (stage_before ops k) is) low) in
    let held = step.held is makes v below in
    record { bounds = held.bounds m limit; fits = held.fits m limit }
