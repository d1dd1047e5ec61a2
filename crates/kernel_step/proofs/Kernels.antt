-- The operations of a list, one after the other.
use Rattle.std.proofs.Common.{◌≡◌, ℕ, zero, suc, ◌+◌, ◌-◌, ◌^◌, ◌<◌, ◌≤◌, Bool, true, false, ℤ, List, [], ◌∷◌, ◌++◌, length, take, refl}
use Rattle.std.proofs.Common.{sym, ap, ◌∙◌, arith, subst}
use Rattle.std.specs.Prelude.{sum, slice_index, nat_lt, nat_le, if◌then◌else◌, ◌&&◌, ◌||◌, not}
use Rattle.std.specs.Str.{bytes_eq}
use Rattle.std.proofs.lemmas.Bool.{cond_below, and_parts, leb-true}
use Rattle.std.proofs.lemmas.List.{take_more, take_all}
use Rattle.op_list.specs.declared.types.PixType.{PixType}
use Rattle.op_list.specs.declared.types.PixType.TheVariants.{U8, U16, U32, Rat}
use Rattle.op_list.specs.declared.types.Stage.{Stage}
use Rattle.op_list.specs.declared.types.Stage.TheVariants.{Start, Typed, Ended}
use Rattle.op_list.specs.declared.op.Op.{Op}
use Rattle.op_list.specs.declared.op.Op.TheVariants.{Read, Write, SwapBytes, Unpack, Pack, Clear, LeftShift, RightShift, Swizzle, Convert}
use Rattle.op_list.specs.declared.op.Op.TheVariants.{Dither, Linear, Scale, Min, Max}
use Rattle.op_list.specs.declared.position.PixelPosition.{PixelPosition}
use Rattle.op_list.specs.declared.values.Values.{Values}
use Rattle.op_list.specs.Types.{bits, bits_at, has_type, is_whole, is_rational, is_whole_type, is_same}
use Rattle.op_list.specs.Pixel.{element_of, frame_length}
use Rattle.op_list.specs.Typing.{may_follow, are_good, stage_after, stage_from, are_typed, are_counts, are_in_front, is_write}
use Rattle.op_list.specs.Typing.{ends_with_write}
use Rattle.op_list.specs.Values.{number, no_values, are_fractions}
use Rattle.op_list.specs.Apply.{apply}
use Rattle.op_list.specs.Run.{run, run_from, read_length}
use Rattle.op_list.proofs.Steps.{apply_kind}
use Rattle.op_list.proofs.Runs.{run_from-append}
use Rattle.kernel_planes.specs.Block.{pixel_at, position_at, Holds, AreBelow}
use Rattle.kernel_step.specs.Forms.{op_at, form_at, stage_before, values_before, last_op, IsState, IsBounded, Performs}
use Rattle.kernel_planes.specs.Planes.{planes_of, elem_of}
use Rattle.kernel_step.specs.declared.form.Form.{Form}
use Rattle.kernel_step.proofs.Fours.{four_at}

typed_parts : (stage : Stage) (op : Op) (ops : List Op) → are_typed stage (op ∷ ops) ≡ true
    → (may_follow stage op ≡ true) × (are_good stage op ≡ true) × (are_typed (stage_after stage op) ops ≡ true)
unfolding are_typed
typed_parts stage op ops h =
    let p = and_parts (may_follow stage op && are_good stage op) (are_typed (stage_after stage op) ops) h in
    let q = and_parts (may_follow stage op) (are_good stage op) p.0 in
    (q.0, q.1, p.1)

pub counts_few : (most : ℕ) (ns : List ℕ) → are_counts most ns ≡ true → sum ns ≤ most
counts_few most ns h = let p = and_parts (are_in_front ns && nat_le 1 (sum ns)) (nat_le (sum ns) most) h in leb-true _ _ p.1

-- each operation may follow, and is good
typed_at : (stage : Stage) (ops : List Op) (k : ℕ) → are_typed stage ops ≡ true → k < length ops
    → (may_follow (stage_from stage (take k ops)) (op_at ops k) ≡ true) × (are_good (stage_from stage (take k ops)) (op_at ops k) ≡ true)
unfolding stage_from
typed_at stage [] k typed within = absurd (omega (arith, within))
typed_at stage (op ∷ ops) zero typed within = let t = typed_parts stage op ops typed in (t.0, t.1)
typed_at stage (op ∷ ops) (suc k) typed within =
    typed_at (stage_after stage op) ops k (typed_parts stage op ops typed).2 (omega (arith, within))

pub follows_at : (ops : List Op) (k : ℕ) → are_typed Start ops ≡ true → k < length ops
    → may_follow (stage_before ops k) (op_at ops k) ≡ true
follows_at ops k typed within = (typed_at Start ops k typed within).0

pub good_at : (ops : List Op) (k : ℕ) → are_typed Start ops ≡ true → k < length ops → are_good (stage_before ops k) (op_at ops k) ≡ true
good_at ops k typed within = (typed_at Start ops k typed within).1

stage_from-append : (stage : Stage) (first second : List Op)
    → stage_from stage (first ++ second) ≡ stage_from (stage_from stage first) second
unfolding stage_from
stage_from-append stage [] second = refl
stage_from-append stage (op ∷ first) second = stage_from-append (stage_after stage op) first second

one_stage : (stage : Stage) (op : Op) → stage_from stage (op ∷ []) ≡ stage_after stage op
unfolding stage_from
one_stage stage op = refl

one_run : (frame : List ℕ) (position : PixelPosition) (stage : Stage) (op : Op) (values : Values)
    → run_from frame position stage (op ∷ []) values ≡ apply frame position stage op values
unfolding run_from
one_run frame position stage op values = refl

pub stage_more : (ops : List Op) (k : ℕ) → k < length ops → stage_before ops (k + 1) ≡ stage_after (stage_before ops k) (op_at ops k)
stage_more ops k within =
    ap (stage_from Start) (take_more ops k SwapBytes within) ∙ stage_from-append Start (take k ops) (op_at ops k ∷ [])
    ∙ one_stage (stage_before ops k) (op_at ops k)

pub values_more : (ops : List Op) (frame : List ℕ) (position : PixelPosition) (k i : ℕ) → k < length ops
    → values_before ops frame position (k + 1) i ≡ apply frame (pixel_at position i) (stage_before ops k) (op_at ops k)
    (values_before ops frame position k i)
unfolding values_before
values_more ops frame position k i within =
    ap (λ o. run_from frame (pixel_at position i) Start o no_values) (take_more ops k SwapBytes within)
    ∙ run_from-append frame (pixel_at position i) Start (take k ops) (op_at ops k ∷ []) no_values
    ∙ one_run frame (pixel_at position i) (stage_before ops k) (op_at ops k)
    (run_from frame (pixel_at position i) Start (take k ops) no_values)

pub values_first : (ops : List Op) (frame : List ℕ) (position : PixelPosition) (i : ℕ) → values_before ops frame position 0 i ≡ no_values
unfolding values_before run_from
values_first ops frame position i = refl

pub values_all : (ops : List Op) (frame : List ℕ) (position : PixelPosition) (k i : ℕ) → length ops ≤ k
    → values_before ops frame position k i ≡ run_from frame (pixel_at position i) Start ops no_values
unfolding values_before
values_all ops frame position k i past = ap (λ o. run_from frame (pixel_at position i) Start o no_values) (take_all k ops past)

-- ---- the last operation is a Write, behind a first one that is none
pub last_writes : (ops : List Op) → ends_with_write ops ≡ true → is_write (last_op ops) ≡ true
unfolding ends_with_write
last_writes [] h = cc
last_writes (op ∷ []) h = h
last_writes (op ∷ next ∷ ops) h =
    let position : length (op ∷ next ∷ ops) - 1 ≡ suc (length (next ∷ ops) - 1) = omega arith in
    rw position (last_writes (next ∷ ops) h)

not_first : (op : Op) → is_write op ≡ true → may_follow Start op ≡ true → ⊥
unfolding may_follow
not_first (Write elem planes) h p = cc
not_first (Read elem planes palette) h p = cc
not_first SwapBytes h p = cc
not_first (Unpack widths) h p = cc
not_first (Pack widths) h p = cc
not_first (Clear values) h p = cc
not_first (LeftShift n) h p = cc
not_first (RightShift n) h p = cc
not_first (Swizzle from) h p = cc
not_first (Convert to expand) h p = cc
not_first (Dither k) h p = cc
not_first (Linear rows) h p = cc
not_first (Scale by) h p = cc
not_first (Min limits) h p = cc
not_first (Max limits) h p = cc

pub at_least_two : (ops : List Op) → ends_with_write ops ≡ true → are_typed Start ops ≡ true → 2 ≤ length ops
unfolding ends_with_write
at_least_two [] h typed = cc
at_least_two (op ∷ []) h typed = absurd (not_first op h (typed_parts Start op [] typed).0)
at_least_two (op ∷ next ∷ ops) h typed = omega arith

type_bits : (stage : Stage) (elem : PixType) → has_type elem stage ≡ true → bits_at stage ≡ bits elem
type_bits (Typed U8) U8 h = refl
type_bits (Typed U16) U16 h = refl
type_bits (Typed U32) U32 h = refl
type_bits (Typed Rat) Rat h = refl
type_bits (Typed U8) U16 h = cc
type_bits (Typed U8) U32 h = cc
type_bits (Typed U8) Rat h = cc
type_bits (Typed U16) U8 h = cc
type_bits (Typed U16) U32 h = cc
type_bits (Typed U16) Rat h = cc
type_bits (Typed U32) U8 h = cc
type_bits (Typed U32) U16 h = cc
type_bits (Typed U32) Rat h = cc
type_bits (Typed Rat) U8 h = cc
type_bits (Typed Rat) U16 h = cc
type_bits (Typed Rat) U32 h = cc
type_bits Start elem h = cc
type_bits Ended elem h = cc

pub write_type : (stage : Stage) (op : Op) → is_write op ≡ true → may_follow stage op ≡ true → bits_at stage ≡ bits (elem_of op)
unfolding may_follow
write_type stage (Write elem planes) w h = type_bits stage elem h
write_type stage op w h = cc

pub written_value : (frame : List ℕ) (position : PixelPosition) (stage : Stage) (op : Op) (values : Values) (v : ℕ) → is_write op ≡ true
    → v < 4 → v < sum (planes_of op)
    → number (apply frame position stage op values) v ≡ number values v
unfolding apply
written_value frame position stage (Write elem planes) values v w small within =
    four_at (λ i. if nat_lt i (sum planes) then number values i else 0) v 0 small
    ∙ sym (cond_below v (sum planes) (number values v) 0 within)
written_value frame position stage op values v w small within = cc

-- ---- the Read
pub read_good : (elem : PixType) (planes : List ℕ) (palette : Bool) → are_good Start (Read elem planes palette) ≡ true
    → (is_whole_type elem ≡ true) × (are_counts 4 planes ≡ true)
unfolding are_good
read_good elem planes palette good =
    let p = and_parts (is_whole_type elem && are_counts 4 planes)
    (not palette || (is_same elem U8 && bytes_eq planes (1 ∷ 0 ∷ 0 ∷ 0 ∷ []))) good in
    and_parts (is_whole_type elem) (are_counts 4 planes) p.0

pub read_value : (elem : PixType) (planes : List ℕ) (palette : Bool) (frame : List ℕ) (position : PixelPosition) (values : Values) (v : ℕ)
    → palette ≡ false → v < 4
    → number (apply frame position Start (Read elem planes palette) values) v ≡ element_of elem planes frame position v
unfolding apply
read_value elem planes true frame position values v plain small = cc
read_value elem planes false frame position values v plain small = four_at (λ i. element_of elem planes frame position i) v 0 small

pub read_length_first : (ops : List Op) (width rows : ℕ) → 0 < length ops
    → read_length ops width rows ≡ frame_length (op_at ops 0) width rows
read_length_first [] width rows h = absurd (omega (arith, h))
read_length_first (op ∷ ops) width rows h = refl

pub stage_zero : (ops : List Op) → stage_before ops 0 ≡ Start
unfolding stage_from
stage_zero [] = refl
stage_zero (op ∷ ops) = refl

read_whole : (op : Op) → may_follow Start op ≡ true → are_good Start op ≡ true → is_rational (stage_after Start op) ≡ false
unfolding may_follow are_good stage_after
read_whole (Read Rat planes palette) f g = cc
read_whole (Read U8 planes palette) f g = refl
read_whole (Read U16 planes palette) f g = refl
read_whole (Read U32 planes palette) f g = refl
read_whole op f g = cc

pub first_stage : (ops : List Op) → 0 < length ops → stage_before ops 1 ≡ stage_after Start (op_at ops 0)
first_stage ops some = stage_more ops 0 some ∙ ap (λ s. stage_after s (op_at ops 0)) (stage_zero ops)

pub first_whole : (ops : List Op) → are_typed Start ops ≡ true → 0 < length ops → is_rational (stage_before ops 1) ≡ false
first_whole ops typed some =
    let f : may_follow Start (op_at ops 0) ≡ true =
    subst (λ s. may_follow s (op_at ops 0) ≡ true) (stage_zero ops) (follows_at ops 0 typed some) in
    let g : are_good Start (op_at ops 0) ≡ true = subst (λ s. are_good s (op_at ops 0) ≡ true) (stage_zero ops) (good_at ops 0 typed some)
    in
    ap is_rational (first_stage ops some) ∙ read_whole (op_at ops 0) f g

pub first_follows : (ops : List Op) → are_typed Start ops ≡ true → 0 < length ops → may_follow Start (op_at ops 0) ≡ true
first_follows ops typed some = subst (λ s. may_follow s (op_at ops 0) ≡ true) (stage_zero ops) (follows_at ops 0 typed some)

pub first_good : (ops : List Op) → are_typed Start ops ≡ true → 0 < length ops → are_good Start (op_at ops 0) ≡ true
first_good ops typed some = subst (λ s. are_good s (op_at ops 0) ≡ true) (stage_zero ops) (good_at ops 0 typed some)

pub first_values : (ops : List Op) (frame : List ℕ) (position : PixelPosition) (i : ℕ) → 0 < length ops
    → values_before ops frame position 1 i ≡ apply frame (pixel_at position i) Start (op_at ops 0) no_values
first_values ops frame position i some =
    values_more ops frame position 0 i some ∙ ap (λ s. apply frame (pixel_at position i) s (op_at ops 0)
    (values_before ops frame position 0 i)) (stage_zero ops)
    ∙ ap (λ x. apply frame (pixel_at position i) Start (op_at ops 0) x) (values_first ops frame position i)

-- ---- the Write
pub good_write : (stage : Stage) (op : Op) → is_write op ≡ true → are_good stage op ≡ true → are_good Start op ≡ true
unfolding are_good
good_write stage (Write elem planes) w h = h
good_write stage op w h = cc

type_whole : (stage : Stage) (elem : PixType) → has_type elem stage ≡ true → is_whole_type elem ≡ true → is_whole stage ≡ true
type_whole (Typed U8) elem h w = refl
type_whole (Typed U16) elem h w = refl
type_whole (Typed U32) elem h w = refl
type_whole (Typed Rat) U8 h w = cc
type_whole (Typed Rat) U16 h w = cc
type_whole (Typed Rat) U32 h w = cc
type_whole (Typed Rat) Rat h w = cc
type_whole Start elem h w = cc
type_whole Ended elem h w = cc

pub write_whole : (stage : Stage) (op : Op) → is_write op ≡ true → may_follow stage op ≡ true → are_good stage op ≡ true
    → is_whole stage ≡ true
unfolding may_follow are_good
write_whole stage (Write elem planes) w f h = type_whole stage elem f (and_parts (is_whole_type elem) (are_counts 4 planes) h).0
write_whole stage op w f h = cc

pub write_good : (elem : PixType) (planes : List ℕ) → are_good Start (Write elem planes) ≡ true
    → (is_whole_type elem ≡ true) × (are_counts 4 planes ≡ true)
unfolding are_good
write_good elem planes good = and_parts (is_whole_type elem) (are_counts 4 planes) good

pub write_few : (op : Op) → is_write op ≡ true → are_good Start op ≡ true → sum (planes_of op) ≤ 4
unfolding are_good
write_few (Write elem planes) w good = let p = and_parts (is_whole_type elem) (are_counts 4 planes) good in counts_few 4 planes p.1
write_few op w good = cc

-- ---- the kind of the values
pub kind_before : (ops : List Op) (frame : List ℕ) (position : PixelPosition) (k i : ℕ) → are_typed Start ops ≡ true → k ≤ length ops
    → are_fractions (values_before ops frame position k i) ≡ is_rational (stage_before ops k)
kind_before ops frame position zero i typed within = ap are_fractions (values_first ops frame position i)
    ∙ ap is_rational (sym (stage_zero ops))
kind_before ops frame position (suc k) i typed within =
    let below : k < length ops = omega (arith, within) in
    let next : suc k ≡ k + 1 = omega arith in
    let old : are_fractions (values_before ops frame position k i) ≡ is_rational (stage_before ops k) =
    kind_before ops frame position k i typed (omega (arith, within)) in
    rw next
    (ap are_fractions (values_more ops frame position k i below)
    ∙ apply_kind frame (pixel_at position i) (stage_before ops k) (op_at ops k) (values_before ops frame position k i) old
    (follows_at ops k typed below) (good_at ops k typed below)
    ∙ ap is_rational (sym (stage_more ops k below)))

-- ---- a step between; each pixel has a frame of its own
pub state_more : {W N : Type 0} (digits : W → ℕ) (value : N → ℤ) (ops : List Op) (forms : List Form) (position : PixelPosition)
    (frames : ℕ → List ℕ) (k : ℕ) (stage : Stage) (op : Op)
    (old_values values : List W) (old_numbers numbers : List N) → are_typed Start ops ≡ true → stage ≡ stage_before ops k → op ≡ op_at ops k
    → k < length ops
    → ((i : ℕ) → apply [] (pixel_at position i) (stage_before ops k) (op_at ops k) (values_before ops (frames i) position k i)
    ≡ apply (frames i) (pixel_at position i) (stage_before ops k) (op_at ops k) (values_before ops (frames i) position k i))
    → Performs digits value stage (form_at forms (k - 1)) op (form_at forms k) position old_values old_numbers values numbers
    → (n : ℕ) → n ≤ 64 → IsState digits value (stage_before ops k) (form_at forms (k - 1)) old_values old_numbers n
    (λ i. values_before ops (frames i) position k i)
    → IsState digits value (stage_before ops (k + 1)) (form_at forms (k + 1 - 1)) values numbers n
    (λ i. values_before ops (frames i) position (k + 1) i)
state_more digits value ops forms position frames k stage op old_values values old_numbers numbers typed same_stage same_op within alike
    performs n most before =
    let old : ℕ → Values = λ i. values_before ops (frames i) position k i in
    let new : ℕ → Values = λ i. values_before ops (frames i) position (k + 1) i in
    let s : IsState digits value stage (form_at forms (k - 1)) old_values old_numbers n old =
    subst (λ t. IsState digits value t (form_at forms (k - 1)) old_values old_numbers n old) (sym same_stage) before in
    let kinds : (i : ℕ) → are_fractions (old i) ≡ is_rational stage =
    λ i. kind_before ops (frames i) position k i typed (omega (arith, within)) ∙ ap is_rational (sym same_stage) in
    let made = performs [] n old most kinds s in
    let stage_is : stage_after stage op ≡ stage_before ops (k + 1) =
    ap (λ t. stage_after t op) same_stage ∙ ap (λ o. stage_after (stage_before ops k) o) same_op ∙ sym (stage_more ops k within) in
    let values_are : (i : ℕ) → apply [] (pixel_at position i) stage op (old i) ≡ new i =
    λ i. ap (λ t. apply [] (pixel_at position i) t op (old i)) same_stage
    ∙ ap (λ o. apply [] (pixel_at position i) (stage_before ops k) o (old i)) same_op
    ∙ alike i ∙ sym (values_more ops (frames i) position k i within) in
    let form_is : form_at forms k ≡ form_at forms (k + 1 - 1) = ap (form_at forms) (omega arith) in
    let all : IsState digits value (stage_after stage op) (form_at forms k) values numbers n new =
    subst (λ g. IsState digits value (stage_after stage op) (form_at forms k) values numbers n g) (λ j i. values_are i j) made in
    subst (λ f. IsState digits value (stage_before ops (k + 1)) f values numbers n new) form_is
    (subst (λ t. IsState digits value t (form_at forms k) values numbers n new) stage_is all)

pub bounded_more : {W N : Type 0} (digits : W → ℕ) (value : N → ℤ) (ops : List Op) (forms : List Form) (k : ℕ) (stage : Stage) (op : Op)
    (values : List W) (numbers : List N) → stage ≡ stage_before ops k → op ≡ op_at ops k → k < length ops
    → IsBounded digits value (stage_after stage op) (form_at forms k) values numbers
    → IsBounded digits value (stage_before ops (k + 1)) (form_at forms (k + 1 - 1)) values numbers
bounded_more digits value ops forms k stage op values numbers same_stage same_op within bounded =
    let stage_is : stage_after stage op ≡ stage_before ops (k + 1) =
    ap (λ t. stage_after t op) same_stage ∙ ap (λ o. stage_after (stage_before ops k) o) same_op ∙ sym (stage_more ops k within) in
    let form_is : form_at forms k ≡ form_at forms (k + 1 - 1) = ap (form_at forms) (omega arith) in
    subst (λ f. IsBounded digits value (stage_before ops (k + 1)) f values numbers) form_is
    (subst (λ t. IsBounded digits value t (form_at forms k) values numbers) stage_is bounded)

-- ---- a whole block
pub first_state : {W N : Type 0} (digits : W → ℕ) (value : N → ℤ) (ops : List Op) (form : Form) (frame : List ℕ) (position : PixelPosition)
    (values : List W) (numbers : List N) (n : ℕ)
    → are_typed Start ops ≡ true → 0 < length ops → form.count ≤ 4
    → Holds digits values 4 n (λ v i. number (apply frame (pixel_at position i) Start (op_at ops 0) no_values) v)
    → IsState digits value (stage_before ops 1) form values numbers n (values_before ops frame position 1)
first_state digits value ops form frame position values numbers n typed some few set = record {
  whole = λ is v i d below within. set v i d (omega (arith, below, few)) within
      ∙ ap (λ t. number t v) (sym (first_values ops frame position i some));
  exact = λ is. absurd (let no : true ≡ false = sym is ∙ first_whole ops typed some in cc);
}

pub first_bounded : {W N : Type 0} (digits : W → ℕ) (value : N → ℤ) (ops : List Op) (form : Form) (values : List W) (numbers : List N)
    → are_typed Start ops ≡ true → 0 < length ops → form.count ≤ 4
    → AreBelow digits values 4 (2 ^ bits_at (stage_after Start (op_at ops 0)))
    → IsBounded digits value (stage_before ops 1) form values numbers
first_bounded digits value ops form values numbers typed some few low = record {
  small = λ is v i d below within. rw (first_stage ops some) (low v i d (omega (arith, below, few)) within);
  bound = λ is. absurd (let no : true ≡ false = sym is ∙ first_whole ops typed some in cc);
}

-- what the Write is given
pub written_run : (ops : List Op) (frame : List ℕ) (position : PixelPosition) (i v : ℕ) → are_typed Start ops ≡ true
    → ends_with_write ops ≡ true → 0 < length ops → v < sum (planes_of (last_op ops))
    → number (values_before ops frame position (length ops - 1) i) v ≡ number (run_from frame (pixel_at position i) Start ops no_values) v
written_run ops frame position i v typed whole some within =
    let k = length ops - 1 in
    let below : k < length ops = omega arith in
    let w : is_write (op_at ops k) ≡ true = last_writes ops whole in
    let g : are_good Start (op_at ops k) ≡ true = good_write (stage_before ops k) (op_at ops k) w (good_at ops k typed below) in
    let few : v < 4 = omega (arith, within, write_few (op_at ops k) w g) in
    let all : values_before ops frame position (k + 1) i ≡ run_from frame (pixel_at position i) Start ops no_values =
    values_all ops frame position (k + 1) i (omega arith) in
    sym (written_value frame (pixel_at position i) (stage_before ops k) (op_at ops k) (values_before ops frame position k i) v w few within)
    ∙ ap (λ t. number t v) (sym (values_more ops frame position k i below) ∙ all)

pub last_good : (ops : List Op) → are_typed Start ops ≡ true → ends_with_write ops ≡ true → 0 < length ops
    → are_good Start (last_op ops) ≡ true
last_good ops typed whole some =
    let k = length ops - 1 in
    good_write (stage_before ops k) (op_at ops k) (last_writes ops whole) (good_at ops k typed (omega arith))

pub last_whole : (ops : List Op) → are_typed Start ops ≡ true → ends_with_write ops ≡ true → 0 < length ops
    → is_whole (stage_before ops (length ops - 1)) ≡ true
last_whole ops typed whole some =
    let k = length ops - 1 in
    write_whole (stage_before ops k) (op_at ops k) (last_writes ops whole) (follows_at ops k typed (omega arith))
    (good_at ops k typed (omega arith))

pub last_bits : (ops : List Op) → are_typed Start ops ≡ true → ends_with_write ops ≡ true → 0 < length ops
    → bits_at (stage_before ops (length ops - 1)) ≡ bits (elem_of (last_op ops))
last_bits ops typed whole some =
    let k = length ops - 1 in write_type (stage_before ops k) (op_at ops k) (last_writes ops whole) (follows_at ops k typed (omega arith))

pub some_element : {W : Type 0} (xs : List W) → 0 < length xs → W
some_element [] h = absurd (omega (arith, h))
some_element (x ∷ xs) h = x

pub run_value : (ops : List Op) (frame : List ℕ) (width rows x row y v : ℕ) → v < 4
    → number (run_from frame (position_at width rows row y x) Start ops no_values) v ≡ slice_index (run ops frame width rows x row y) v
unfolding run
run_value ops frame width rows x row y v small =
    sym (four_at (λ i. number (run_from frame (position_at width rows row y x) Start ops no_values) i) v 0 small)

pub written_few : (ops : List Op) → are_typed Start ops ≡ true → ends_with_write ops ≡ true → sum (planes_of (last_op ops)) ≤ 4
written_few ops typed whole =
    let two : 2 ≤ length ops = at_least_two ops whole typed in
    write_few (last_op ops) (last_writes ops whole) (last_good ops typed whole (omega arith))

write_counts : (op : Op) → is_write op ≡ true → are_good Start op ≡ true → are_counts 4 (planes_of op) ≡ true
write_counts (Write elem planes) w good = (write_good elem planes good).1
write_counts op w good = cc

pub last_counts : (ops : List Op) → are_typed Start ops ≡ true → ends_with_write ops ≡ true
    → are_counts 4 (planes_of (last_op ops)) ≡ true
last_counts ops typed whole =
    let two : 2 ≤ length ops = at_least_two ops whole typed in
    write_counts (last_op ops) (last_writes ops whole) (last_good ops typed whole (omega arith))

nothing_behind : (stage : Stage) (op next : Op) → is_write op ≡ true → may_follow (stage_after stage op) next ≡ true → ⊥
unfolding may_follow stage_after
nothing_behind stage (Write elem planes) (Read other counts palette) w h = cc
nothing_behind stage (Write elem planes) (Write other counts) w h = cc
nothing_behind stage (Write elem planes) next w h = cc
nothing_behind stage op next w h = cc

-- an operation with one behind it is no Write
pub no_write : (ops : List Op) (k : ℕ) → are_typed Start ops ≡ true → k + 1 < length ops → is_write (op_at ops k) ≡ false
no_write ops k typed within = (elim (is_write (op_at ops k)) as (λ t. is_write (op_at ops k) ≡ t → is_write (op_at ops k) ≡ false) [
  | true ↦ λ w. absurd (nothing_behind (stage_before ops k) (op_at ops k) (op_at ops (k + 1)) w
      (subst (λ s. may_follow s (op_at ops (k + 1)) ≡ true) (stage_more ops k (omega (arith, within)))
      (follows_at ops (k + 1) typed within)))
  | false ↦ λ w. w
]) refl
