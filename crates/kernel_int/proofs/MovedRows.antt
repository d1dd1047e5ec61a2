-- A list that only moves values: its parts, and what it means for a row.
use Rattle.std.proofs.Common.{◌≡◌, ℕ, zero, suc, ◌<◌, ◌≤◌, true, false, List, [], ◌∷◌, length, slice_index, refl, sym, ap, ◌∙◌, arith, ⊎_elim}
use Rattle.std.specs.Prelude.{sum}
use Rattle.op_list.specs.declared.types.PixType.{PixType}
use Rattle.op_list.specs.declared.types.PixType.TheVariants.{U8, U16, U32, Rat}
use Rattle.op_list.specs.declared.types.Stage.TheVariants.{Start, Typed}
use Rattle.op_list.specs.declared.op.Op.{Op}
use Rattle.op_list.specs.declared.op.Op.TheVariants.{Read, Write, Swizzle}
use Rattle.op_list.specs.Types.{is_same, is_whole_type}
use Rattle.op_list.specs.Typing.{are_counts, are_good, are_typed, ends_with_write, may_follow, stage_after, stage_from}
use Rattle.op_list.specs.declared.position.PixelPosition.{PixelPosition}
use Rattle.op_list.specs.Values.{number, no_values}
use Rattle.op_list.specs.Pixel.{element_of}
use Rattle.op_list.specs.Apply.{apply, swizzled}
use Rattle.op_list.specs.Run.{run, run_from}
use Rattle.kernel_planes.specs.Block.{position_at}
use Rattle.kernel_planes.specs.Planes.{AreRows, planes_of, row_element, row_frame, row_list}
use Rattle.kernel_planes.proofs.RowFrames.{all_sizes, row_of_frame}
use Rattle.kernel_step.specs.Forms.{last_op, op_at}
use Rattle.kernel_step.proofs.Fours.{swizzled_number}
use Rattle.kernel_step.proofs.Kernels.{at_least_two, counts_few, first_good, follows_at, read_good, read_value, run_value, written_few, written_value}
use Rattle.kernel_int.specs.declared.moves.Moves.{Moves}
use Rattle.kernel_int.specs.Moves.{IsMove, with_swizzle, without_swizzle}

-- ---- lists of two and of three operations
pub last_follows : (ops : List Op) → are_typed Start ops ≡ true → length ops ≡ 2
    → may_follow (stage_after Start (op_at ops 0)) (last_op ops) ≡ true
unfolding stage_from
last_follows [] typed size = absurd (omega (arith, size))
last_follows (first ∷ []) typed size = absurd (omega (arith, size))
last_follows (first ∷ last ∷ []) typed size = follows_at (first ∷ last ∷ []) 1 typed (omega arith)
last_follows (first ∷ op ∷ last ∷ ops) typed size = absurd (omega (arith, size))

pub last_follows_swizzle : (ops : List Op) (from : List ℕ) → are_typed Start ops ≡ true → length ops ≡ 3 → op_at ops 1 ≡ Swizzle from
    → may_follow (stage_after Start (op_at ops 0)) (last_op ops) ≡ true
unfolding stage_from stage_after
last_follows_swizzle [] from typed size is = absurd (omega (arith, size))
last_follows_swizzle (first ∷ []) from typed size is = absurd (omega (arith, size))
last_follows_swizzle (first ∷ op ∷ []) from typed size is = absurd (omega (arith, size))
last_follows_swizzle (first ∷ op ∷ last ∷ []) from typed size is =
    follows_at (first ∷ Swizzle from ∷ last ∷ []) 2 (rw is at typed) (omega arith)
last_follows_swizzle (first ∷ op ∷ next ∷ last ∷ ops) from typed size is = absurd (omega (arith, size))

-- ---- a Write has the type of what it follows
same_type : (elem other : PixType) → is_same elem other ≡ true → elem ≡ other
same_type U8 U8 h = refl
same_type U16 U16 h = refl
same_type U32 U32 h = refl
same_type Rat Rat h = refl
same_type elem other h = cc

pub written_type : (elem other : PixType) (planes to : List ℕ)
    → may_follow (stage_after Start (Read elem planes false)) (Write other to) ≡ true → other ≡ elem
unfolding may_follow stage_after
written_type elem other planes to follows = same_type other elem follows

-- ---- what such a list means
first_is : (ops : List Op) (moves : Moves) → IsMove ops moves → op_at ops 0 ≡ Read moves.elem moves.planes false
first_is ops moves is = ⊎_elim (λ list. ap (λ t. op_at t 0) list) (λ both. ap (λ t. op_at t 0) both.0) is.list

pub last_is : (ops : List Op) (moves : Moves) → IsMove ops moves → last_op ops ≡ Write moves.elem moves.to
last_is ops moves is = ⊎_elim (λ list. ap last_op list) (λ both. ap last_op both.0) is.list

-- the planes and the type of such a list are good
pub record IsGoodMove (moves : Moves) : Type 0 where
  pub whole : is_whole_type moves.elem ≡ true
  pub counts : are_counts 4 moves.planes ≡ true
  pub few : sum moves.to ≤ 4

pub move_good : (ops : List Op) (moves : Moves) → IsMove ops moves → are_typed Start ops ≡ true → ends_with_write ops ≡ true
    → IsGoodMove moves
move_good ops moves is typed whole =
    let two = at_least_two ops whole typed in
    let good_first : are_good Start (op_at ops 0) ≡ true = first_good ops typed (omega (arith, two)) in
    let read = rw (first_is ops moves is) at good_first in
    let good = read_good moves.elem moves.planes false read in
    let few : sum (planes_of (last_op ops)) ≤ 4 = written_few ops typed whole in
    record { whole = good.0; counts = good.1; few = rw (last_is ops moves is) at few }

stays_in_place : (v : ℕ) → v < 4 → slice_index (0 ∷ 1 ∷ 2 ∷ 3 ∷ []) v ≡ v
stays_in_place zero small = refl
stays_in_place (suc zero) small = refl
stays_in_place (suc (suc zero)) small = refl
stays_in_place (suc (suc (suc zero))) small = refl
stays_in_place (suc (suc (suc (suc v)))) small = absurd (omega (arith, small))

-- value v that such a list gives to its Write is the element that it comes from
with_swizzle_run : (moves : Moves) (frame : List ℕ) (position : PixelPosition) (v : ℕ) → v < 4 → v < sum moves.to → slice_index moves.from v < 4
    → number (run_from frame position Start (with_swizzle moves) no_values) v
    ≡ element_of moves.elem moves.planes frame position (slice_index moves.from v)
unfolding run_from apply
with_swizzle_run moves frame position v small within there =
    let read = apply frame position Start (Read moves.elem moves.planes false) no_values in
    let moved = swizzled moves.from read in
    written_value frame position (Typed moves.elem) (Write moves.elem moves.to) moved v refl small within
    ∙ swizzled_number moves.from read v small
    ∙ read_value moves.elem moves.planes false frame position no_values (slice_index moves.from v) refl there

without_swizzle_run : (moves : Moves) (frame : List ℕ) (position : PixelPosition) (v : ℕ) → v < 4 → v < sum moves.to
    → number (run_from frame position Start (without_swizzle moves) no_values) v ≡ element_of moves.elem moves.planes frame position v
unfolding run_from stage_after
without_swizzle_run moves frame position v small within =
    let read = apply frame position Start (Read moves.elem moves.planes false) no_values in
    written_value frame position (Typed moves.elem) (Write moves.elem moves.to) read v refl small within
    ∙ read_value moves.elem moves.planes false frame position no_values v refl small

move_run : (ops : List Op) (moves : Moves) (frame : List ℕ) (position : PixelPosition) (v : ℕ) → IsMove ops moves → v < 4
    → v < sum moves.to → slice_index moves.from v < 4
    → number (run_from frame position Start ops no_values) v ≡ element_of moves.elem moves.planes frame position (slice_index moves.from v)
move_run ops moves frame position v is small within there =
    ⊎_elim
    (λ list.
    ap (λ t. number (run_from frame position Start t no_values) v) list ∙ with_swizzle_run moves frame position v small within there)
    (λ both.
    let stays : slice_index moves.from v ≡ v = ap (λ t. slice_index t v) both.1 ∙ stays_in_place v small in
    ap (λ t. number (run_from frame position Start t no_values) v) both.0 ∙ without_swizzle_run moves frame position v small within
    ∙ ap (λ u. element_of moves.elem moves.planes frame position u) (sym stays))
    is.list

-- value v that a list gives to its Write is the element of the rows that it comes from
pub moved_value : (ops : List Op) (moves : Moves) (a b c d behind : List ℕ) (width x y v : ℕ) → IsMove ops moves
    → are_typed Start ops ≡ true → ends_with_write ops ≡ true → AreRows (op_at ops 0) width (row_list a b c d) → x < width
    → v < sum moves.to
    → slice_index (run ops (row_frame (row_list a b c d) behind) width 1 x 0 y) v
    ≡ row_element moves.elem moves.planes (row_list a b c d) x (slice_index moves.from v)
moved_value ops moves a b c d behind width x y v is typed whole rows inside within =
    let frame = row_frame (row_list a b c d) behind in
    let position = position_at width 1 0 y x in
    let good = move_good ops moves is typed whole in
    let u = slice_index moves.from v in
    let small : v < 4 = omega (arith, within, good.few) in
    let there : u < 4 = omega (arith, is.there v within, counts_few 4 moves.planes good.counts) in
    sym (run_value ops frame width 1 x 0 y v small)
    ∙ move_run ops moves frame position v is small within there
    ∙ row_of_frame moves.elem moves.planes (row_list a b c d) behind position u
    (all_sizes moves.elem moves.planes width a b c d good.counts (rw (first_is ops moves is) at rows)) refl refl inside
