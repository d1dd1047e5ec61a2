-- Frames that are made one after the other.
use Rattle.std.proofs.Common.{◌≡◌, ℕ, zero, suc, ◌+◌, ◌*◌, ◌<◌, ◌≤◌, List, ◌++◌, length, take, drop, false, refl, sym, ap, ap₂, ◌∙◌, arith}
use Rattle.std.proofs.Common.{take_at, drop_at, add-one}
use Rattle.std.proofs.Common.{length-append}
use native.Mathlib.Nat.{mul-le-mul_right}
use Rattle.std.specs.Prelude.{sum}
use Rattle.std.proofs.lemmas.List.{drop-drop, length-drop}
use Rattle.std.proofs.lemmas.List.Sums.{sum_by-append}
use Rattle.frame_slices.specs.Generated.{generated}
use Rattle.pix_desc.specs.Frame.{frame_length}
use Rattle.pix_desc.proofs.FrameExists.{frame_length_is, length-frame_of}
use Rattle.pix_meaning.specs.declared.pair.Pair.{Pair}
use Rattle.pix_meaning.specs.Target.{target_frame, target_rows}
use Rattle.sws_run.specs.declared.request.Making.{Making}
use Rattle.sws_run.specs.Report.{made_frame, made_length, made_targets}

-- the frame that stands in front of what is left of all bytes
pub frame_in_front : (n k : ℕ) (all here frame rest : List ℕ) → here ≡ drop (k * n) all → here ≡ frame ++ rest → length frame ≡ n
    → frame ≡ take n (drop (k * n) all)
frame_in_front n k all here frame rest at same long = sym (ap (take n) (sym at ∙ same) ∙ take_at frame rest n long)

-- what stands behind it
pub rest_behind : (n k : ℕ) (all here frame rest : List ℕ) → here ≡ drop (k * n) all → here ≡ frame ++ rest → length frame ≡ n
    → rest ≡ drop ((k + 1) * n) all
rest_behind n k all here frame rest at same long =
    let next : k * n + n ≡ (k + 1) * n = omega arith in
    sym (drop_at frame rest n long) ∙ ap (drop n) (sym same ∙ at) ∙ drop-drop n (k * n) all ∙ ap (λ m. drop m all) next

-- a frame more is left
pub enough_left : (n k : ℕ) (all here : List ℕ) → here ≡ drop (k * n) all → length all ≡ 4 * n → k < 4 → n ≤ length here
enough_left n k all here at long more =
    let fits : k * n ≤ 3 * n = mul-le-mul_right n (let most : k ≤ 3 = omega (arith, more) in most) in
    omega (arith, fits, long, ap length at ∙ length-drop (k * n) all)

-- the bytes of all frames
pub start_made : (making : Making) (state left frames count : ℕ) → state ≡ making.seed → left ≡ frames * count → frames ≡ 4
    → count ≡ made_length making.pair
    → generated state left ≡ drop (0 * made_length making.pair) (generated making.seed (4 * made_length making.pair))
start_made making state left frames count seed is four long =
    let none : 0 ≡ 0 * made_length making.pair = omega arith in
    let all : left ≡ 4 * made_length making.pair = is ∙ ap₂ (λ a b. a * b) four long in
    ap₂ generated seed all ∙ ap (λ m. drop m (generated making.seed (4 * made_length making.pair))) none

pub no_sum : (making : Making) → 0 ≡ sum (made_targets making 0)
unfolding made_targets
no_sum making = refl

pub next_sum : (making : Making) (k : ℕ) (frame target : List ℕ) → frame ≡ made_frame making k
    → target ≡ target_frame making.pair 512 512 frame
    → sum (made_targets making (k + 1)) ≡ sum (made_targets making k) + sum target
unfolding made_targets
next_sum making k frame target is same =
    rw add-one (sum_by-append (λ n. n) (made_targets making k) (target_frame making.pair 512 512 (made_frame making k)))
    ∙ ap (λ bytes. sum (made_targets making k) + sum bytes) (ap (target_frame making.pair 512 512) (sym is) ∙ sym same)

length_of_target : (pair : Pair) (frame : List ℕ) → pair.to.desc.palette ≡ false
    → length (target_frame pair 512 512 frame) ≡ frame_length pair.to.desc 512 512
unfolding target_rows
length_of_target pair frame plain = length-frame_of pair.to.desc 512 512 _ ∙ sym (frame_length_is pair.to.desc 512 512 plain)

-- all frames have the same length
length_of_first : (making : Making) → making.pair.to.desc.palette ≡ false → (k : ℕ)
    → length (made_targets making k) ≡ k * frame_length making.pair.to.desc 512 512
unfolding made_targets
length_of_first making plain zero = (let none : 0 ≡ 0 * frame_length making.pair.to.desc 512 512 = omega arith in none)
length_of_first making plain (suc k) =
    length-append (made_targets making k) (target_frame making.pair 512 512 (made_frame making k))
    ∙ omega (arith, length_of_first making plain k, length_of_target making.pair (made_frame making k) plain)

pub length_of_targets : (making : Making) → making.pair.to.desc.palette ≡ false
    → length (made_targets making 4) ≡ 4 * frame_length making.pair.to.desc 512 512
length_of_targets making plain = length_of_first making plain 4
