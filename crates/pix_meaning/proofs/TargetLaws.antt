-- A source frame has exactly one target frame, and codes stay as they are.
use Rattle.std.proofs.Common.{◌≡◌, ℕ, ◌+◌, ◌-◌, ◌^◌, ◌<◌, false, ℤ, pos, negsuc, ◌<ℤ◌, if◌then◌else◌, List, ap, ◌∙◌, subst, arith}
use Rattle.std.specs.Int.{int_min, int_max}
use Rattle.std.proofs.lemmas.Int.{ints, clamps}
use Rattle.std.proofs.lemmas.Nat.{pow_pos}
use Rattle.frac_math.specs.Fraction.{◌+ℚ◌, floor}
use Rattle.frac_math.specs.Dither.{dither_at}
use Rattle.frac_math.proofs.DitherLaws.{dither_floor}
use Rattle.pix_desc.specs.Component.{component_of, count_of}
use Rattle.pix_desc.specs.Frame.{FitDepths}
use Rattle.pix_desc.proofs.FrameLaws.{frame_says, only_frame}
use Rattle.pix_meaning.specs.declared.pair.Pair.{Pair}
use Rattle.pix_meaning.specs.Pairs.{IsValidPair, depth_of}
use Rattle.pix_meaning.specs.Target.{clamped, result_of, target_rows}
use Rattle.pix_meaning.specs.Laws.{KeepsCodes, ResultsFit, HasOneTargetFrame}

count_of_below : (z : ℤ) (n : ℕ) → 0 < n → z <ℤ pos n → count_of z < n
count_of_below (pos k) n some below = omega (arith, ints)
count_of_below (negsuc k) n some below = some

clamped_below : (depth : ℕ) (z : ℤ) → clamped depth z < 2 ^ depth
unfolding clamped
clamped_below depth z =
    let some = pow_pos depth in
    count_of_below (int_min (int_max z (pos 0)) (pos (2 ^ depth - 1))) (2 ^ depth) some (omega (arith, ints, clamps))

clamped_code : (depth code : ℕ) → code < 2 ^ depth → clamped depth (pos code) ≡ code
unfolding clamped
clamped_code depth code below =
    let same : int_min (int_max (pos code) (pos 0)) (pos (2 ^ depth - 1)) ≡ pos code = omega (arith, ints, clamps) in
    ap count_of same

pub keeps_codes : KeepsCodes
unfolding result_of
keeps_codes pair width height first frame j x y code wants below =
    ap (λ v. clamped (depth_of pair.to.desc j) (floor (v +ℚ dither_at pair.dither x (first + y)))) wants
    ∙ ap (clamped (depth_of pair.to.desc j)) (dither_floor pair.dither x (first + y) (pos code))
    ∙ clamped_code (depth_of pair.to.desc j) code below

pub result_below : ResultsFit
unfolding result_of
result_below pair width height first frame j x y = clamped_below (depth_of pair.to.desc j) _

pub results_fit : (pair : Pair) (width height first : ℕ) (frame : List ℕ) → pair.to.desc.palette ≡ false
    → FitDepths pair.to.desc width height (result_of pair width height first frame)
results_fit pair width height first frame none j x y listed column row =
    subst (λ b. result_of pair width height first frame j x y < 2 ^ (if b then 8 else (component_of pair.to.desc j).depth)) none
    (result_below pair width height first frame j x y)

pub has_one_target_frame : (pair : Pair) (width height first : ℕ) (frame : List ℕ) → IsValidPair pair → pair.to.desc.palette ≡ false
    → HasOneTargetFrame pair width height first frame
unfolding target_rows
has_one_target_frame pair width height first frame valid none = record {
  made = frame_says pair.to.desc width height (result_of pair width height first frame) valid.to none
      (results_fit pair width height first frame none);
  only = λ target is. only_frame pair.to.desc width height (result_of pair width height first frame) target valid.to none is;
}
