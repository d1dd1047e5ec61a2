-- The normal list of a whole list is at most as wide as the list's peak.
use Rattle.std.proofs.Common.{◌≡◌, ℕ, zero, suc, ◌^◌, ◌<◌, ◌≤◌, Bool, true, false, if◌then◌else◌, List, [], ◌∷◌, max, subst, refl, arith}
use Rattle.std.specs.Prelude.{Option, Some, None}
use Rattle.std.proofs.lemmas.Option.{none-some}
use Rattle.op_list.specs.declared.types.Stage.{Stage}
use Rattle.op_list.specs.declared.types.Stage.TheVariants.{Start}
use Rattle.op_list.specs.declared.op.Op.{Op}
use Rattle.op_list.specs.Typing.{stage_after, are_typed}
use Rattle.op_list.proofs.Exact.{option_map_some}
use Rattle.op_range.specs.declared.range.ValueRange.{ValueRange}
use Rattle.op_range.specs.Ranges.{ranges_after, start_ranges}
use Rattle.op_range.specs.Width.{whole_width, own_width_from, has_fractions, own_width, width}
use Rattle.op_opt.specs.declared.pass.Pass.{Pass}
use Rattle.op_opt.specs.declared.pass.Pass.TheVariants.{DropIdle, JoinSwizzles, JoinShifts, CancelSwaps, TrimClear, TrimClamp}
use Rattle.op_opt.specs.declared.pass.Pass.TheVariants.{DropDither, JoinMaps, SkipFraction, ExpandBytes, ResetUnused, CancelPacking}
use Rattle.op_opt.specs.Changes.{Rule, changed, first_place}
use Rattle.op_opt.specs.OfFour.{or_else}
use Rattle.op_opt.specs.Passes.{change_at, passes}
use Rattle.op_opt.specs.Normal.{first_of_passes, step, next_or, normal_within, normal}
use Rattle.op_opt.specs.Weight.{weight}
use Rattle.op_opt.specs.Peak.{start_peaked, peak_from, peak, NormalIsNarrow}
use Rattle.op_opt.proofs.Walk.{step_improves}
use Rattle.op_opt.proofs.Normals.{normal_reached}
use Rattle.op_opt.proofs.PeakFronts.{Narrows, eases_narrow, narrows_behind}
use Rattle.op_opt.proofs.PeakTidy.{own_below, are_tidy}
use Rattle.op_opt.proofs.PeakPasses.{IsEasing, join_swizzles_easing, join_shifts_easing, cancel_swaps_easing, cancel_packing_easing}
use Rattle.op_opt.proofs.PeakTrims.{drop_idle_easing, drop_dither_easing, skip_fraction_easing, expand_bytes_easing}
use Rattle.op_opt.proofs.PeakResets.{trim_clear_easing, trim_clamp_easing, reset_unused_easing}
use Rattle.op_opt.proofs.PeakJoins.{join_maps_easing}

passes_easing : (pass : Pass) → IsEasing (change_at pass)
passes_easing DropIdle = drop_idle_easing
passes_easing JoinSwizzles = join_swizzles_easing
passes_easing JoinShifts = join_shifts_easing
passes_easing CancelSwaps = cancel_swaps_easing
passes_easing TrimClear = trim_clear_easing
passes_easing TrimClamp = trim_clamp_easing
passes_easing DropDither = drop_dither_easing
passes_easing JoinMaps = join_maps_easing
passes_easing SkipFraction = skip_fraction_easing
passes_easing ExpandBytes = expand_bytes_easing
passes_easing ResetUnused = reset_unused_easing
passes_easing CancelPacking = cancel_packing_easing

or_else_some : {A P : Type 0} (a b : Option A) (x : A) → or_else a b ≡ Some x → (a ≡ Some x → P) → (b ≡ Some x → P) → P
or_else_some None b x h here there = there h
or_else_some (Some y) b x h here there = here h

first_place_narrows : (rule : Rule) → IsEasing rule → (stage : Stage) (ranges : List ValueRange) (ops after : List Op)
    → first_place rule stage ranges ops ≡ Some after → Narrows stage ops after
unfolding first_place
first_place_narrows rule easing stage ranges [] after h = absurd (none-some after h)
first_place_narrows rule easing stage ranges (op ∷ ops) after h =
    or_else_some _ _ after h
    (λ here. option_map_some (λ change. changed (op ∷ ops) change) (rule stage ranges (op ∷ ops)) after here
    (λ change is same. subst (λ (n : List Op). Narrows stage (op ∷ ops) n) same
    (eases_narrow stage (op ∷ ops) (changed (op ∷ ops) change) (easing stage ranges (op ∷ ops) change is))))
    (λ there. option_map_some (λ rest. op ∷ rest) (first_place rule (stage_after stage op) (ranges_after stage op ranges) ops) after there
    (λ rest is same. subst (λ (n : List Op). Narrows stage (op ∷ ops) n) same
    (narrows_behind stage op ops rest (first_place_narrows rule easing (stage_after stage op) (ranges_after stage op ranges) ops rest is))))

first_pass_narrows : (list : List Pass) (ops after : List Op) → first_of_passes list ops ≡ Some after → Narrows Start ops after
unfolding first_of_passes
first_pass_narrows [] ops after h = absurd (none-some after h)
first_pass_narrows (pass ∷ rest) ops after h =
    or_else_some _ _ after h (λ here. first_place_narrows (change_at pass) (passes_easing pass) Start start_ranges ops after here)
    (λ there. first_pass_narrows rest ops after there)

step_narrows : (ops after : List Op) → step ops ≡ Some after → Narrows Start ops after
unfolding step
step_narrows ops after h = first_pass_narrows passes ops after h

-- ---- the peak of the normal list
lower : (f a b : ℕ) → a ≤ max f b → max f a ≤ max f b
lower f a b h = omega (arith, h)

peak_falls : (ops after : List Op) → are_typed Start ops ≡ true → Narrows Start ops after → peak after ≤ peak ops
unfolding peak
peak_falls ops after typed h =
    lower (2 ^ 32) (peak_from Start after start_peaked) (peak_from Start ops start_peaked)
    (h.peak start_peaked start_peaked typed (omega arith) (omega arith) (λ r. absurd (cc)))

in_turn : (a b c : ℕ) → a ≤ b → b ≤ c → a ≤ c
in_turn a b c h k = omega (arith, h, k)

within_falls : (steps : ℕ) (ops : List Op) → are_typed Start ops ≡ true → peak (normal_within steps ops) ≤ peak ops
unfolding normal_within
within_falls zero ops typed = omega arith
within_falls (suc steps) ops typed =
    (elim (step ops) as (λ s. step ops ≡ s → peak (next_or ops (λ next. normal_within steps next) s) ≤ peak ops) [
      | None ↦ λ is. omega arith
      | Some next ↦ λ is.
          in_turn (peak (normal_within steps next)) (peak next) (peak ops)
          (within_falls steps next ((step_improves ops next is).typed typed)) (peak_falls ops next typed (step_narrows ops next is))
    ]) refl

normal_falls : (ops : List Op) → are_typed Start ops ≡ true → peak (normal ops) ≤ peak ops
unfolding normal
normal_falls ops typed = within_falls (weight ops) ops typed

-- ---- the width of a tidy list
own_most : (b : Bool) (n k : ℕ) → n ≤ k → (if b then n else 2 ^ 32) ≤ max (2 ^ 32) k
own_most true n k h = omega (arith, h)
own_most false n k h = omega arith

four_most : (a b c d k : ℕ) → a ≤ k → b ≤ k → c ≤ k → d ≤ k → max (max a b) (max c d) ≤ k
four_most a b c d k ha hb hc hd = omega (arith, ha, hb, hc, hd)

width_below : (ops : List Op) → ((i : ℕ) → i < 4 → own_width_from Start ops (whole_width 0) i ≤ peak_from Start ops start_peaked)
    → width ops ≤ peak ops
unfolding width own_width peak
width_below ops own =
    let each = λ (i : ℕ) (below : i < 4). own_most (has_fractions Start ops) (own_width_from Start ops (whole_width 0) i)
    (peak_from Start ops start_peaked) (own i below) in
    four_most _ _ _ _ (max (2 ^ 32) (peak_from Start ops start_peaked)) (each 0 (omega arith)) (each 1 (omega arith)) (each 2 (omega arith))
    (each 3 (omega arith))

pub normal_narrow : NormalIsNarrow
normal_narrow = λ ops list last.
    (let n = (normal_reached ops list last).normal in
    in_turn (width (normal ops)) (peak (normal ops)) (peak ops)
    (width_below (normal ops) (λ i below. own_below Start (normal ops) start_peaked i below n.list.typed
    (are_tidy (normal ops) (λ front op rest is. n.settled ResetUnused front op rest is)) (λ r. absurd (cc))))
    (normal_falls ops list.typed))
