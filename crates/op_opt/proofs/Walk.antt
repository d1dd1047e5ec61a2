-- The first place at which a rule applies, and the first pass that applies.
use Rattle.std.proofs.Common.{◌≡◌, List, [], ◌∷◌, subst}
use Rattle.std.specs.Prelude.{Option, Some, None}
use Rattle.std.proofs.lemmas.Option.{none-some}
use Rattle.op_list.specs.declared.types.Stage.{Stage}
use Rattle.op_list.specs.declared.types.Stage.TheVariants.{Start}
use Rattle.op_list.specs.declared.op.Op.{Op}
use Rattle.op_list.specs.Typing.{stage_after}
use Rattle.op_list.proofs.Exact.{option_map_some}
use Rattle.op_range.specs.declared.range.ValueRange.{ValueRange}
use Rattle.op_range.specs.Ranges.{ranges_after, start_ranges}
use Rattle.op_opt.specs.declared.pass.Pass.{Pass}
use Rattle.op_opt.specs.declared.pass.Pass.TheVariants.{DropIdle, JoinSwizzles, JoinShifts, CancelSwaps, TrimClear, TrimClamp}
use Rattle.op_opt.specs.declared.pass.Pass.TheVariants.{DropDither, JoinMaps, SkipFraction, ExpandBytes, ResetUnused, CancelPacking}
use Rattle.op_opt.specs.Changes.{Rule, changed, first_place}
use Rattle.op_opt.specs.OfFour.{or_else}
use Rattle.op_opt.specs.Passes.{change_at, passes}
use Rattle.op_opt.specs.Normal.{first_of_passes, step}
use Rattle.op_opt.proofs.Replacing.{IsSound, Improves, improves_here, improves_behind}
use Rattle.op_opt.proofs.JoiningSwizzles.{join_swizzles_sound}
use Rattle.op_opt.proofs.CancellingSwaps.{cancel_swaps_sound}
use Rattle.op_opt.proofs.TrimmingClear.{trim_clear_sound}
use Rattle.op_opt.proofs.TrimmingClamp.{trim_clamp_sound}
use Rattle.op_opt.proofs.DroppingDither.{drop_dither_sound}
use Rattle.op_opt.proofs.JoiningMaps.{join_maps_sound}
use Rattle.op_opt.proofs.SkippingFraction.{skip_fraction_sound}
use Rattle.op_opt.proofs.DroppingIdle.{drop_idle_sound}
use Rattle.op_opt.proofs.JoiningShifts.{join_shifts_sound}
use Rattle.op_opt.proofs.ExpandingBytes.{expand_bytes_sound}
use Rattle.op_opt.proofs.ResettingUnused.{reset_unused_sound}
use Rattle.op_opt.proofs.CancellingPacking.{cancel_packing_sound}

or_else_some : {A P : Type 0} (a b : Option A) (x : A) → or_else a b ≡ Some x → (a ≡ Some x → P) → (b ≡ Some x → P) → P
or_else_some None b x h here there = there h
or_else_some (Some y) b x h here there = here h

pub first_place_improves : (rule : Rule) → IsSound rule → (stage : Stage) (ranges : List ValueRange) (ops after : List Op)
    → first_place rule stage ranges ops ≡ Some after → Improves stage ranges ops after
unfolding first_place
first_place_improves rule sound stage ranges [] after h = absurd (none-some after h)
first_place_improves rule sound stage ranges (op ∷ ops) after h =
    or_else_some _ _ after h
    (λ here. option_map_some (λ change. changed (op ∷ ops) change) (rule stage ranges (op ∷ ops)) after here
    (λ change is same. subst (λ (n : List Op). Improves stage ranges (op ∷ ops) n) same (improves_here stage ranges (op ∷ ops) change
    (sound stage ranges (op ∷ ops) change is))))
    (λ there. option_map_some (λ rest. op ∷ rest) (first_place rule (stage_after stage op) (ranges_after stage op ranges) ops) after there
    (λ rest is same. subst (λ (n : List Op). Improves stage ranges (op ∷ ops) n) same
    (improves_behind stage ranges op ops rest (first_place_improves rule sound (stage_after stage op)
    (ranges_after stage op ranges) ops rest is))))

-- ---- each pass
pub passes_sound : (pass : Pass) → IsSound (change_at pass)
passes_sound DropIdle = drop_idle_sound
passes_sound JoinSwizzles = join_swizzles_sound
passes_sound JoinShifts = join_shifts_sound
passes_sound CancelSwaps = cancel_swaps_sound
passes_sound TrimClear = trim_clear_sound
passes_sound TrimClamp = trim_clamp_sound
passes_sound DropDither = drop_dither_sound
passes_sound JoinMaps = join_maps_sound
passes_sound SkipFraction = skip_fraction_sound
passes_sound ExpandBytes = expand_bytes_sound
passes_sound ResetUnused = reset_unused_sound
passes_sound CancelPacking = cancel_packing_sound

first_pass_improves : (list : List Pass) (ops after : List Op) → first_of_passes list ops ≡ Some after
    → Improves Start start_ranges ops after
unfolding first_of_passes
first_pass_improves [] ops after h = absurd (none-some after h)
first_pass_improves (pass ∷ rest) ops after h =
    or_else_some _ _ after h (λ here. first_place_improves (change_at pass) (passes_sound pass) Start start_ranges ops after here)
    (λ there. first_pass_improves rest ops after there)

pub step_improves : (ops after : List Op) → step ops ≡ Some after → Improves Start start_ranges ops after
unfolding step
step_improves ops after h = first_pass_improves passes ops after h
