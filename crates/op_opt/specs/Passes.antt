-- The passes, each as a rule at a place.
use Rattle.std.specs.Prelude.{◌≡◌, List, [], ◌∷◌, Option}
use Rattle.op_list.specs.declared.types.Stage.{Stage}
use Rattle.op_list.specs.declared.op.Op.{Op}
use Rattle.op_range.specs.declared.range.ValueRange.{ValueRange}
use Rattle.op_opt.specs.declared.change.Change.{Change}
use Rattle.op_opt.specs.declared.pass.Pass.{Pass}
use Rattle.op_opt.specs.declared.pass.Pass.TheVariants.{DropIdle, JoinSwizzles, JoinShifts, CancelSwaps, TrimClear, TrimClamp}
use Rattle.op_opt.specs.declared.pass.Pass.TheVariants.{DropDither, JoinMaps, SkipFraction, ExpandBytes, ResetUnused, CancelPacking}
use Rattle.op_opt.specs.DropIdle.{drop_idle}
use Rattle.op_opt.specs.JoinSwizzles.{join_swizzles}
use Rattle.op_opt.specs.JoinShifts.{join_shifts}
use Rattle.op_opt.specs.CancelSwaps.{cancel_swaps}
use Rattle.op_opt.specs.TrimClear.{trim_clear}
use Rattle.op_opt.specs.TrimClamp.{trim_clamp}
use Rattle.op_opt.specs.DropDither.{drop_dither}
use Rattle.op_opt.specs.JoinMaps.{join_maps}
use Rattle.op_opt.specs.SkipFraction.{skip_fraction}
use Rattle.op_opt.specs.ExpandBytes.{expand_bytes}
use Rattle.op_opt.specs.ResetUnused.{reset_unused}
use Rattle.op_opt.specs.CancelPacking.{cancel_packing}

abbrev pub change_at : Pass → Stage → List ValueRange → List Op → Option Change
change_at DropIdle stage ranges ops = drop_idle stage ops
change_at JoinSwizzles stage ranges ops = join_swizzles ops
change_at JoinShifts stage ranges ops = join_shifts stage ranges ops
change_at CancelSwaps stage ranges ops = cancel_swaps ops
change_at TrimClear stage ranges ops = trim_clear ops
change_at TrimClamp stage ranges ops = trim_clamp ranges ops
change_at DropDither stage ranges ops = drop_dither ranges ops
change_at JoinMaps stage ranges ops = join_maps ops
change_at SkipFraction stage ranges ops = skip_fraction stage ops
change_at ExpandBytes stage ranges ops = expand_bytes stage ops
change_at ResetUnused stage ranges ops = reset_unused ops
change_at CancelPacking stage ranges ops = cancel_packing stage ops

-- in the order in which they are tried
abbrev pub passes : List Pass
passes =
    DropIdle ∷ JoinSwizzles ∷ JoinShifts ∷ CancelSwaps ∷ TrimClear ∷ TrimClamp ∷ DropDither ∷ JoinMaps ∷ SkipFraction ∷ ExpandBytes
    ∷ ResetUnused
    ∷ CancelPacking ∷ []

-- a pass that looks at no ranges
abbrev pub NeedsNoRanges : Pass → Type 0
NeedsNoRanges pass = (stage : Stage) (ranges others : List ValueRange) (ops : List Op)
    → change_at pass stage ranges ops ≡ change_at pass stage others ops
