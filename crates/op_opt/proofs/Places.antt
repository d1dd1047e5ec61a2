-- Where no change comes of a step, no pass applies at any operation.
use Rattle.std.proofs.Common.{◌≡◌, ℕ, zero, suc, ◌<◌, List, [], ◌∷◌, ◌++◌, length, get_or, subst, refl, sym, arith}
use Rattle.std.specs.Prelude.{Option, Some, None}
use Rattle.std.specs.Option.{option_map}
use Rattle.std.proofs.lemmas.Option.{none-some}
use Rattle.op_list.specs.declared.types.Stage.{Stage}
use Rattle.op_list.specs.declared.types.Stage.TheVariants.{Start}
use Rattle.op_list.specs.declared.op.Op.{Op}
use Rattle.op_list.specs.Typing.{stage_after, stage_from}
use Rattle.op_range.specs.declared.range.ValueRange.{ValueRange}
use Rattle.op_range.specs.Ranges.{ranges_after, ranges_from, start_ranges}
use Rattle.op_opt.specs.declared.pass.Pass.{Pass}
use Rattle.op_opt.specs.declared.pass.Pass.TheVariants.{DropIdle, JoinSwizzles, JoinShifts, CancelSwaps, TrimClear, TrimClamp}
use Rattle.op_opt.specs.declared.pass.Pass.TheVariants.{DropDither, JoinMaps, SkipFraction, ExpandBytes, ResetUnused, CancelPacking}
use Rattle.op_opt.specs.Changes.{Rule, changed, first_place}
use Rattle.op_opt.specs.OfFour.{or_else}
use Rattle.op_opt.specs.Passes.{change_at, passes}
use Rattle.op_opt.specs.Normal.{first_of_passes, step, AppliesNowhere}

both_none : {A : Type 0} (a b : Option A) → or_else a b ≡ None → (a ≡ None) × (b ≡ None)
both_none None b h = (refl, h)
both_none (Some x) b h = absurd (none-some x (sym h))

map_none : {A B : Type 0} (f : A → B) (o : Option A) → option_map f o ≡ None → o ≡ None
map_none f None h = refl
map_none f (Some x) h = absurd (none-some (f x) (sym h))

-- ---- a rule
nowhere_from : (rule : Rule) (stage : Stage) (ranges : List ValueRange) (front : List Op) (op : Op) (rest : List Op)
    → first_place rule stage ranges (front ++ op ∷ rest) ≡ None → rule (stage_from stage front) (ranges_from stage front ranges)
    (op ∷ rest) ≡ None
unfolding first_place stage_from ranges_from
nowhere_from rule stage ranges [] op rest h =
    map_none (λ change. changed (op ∷ rest) change) (rule stage ranges (op ∷ rest)) (both_none _ _ h).0
nowhere_from rule stage ranges (first ∷ front) op rest h =
    nowhere_from rule (stage_after stage first) (ranges_after stage first ranges) front op rest
    (map_none (λ ops. first ∷ ops) (first_place rule (stage_after stage first) (ranges_after stage first ranges) (front ++ op ∷ rest))
    (both_none _ _ h).1)

-- ---- every pass
none_listed : (list : List Pass) (ops : List Op) (k : ℕ) (other : Pass) → first_of_passes list ops ≡ None → k < length list
    → first_place (change_at (get_or list k other)) Start start_ranges ops ≡ None
unfolding first_of_passes
none_listed [] ops k other h below = absurd (omega arith)
none_listed (pass ∷ list) ops zero other h below = (both_none _ _ h).0
none_listed (pass ∷ list) ops (suc k) other h below = none_listed list ops k other (both_none _ _ h).1 (omega (arith, below))

none_of : (ops : List Op) → first_of_passes passes ops ≡ None → (pass : Pass) → first_place (change_at pass) Start start_ranges ops ≡ None
none_of ops h DropIdle = none_listed passes ops 0 DropIdle h (omega arith)
none_of ops h JoinSwizzles = none_listed passes ops 1 DropIdle h (omega arith)
none_of ops h JoinShifts = none_listed passes ops 2 DropIdle h (omega arith)
none_of ops h CancelSwaps = none_listed passes ops 3 DropIdle h (omega arith)
none_of ops h TrimClear = none_listed passes ops 4 DropIdle h (omega arith)
none_of ops h TrimClamp = none_listed passes ops 5 DropIdle h (omega arith)
none_of ops h DropDither = none_listed passes ops 6 DropIdle h (omega arith)
none_of ops h JoinMaps = none_listed passes ops 7 DropIdle h (omega arith)
none_of ops h SkipFraction = none_listed passes ops 8 DropIdle h (omega arith)
none_of ops h ExpandBytes = none_listed passes ops 9 DropIdle h (omega arith)
none_of ops h ResetUnused = none_listed passes ops 10 DropIdle h (omega arith)
none_of ops h CancelPacking = none_listed passes ops 11 DropIdle h (omega arith)

pub applies_nowhere : (ops : List Op) → step ops ≡ None → (pass : Pass) → AppliesNowhere pass ops
unfolding step
applies_nowhere ops h pass = λ front op rest split.
    nowhere_from (change_at pass) Start start_ranges front op rest
    (subst (λ (o : List Op). first_place (change_at pass) Start start_ranges o ≡ None) (sym split) (none_of ops h pass))
