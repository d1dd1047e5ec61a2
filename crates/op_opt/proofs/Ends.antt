-- The first and the last operation of a list stay where others are replaced.
use Rattle.std.proofs.Common.{◌≡◌, suc, ◌-◌, ◌≤◌, Bool, true, false, not, List, [], ◌∷◌, ◌++◌, length, slice_index_or, refl, sym}
use Rattle.std.proofs.Common.{◌∙◌, ap, subst, arith}
use Rattle.std.specs.List.{list_all}
use Rattle.std.proofs.lemmas.Bool.{and_parts}
use Rattle.op_list.specs.declared.types.Stage.{Stage}
use Rattle.op_list.specs.declared.types.Stage.TheVariants.{Start}
use Rattle.op_list.specs.declared.op.Op.{Op}
use Rattle.op_list.specs.declared.op.Op.TheVariants.{Read, Write, SwapBytes, Unpack, Pack, Clear, LeftShift, RightShift, Swizzle, Convert}
use Rattle.op_list.specs.declared.op.Op.TheVariants.{Dither, Linear, Scale, Min, Max}
use Rattle.op_list.specs.Typing.{may_follow, are_typed, ends_with_write}
use Rattle.op_list.proofs.Typed.{typed_parts}

abbrev pub is_read : Op → Bool
is_read (Read elem planes palette) = true
is_read _ = false

-- ---- the first and the last of some operations, or another one where there are none
abbrev pub first_or : Op → List Op → Op
first_or other [] = other
first_or other (op ∷ ops) = op

abbrev pub last_or : Op → List Op → Op
last_or other [] = other
last_or other (op ∷ ops) = last_or op ops

pub first_index : (other : Op) (ops : List Op) → slice_index_or ops 0 other ≡ first_or other ops
first_index other [] = refl
first_index other (op ∷ ops) = refl

pub last_index : (other : Op) (ops : List Op) → slice_index_or ops (length ops - 1) other ≡ last_or other ops
last_index other [] = refl
last_index other (op ∷ []) = refl
last_index other (op ∷ next ∷ ops) =
    let place : length (op ∷ next ∷ ops) - 1 ≡ suc (length (next ∷ ops) - 1) = omega arith in
    ap (λ n. slice_index_or (op ∷ next ∷ ops) n other) place ∙ last_index other (next ∷ ops)

-- ---- behind other operations
behind_front : (other op : Op) (front ops : List Op) → last_or other (front ++ op ∷ ops) ≡ last_or op ops
behind_front other op [] ops = refl
behind_front other op (first ∷ front) ops = behind_front first op front ops

pub same_last : (other : Op) (old new rest : List Op) → ends_with_write rest ≡ true
    → last_or other (new ++ rest) ≡ last_or other (old ++ rest)
unfolding ends_with_write
same_last other old new [] last = absurd (cc)
same_last other old new (op ∷ rest) last = behind_front other op new rest ∙ sym (behind_front other op old rest)

-- ---- a list begins with a Read
start_reads : (op : Op) → may_follow Start op ≡ true → is_read op ≡ true
unfolding may_follow
start_reads (Read elem planes palette) h = refl
start_reads (Write elem planes) h = absurd (cc)
start_reads SwapBytes h = absurd (cc)
start_reads (Unpack widths) h = absurd (cc)
start_reads (Pack widths) h = absurd (cc)
start_reads (Clear values) h = absurd (cc)
start_reads (LeftShift n) h = absurd (cc)
start_reads (RightShift n) h = absurd (cc)
start_reads (Swizzle from) h = absurd (cc)
start_reads (Convert to expand) h = absurd (cc)
start_reads (Dither k) h = absurd (cc)
start_reads (Linear rows) h = absurd (cc)
start_reads (Scale by) h = absurd (cc)
start_reads (Min limits) h = absurd (cc)
start_reads (Max limits) h = absurd (cc)

both_ways : (b : Bool) → b ≡ true → not b ≡ true → ⊥
both_ways true h k = absurd (cc)
both_ways false h k = absurd (cc)

-- so what is taken there has one
pub not_at_start : (stage : Stage) (old rest : List Op) → stage ≡ Start → 1 ≤ length old → list_all (λ op. not (is_read op)) old ≡ true
    → are_typed stage (old ++ rest) ≡ true → ⊥
not_at_start stage [] rest start some unread typed = absurd (omega (arith, some))
not_at_start stage (op ∷ old) rest start some unread typed =
    both_ways (is_read op)
    (start_reads op (subst (λ (s : Stage). may_follow s op ≡ true) start (typed_parts stage op (old ++ rest) typed).0))
    (and_parts (not (is_read op)) (list_all (λ o. not (is_read o)) old) unread).0
