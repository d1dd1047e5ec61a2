-- Lists that end with a Write, which nothing follows.
use Rattle.std.proofs.Common.{◌≡◌, ℕ, Bool, true, false, not, List, [], ◌∷◌, ◌++◌, refl, sym, ◌∙◌, ap}
use Rattle.std.specs.List.{list_all}
use Rattle.std.proofs.lemmas.Bool.{and_parts, both_ways}
use Rattle.op_list.specs.declared.types.Stage.{Stage}
use Rattle.op_list.specs.declared.types.Stage.TheVariants.{Ended}
use Rattle.op_list.specs.declared.op.Op.{Op}
use Rattle.op_list.specs.declared.op.Op.TheVariants.{Read, Write, SwapBytes, Unpack, Pack, Clear, LeftShift, RightShift, Swizzle, Convert}
use Rattle.op_list.specs.declared.op.Op.TheVariants.{Dither, Linear, Scale, Min, Max}
use Rattle.op_list.specs.Typing.{may_follow, stage_after, stage_from, are_typed, is_write, ends_with_write}
use Rattle.op_list.specs.Run.{write_length}
use Rattle.op_list.proofs.Typed.{typed_parts}

-- nothing may follow where the elements are written
ended : (op : Op) → may_follow Ended op ≡ false
unfolding may_follow
ended (Read elem planes palette) = refl
ended (Write elem planes) = refl
ended SwapBytes = refl
ended (Unpack widths) = refl
ended (Pack widths) = refl
ended (Clear values) = refl
ended (LeftShift n) = refl
ended (RightShift n) = refl
ended (Swizzle from) = refl
ended (Convert to expand) = refl
ended (Dither k) = refl
ended (Linear rows) = refl
ended (Scale by) = refl
ended (Min limits) = refl
ended (Max limits) = refl

pub write_ends : (stage : Stage) (op : Op) → is_write op ≡ true → stage_after stage op ≡ Ended
unfolding stage_after
write_ends stage (Write elem planes) h = refl
write_ends stage _ h = absurd (cc)

pub whole_ended : (stage : Stage) (ops : List Op) → ends_with_write ops ≡ true → stage_from stage ops ≡ Ended
unfolding ends_with_write stage_from
whole_ended stage [] h = cc
whole_ended stage (op ∷ []) h = write_ends stage op h
whole_ended stage (op ∷ next ∷ ops) h = whole_ended (stage_after stage op) (next ∷ ops) h

-- an operation before another is no Write
not_write : (b : Bool) → (b ≡ true → ⊥) → b ≡ false
not_write true h = absurd (h refl)
not_write false h = refl

pub before_other : (stage : Stage) (op next : Op) (ops : List Op) → are_typed stage (op ∷ next ∷ ops) ≡ true → is_write op ≡ false
before_other stage op next ops h =
    let t = typed_parts stage op (next ∷ ops) h in
    let u = typed_parts (stage_after stage op) next ops t.2 in
    not_write (is_write op)
    (λ w. both_ways (may_follow Ended next) (ended next) (sym (ap (λ s. may_follow s next) (write_ends stage op w)) ∙ u.0))

-- ---- the last operation
pub ends_with_write-append : (front : List Op) (op : Op) (rest : List Op)
    → ends_with_write (front ++ op ∷ rest) ≡ ends_with_write (op ∷ rest)
unfolding ends_with_write
ends_with_write-append [] op rest = refl
ends_with_write-append (first ∷ []) op rest = refl
ends_with_write-append (first ∷ next ∷ front) op rest = ends_with_write-append (next ∷ front) op rest

-- the bytes that a list writes are those of its rest
pub write_length-append : (front : List Op) (op : Op) (rest : List Op) (width rows : ℕ)
    → write_length (front ++ op ∷ rest) width rows ≡ write_length (op ∷ rest) width rows
write_length-append [] op rest width rows = refl
write_length-append (first ∷ []) op rest width rows = refl
write_length-append (first ∷ next ∷ front) op rest width rows = write_length-append (next ∷ front) op rest width rows

-- behind an operation that is no Write
pub last_behind : (op : Op) (ops : List Op) → is_write op ≡ false → ends_with_write (op ∷ ops) ≡ true → ends_with_write ops ≡ true
unfolding ends_with_write
last_behind op [] other h = absurd (cc)
last_behind op (next ∷ ops) other h = h

-- and with an operation more in front
pub last_before : (op : Op) (ops : List Op) → ends_with_write ops ≡ true → ends_with_write (op ∷ ops) ≡ true
unfolding ends_with_write
last_before op [] h = absurd (cc)
last_before op (next ∷ ops) h = h

-- behind operations of which none is a Write
pub last_behind_all : (front rest : List Op) → list_all (λ op. not (is_write op)) front ≡ true → ends_with_write (front ++ rest) ≡ true
    → ends_with_write rest ≡ true
last_behind_all [] rest inner h = h
last_behind_all (op ∷ front) rest inner h =
    let p = and_parts (not (is_write op)) (list_all (λ o. not (is_write o)) front) inner in
    last_behind_all front rest p.1 (last_behind op (front ++ rest) (from_not (is_write op) p.0) h)
  where
    from_not : (b : Bool) → not b ≡ true → b ≡ false
    from_not true h = absurd (cc)
    from_not false h = refl
