-- A list means the same for a pixel of a frame and for that of its row, where its Read takes the same.
use Rattle.std.proofs.Common.{◌≡◌, ℕ, ◌<◌, true, false, List, [], ◌∷◌, length, slice_index, refl, ap, ◌∙◌}
use Rattle.std.specs.Prelude.{◌&&◌}
use Rattle.std.proofs.lemmas.Bool.{and_parts}
use Rattle.op_list.specs.declared.types.Stage.{Stage}
use Rattle.op_list.specs.declared.types.Stage.TheVariants.{Start, Typed, Ended}
use Rattle.op_list.specs.declared.op.Op.{Op}
use Rattle.op_list.specs.declared.op.Op.TheVariants.{Read, Write, SwapBytes, Unpack, Pack, Clear, LeftShift, RightShift, Swizzle, Convert}
use Rattle.op_list.specs.declared.op.Op.TheVariants.{Dither, Linear, Scale, Min, Max}
use Rattle.op_list.specs.declared.values.Values.{Values}
use Rattle.op_list.specs.Types.{is_start}
use Rattle.op_list.specs.Typing.{are_good, are_typed, may_follow, stage_after}
use Rattle.op_list.specs.Values.{four, number, no_values}
use Rattle.op_list.specs.Apply.{apply}
use Rattle.op_list.specs.Run.{run, run_from}
use Rattle.kernel_planes.specs.Block.{position_at}
use Rattle.kernel_step.specs.Forms.{op_at}

-- ---- behind the Read, a frame and its rows do not count
after_start : (stage : Stage) (op : Op) → is_start stage ≡ false → is_start (stage_after stage op) ≡ false
unfolding stage_after
after_start stage (Read elem planes palette) h = refl
after_start stage (Write elem planes) h = refl
after_start stage SwapBytes h = h
after_start stage (Unpack widths) h = h
after_start stage (Pack widths) h = h
after_start stage (Clear values) h = h
after_start stage (LeftShift n) h = h
after_start stage (RightShift n) h = h
after_start stage (Swizzle from) h = h
after_start stage (Convert to expand) h = refl
after_start stage (Dither k) h = h
after_start stage (Linear rows) h = h
after_start stage (Scale by) h = h
after_start stage (Min limits) h = h
after_start stage (Max limits) h = h

read_start : (stage : Stage) (op : Op) → may_follow stage op ≡ true → is_start stage ≡ true → is_start (stage_after stage op) ≡ false
unfolding may_follow stage_after
read_start Start (Read elem planes palette) f h = refl
read_start Start (Write elem planes) f h = refl
read_start Start SwapBytes f h = cc
read_start Start (Unpack widths) f h = cc
read_start Start (Pack widths) f h = cc
read_start Start (Clear values) f h = cc
read_start Start (LeftShift n) f h = cc
read_start Start (RightShift n) f h = cc
read_start Start (Swizzle from) f h = cc
read_start Start (Convert to expand) f h = refl
read_start Start (Dither k) f h = cc
read_start Start (Linear rows) f h = cc
read_start Start (Scale by) f h = cc
read_start Start (Min limits) f h = cc
read_start Start (Max limits) f h = cc
read_start (Typed elem) op f h = cc
read_start Ended op f h = cc

apply_same : (frame other : List ℕ) (width rows row across down at x y : ℕ) (stage : Stage) (op : Op) (values : Values)
    → is_start stage ≡ false → may_follow stage op ≡ true
    → apply frame (position_at width rows row y x) stage op values ≡ apply other (position_at across down at y x) stage op values
unfolding apply may_follow
apply_same frame other width rows row across down at x y stage (Read elem planes palette) values h f = cc
apply_same frame other width rows row across down at x y stage (Write elem planes) values h f = refl
apply_same frame other width rows row across down at x y stage SwapBytes values h f = refl
apply_same frame other width rows row across down at x y stage (Unpack widths) values h f = refl
apply_same frame other width rows row across down at x y stage (Pack widths) values h f = refl
apply_same frame other width rows row across down at x y stage (Clear entries) values h f = refl
apply_same frame other width rows row across down at x y stage (LeftShift n) values h f = refl
apply_same frame other width rows row across down at x y stage (RightShift n) values h f = refl
apply_same frame other width rows row across down at x y stage (Swizzle from) values h f = refl
apply_same frame other width rows row across down at x y stage (Convert to expand) values h f = refl
apply_same frame other width rows row across down at x y stage (Dither k) values h f = refl
apply_same frame other width rows row across down at x y stage (Linear entries) values h f = refl
apply_same frame other width rows row across down at x y stage (Scale by) values h f = refl
apply_same frame other width rows row across down at x y stage (Min limits) values h f = refl
apply_same frame other width rows row across down at x y stage (Max limits) values h f = refl

typed_first : (stage : Stage) (op : Op) (ops : List Op) → are_typed stage (op ∷ ops) ≡ true
    → (may_follow stage op ≡ true) × (are_typed (stage_after stage op) ops ≡ true)
unfolding are_typed
typed_first stage op ops h =
    let p = and_parts (may_follow stage op && are_good stage op) (are_typed (stage_after stage op) ops) h in
    ((and_parts (may_follow stage op) (are_good stage op) p.0).0, p.1)

runs_same : (frame other : List ℕ) (width rows row across down at x y : ℕ) (stage : Stage) (ops : List Op) (values : Values)
    → is_start stage ≡ false → are_typed stage ops ≡ true
    → run_from frame (position_at width rows row y x) stage ops values ≡ run_from other (position_at across down at y x) stage ops values
unfolding run_from
runs_same frame other width rows row across down at x y stage [] values h typed = refl
runs_same frame other width rows row across down at x y stage (op ∷ ops) values h typed =
    let t = typed_first stage op ops typed in
    ap (λ v. run_from frame (position_at width rows row y x) (stage_after stage op) ops v)
    (apply_same frame other width rows row across down at x y stage op values h t.0)
    ∙ runs_same frame other width rows row across down at x y (stage_after stage op) ops
    (apply other (position_at across down at y x) stage op values) (after_start stage op h) t.1

whole_same : (frame other : List ℕ) (width rows row across down at x y : ℕ) (ops : List Op) → are_typed Start ops ≡ true → 0 < length ops
    → apply frame (position_at width rows row y x) Start (op_at ops 0) no_values
    ≡ apply other (position_at across down at y x) Start (op_at ops 0) no_values
    → run_from frame (position_at width rows row y x) Start ops no_values
    ≡ run_from other (position_at across down at y x) Start ops no_values
unfolding run_from
whole_same frame other width rows row across down at x y [] typed some same = refl
whole_same frame other width rows row across down at x y (op ∷ ops) typed some same =
    let t = typed_first Start op ops typed in
    ap (λ v. run_from frame (position_at width rows row y x) (stage_after Start op) ops v) same
    ∙ runs_same frame other width rows row across down at x y (stage_after Start op) ops
    (apply other (position_at across down at y x) Start op no_values) (read_start Start op t.0 refl) t.1

pub run_same : (frame other : List ℕ) (width rows row across down at x y v : ℕ) (ops : List Op) → are_typed Start ops ≡ true
    → 0 < length ops
    → apply frame (position_at width rows row y x) Start (op_at ops 0) no_values
    ≡ apply other (position_at across down at y x) Start (op_at ops 0) no_values
    → slice_index (run ops frame width rows x row y) v ≡ slice_index (run ops other across down x at y) v
unfolding run
run_same frame other width rows row across down at x y v ops typed some same =
    ap (λ (values : Values). slice_index (four (λ i. number values i)) v)
    (whole_same frame other width rows row across down at x y ops typed some same)
