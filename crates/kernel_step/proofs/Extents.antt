-- A form is filled, extent by extent.
use Rattle.std.proofs.Common.{◌≢◌, ℕ, ◌+◌, ◌<◌, ℤ, List, [], length, slice_index_or, slice_set, get_or-set_other, get_or-set_same}
use Rattle.std.proofs.Common.{below_more, arith}
use Rattle.kernel_step.specs.declared.form.Extent.{Extent}
use Rattle.kernel_step.specs.Forms.{no_extent}

-- what holds of the extents before v, and of the new one
pub extents_more : (P : ℕ → Extent → Type 0) (extents : List Extent) (v : ℕ) (new : Extent) → v < length extents
    → ((u : ℕ) → u < v → P u (slice_index_or extents u no_extent)) → P v new
    → (u : ℕ) → u < v + 1 → P u (slice_index_or (slice_set extents v new) u no_extent)
extents_more P extents v new within done here =
    below_more (λ u. P u (slice_index_or (slice_set extents v new) u no_extent)) v
    (λ u h. let ne : u ≢ v = omega arith in rw get_or-set_other (done u h))
    (rw get_or-set_same here)

-- the same of the factors and the extents before v
pub rows_more : (P : ℕ → List ℤ → Extent → Type 0) (factors : List (List ℤ)) (extents : List Extent) (v : ℕ) (row : List ℤ)
    (extent : Extent) → v < length factors → v < length extents
    → ((u : ℕ) → u < v → P u (slice_index_or factors u []) (slice_index_or extents u no_extent)) → P v row extent
    → (u : ℕ) → u < v + 1 → P u (slice_index_or (slice_set factors v row) u []) (slice_index_or (slice_set extents v extent) u no_extent)
rows_more P factors extents v row extent within_factors within_extents done here =
    below_more (λ u. P u (slice_index_or (slice_set factors v row) u []) (slice_index_or (slice_set extents v extent) u no_extent)) v
    (λ u h. let ne : u ≢ v = omega arith in rw (get_or-set_other, get_or-set_other) (done u h))
    (rw (get_or-set_same, get_or-set_same) here)
