-- The rows of the planes that the normal list of a pair reads and writes, and the frames of one row that they make.
use Rattle.std.proofs.Common.{◌≡◌, ℕ, zero, suc, ◌+◌, ◌*◌, ◌/◌, ◌<◌, ⊎_elim, true, false, List, [], ◌∷◌, ◌++◌}
use Rattle.std.proofs.Common.{length, slice_index, slice_index_or, length-append, refl, sym, ◌∙◌, ap, subst, arith}
use Rattle.std.specs.Prelude.{sum, All}
use Rattle.std.proofs.lemmas.Bool.{cases_Bool, cond-true, cond-false}
use Rattle.std.proofs.lemmas.List.Elements.{All-append}
use Rattle.pix_desc.specs.declared.desc.Desc.{Desc}
use Rattle.pix_desc.specs.Frame.{plane_step, frame_length}
use Rattle.pix_desc.specs.Layouts.{IsValid}
use Rattle.pix_desc.specs.Shape.{element_counts}
use Rattle.pix_desc.proofs.ElementCounts.{count_at}
use Rattle.pix_desc.proofs.Valid.{laid_out}
use Rattle.pix_meaning.specs.declared.pair.Pair.{Pair}
use Rattle.pix_meaning.specs.Pairs.{IsValidPair}
use Rattle.pix_meaning.specs.Target.{target_rows}
use Rattle.op_list.specs.declared.op.Op.{Op}
use Rattle.op_list.specs.declared.op.Op.TheVariants.{Read, Write, SwapBytes}
use Rattle.op_list.specs.declared.types.PixType.TheVariants.{U8}
use Rattle.op_list.specs.Types.{bytes}
use Rattle.op_list.specs.Pixel.{element_of}
use Rattle.op_list.specs.Store.{HaveSameElements}
use Rattle.op_list.specs.Run.{run}
use Rattle.op_build.specs.ElementType.{element_type}
use Rattle.op_build.specs.Recipe.{decode, convert, encode, recipe, split}
use Rattle.op_build.proofs.decode.Palette as palette
use Rattle.op_build.proofs.decode.Plain as plain
use Rattle.op_build.proofs.recipe.Frames.{palette_frame}
use Rattle.op_build.proofs.shape.ElementStarts.{whole_steps}
use Rattle.op_build.proofs.shape.ElementTypes.{has_type}
use Rattle.op_build.proofs.shape.SlotBits.{has_slot_bits}
use Rattle.op_opt.specs.Normal.{normal}
use Rattle.kernel_planes.specs.Block.{position_at}
use Rattle.kernel_step.specs.Forms.{op_at, last_op}
use Rattle.kernel_planes.specs.Planes.{planes_of, elem_of}
use Rattle.kernel_planes.specs.Planes.{AreRows, palette_length, row_frame, row_list}
use Rattle.kernel_planes.specs.Planes.{row_length as op_row}
use Rattle.row_plan.specs.Planes.{AreRowsOf, palette_bytes}
use Rattle.row_plan.proofs.ConvertedRows.{all_converted, is_normal, normal_writes, row_converted}

-- ---- the bytes of a row

-- the bytes of a pixel in a plane are whole elements
elements_fill : (desc : Desc) (p : ℕ) → IsValid desc → p < 4
    → slice_index (element_counts desc) p * bytes (element_type desc) ≡ plane_step desc p
elements_fill desc p valid below =
    let slots = has_slot_bits desc valid in
    let size = slots.0.size in
    let count = count_at desc size p slots.1.bytes below in
    let whole = whole_steps desc size (laid_out desc valid) slots.1.bytes slots.1.step p in
    ap (λ n. n * bytes (element_type desc)) count
    ∙ ap (λ t. plane_step desc p / size * t) ((has_type desc valid).bytes ∙ slots.1.bytes)
    ∙ whole

grouped : (width count size step : ℕ) → count * size ≡ step → width * count * size ≡ width * step
grouped width count size step is = let same : width * count * size ≡ width * (count * size) = omega arith in same ∙ ap (λ t. width * t) is

-- of a palette format a pixel has one byte, in the first plane
index_fills : (desc : Desc) (p : ℕ) → IsValid desc → desc.palette ≡ true → p < 4
    → slice_index (1 ∷ 0 ∷ 0 ∷ 0 ∷ []) p * bytes U8 ≡ plane_step desc p
unfolding frame_length
index_fills desc p valid has below = by p below
  where
    first : plane_step desc 0 ≡ 1
    first =
        let laid = laid_out desc valid in
        let is = palette.is_byte_format desc valid has in
        ap (plane_step desc) (sym is.plane) ∙ laid.step 0 laid.some ∙ is.step

    all : plane_step desc 0 + plane_step desc 1 + plane_step desc 2 + plane_step desc 3 ≡ 1
    all = omega (arith, palette_frame desc 1 1 valid has, cond-true {A = ℕ} desc.palette 1024 0 has)

    by : (p : ℕ) → p < 4 → slice_index (1 ∷ 0 ∷ 0 ∷ 0 ∷ []) p * bytes U8 ≡ plane_step desc p
    by zero below = omega (arith, first)
    by (suc zero) below = omega (arith, first, all)
    by (suc (suc zero)) below = omega (arith, first, all)
    by (suc (suc (suc zero))) below = omega (arith, first, all)
    by (suc (suc (suc (suc p)))) below = absurd (omega (arith, below))

-- ---- the first operation

first_of : {rest : List Op} (op : Op) (first second third : List Op) → first ≡ op ∷ rest
    → slice_index_or (first ++ second ++ third) 0 SwapBytes ≡ op
first_of op first second third is = ap (λ ops. slice_index_or (ops ++ second ++ third) 0 SwapBytes) is

reads_first : (pair : Pair) (ops : List Op) → IsValidPair pair → ops ≡ normal (recipe pair) → op_at ops 0 ≡ op_at (recipe pair) 0
reads_first pair ops valid is = ap (λ list. op_at list 0) is ∙ (is_normal pair valid).ends.reads SwapBytes

reads_elements : (pair : Pair) → pair.from.desc.palette ≡ false
    → op_at (recipe pair) 0 ≡ Read (element_type pair.from.desc) (element_counts pair.from.desc) false
unfolding recipe
reads_elements pair none =
    let desc = pair.from.desc in
    first_of (Read (element_type desc) (element_counts desc) false) (decode desc) (convert pair) (encode pair.to.desc)
    (plain.decode_is desc (split desc) none refl)

reads_indices : (pair : Pair) → pair.from.desc.palette ≡ true → op_at (recipe pair) 0 ≡ Read U8 (1 ∷ 0 ∷ 0 ∷ 0 ∷ []) true
unfolding recipe
reads_indices pair has =
    first_of (Read U8 (1 ∷ 0 ∷ 0 ∷ 0 ∷ []) true) (decode pair.from.desc) (convert pair) (encode pair.to.desc)
    (palette.decode_is pair.from.desc has)

-- ---- the rows that the list reads and writes

-- the rows of a format are those of an operation
pub rows_fit : (desc : Desc) (op other : Op) (width : ℕ) (rows : List (List ℕ)) → other ≡ op
    → ((p : ℕ) → p < 4 → slice_index (planes_of op) p * bytes (elem_of op) ≡ plane_step desc p)
    → AreRowsOf desc width rows → AreRows other width rows
rows_fit desc op other width rows is fills are p below =
    are p below
    ∙ sym (grouped width (slice_index (planes_of op) p) (bytes (elem_of op)) (plane_step desc p) (fills p below))
    ∙ ap (λ o. op_row o width p) (sym is)

pub source_rows : (pair : Pair) (ops : List Op) (width : ℕ) (rows : List (List ℕ)) → IsValidPair pair → ops ≡ normal (recipe pair)
    → AreRowsOf pair.from.desc width rows → AreRows (op_at ops 0) width rows
source_rows pair ops width rows valid is are =
    let desc = pair.from.desc in
    let first = reads_first pair ops valid is in
    ⊎_elim
    (λ (has : desc.palette ≡ true).
    rows_fit desc (Read U8 (1 ∷ 0 ∷ 0 ∷ 0 ∷ []) true) (op_at ops 0) width rows (first ∙ reads_indices pair has)
    (λ p below. index_fills desc p valid.from has below) are)
    (λ (none : desc.palette ≡ false).
    rows_fit desc (Read (element_type desc) (element_counts desc) false) (op_at ops 0) width rows (first ∙ reads_elements pair none)
    (λ p below. elements_fill desc p valid.from below) are)
    (cases_Bool desc.palette)

pub source_palette : (pair : Pair) (ops : List Op) → IsValidPair pair → ops ≡ normal (recipe pair)
    → palette_length (op_at ops 0) ≡ palette_bytes pair.from.desc
source_palette pair ops valid is =
    let desc = pair.from.desc in
    let first = reads_first pair ops valid is in
    ⊎_elim
    (λ (has : desc.palette ≡ true).
    ap (λ o. palette_length o) (first ∙ reads_indices pair has) ∙ sym (cond-true {A = ℕ} desc.palette 1024 0 has))
    (λ (none : desc.palette ≡ false).
    ap (λ o. palette_length o) (first ∙ reads_elements pair none) ∙ sym (cond-false {A = ℕ} desc.palette 1024 0 none))
    (cases_Bool desc.palette)

pub target_fits : (pair : Pair) (ops : List Op) (width : ℕ) (rows : List (List ℕ)) → IsValidPair pair → ops ≡ normal (recipe pair)
    → AreRowsOf pair.to.desc width rows → AreRows (last_op ops) width rows
target_fits pair ops width rows valid is are =
    let desc = pair.to.desc in
    rows_fit desc (Write (element_type desc) (element_counts desc)) (last_op ops) width rows (normal_writes pair ops valid is)
    (λ p below. elements_fill desc p valid.to below) are

-- ---- the frame of one row

frame_total : (a b c d behind : List ℕ)
    → length (row_frame (row_list a b c d) behind) ≡ length a + length b + length c + length d + length behind
frame_total a b c d behind =
    omega (
      arith,
      length-append a (row_frame (b ∷ c ∷ d ∷ []) behind),
      length-append b (row_frame (c ∷ d ∷ []) behind),
      length-append c (row_frame (d ∷ []) behind),
      length-append d behind,
    )

-- it has the bytes of a raw frame
pub row_frame_size : (desc : Desc) (width : ℕ) (a b c d behind : List ℕ) → AreRowsOf desc width (row_list a b c d)
    → length behind ≡ palette_bytes desc → length (row_frame (row_list a b c d) behind) ≡ frame_length desc width 1
unfolding frame_length
row_frame_size desc width a b c d behind are rest =
    omega (
      arith,
      frame_total a b c d behind,
      are 0 (omega arith),
      are 1 (omega arith),
      are 2 (omega arith),
      are 3 (omega arith),
      rest,
    )

pub row_frame_bytes : (a b c d behind : List ℕ) → All (λ byte. byte < 256) a → All (λ byte. byte < 256) b → All (λ byte. byte < 256) c
    → All (λ byte. byte < 256) d → All (λ byte. byte < 256) behind → All (λ byte. byte < 256) (row_frame (row_list a b c d) behind)
row_frame_bytes a b c d behind first second third fourth rest =
    All-append (λ byte. byte < 256) a (row_frame (b ∷ c ∷ d ∷ []) behind) first
    (All-append (λ byte. byte < 256) b (row_frame (c ∷ d ∷ []) behind) second
    (All-append (λ byte. byte < 256) c (row_frame (d ∷ []) behind) third (All-append (λ byte. byte < 256) d behind fourth rest)))

-- where each pixel of a frame of one row is converted, it is the target rows
pub row_is_target : (pair : Pair) (ops : List Op) (width y : ℕ) (input output : List ℕ) → IsValidPair pair → pair.to.desc.palette ≡ false
    → ops ≡ normal (recipe pair) → All (λ byte. byte < 256) input → All (λ byte. byte < 256) output
    → length input ≡ frame_length pair.from.desc width 1 → length output ≡ frame_length pair.to.desc width 1
    → ((x v : ℕ) → x < width → v < sum (planes_of (last_op ops))
    → element_of (elem_of (last_op ops)) (planes_of (last_op ops)) output (position_at width 1 0 y x) v
    ≡ slice_index (run ops input width 1 x 0 y) v)
    → output ≡ target_rows pair width 1 y input
row_is_target pair ops width y input output valid plain is small bytes size long stored =
    let none : y + 0 ≡ y = omega arith in
    let one : (0 + 1) * width ≡ width * 1 = omega arith in
    all_converted pair width 1 y input output valid plain bytes long
    (subst (λ n. HaveSameElements (element_type pair.to.desc) (element_counts pair.to.desc) width 1 n output
    (target_rows pair width 1 y input)) one
    (row_converted pair ops input output output width 1 y 0 valid plain is small size (omega arith)
    (subst (λ t. (x v : ℕ) → x < width → v < sum (planes_of (last_op ops))
    → element_of (elem_of (last_op ops)) (planes_of (last_op ops)) output (position_at width 1 0 t x) v
    ≡ slice_index (run ops input width 1 x 0 t) v) (sym none) stored)
    (λ other there v. absurd (there.differs (omega (arith, there.row, there.rows))))
    (λ x row y' i across down below. absurd (omega (arith, below)))))
