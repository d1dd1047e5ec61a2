-- What the kernel of a pair's normal list does with the rows of a slice.
use Rattle.std.proofs.Common.{◌≡◌, ℕ, ◌+◌, ◌-◌, ◌*◌, ◌<◌, false, suc, List, [], ◌∷◌, ◌++◌, length, slice_index, slice_index_or}
use Rattle.std.proofs.Common.{refl, sym, ◌∙◌, ap, subst, arith}
use Rattle.std.specs.Prelude.{sum, All}
use Rattle.std.proofs.lemmas.List.Elements.{All-from_get_or}
use Rattle.pix_desc.specs.Frame.{frame_length, IsFrameOf}
use Rattle.pix_desc.specs.Shape.{element_counts}
use Rattle.pix_meaning.specs.declared.pair.Pair.{Pair}
use Rattle.pix_meaning.specs.Pairs.{IsValidPair}
use Rattle.pix_meaning.specs.Target.{target_rows, result_of}
use Rattle.pix_meaning.proofs.TargetLaws.{has_one_target_frame}
use Rattle.op_list.specs.declared.op.Op.{Op}
use Rattle.op_list.specs.declared.op.Op.TheVariants.{Write, SwapBytes}
use Rattle.op_list.specs.declared.position.PixelPosition.{PixelPosition}
use Rattle.op_list.specs.Values.{four}
use Rattle.op_list.specs.Pixel.{element_of}
use Rattle.op_list.specs.Pixel.{frame_length as op_length}
use Rattle.op_list.specs.Store.{HaveSameElements}
use Rattle.op_list.specs.Run.{run, read_length}
use Rattle.op_list.proofs.Stored.{elements_make_frame}
use Rattle.op_build.specs.ElementType.{element_type}
use Rattle.op_build.specs.Recipe.{recipe}
use Rattle.op_build.proofs.recipe.Means.{means_target}
use Rattle.op_build.proofs.recipe.Frames.{fills_frames, reads_frames, is_whole, before_write, last_write, recipe_ends}
use Rattle.op_build.proofs.recipe.Typed.{recipe_is_list}
use Rattle.op_opt.specs.Laws.{IsNormalOf}
use Rattle.op_opt.specs.Normal.{normal}
use Rattle.op_opt.proofs.Normals.{normal_reached}
use Rattle.kernel_planes.specs.Block.{IsOtherRow, position_at}
use Rattle.kernel_step.specs.Forms.{last_op}
use Rattle.kernel_planes.specs.Planes.{planes_of, elem_of}
use Rattle.row_plan.proofs.RowSteps.{row_more}

-- a slice of bytes
pub are_bytes : (frame : List ℕ) → ((k : ℕ) → slice_index frame k < 256) → All (λ byte. byte < 256) frame
are_bytes frame small = All-from_get_or (λ byte. byte < 256) frame 0 (λ k within. small k)

-- ---- the normal list
pub is_normal : (pair : Pair) → IsValidPair pair → IsNormalOf (recipe pair) (normal (recipe pair))
is_normal pair valid = normal_reached (recipe pair) (recipe_is_list pair valid) (is_whole pair)

length_of_first : (ops : List Op) (width rows : ℕ) → read_length ops width rows ≡ op_length (slice_index_or ops 0 SwapBytes) width rows
unfolding op_length
length_of_first [] width rows = refl
length_of_first (op ∷ ops) width rows = refl

-- it reads frames of the source
pub normal_reads : (pair : Pair) (ops : List Op) (width rows : ℕ) → IsValidPair pair → ops ≡ normal (recipe pair)
    → read_length ops width rows ≡ frame_length pair.from.desc width rows
normal_reads pair ops width rows valid is =
    ap (λ list. read_length list width rows) is
    ∙ length_of_first (normal (recipe pair)) width rows
    ∙ ap (λ op. op_length op width rows) ((is_normal pair valid).ends.reads SwapBytes)
    ∙ sym (length_of_first (recipe pair) width rows)
    ∙ reads_frames pair valid width rows

last_of : (ops : List Op) (op other : Op) → slice_index_or (ops ++ op ∷ []) (length (ops ++ op ∷ []) - 1) other ≡ op
last_of [] op other = refl
last_of (first ∷ []) op other = refl
last_of (first ∷ next ∷ ops) op other =
    let place : length (first ∷ next ∷ ops ++ op ∷ []) - 1 ≡ suc (length (next ∷ ops ++ op ∷ []) - 1) = omega arith in
    rw place (last_of (next ∷ ops) op other)

-- and writes elements of the target
pub normal_writes : (pair : Pair) (ops : List Op) → IsValidPair pair → ops ≡ normal (recipe pair)
    → last_op ops ≡ Write (element_type pair.to.desc) (element_counts pair.to.desc)
normal_writes pair ops valid is =
    ap (λ list. last_op list) is
    ∙ (is_normal pair valid).ends.writes SwapBytes
    ∙ ap (λ list. slice_index_or list (length list - 1) SwapBytes) (sym (recipe_ends pair))
    ∙ last_of (before_write pair) (last_write pair) SwapBytes

-- the frames that it writes
pub written_length : (pair : Pair) (ops : List Op) (width rows : ℕ) → IsValidPair pair → pair.to.desc.palette ≡ false
    → ops ≡ normal (recipe pair)
    → op_length (last_op ops) width rows ≡ frame_length pair.to.desc width rows
unfolding op_length
written_length pair ops width rows valid plain is =
    ap (λ op. op_length op width rows) (normal_writes pair ops valid is)
    ∙ sym ((fills_frames pair.to.desc valid.to plain).size width rows)

-- its numbers at a pixel are the elements of the target
runs_to_target : (pair : Pair) (ops input : List _) (width rows first row x : ℕ) → IsValidPair pair → pair.to.desc.palette ≡ false
    → ops ≡ normal (recipe pair) → All (λ byte. byte < 256) input
    → length input ≡ frame_length pair.from.desc width rows → x < width → row < rows
    → run ops input width rows x row (first + row)
    ≡ four (λ i. element_of (element_type pair.to.desc) (element_counts pair.to.desc) (target_rows pair width rows first input)
    (position_at width rows row (first + row) x) i)
unfolding element_of
runs_to_target pair ops input width rows first row x valid plain is small size across down =
    ap (λ list. run list input width rows x row (first + row)) is
    ∙ (is_normal pair valid).same input width rows x row (first + row) small
    ∙ means_target pair valid plain input width rows first x row small size across down

-- ---- a row more
pub row_converted : (pair : Pair) (ops : List Op) (input old new : List ℕ) (width rows first row : ℕ) → IsValidPair pair
    → pair.to.desc.palette ≡ false
    → ops ≡ normal (recipe pair) → All (λ byte. byte < 256) input
    → length input ≡ frame_length pair.from.desc width rows → row < rows
    → ((x v : ℕ) → x < width → v < sum (planes_of (last_op ops))
    → element_of (elem_of (last_op ops)) (planes_of (last_op ops)) new (position_at width rows row (first + row) x) v
    ≡ slice_index (run ops input width rows x row (first + row)) v)
    → ((other : PixelPosition) → IsOtherRow width rows row other → (v : ℕ)
    → element_of (elem_of (last_op ops)) (planes_of (last_op ops)) new other v
    ≡ element_of (elem_of (last_op ops)) (planes_of (last_op ops)) old other v)
    → HaveSameElements (element_type pair.to.desc) (element_counts pair.to.desc) width rows (row * width) old
    (target_rows pair width rows first input)
    → HaveSameElements (element_type pair.to.desc) (element_counts pair.to.desc) width rows ((row + 1) * width) new
    (target_rows pair width rows first input)
row_converted pair ops input old new width rows first row valid plain is small size down stored others before =
    let writes = normal_writes pair ops valid is in
    row_more (element_type pair.to.desc) (element_counts pair.to.desc) width rows row (first + row)
    (λ x. run ops input width rows x row (first + row)) old new (target_rows pair width rows first input)
    (record {
      stored = subst (λ (op : Op). (x v : ℕ) → x < width → v < sum (planes_of op)
          → element_of (elem_of op) (planes_of op) new (position_at width rows row (first + row) x) v
          ≡ slice_index (run ops input width rows x row (first + row)) v) writes stored;
      others = subst (λ (op : Op). (other : PixelPosition) → IsOtherRow width rows row other → (v : ℕ)
          → element_of (elem_of op) (planes_of op) new other v ≡ element_of (elem_of op) (planes_of op) old other v) writes others;
      numbers_are = λ x across. runs_to_target pair ops input width rows first row x valid plain is small size across down;
      few = (fills_frames pair.to.desc valid.to plain).few;
    })
    before

-- a slice whose rows are all converted is the target rows
pub all_converted : (pair : Pair) (width rows first : ℕ) (input output : List ℕ) → IsValidPair pair → pair.to.desc.palette ≡ false
    → All (λ byte. byte < 256) output → length output ≡ frame_length pair.to.desc width rows
    → HaveSameElements (element_type pair.to.desc) (element_counts pair.to.desc) width rows (width * rows) output
    (target_rows pair width rows first input)
    → output ≡ target_rows pair width rows first input
all_converted pair width rows first input output valid plain small size converted =
    let made : IsFrameOf pair.to.desc width rows (result_of pair width rows first input) (target_rows pair width rows first input) =
    (has_one_target_frame pair width rows first input valid plain).made in
    let fills = fills_frames pair.to.desc valid.to plain in
    let long = fills.size width rows in
    elements_make_frame (element_type pair.to.desc) (element_counts pair.to.desc) width rows output
    (target_rows pair width rows first input)
    fills.whole (size ∙ long) (made.size ∙ long) small made.bytes converted
