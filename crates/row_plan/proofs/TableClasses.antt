-- Each side of a row of the table is of a class of the bounds.
use Rattle.std.proofs.Common.{◌≡◌, ◌<◌, ◌≤◌, nat_le, ℕ, Bool, true, false, inl, inr, List, [], ◌∷◌, map, refl, sym, ap, subst}
use Rattle.std.specs.List.{list_any}
use Rattle.std.proofs.lemmas.Bool.{leb-true}
use Rattle.std.specs.Str.{bytes_eq}
use Rattle.std.proofs.lemmas.Slice.Eq.{bytes_eq-Decides}
use Rattle.colour_matrix.specs.declared.class.Range.{Range}
use Rattle.colour_matrix.specs.declared.class.Range.TheVariants.{Full, Limited}
use Rattle.colour_matrix.specs.declared.matrix.Matrix.{Matrix}
use Rattle.colour_matrix.specs.Matrix.{bt601}
use Rattle.pix_desc.specs.declared.desc.Desc.{Desc}
use Rattle.pix_desc.specs.Shape.{element_bytes}
use Rattle.pix_meaning.specs.Pairs.{is_rgb}
use Rattle.desc_table.specs.Format.{formats, format_count, desc_of}
use Rattle.desc_table.proofs.Rows.{agree_at_row}
use Rattle.op_list.specs.Types.{bits}
use Rattle.op_list.specs.Values.{four}
use Rattle.pix_meaning.specs.Channels.{channel_depth}
use Rattle.op_build.specs.ElementType.{element_type}
use Rattle.op_build.specs.Codes.{decoded_type}
use Rattle.op_build.specs.SideClasses.{SideClass, side_class_of, side_class, for_each, named_matrices, rgb_depths, yuv_depths, rgb_classes}
use Rattle.op_build.specs.SideClasses.{yuv_classes, side_classes, IsOneOf}
use Rattle.row_plan.specs.Evaluated.{IsNamed, side_at}
use Rattle.row_plan.proofs.Members.{in_first, in_second, in_each, found_one}
use Rattle.row_plan.proofs.NamedMatrices.{listed_matrix}
use Rattle.row_plan.proofs.PeakTests.{bits_of}

-- ---- the kinds of formats: whether they are of red, green and blue, and the depths of their channels

abbrev has_kind : Bool → List ℕ → Bool
has_kind true depths = list_any (λ listed. bytes_eq depths listed) rgb_depths
has_kind false depths = list_any (λ depth. bytes_eq depths (four (λ c. depth))) yuv_depths

abbrev has_kind_of : Desc → Bool
has_kind_of desc = has_kind (is_rgb desc) (four (λ c. channel_depth desc c))

kinds_computed : map (λ format. has_kind_of format.desc) formats ≡ map (λ format. true) formats
unfolding formats
kinds_computed = refl

kind_at : (id : ℕ) → id < format_count → has_kind_of (desc_of id) ≡ true
kind_at = agree_at_row (λ format. has_kind_of format.desc) (λ format. true) kinds_computed

-- ---- each kind with each range and each named matrix is a class

abbrev rgb_class : List ℕ → SideClass
rgb_class depths = record { rgb = true; depths = depths; range = Full; matrix = bt601 }

rgb_there : (depths : List ℕ) → has_kind true depths ≡ true → IsOneOf (rgb_class depths) rgb_classes
rgb_there depths has =
    found_one (λ listed. bytes_eq depths listed) rgb_depths has (λ listed p same.
    in_each (λ ds. rgb_class ds ∷ []) listed rgb_depths (rgb_class depths) p (inl (ap rgb_class ((bytes_eq-Decides depths listed).0 same))))

abbrev yuv_class : Range → Matrix → List ℕ → SideClass
yuv_class range matrix depths = record { rgb = false; depths = depths; range = range; matrix = matrix }

-- the classes of a depth and a range, and those of a depth
abbrev of_range : ℕ → Range → List SideClass
of_range depth range = for_each named_matrices (λ matrix. yuv_class range matrix (four (λ c. depth)) ∷ [])

abbrev of_depth : ℕ → List SideClass
of_depth depth = for_each (Full ∷ Limited ∷ []) (of_range depth)

range_there : (range : Range) → IsOneOf range (Full ∷ Limited ∷ [])
range_there Full = inl refl
range_there Limited = inr (inl refl)

depth_there : (depth : ℕ) (range : Range) (matrix : Matrix) → IsOneOf depth yuv_depths → IsOneOf matrix named_matrices
    → IsOneOf (yuv_class range matrix (four (λ c. depth))) yuv_classes
depth_there depth range matrix listed named =
    let class = yuv_class range matrix (four (λ c. depth)) in
    in_each of_depth depth yuv_depths class listed (in_each (of_range depth) range (Full ∷ Limited ∷ []) class (range_there range)
    (in_each (λ m. yuv_class range m (four (λ c. depth)) ∷ []) matrix named_matrices class named (inl refl)))

yuv_there : (depths : List ℕ) (range : Range) (matrix : Matrix) → has_kind false depths ≡ true → IsOneOf matrix named_matrices
    → IsOneOf (yuv_class range matrix depths) yuv_classes
yuv_there depths range matrix has named =
    found_one (λ depth. bytes_eq depths (four (λ c. depth))) yuv_depths has (λ depth listed same.
    subst (λ (ds : List ℕ). IsOneOf (yuv_class range matrix ds) yuv_classes) (sym ((bytes_eq-Decides depths (four (λ c. depth))).0 same))
    (depth_there depth range matrix listed named))

class_there : (rgb : Bool) (depths : List ℕ) (range : Range) (matrix : Matrix) → has_kind rgb depths ≡ true → IsOneOf matrix named_matrices
    → IsOneOf (side_class_of rgb depths range matrix) side_classes
unfolding side_classes
class_there true depths range matrix has named = in_first _ rgb_classes yuv_classes (rgb_there depths has)
class_there false depths range matrix has named = in_second _ rgb_classes yuv_classes (yuv_there depths range matrix has named)

pub side_at_there : (id : ℕ) (matrix : Matrix) (range : Range) → id < format_count → IsNamed matrix
    → IsOneOf (side_class (side_at id matrix range)) side_classes
side_at_there id matrix range below named =
    class_there (is_rgb (desc_of id)) (four (λ c. channel_depth (desc_of id) c)) range matrix (kind_at id below)
    (listed_matrix matrix named)

-- ---- only red, green and blue are read from words of 32 bits
bits_computed : map (λ format. nat_le (bits (decoded_type format.desc)) (bits_of (is_rgb format.desc))) formats
    ≡ map (λ format. true) formats
unfolding formats element_type element_bytes
bits_computed = refl

pub few_bits_at : (id : ℕ) → id < format_count → bits (decoded_type (desc_of id)) ≤ bits_of (is_rgb (desc_of id))
few_bits_at id below =
    leb-true _ _ (agree_at_row (λ format. nat_le (bits (decoded_type format.desc)) (bits_of (is_rgb format.desc))) (λ format. true)
    bits_computed id below)
