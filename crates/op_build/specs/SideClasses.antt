-- The classes of sides: what the recipe takes of a side, for the formats of the table and the five matrices.
use Rattle.std.specs.Prelude.{◌≡◌, ◌⊎◌, ℕ, Bool, true, false, if◌then◌else◌, List, [], ◌∷◌, ◌++◌}
use Rattle.colour_matrix.specs.declared.class.Range.{Range}
use Rattle.colour_matrix.specs.declared.class.Range.TheVariants.{Full, Limited}
use Rattle.colour_matrix.specs.declared.matrix.Matrix.{Matrix}
use Rattle.colour_matrix.specs.Matrix.{bt601, bt709, bt2020, smpte240m, fcc}
use Rattle.pix_meaning.specs.declared.pair.Side.{Side}
use Rattle.pix_meaning.specs.Pairs.{is_rgb}
use Rattle.op_list.specs.Values.{four}
use Rattle.pix_meaning.specs.Channels.{channel_depth}

-- whether the channels are red, green and blue, the depths of the four channels, the range and the matrix
pub record SideClass : Type 0 where
  pub rgb : Bool
  pub depths : List ℕ
  pub range : Range
  pub matrix : Matrix

-- range and matrix are of no account for red, green and blue
abbrev pub side_class_of : Bool → List ℕ → Range → Matrix → SideClass
side_class_of rgb depths range matrix =
    record { rgb = rgb; depths = depths; range = if rgb then Full else range; matrix = if rgb then bt601 else matrix }

abbrev pub side_class : Side → SideClass
side_class side = side_class_of (is_rgb side.desc) (four (λ c. channel_depth side.desc c)) side.range side.matrix

abbrev pub for_each : {A B : Type 0} → List A → (A → List B) → List B
for_each [] f = []
for_each (x ∷ xs) f = f x ++ for_each xs f

-- the matrices that have names
abbrev pub named_matrices : List Matrix
named_matrices = bt601 ∷ bt709 ∷ bt2020 ∷ smpte240m ∷ fcc ∷ []

-- the depths of luma and chroma: all channels have the same
abbrev pub yuv_depths : List ℕ
yuv_depths = 8 ∷ 9 ∷ 10 ∷ 12 ∷ 14 ∷ 16 ∷ []

-- the depths of red, green, blue and alpha
abbrev pub rgb_depths : List (List ℕ)
rgb_depths =
    four (λ c. 8) ∷ four (λ c. 9) ∷ four (λ c. 10) ∷ four (λ c. 12) ∷ four (λ c. 14) ∷ four (λ c. 16) ∷ four (λ c. 5) ∷ four (λ c. 4)
    ∷ (5 ∷ 6 ∷ 5 ∷ 5 ∷ []) ∷ (3 ∷ 3 ∷ 2 ∷ 3 ∷ []) ∷ (1 ∷ 2 ∷ 1 ∷ 1 ∷ []) ∷ []

abbrev pub yuv_classes : List SideClass
yuv_classes =
    for_each yuv_depths (λ depth. for_each (Full ∷ Limited ∷ []) (λ range. for_each named_matrices (λ matrix.
    record { rgb = false; depths = four (λ c. depth); range = range; matrix = matrix } ∷ [])))

abbrev pub rgb_classes : List SideClass
rgb_classes = for_each rgb_depths (λ depths. record { rgb = true; depths = depths; range = Full; matrix = bt601 } ∷ [])

unfoldable pub side_classes : List SideClass
side_classes = rgb_classes ++ yuv_classes

abbrev pub IsOneOf : {A : Type 0} → A → List A → Type 0
IsOneOf x [] = ⊥
IsOneOf x (y ∷ ys) = (x ≡ y) ⊎ IsOneOf x ys
