-- The layout of each format's pixels.
use Prim.Native.String.{String}
use Rattle.std.specs.Prelude.{ℕ, List, [], ◌∷◌, codes, bytes_eq, if◌then◌else◌}
use Rattle.std.specs.List.{list_any}
use Rattle.pix_desc.specs.declared.desc.Layout.{Layout}
use Rattle.pix_desc.specs.declared.desc.Layout.TheVariants.{Elements, Word}

-- the formats whose pixel is one number that is cut into fields
unfoldable pub word_formats : List String
word_formats =
    "rgb565le" ∷ "rgb565be" ∷ "rgb555le" ∷ "rgb555be" ∷ "rgb444le" ∷ "rgb444be"
    ∷ "bgr565le" ∷ "bgr565be" ∷ "bgr555le" ∷ "bgr555be" ∷ "bgr444le" ∷ "bgr444be"
    ∷ "rgb8" ∷ "bgr8" ∷ "rgb4_byte" ∷ "bgr4_byte"
    ∷ "x2rgb10le" ∷ "x2rgb10be" ∷ "x2bgr10le" ∷ "x2bgr10be" ∷ []

-- the layout of the format of a name: Word for the listed ones, and Elements for all others
unfoldable pub layout_of : List ℕ → Layout
layout_of name = if list_any (λ word. bytes_eq (codes word) name) word_formats then Word else Elements
