-- A slice of rows as a job: all that a worker leaves as it was given, as one list of whole numbers, and when it is done.
use Rattle.std.specs.Prelude.{◌≡◌, ℕ, ◌+◌, ◌*◌, Bool, true, false, ℤ, pos, negsuc, List, [], ◌∷◌}
use Rattle.pix_desc.specs.declared.desc.Comp.{Comp}
use Rattle.pix_desc.specs.declared.desc.Desc.{Desc}
use Rattle.colour_matrix.specs.declared.class.Range.{Range}
use Rattle.colour_matrix.specs.declared.class.Range.TheVariants.{Full, Limited}
use Rattle.pix_meaning.specs.declared.pair.Side.{Side}
use Rattle.pix_meaning.specs.declared.pair.Pair.{Pair}
use Rattle.pix_meaning.specs.Target.{target_rows}
use Rattle.row_plan.specs.declared.job.SliceJob.{SliceJob}

-- ---- the numbers of a pair: its fields in their order, in front of other numbers

abbrev pub flag_number : Bool → ℕ
flag_number false = 0
flag_number true = 1

abbrev pub range_number : Range → ℕ
range_number Full = 0
range_number Limited = 1

-- a number that has a sign: 0, -1, 1, -2 and 2 are 0, 1, 2, 3 and 4
abbrev pub signed_number : ℤ → ℕ
signed_number (pos n) = 2 * n
signed_number (negsuc n) = 2 * n + 1

abbrev pub component_before : Comp → List ℕ → List ℕ
component_before c rest = c.plane ∷ c.step ∷ signed_number c.offset ∷ c.shift ∷ c.depth ∷ rest

-- the four entries of a descriptor; of a list of other length nothing is told
abbrev pub components_before : List Comp → List ℕ → List ℕ
components_before (c0 ∷ c1 ∷ c2 ∷ c3 ∷ []) rest = component_before c0 (component_before c1 (component_before c2 (component_before c3 rest)))
components_before _ rest = []

abbrev pub desc_before : Desc → List ℕ → List ℕ
desc_before desc rest =
    desc.count
    ∷ components_before desc.comps
    (flag_number desc.be ∷ flag_number desc.rgb ∷ flag_number desc.alpha ∷ flag_number desc.palette ∷ rest)

abbrev pub side_before : Side → List ℕ → List ℕ
side_before side rest = desc_before side.desc (side.matrix.q ∷ side.matrix.r ∷ side.matrix.b ∷ range_number side.range ∷ rest)

unfoldable pub pair_before : Pair → List ℕ → List ℕ
pair_before pair rest = side_before pair.from (side_before pair.to (pair.dither ∷ rest))

-- these numbers begin with those of the pair
abbrev pub BeginsWith : Pair → List ℕ → Type 0
BeginsWith pair numbers = (rest : List ℕ) × (numbers ≡ pair_before pair rest)

-- ---- jobs

-- what a slice is given with: its pair, its width, its first row, its number of rows, and the bytes of its input
abbrev pub slice_origin : Pair → ℕ → ℕ → ℕ → List ℕ → List ℕ
slice_origin pair width first rows bytes = pair_before pair (width ∷ first ∷ rows ∷ bytes)

abbrev pub job_number : SliceJob → ℕ
job_number job = job.number

abbrev pub job_origin : SliceJob → List ℕ
job_origin job = slice_origin job.pair job.width job.first job.rows job.input.items

-- its output is the target rows of its input
abbrev pub IsConvertedJob : SliceJob → Type 0
IsConvertedJob job = job.output.items ≡ target_rows job.pair job.width job.rows job.first job.input.items
