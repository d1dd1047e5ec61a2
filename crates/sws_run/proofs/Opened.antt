-- What is made for a stream, once its header is known.
use Rattle.std.proofs.Common.{◌≡◌, ℕ, ◌*◌, ◌<◌, refl, arith}
use Rattle.std.proofs.Math.Nat.{mul-pos}
use Rattle.std.specs.Option.{option_or}
use Rattle.std.specs.declared.option.Option.{Option}
use Rattle.pix_desc.specs.declared.desc.Desc.{Desc}
use Rattle.pix_desc.specs.Component.{component_of}
use Rattle.pix_desc.specs.Layouts.{IsValid}
use Rattle.pix_desc.specs.Frame.{plane_step, frame_length}
use Rattle.pix_desc.proofs.Valid.{laid_out}
use Rattle.pix_desc.proofs.PlaneSteps.{bytes_read-positive}
use Rattle.pix_io.proofs.Frames.{row_start-inside}
use Rattle.colour_matrix.specs.declared.class.Range.{Range}
use Rattle.colour_matrix.specs.declared.matrix.Matrix.{Matrix}
use Rattle.desc_table.specs.Format.{desc_of, format_count}
use Rattle.desc_table.proofs.Rows.{valid_at}
use Rattle.pix_meaning.specs.declared.pair.Pair.{Pair}
use Rattle.row_plan.specs.Evaluated.{IsPlannable, IsTableSide}
use Rattle.row_plan.proofs.Evaluated.{table_pairs_have_plans}
use Rattle.y4m_io.specs.declared.header.Header.{Header}
use Rattle.sws_run.specs.declared.request.Conversion.{Conversion}
use Rattle.sws_run.specs.declared.converter.Converter.{Converter}
use Rattle.sws_words.specs.Task.{HasName}
use Rattle.sws_run.specs.Request.{IsSoundConversion, IsTablePair}
use Rattle.sws_run.specs.Cut.{source_length}
use Rattle.sws_run.specs.Sides.{pair_of, side_with}
use Rattle.sws_run.specs.Frames.{IsConverterOf, IsSoundOpening, size_by}

-- a raw frame of some pixels has some bytes
frame-some : (desc : Desc) (width height : ℕ) → IsValid desc → 0 < width → 0 < height → 0 < frame_length desc width height
frame-some desc width height valid wide high =
    let laid = laid_out desc valid in
    let c = component_of desc 0 in
    let reads = bytes_read-positive c in
    let inside = laid.inside 0 laid.some in
    let step : 0 < plane_step desc c.plane = omega (arith, laid.step 0 laid.some, inside, reads) in
    let row : 0 < width * plane_step desc c.plane = mul-pos wide step in
    omega (arith, row, row_start-inside desc width height c.plane 0 (laid.plane 0 laid.some) high)

pub opening_some : (header : Header) → IsSoundOpening header → 0 < source_length header
unfolding source_length
opening_some header sound =
    frame-some (desc_of header.format) header.width header.height (valid_at header.format sound.format)
    (omega (arith, sound.frame.width_least)) (omega (arith, sound.frame.height_least))

-- a format of the table, with a matrix that has a name
pub table_side : (id : ℕ) (matrix : Matrix) (range : Option Range) → id < format_count → HasName matrix
    → IsTableSide (side_with id matrix range)
table_side id matrix range known named =
    record { id = id; known = known; desc = refl; matrix = record { name = named.0; found = named.1 } }

pub pair_is_of_table : (conversion : Conversion) (header : Header) → IsSoundConversion conversion → IsSoundOpening header
    → IsTablePair (pair_of conversion header)
unfolding pair_of
pair_is_of_table conversion header sound opening = record {
  from = table_side header.format conversion.source_matrix (option_or conversion.source_range header.range) opening.format
      sound.source_matrix;
  to = table_side conversion.target conversion.target_matrix conversion.target_range sound.target sound.target_matrix;
  plain = sound.plain;
  dither = sound.dither;
}

pub table_pair_is_plannable : (pair : Pair) → IsTablePair pair → IsPlannable pair
table_pair_is_plannable pair sound = table_pairs_have_plans pair sound.from sound.to sound.dither

pub source_length_is : (conversion : Conversion) (header : Header) (converter : Converter) → IsConverterOf conversion header converter
    → source_length header ≡ size_by converter
unfolding source_length pair_of
source_length_is conversion header converter is = rw (is.pair, is.width, is.height) refl

-- the formats of the pair
pub source_format : (conversion : Conversion) (header : Header) → (pair_of conversion header).from.desc ≡ desc_of header.format
unfolding pair_of
source_format conversion header = refl

pub target_format : (conversion : Conversion) (header : Header) → (pair_of conversion header).to.desc ≡ desc_of conversion.target
unfolding pair_of
target_format conversion header = refl
