-- What words ask for is sound.
use Rattle.std.proofs.Common.{◌≡◌, true, false, Bool, ℕ, ◌<◌, not, map, Result, Ok, Err, IfOk, IfSome, if◌then◌else◌, refl, sym, ap, arith}
use Rattle.std.proofs.Common.{◌∙◌}
use Rattle.std.specs.Prelude.{codes}
use Rattle.std.specs.List.{list_any}
use Rattle.std.specs.Option.{is_some}
use Rattle.std.specs.Str.{bytes_eq}
use Rattle.std.specs.declared.option.Option.{Option}
use Rattle.std.specs.declared.option.Option.TheVariants.{None, Some}
use Rattle.desc_table.specs.declared.fault.FormatFault.{FormatFault}
use Rattle.desc_table.specs.Format.{formats, format_count, desc_of}
use Rattle.desc_table.proofs.Rows.{agree_at_row}
use Rattle.sws_words.specs.declared.task.Form.{Form}
use Rattle.sws_words.specs.declared.task.Form.TheVariants.{Raw, Y4m}
use Rattle.sws_words.specs.declared.task.Named.{Named}
use Rattle.pix_meaning.specs.declared.pair.Pair.{Pair}
use Rattle.sws_words.specs.declared.task.Convert.{Convert}
use Rattle.sws_words.specs.declared.task.Generate.{Generate}
use Rattle.sws_words.specs.declared.task.Sides.{Sides}
use Rattle.sws_words.specs.Rules.{stream_formats, finds}
use Rattle.sws_words.specs.Rules as words
use Rattle.sws_words.specs.Task.{AreSides, IsMaking, IsSource, IsSide, FitsForm, IsFrame, HasName}
use Rattle.sws_words.specs.Task as task
use Rattle.y4m_io.specs.StreamFormats.{colour_spaces, text_of_name}
use Rattle.y4m_io.specs.StreamFormats as stream
use Rattle.sws_run.specs.declared.ended.Ended.{Ended}
use Rattle.sws_run.specs.declared.ended.Ended.TheVariants.{PaletteTarget}
use Rattle.sws_run.specs.declared.ended.SideName.TheVariants.{In}
use Rattle.sws_run.specs.declared.request.Input.{Input}
use Rattle.sws_run.specs.Request.{format_of, raw_input, input_of, target_of, conversion_with, conversion_of, IsSoundInput, HasForm}
use Rattle.sws_run.specs.Request.{IsSoundConversion, IsSoundMaking, IsTablePair, making_of, making_with, pair_between, pair_with}
use Rattle.sws_run.proofs.Opened.{table_side}

-- ---- the formats of a stream are the same for the words and for the stream

streams_computed : map (λ format. list_any (λ name. bytes_eq format.name (codes name)) stream_formats) formats ≡ map
    (λ format. is_some (text_of_name format.name)) formats
unfolding formats colour_spaces text_of_name
streams_computed = refl

same_streams : (id : ℕ) → id < format_count → words.is_stream_format id ≡ stream.is_stream_format id
unfolding words.is_stream_format
same_streams id below =
    agree_at_row (λ format. list_any (λ name. bytes_eq format.name (codes name)) stream_formats)
    (λ format. is_some (text_of_name format.name)) streams_computed id below

-- ---- what is found

input_found : (width height : ℕ) (found : Result ℕ FormatFault) → IfOk found (λ id. id < format_count) → IsFrame width height
    → IfOk (raw_input width height (format_of In found)) IsSoundInput
input_found width height (Err fault) known frame = tt
input_found width height (Ok id) known frame = (known, frame)

sound_input : (form : Form) (source : Option Named) (width height : ℕ) → IsSource form source width height → IfSome source IsSide
    → IfOk (input_of source width height) IsSoundInput
sound_input form None width height is sides = tt
sound_input Raw (Some side) width height is sides = input_found width height side.format sides.known is
sound_input Y4m (Some side) width height is sides = absurd is

pub record IsSoundTarget (form : Form) (id : ℕ) : Type 0 where
  pub below : id < format_count
  pub plain : (desc_of id).palette ≡ false
  pub fits : HasForm form id

not_false : (b : Bool) → not b ≡ false → b ≡ true
not_false true is = refl
not_false false is = absurd (cc)

has_form : (form : Form) (side : Named) (id : ℕ) → FitsForm form side → side.format ≡ Ok id → id < format_count → HasForm form id
has_form Raw side id fits is below = tt
has_form Y4m side id fits is below =
    sym (same_streams id below) ∙ not_false (words.is_stream_format id) (ap (finds (λ id. not (words.is_stream_format id))) (sym is) ∙ fits)

target_found : (form : Form) (id : ℕ) (palette : Bool) → (desc_of id).palette ≡ palette → id < format_count → HasForm form id
    → IfOk (if palette then Err PaletteTarget else Ok id) (IsSoundTarget form)
target_found form id true is below fits = tt
target_found form id false is below fits = record { below = below; plain = is; fits = fits }

target_at : (form : Form) (side : Named) (found : Result ℕ FormatFault) → side.format ≡ found → IfOk found (λ id. id < format_count)
    → FitsForm form side
    → IfOk (target_of found) (IsSoundTarget form)
target_at form side (Err fault) is known fits = tt
target_at form side (Ok id) is known fits = target_found form id (desc_of id).palette refl known (has_form form side id fits is known)

sound_target : (form : Form) (side : Named) → IsSide side → FitsForm form side → IfOk (target_of side.format) (IsSoundTarget form)
sound_target form side sound fits = target_at form side side.format refl sound.known fits

sound_with : (asked : Convert) (input : Result Input Ended) (target : Result ℕ Ended) → IfOk input IsSoundInput
    → IfOk target (IsSoundTarget asked.target_form)
    → task.IsConversion asked → IfOk (conversion_with asked input target) IsSoundConversion
sound_with asked (Err refusal) target input_sound target_sound sound = tt
sound_with asked (Ok input) (Err refusal) input_sound target_sound sound = tt
sound_with asked (Ok input) (Ok target) input_sound target_sound sound = record {
  input = input_sound;
  target = target_sound.below;
  plain = target_sound.plain;
  form = target_sound.fits;
  source_matrix = sound.named;
  target_matrix = sound.to.named;
  dither = sound.dither_most;
  workers = omega (arith, sound.workers_least);
  slice = omega (arith, sound.slice_least);
}

pub sound_conversion : (asked : Convert) → task.IsConversion asked → IfOk (conversion_of asked) IsSoundConversion
sound_conversion asked sound =
    sound_with asked (input_of asked.source asked.width asked.height) (target_of asked.target.format)
    (sound_input asked.source_form asked.source asked.width asked.height sound.from sound.sides)
    (sound_target asked.target_form asked.target sound.to sound.form) sound

-- ---- two sides that are named

pair_found : (sides : Sides) (source target : ℕ) (palette : Bool) → (desc_of target).palette ≡ palette → AreSides sides
    → source < format_count → target < format_count
    → IfOk (pair_with sides (Ok source) (if palette then Err PaletteTarget else Ok target)) IsTablePair
pair_found sides source target true is sound from to = tt
pair_found sides source target false is sound from to = record {
  from = table_side source sides.source.matrix sides.source.range from sound.source.named;
  to = table_side target sides.target.matrix sides.target.range to sound.target.named;
  plain = is;
  dither = sound.dither_most;
}

pair_at : (sides : Sides) (source target : Result ℕ FormatFault) → AreSides sides → IfOk source (λ id. id < format_count)
    → IfOk target (λ id. id < format_count) → IfOk (pair_with sides (format_of In source) (target_of target)) IsTablePair
pair_at sides (Err fault) target sound from to = tt
pair_at sides (Ok source) (Err fault) sound from to = tt
pair_at sides (Ok source) (Ok target) sound from to = pair_found sides source target (desc_of target).palette refl sound from to

pub sound_pair : (sides : Sides) → AreSides sides → IfOk (pair_between sides) IsTablePair
sound_pair sides sound = pair_at sides sides.source.format sides.target.format sound sound.source.known sound.target.known

making_at : (asked : Generate) (pair : Result Pair Ended) → IsMaking asked → IfOk pair IsTablePair
    → IfOk (making_with asked pair) IsSoundMaking
making_at asked (Err refusal) sound is = tt
making_at asked (Ok pair) sound is =
    record { pair = is; workers = omega (arith, sound.workers_least); slice = omega (arith, sound.slice_least) }

pub sound_making : (asked : Generate) → IsMaking asked → IfOk (making_of asked) IsSoundMaking
sound_making asked sound = making_at asked (pair_between asked.sides) sound (sound_pair asked.sides sound.sides)
