-- A conversion that breaks no rule is sound.
use Rattle.std.proofs.Common.{◌≡◌, ◌<◌, ◌≤◌, ◌&&◌, ◌||◌, ℕ, Bool, true, false, not, if◌then◌else◌, List, [], ◌∷◌, length, slice_index_or}
use Rattle.std.proofs.Common.{zero, suc, refl, arith, nat_le}
use Rattle.std.specs.Prelude.{Option, Some, None, is_some, unwrap_or, option_map, option_and_then, IfSome, IfOk, Result, Ok, Err, codes}
use Rattle.std.specs.Option.{option_map_or}
use Rattle.std.specs.List.{list_any}
use Rattle.std.proofs.lemmas.Bool.Decides.{nat_tests}
use Rattle.clap.specs.Walk.{Row, Text}
use Rattle.colour_matrix.specs.declared.matrix.Matrix.{Matrix}
use Rattle.colour_matrix.specs.Matrix.{bt601, matrix_named}
use Rattle.desc_table.specs.declared.fault.FormatFault.{FormatFault}
use Rattle.desc_table.specs.Format.{format_count}
use Rattle.desc_table.specs.Refused.{lookup}
use Rattle.desc_table.proofs.Lookup.{lookup-Ok}
use Rattle.sws_words.specs.Given.{form_given, matrix_given, range_given, side_given, source_given, source_named}
use Rattle.sws_words.specs.Given.{target_given, value_of}
use Rattle.sws_words.specs.Options.{CommandOption, is_barred, is_needed, is_stream, option, options}
use Rattle.sws_words.specs.Values.{form_named, is_frame_size, is_value, number_of, number_within, size_of}
use Rattle.sws_words.specs.Rules.{bars, conversion_given, either_side, finds, has_fixed_range, has_no_stream_form, has_rgb_range}
use Rattle.sws_words.specs.Rules.{is_misread, is_missing, is_no_frame, is_stream_format, is_unwanted, lacks, making_given}
use Rattle.sws_words.specs.Rules.{misreads, sides_given}
use Rattle.sws_words.specs.Task.{AreSides, FitsForm, HasName, HasParts, IsConversion, IsFrame, IsMaking, IsSide, IsSource}
use Rattle.sws_words.specs.declared.task.Form.{Form}
use Rattle.sws_words.specs.declared.task.Form.TheVariants.{Raw, Y4m}
use Rattle.sws_words.specs.declared.task.Named.{Named}
use Rattle.sws_words.specs.declared.options.Owners.TheVariants.{Every}
use Rattle.sws_words.specs.declared.options.Need.TheVariants.{Never, UnlessStream, WithRaw}
use Rattle.sws_words.specs.declared.options.Values.TheVariants.{Formats}
use Rattle.sws_words.specs.declared.options.TaskName.TheVariants as task

-- neither holds
neither : (a b : Bool) → (a || b) ≡ false → (a ≡ false) × (b ≡ false)
neither true b e = cc
neither false b e = (refl, e)

-- what no element of a list passes, the element at a place does not pass
none_at : {X : Type 0} (p : X → Bool) (xs : List X) (i : ℕ) (d : X) → list_any p xs ≡ false → i < length xs
    → p (slice_index_or xs i d) ≡ false
none_at p [] i d none below = absurd (omega arith)
none_at p (x ∷ xs) zero d none below = (neither (p x) (list_any p xs) none).0
none_at p (x ∷ xs) (suc i) d none below = none_at p xs i d (neither (p x) (list_any p xs) none).1 (omega arith)

-- a size that passes the test is that of a frame
frame_of : (width height : ℕ) → not (is_frame_size width height) ≡ false → IsFrame width height
frame_of width height passes = record {
  width_least = grind (arith, nat_tests);
  width_most = grind (arith, nat_tests);
  height_least = grind (arith, nat_tests);
  height_most = grind (arith, nat_tests);
  area = grind (arith, nat_tests);
}

abbrev size_or_zero : Option (ℕ × ℕ) → ℕ × ℕ
size_or_zero size = unwrap_or size (0, 0)

sized : (size : Option (ℕ × ℕ)) → not (is_some size) ≡ false → option_map_or (λ s. not (is_frame_size s.0 s.1)) size false ≡ false
    → IsFrame (size_or_zero size).0 (size_or_zero size).1
sized None read frame = cc
sized (Some s) read frame = frame_of s.0 s.1 frame

-- what the source's form asks of its name and its size
source_of : (form : Option Form) (name size : Option Text) (side : Text → Named)
    → not (is_some form) ≡ false
    → (is_needed UnlessStream form && not (is_some name)) ≡ false
    → (is_needed WithRaw form && not (is_some size)) ≡ false
    → (is_some name && is_barred UnlessStream form) ≡ false
    → (is_some size && is_barred WithRaw form) ≡ false
    → option_map_or (λ text. not (is_some (size_of text))) size false ≡ false
    → option_map_or (λ s. not (is_frame_size s.0 s.1)) (option_and_then size_of size) false ≡ false
    → IsSource (unwrap_or form Raw) (option_map side name)
    (size_or_zero (option_and_then size_of size)).0 (size_or_zero (option_and_then size_of size)).1
source_of None name size side known a b c d read frame = cc
source_of (Some Raw) None size side known a b c d read frame = cc
source_of (Some Raw) (Some n) None side known a b c d read frame = cc
source_of (Some Raw) (Some n) (Some s) side known a b c d read frame = sized (size_of s) read frame
source_of (Some Y4m) (Some n) size side known a b c d read frame = cc
source_of (Some Y4m) None (Some s) side known a b c d read frame = cc
source_of (Some Y4m) None None side known a b c d read frame = (refl, refl)

-- a form that is given is one
known_form : (text : Option Text) → option_map_or (λ t. not (is_some (form_named t))) text false ≡ false
    → not (is_some (option_map_or form_named text (Some Raw))) ≡ false
known_form None read = refl
known_form (Some t) read = read

-- a matrix that is given, or bt601, has a name
matrix_has_name : (text : Option Text) → HasName (unwrap_or (option_and_then matrix_named text) bt601)
matrix_has_name None = (codes "bt601", refl)
matrix_has_name (Some name) = go (matrix_named name) refl
  where
    go : (matrix : Option Matrix) → matrix_named name ≡ matrix → HasName (unwrap_or matrix bt601)
    go None is = (codes "bt601", refl)
    go (Some m) is = (name, is)

-- a format that a name finds is of the table
found_below : (name : Text) → IfOk (lookup name) (λ id. id < format_count)
found_below name = go (lookup name) refl
  where
    go : (format : Result ℕ FormatFault) → lookup name ≡ format → IfOk format (λ id. id < format_count)
    go (Ok id) is = (lookup-Ok name id is).0
    go (Err fault) is = tt

side_of : (given : List Row) (name matrix range : Text) → has_fixed_range (side_given given name matrix range) ≡ false
    → has_rgb_range (side_given given name matrix range) ≡ false → IsSide (side_given given name matrix range)
side_of given name matrix range fixed full =
    record { known = found_below name; named = matrix_has_name (value_of given matrix); fixed = fixed; full = full }

-- the number, where it is of the range
abbrev kept : ℕ → ℕ → ℕ → Option ℕ
kept least most n = if nat_le least n && nat_le n most then Some n else None

abbrev IsWithin : ℕ → ℕ → ℕ → Type 0
IsWithin least most n = (least ≤ n) × (n ≤ most)

kept_within : (least most default n : ℕ) → IsWithin least most default → IsWithin least most (unwrap_or (kept least most n) default)
kept_within least most default n bounds = go (nat_le least n) (nat_le n most) refl refl
  where
    go : (a b : Bool) → nat_le least n ≡ a → nat_le n most ≡ b
        → IsWithin least most (unwrap_or (if a && b then Some n else None) default)
    go true true low high = (grind (arith, nat_tests), grind (arith, nat_tests))
    go true false low high = bounds
    go false b low high = bounds

-- a number that is given, or the one that stands for none, is of the range
within : (least most default : ℕ) (text : Option Text) → IsWithin least most default
    → IsWithin least most (unwrap_or (option_and_then (number_within least most) text) default)
within least most default None bounds = bounds
within least most default (Some text) bounds = go (number_of text)
  where
    go : (number : Option ℕ) → IsWithin least most (unwrap_or (option_and_then (kept least most) number) default)
    go None = bounds
    go (Some n) = kept_within least most default n bounds

-- the form of the output fits the target
fits : (form : Option Form) (side : Named) → (is_stream form && finds (λ id. not (is_stream_format id)) side.format) ≡ false
    → FitsForm (unwrap_or form Raw) side
fits None side e = tt
fits (Some Raw) side e = tt
fits (Some Y4m) side e = e

-- neither side breaks a rule
neither_side : (breaks : Named → Bool) (source : Option Named) (target : Named)
    → (option_map_or breaks source false || breaks target) ≡ false → IfSome source (λ side. breaks side ≡ false) × (breaks target ≡ false)
neither_side breaks None target e = (tt, e)
neither_side breaks (Some side) target e = neither (breaks side) (breaks target) e

-- the source, where its name is given
abbrev source_side : List Row → Option Text → Option Named
source_side given = option_map (λ name. side_given given name (codes "in-matrix") (codes "in-range"))

sound_source : (given : List Row) (name : Option Text) → IfSome (source_side given name) (λ side. has_fixed_range side ≡ false)
    → IfSome (source_side given name) (λ side. has_rgb_range side ≡ false) → IfSome (source_side given name) IsSide
sound_source given None fixed full = tt
sound_source given (Some n) fixed full = side_of given n (codes "in-matrix") (codes "in-range") fixed full

same_parts : (given : List Row) (name : Option Text)
    → IfSome (source_side given name) (HasParts (matrix_given given (codes "in-matrix")) (range_given given (codes "in-range")))
same_parts given None = tt
same_parts given (Some n) = (refl, refl)

-- what stands past the end of the table
past_the_end : CommandOption
past_the_end = option "" Every Never Formats

pub sound_conversion : (given : List Row) → is_missing given task.Convert ≡ false → is_unwanted given task.Convert ≡ false
    → is_misread given ≡ false → is_no_frame given ≡ false → either_side has_fixed_range given ≡ false
    → either_side has_rgb_range given ≡ false → has_no_stream_form given ≡ false → IsConversion (conversion_given given)
unfolding options is_missing is_unwanted is_misread lacks bars misreads is_value conversion_given source_given target_given
sound_conversion given missing unwanted misread frame fixed full form =
    let sides_fixed = neither_side has_fixed_range (source_given given) (target_given given) fixed in
    let sides_full = neither_side has_rgb_range (source_given given) (target_given given) full in
    record {
      from = source_of (form_given given (codes "from")) (value_of given (codes "in")) (value_of given (codes "size"))
          (λ name. side_given given name (codes "in-matrix") (codes "in-range"))
          (known_form (value_of given (codes "from")) (none_at (misreads given) options 1 past_the_end misread (omega arith)))
          (none_at (lacks given task.Convert) options 4 past_the_end missing (omega arith))
          (none_at (lacks given task.Convert) options 3 past_the_end missing (omega arith))
          (none_at (bars given task.Convert) options 4 past_the_end unwanted (omega arith))
          (none_at (bars given task.Convert) options 3 past_the_end unwanted (omega arith))
          (none_at (misreads given) options 3 past_the_end misread (omega arith))
          frame;
      parts = same_parts given (value_of given (codes "in"));
      sides = sound_source given (value_of given (codes "in")) sides_fixed.0 sides_full.0;
      to = side_of given _ (codes "out-matrix") (codes "out-range") sides_fixed.1 sides_full.1;
      form = fits (form_given given (codes "to")) (target_given given) form;
      named = matrix_has_name (value_of given (codes "in-matrix"));
      dither_most = (within 0 4 0 (value_of given (codes "dither")) (omega arith, omega arith)).1;
      workers_least = (within 1 64 1 (value_of given (codes "workers")) (omega arith, omega arith)).0;
      workers_most = (within 1 64 1 (value_of given (codes "workers")) (omega arith, omega arith)).1;
      slice_least = (within 1 16384 16 (value_of given (codes "slice")) (omega arith, omega arith)).0;
      slice_most = (within 1 16384 16 (value_of given (codes "slice")) (omega arith, omega arith)).1;
    }

-- ---- tasks on two sides that are named

-- with no form of a source given, the source is named
named_in : (from name : Option Text) → (is_some from && true) ≡ false
    → (is_needed UnlessStream (option_map_or form_named from (Some Raw)) && not (is_some name)) ≡ false → is_some name ≡ true
named_in (Some form) name none needed = cc
named_in None None none needed = cc
named_in None (Some text) none needed = refl

pub ops_name_source : (given : List Row) → is_missing given task.Ops ≡ false → is_unwanted given task.Ops ≡ false
    → is_some (value_of given (codes "in")) ≡ true
unfolding options is_missing is_unwanted lacks bars
ops_name_source given missing unwanted =
    named_in (value_of given (codes "from")) (value_of given (codes "in"))
    (none_at (bars given task.Ops) options 1 past_the_end unwanted (omega arith))
    (none_at (lacks given task.Ops) options 4 past_the_end missing (omega arith))

pub making_names_source : (given : List Row) → is_missing given task.Generate ≡ false → is_unwanted given task.Generate ≡ false
    → is_some (value_of given (codes "in")) ≡ true
unfolding options is_missing is_unwanted lacks bars
making_names_source given missing unwanted =
    named_in (value_of given (codes "from")) (value_of given (codes "in"))
    (none_at (bars given task.Generate) options 1 past_the_end unwanted (omega arith))
    (none_at (lacks given task.Generate) options 4 past_the_end missing (omega arith))

-- what holds of the source where it is named
of_source : (given : List Row) (P : Named → Type 0) (name : Option Text) → is_some name ≡ true → IfSome (source_side given name) P
    → P (side_given given (unwrap_or name []) (codes "in-matrix") (codes "in-range"))
of_source given P None named holds = cc
of_source given P (Some text) named holds = holds

pub sound_sides : (given : List Row) → is_some (value_of given (codes "in")) ≡ true → either_side has_fixed_range given ≡ false
    → either_side has_rgb_range given ≡ false → AreSides (sides_given given)
unfolding source_given source_named target_given sides_given
sound_sides given named fixed full =
    let sides_fixed = neither_side has_fixed_range (source_given given) (target_given given) fixed in
    let sides_full = neither_side has_rgb_range (source_given given) (target_given given) full in
    let name = value_of given (codes "in") in
    record {
      source = side_of given (unwrap_or name []) (codes "in-matrix") (codes "in-range")
          (of_source given (λ side. has_fixed_range side ≡ false) name named sides_fixed.0)
          (of_source given (λ side. has_rgb_range side ≡ false) name named sides_full.0);
      target = side_of given _ (codes "out-matrix") (codes "out-range") sides_fixed.1 sides_full.1;
      dither_most = (within 0 4 0 (value_of given (codes "dither")) (omega arith, omega arith)).1;
    }

pub sound_making : (given : List Row) → AreSides (sides_given given) → IsMaking (making_given given)
unfolding making_given
sound_making given sides = record {
  sides = sides;
  workers_least = (within 1 64 1 (value_of given (codes "workers")) (omega arith, omega arith)).0;
  workers_most = (within 1 64 1 (value_of given (codes "workers")) (omega arith, omega arith)).1;
  slice_least = (within 1 16384 16 (value_of given (codes "slice")) (omega arith, omega arith)).0;
  slice_most = (within 1 16384 16 (value_of given (codes "slice")) (omega arith, omega arith)).1;
}
