-- What every header has, and which faults its tags can have.
use Rattle.std.proofs.Common.{◌≡◌, ℕ, ◌*◌, ◌≤◌, Bool, true, false, cond, ◌&&◌, List, [], ◌∷◌, refl, ap, ◌∙◌, subst}
use Rattle.std.specs.Prelude.{Option, None, Some, IfSome, Result, Ok, Err, IfOk, IfErr, find, nat_le}
use Rattle.std.specs.Option.{option_and_then, ok_or, is_some}
use Rattle.std.specs.Result.{result_ok}
use Rattle.std.specs.Cmp.{first_so, second_so}
use Rattle.std.specs.List.{list_all}
use Rattle.std.specs.Str.Parse.{digits_value}
use Rattle.std.proofs.lemmas.Bool.{leb-true}
use Rattle.desc_table.specs.declared.fault.FormatFault.{FormatFault}
use Rattle.desc_table.specs.Refused.{lookup}
use Rattle.desc_table.proofs.Lookup.{lookup-Ok}
use Rattle.y4m_io.specs.declared.fault.StreamFault.{StreamFault}
use Rattle.y4m_io.specs.declared.fault.StreamFault.TheVariants.{BadTag, BadSize, BadColour}
use Rattle.y4m_io.specs.declared.header.Header.{Header}
use Rattle.y4m_io.specs.Tags.{letter, is_known_tag, text_of}
use Rattle.y4m_io.specs.StreamFormats.{ColourSpace, colour_spaces, space_with_text, format_of_text, text_of_name, is_stream_format}
use Rattle.y4m_io.specs.HeaderLine.{is_numeral, extent_of, sized, size_of, colour_of, header_with, header_of, IsHeaderFault, IsSoundHeader}

-- what a test that passed says of a value
some_if : {T : Type 0} (test : Bool) (value : T) (P : T → Type 0) → (test ≡ true → P value) → IfSome (cond test (Some value) None) P
some_if true value P holds = holds refl
some_if false value P holds = tt

ok_if : {T E : Type 0} (test : Bool) (value : T) (fault : E) (P : T → Type 0) → (test ≡ true → P value)
    → IfOk (cond test (Ok value) (Err fault)) P
ok_if true value fault P holds = holds refl
ok_if false value fault P holds = tt

-- a width or a height is 1 to 16384
record IsExtent (number : ℕ) : Type 0 where
  least : 1 ≤ number
  most : number ≤ 16384

extent_of-limits : (text : List ℕ) → IfSome (extent_of text) IsExtent
extent_of-limits text =
    let number = digits_value 10 text in
    some_if (is_numeral text && (nat_le 1 number && nat_le number 16384)) number IsExtent (λ passes.
    let limits = second_so (is_numeral text) _ passes in
    record { least = leb-true 1 number (first_so _ _ limits); most = leb-true number 16384 (second_so (nat_le 1 number) _ limits) })

-- the size of a frame
record IsFrameSize (size : ℕ × ℕ) : Type 0 where
  width : IsExtent size.0
  height : IsExtent size.1
  area : size.0 * size.1 ≤ 33554432

sized-limits : (width height : Option ℕ) → IfSome width IsExtent → IfSome height IsExtent → IfOk (sized width height) IsFrameSize
sized-limits None height first second = tt
sized-limits (Some width) None first second = tt
sized-limits (Some width) (Some height) first second =
    ok_if (nat_le (width * height) 33554432) (width, height) BadSize IsFrameSize (λ passes.
    record { width = first; height = second; area = leb-true (width * height) 33554432 passes })

size_of-limits : (width height : Option (List ℕ)) → IfOk (size_of width height) IsFrameSize
size_of-limits None height = tt
size_of-limits (Some width) None = tt
size_of-limits (Some width) (Some height) = sized-limits (extent_of width) (extent_of height) (extent_of-limits width)
    (extent_of-limits height)

-- what is found among elements that all pass a test passes it
find-passes : {X : Type 0} (p q : X → Bool) (xs : List X) → list_all q xs ≡ true → IfSome (find p xs) (λ x. q x ≡ true)
find-passes p q [] all = tt
find-passes p q (x ∷ xs) all = elim (p x) as (λ b. IfSome (cond b (Some x) (find p xs)) (λ x'. q x' ≡ true)) [
  | true ↦ first_so _ _ all
  | false ↦ find-passes p q xs (second_so (q x) _ all)
]

-- each colour space can be written
written : list_all (λ space. is_some (text_of_name space.name)) colour_spaces ≡ true
unfolding colour_spaces text_of_name
written = refl

named : (result : Result ℕ FormatFault) (name : List ℕ) → lookup name ≡ result → is_some (text_of_name name) ≡ true
    → IfSome (result_ok result) (λ id. is_stream_format id ≡ true)
named (Err fault) name is known = tt
named (Ok id) name is known = ap (λ n. is_some (text_of_name n)) (lookup-Ok name id is).1 ∙ known

format_of_space : (space : Option ColourSpace) → IfSome space (λ s. is_some (text_of_name s.name) ≡ true)
    → IfSome (option_and_then (λ s. result_ok (lookup s.name)) space) (λ id. is_stream_format id ≡ true)
format_of_space None known = tt
format_of_space (Some space) known = named (lookup space.name) space.name refl known

pub format_of_text-stream : (text : List ℕ) → IfSome (format_of_text text) (λ id. is_stream_format id ≡ true)
unfolding format_of_text
format_of_text-stream text = format_of_space (space_with_text text)
    (find-passes _ (λ space. is_some (text_of_name space.name)) colour_spaces written)

ok_from : (format : Option ℕ) (P : ℕ → Type 0) → IfSome format P → IfOk (ok_or format BadColour) P
ok_from None P holds = tt
ok_from (Some format) P holds = holds

colour_of-stream : (text : Option (List ℕ)) → IfOk (colour_of text) (λ id. is_stream_format id ≡ true)
colour_of-stream None = tt
colour_of-stream (Some text) = ok_from (format_of_text text) (λ id. is_stream_format id ≡ true) (format_of_text-stream text)

header_with-sound : (size : Result (ℕ × ℕ) StreamFault) (format : Result ℕ StreamFault) (tags : List (List ℕ)) → IfOk size IsFrameSize
    → IfOk format (λ id. is_stream_format id ≡ true)
    → IfOk (header_with size format tags) IsSoundHeader
header_with-sound (Err fault) format tags first second = tt
header_with-sound (Ok size) (Err fault) tags first second = tt
header_with-sound (Ok size) (Ok format) tags first second = record {
  width_least = first.width.least;
  width_most = first.width.most;
  height_least = first.height.least;
  height_most = first.height.most;
  area = first.area;
  format = second;
}

header_of-known_sound : (tags : List (List ℕ)) → IfOk (header_of tags) IsSoundHeader
unfolding header_of
header_of-known_sound tags =
    elim (list_all is_known_tag tags) as (λ b. IfOk (cond b (header_with (size_of (text_of (letter "W") tags) (text_of (letter "H") tags))
    (colour_of (text_of (letter "C") tags)) tags) (Err BadTag)) IsSoundHeader) [
      | true ↦ header_with-sound _ _ tags (size_of-limits (text_of (letter "W") tags) (text_of (letter "H") tags))
          (colour_of-stream (text_of (letter "C") tags))
      | false ↦ tt
    ]

-- every header is sound
pub header_of-sound : (tags : List (List ℕ)) (header : Header) → header_of tags ≡ Ok header → IsSoundHeader header
header_of-sound tags header is = subst (λ r. IfOk r IsSoundHeader) is (header_of-known_sound tags)

-- ---- the faults

err_if : {T : Type 0} (test : Bool) (value : T) (fault : StreamFault) → IsHeaderFault fault
    → IfErr (cond test (Ok value) (Err fault)) IsHeaderFault
err_if true value fault is = tt
err_if false value fault is = is

sized-fault : (width height : Option ℕ) → IfErr (sized width height) IsHeaderFault
sized-fault None height = tt
sized-fault (Some width) None = tt
sized-fault (Some width) (Some height) = err_if (nat_le (width * height) 33554432) (width, height) BadSize tt

size_of-fault : (width height : Option (List ℕ)) → IfErr (size_of width height) IsHeaderFault
size_of-fault None height = tt
size_of-fault (Some width) None = tt
size_of-fault (Some width) (Some height) = sized-fault (extent_of width) (extent_of height)

colour_fault : (format : Option ℕ) → IfErr (ok_or format BadColour) IsHeaderFault
colour_fault None = tt
colour_fault (Some format) = tt

header_with-fault : (size : Result (ℕ × ℕ) StreamFault) (format : Result ℕ StreamFault) (tags : List (List ℕ)) → IfErr size IsHeaderFault
    → IfErr format IsHeaderFault
    → IfErr (header_with size format tags) IsHeaderFault
header_with-fault (Err fault) format tags first second = first
header_with-fault (Ok size) (Err fault) tags first second = second
header_with-fault (Ok size) (Ok format) tags first second = tt

header_of-known_fault : (tags : List (List ℕ)) → IfErr (header_of tags) IsHeaderFault
unfolding header_of
header_of-known_fault tags =
    elim (list_all is_known_tag tags) as (λ b. IfErr (cond b (header_with (size_of (text_of (letter "W") tags) (text_of (letter "H") tags))
    (colour_of (text_of (letter "C") tags)) tags) (Err BadTag)) IsHeaderFault) [
      | true ↦ header_with-fault _ _ tags (size_of-fault (text_of (letter "W") tags) (text_of (letter "H") tags))
          (colour_fault (option_and_then format_of_text (text_of (letter "C") tags)))
      | false ↦ tt
    ]

-- the tags of a header have the faults of a header alone
pub header_of-fault : (tags : List (List ℕ)) (fault : StreamFault) → header_of tags ≡ Err fault → IsHeaderFault fault
header_of-fault tags fault is = subst (λ r. IfErr r IsHeaderFault) is (header_of-known_fault tags)
