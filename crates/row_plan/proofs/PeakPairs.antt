-- The peak of the recipe of a pair whose sides are of the classes is below 2^126.
use Rattle.std.proofs.Common.{◌≡◌, ℕ, zero, suc, ◌-◌, ◌*◌, ◌/◌, ◌^◌, ◌<◌, ◌≤◌, Bool, true, false, not, if◌then◌else◌, List, [], ◌∷◌, ◌++◌}
use Rattle.std.proofs.Common.{pow_mono}
use Rattle.std.proofs.Common.{append_assoc, ltb-true, subst, refl, sym, ◌∙◌, ap, arith}
use Rattle.std.specs.Prelude.{Option, Some, None}
use Rattle.std.specs.List.{list_all}
use Rattle.std.proofs.lemmas.Bool.{and_from}
use Rattle.std.proofs.Math.Nat.{mul-le-mul_right, dvd-mul_right}
use Prim.Native.Nat.{◌∣◌}
use Rattle.frac_math.specs.Gcd.{gcd}
use Rattle.frac_math.specs.Fraction.{ℚ, nat}
use Rattle.pix_desc.specs.declared.desc.Desc.{Desc}
use Rattle.pix_desc.specs.Component.{component_of}
use Rattle.pix_desc.specs.Layouts.{IsValid, is_elements}
use Rattle.pix_desc.specs.Shape.{element_counts, field_widths}
use Rattle.colour_matrix.specs.Colour.{to_rgb_rows, from_rgb_rows}
use Rattle.pix_meaning.specs.declared.pair.Pair.{Pair}
use Rattle.pix_meaning.specs.Pairs.{IsValidPair, is_rgb, has_channel}
use Rattle.pix_meaning.specs.Channels.{channel_depth}
use Rattle.pix_meaning.proofs.ChannelDepths.{channel_depth_small}
use Rattle.op_list.specs.declared.types.PixType.{PixType}
use Rattle.op_list.specs.declared.types.PixType.TheVariants.{U8, Rat}
use Rattle.op_list.specs.declared.types.Stage.{Stage}
use Rattle.op_list.specs.declared.types.Stage.TheVariants.{Start, Typed}
use Rattle.op_list.specs.declared.op.Op.{Op}
use Rattle.op_list.specs.declared.op.Op.TheVariants.{Read, Write, SwapBytes, Unpack, Pack, Clear, LeftShift, RightShift, Swizzle, Convert}
use Rattle.op_list.specs.declared.op.Op.TheVariants.{Dither, Linear, Scale, Min, Max}
use Rattle.op_list.specs.Types.{bits, is_whole_type}
use Rattle.op_list.specs.Values.{four}
use Rattle.op_list.specs.Typing.{stage_after, are_typed}
use Rattle.op_list.proofs.Four.{get_or-four}
use Rattle.op_list.proofs.Typed.{typed_fronts}
use Rattle.op_range.specs.Width.{multiple_with, has_fractions}
use Rattle.op_build.specs.ElementType.{element_type, is_swapped}
use Rattle.op_build.specs.Codes.{decoded_type}
use Rattle.op_build.specs.Recipe.{only_if, channel_slots, missing_codes, slot_channels, spare_zeros, are_plain, over_three, decode, convert}
use Rattle.op_build.specs.Recipe.{encode, recipe}
use Rattle.op_build.specs.Recipe.{to_codes_by}
use Rattle.op_build.specs.SideClasses.{SideClass, side_class, side_classes, IsOneOf}
use Rattle.op_build.proofs.shape.ElementTypes.{has_type}
use Rattle.op_build.proofs.decode.Typed.{whole_typed}
use Rattle.op_build.proofs.recipe.Typed.{recipe_is_list}
use Rattle.op_build.proofs.bounds.ClassTests.{class_levels, source_ops, target_rows_ops}
use Rattle.op_build.proofs.bounds.Pairs.{every_one, then_there, class_list, convert_classes, least_limits, greatest_limits}
use Rattle.op_build.proofs.bounds.Runs.{recipe_parts}
use Rattle.op_opt.specs.Peak.{Peaked, given_size, start_peaked, peak_from, peak}
use Rattle.op_opt.proofs.PeakBounds.{keeps_stage, leaves_whole, whole_list, whole_no_fractions, whole_front, from_whole, no_peak}
use Rattle.op_opt.proofs.PeakBounds.{whole_peaked}
use Rattle.op_opt.proofs.PeakBounds.{small_after, small_from, IsUnder, small_along, dither_step, AreLimits, low_under, max_step, min_step}
use Rattle.row_plan.proofs.PeakTests.{bits_of, greatest_limit, target_is_low, source_is_low}
use Rattle.row_plan.proofs.PeakClasses.{classes_are_low}

-- ---- decoding and encoding leave no fractions
decode_whole_by : (palette swapped elements : Bool) (elem : PixType) (counts widths positions : List ℕ) (left right : ℕ)
    (codes : List (Option ℚ)) → is_whole_type elem ≡ true
    → list_all leaves_whole (if palette then Read U8 (1 ∷ 0 ∷ 0 ∷ 0 ∷ []) true ∷ Clear codes ∷ []
    else Read elem counts false ∷ only_if swapped SwapBytes ++ (if elements then LeftShift left ∷ RightShift right ∷ [] else Unpack widths
    ∷ []) ++ Swizzle positions ∷ Clear codes ∷ []) ≡ true
decode_whole_by true swapped elements elem counts widths positions left right codes whole = refl
decode_whole_by false true true elem counts widths positions left right codes whole = and_from (is_whole_type elem) true whole refl
decode_whole_by false true false elem counts widths positions left right codes whole = and_from (is_whole_type elem) true whole refl
decode_whole_by false false true elem counts widths positions left right codes whole = and_from (is_whole_type elem) true whole refl
decode_whole_by false false false elem counts widths positions left right codes whole = and_from (is_whole_type elem) true whole refl

decode_whole : (desc : Desc) → IsValid desc → has_fractions Start (decode desc) ≡ false
unfolding decode
decode_whole desc valid =
    let c = component_of desc 0 in
    let size = bits (element_type desc) in
    whole_list Start (decode desc) refl
    (decode_whole_by desc.palette (is_swapped desc) (is_elements desc) (element_type desc) (element_counts desc) (field_widths desc)
    (channel_slots desc) (size - c.shift - c.depth) (size - c.depth) (missing_codes desc) (has_type desc valid).whole)

encode_whole_by : (swapped elements : Bool) (elem : PixType) (counts widths positions : List ℕ) (left : ℕ) (codes : List (Option ℚ))
    → list_all leaves_whole (Swizzle positions ∷ Clear codes ∷ (if elements then LeftShift left else Pack widths)
    ∷ only_if swapped SwapBytes ++ Write elem counts ∷ []) ≡ true
encode_whole_by true true elem counts widths positions left codes = refl
encode_whole_by true false elem counts widths positions left codes = refl
encode_whole_by false true elem counts widths positions left codes = refl
encode_whole_by false false elem counts widths positions left codes = refl

first_whole : (elem : PixType) (ops : List Op) → is_whole_type elem ≡ true → has_fractions (Typed elem) ops ≡ false
    → has_fractions (Typed Rat) (Convert elem false ∷ ops) ≡ false
unfolding has_fractions stage_after
first_whole elem ops whole behind = rw (whole_no_fractions elem whole) behind

encode_whole : (desc : Desc) → IsValid desc → has_fractions (Typed Rat) (encode desc) ≡ false
unfolding encode
encode_whole desc valid =
    let elem = element_type desc in
    let whole = (has_type desc valid).whole in
    first_whole elem _ whole
    (whole_list (Typed elem) _ (whole_no_fractions elem whole)
    (encode_whole_by (is_swapped desc) (is_elements desc) elem (element_counts desc) (field_widths desc) (slot_channels desc)
    (component_of desc 0).shift (spare_zeros desc)))

-- ---- the limits of codes
with_whole : (given : Bool) (n : ℕ) → multiple_with 1 (if given then Some (nat n) else None) ≡ 1
unfolding gcd
with_whole true n = refl
with_whole false n = refl

given_small : (given : Bool) (n most d : ℕ) → n ≤ most → given_size 1 d (if given then Some (nat n) else None) ≤ most * d
given_small true n most d h = let one : n * (1 / 1) * d ≡ n * d = omega arith in omega (arith, one, mul-le-mul_right d h)
given_small false n most d h = omega arith

limits_are : (given : ℕ → Bool) (n : ℕ → ℕ) (most : ℕ) → ((c : ℕ) → c < 4 → n c ≤ most)
    → AreLimits (four (λ c. if given c then Some (nat (n c)) else None)) most
limits_are given n most small =
    let x = λ (c : ℕ). if given c then Some (nat (n c)) else None in
    record {
      denominator =
          ap (λ e. multiple_with (multiple_with (multiple_with e (x 2)) (x 1)) (x 0)) (with_whole (given 3) (n 3))
          ∙ ap (λ e. multiple_with (multiple_with e (x 1)) (x 0)) (with_whole (given 2) (n 2))
          ∙ ap (λ e. multiple_with e (x 0)) (with_whole (given 1) (n 1)) ∙ with_whole (given 0) (n 0);
      sizes = λ i d below. subst (λ (o : Option ℚ). given_size 1 d o ≤ most * d) (sym (get_or-four x i None below))
          (given_small (given i) (n i) most d (small i below));
    }

least_are : (pair : Pair) → AreLimits (least_limits pair) greatest_limit
least_are pair = limits_are (has_channel pair.to.desc) (λ c. 0) greatest_limit (λ c below. omega arith)

code_small : (depth : ℕ) → depth ≤ 16 → 2 ^ depth - 1 ≤ greatest_limit
code_small depth h = let most : 2 ^ depth ≤ 2 ^ 16 = pow_mono h in omega (arith, most)

greatest_are : (pair : Pair) → IsValid pair.to.desc → AreLimits (greatest_limits pair) greatest_limit
greatest_are pair valid =
    limits_are (has_channel pair.to.desc) (λ c. 2 ^ channel_depth pair.to.desc c - 1) greatest_limit
    (λ c below. code_small (channel_depth pair.to.desc c) (channel_depth_small pair.to.desc c valid below))

-- ---- the operations on fractions of two classes
keeps_first : (plain needed : Bool) (by : ℚ) (rows others : List (List ℚ))
    → list_all keeps_stage ((if plain then Scale by else Linear rows) ∷ only_if needed (Linear others)) ≡ true
keeps_first true true by rows others = refl
keeps_first true false by rows others = refl
keeps_first false true by rows others = refl
keeps_first false false by rows others = refl

keeps_source : (from : SideClass) → list_all keeps_stage (source_ops from) ≡ true
keeps_source from = keeps_first (are_plain (class_levels from)) (not from.rgb) _ _ (over_three (to_rgb_rows from.matrix))

keeps_rows : (needed : Bool) (rows : List (List ℚ)) → list_all keeps_stage (only_if needed (Linear rows)) ≡ true
keeps_rows true rows = refl
keeps_rows false rows = refl

keeps_codes : (to : SideClass) → list_all keeps_stage (to_codes_by (class_levels to) ∷ []) ≡ true
keeps_codes to = keeps_first (are_plain (class_levels to)) false _ _ []

-- the places of a dither are among those of the largest
places_among : (k : ℕ) → k ≤ 4 → 2 * 4 ^ k ∣ 2 * 4 ^ 4
places_among zero h = dvd-mul_right 2 256
places_among (suc zero) h = dvd-mul_right 8 64
places_among (suc (suc zero)) h = dvd-mul_right 32 16
places_among (suc (suc (suc zero))) h = dvd-mul_right 128 4
places_among (suc (suc (suc (suc zero)))) h = dvd-mul_right 512 1
places_among (suc (suc (suc (suc (suc k))))) h = absurd (omega (arith, h))

-- behind the dither: the limits, and whole numbers
limits_low : (least greatest : List (Option ℚ)) (rest : List Op) (s last : Peaked) → AreLimits least greatest_limit
    → AreLimits greatest greatest_limit → has_fractions (Typed Rat) rest ≡ false → IsUnder s last
    → greatest_limit * last.width.denominator < 2 ^ 126 → peak_from (Typed Rat) (Max least ∷ Min greatest ∷ rest) s < 2 ^ 126
limits_low least greatest rest s last least_is greatest_is whole under low =
    max_step (Typed Rat) least greatest_limit (Min greatest ∷ rest) s refl least_is (low_under greatest_limit s last under low)
    (λ kept kept_low. min_step (Typed Rat) greatest greatest_limit rest kept refl greatest_is kept_low
    (λ left left_low. subst (λ (n : ℕ). n < 2 ^ 126) (sym (no_peak (Typed Rat) rest left whole)) (omega arith)))

-- What stands behind the values of a conversion.
record IsEnd (to : SideClass) (k : ℕ) (least greatest : List (Option ℚ)) (rest : List Op) : Type 0 where
  listed : IsOneOf to side_classes
  dither : k ≤ 4
  least_are : AreLimits least greatest_limit
  greatest_are : AreLimits greatest greatest_limit
  whole : has_fractions (Typed Rat) rest ≡ false

target_low : (to : SideClass) (k : ℕ) (least greatest : List (Option ℚ)) (rest : List Op) (s values : Peaked)
    → IsEnd to k least greatest rest → target_is_low values to ≡ true → IsUnder s values
    → are_typed (Typed Rat) (target_rows_ops to ++ (to_codes_by (class_levels to) ∷ Dither k ∷ Max least ∷ Min greatest ∷ rest)) ≡ true
    → peak_from (Typed Rat) (target_rows_ops to ++ (to_codes_by (class_levels to) ∷ Dither k ∷ Max least ∷ Min greatest ∷ rest)) s
    < 2 ^ 126
unfolding target_is_low
target_low to k least greatest rest s values is t under typed =
    let limits = Max least ∷ Min greatest ∷ rest in
    then_there (small_from (target_rows_ops to) values) _ t (λ rows is_rows t2.
    then_there (small_from (to_codes_by (class_levels to) ∷ []) rows) _ t2 (λ codes is_codes t3.
    then_there (small_after (Dither 4) codes) _ t3 (λ last is_last low.
    small_along (Typed Rat) (target_rows_ops to) (to_codes_by (class_levels to) ∷ Dither k ∷ limits) s values rows refl
    (keeps_rows (not to.rgb) (over_three (from_rgb_rows to.matrix))) typed under is_rows (λ a a_typed a_under.
    small_along (Typed Rat) (to_codes_by (class_levels to) ∷ []) (Dither k ∷ limits) a rows codes refl (keeps_codes to) a_typed a_under
    is_codes (λ b b_typed b_under.
    dither_step (Typed Rat) k 4 limits b codes last refl (places_among k is.dither) b_typed b_under is_last (λ c c_typed c_under.
    limits_low least greatest rest c last is.least_are is.greatest_are is.whole c_under (ltb-true _ _ low)))))))

in_parts : (first second last rest : List Op) → ((first ++ (second ++ last)) ++ rest) ≡ (first ++ (second ++ (last ++ rest)))
in_parts first second last rest =
    append_assoc first (second ++ last) rest ∙ ap (λ ops. first ++ ops) (append_assoc second last rest)

classes_low : (from to : SideClass) (k : ℕ) (least greatest : List (Option ℚ)) (rest : List Op) (s : Peaked)
    → IsOneOf from side_classes → IsEnd to k least greatest rest → IsUnder s (whole_peaked (bits_of from.rgb))
    → are_typed (Typed Rat) (class_list from to k least greatest ++ rest) ≡ true
    → peak_from (Typed Rat) (class_list from to k least greatest ++ rest) s < 2 ^ 126
unfolding source_is_low
classes_low from to k least greatest rest s listed is under typed =
    let codes = to_codes_by (class_levels to) ∷ Dither k ∷ Max least ∷ Min greatest ∷ [] in
    let target = target_rows_ops to ++ (codes ++ rest) in
    let parts : (class_list from to k least greatest ++ rest) ≡ (source_ops from ++ target) =
    in_parts (source_ops from) (target_rows_ops to) codes rest in
    subst (λ (ops : List Op). peak_from (Typed Rat) ops s < 2 ^ 126) (sym parts)
    (then_there (small_from (source_ops from) (whole_peaked (bits_of from.rgb))) (λ values. list_all (target_is_low values) side_classes)
    (every_one (source_is_low side_classes) side_classes from classes_are_low listed) (λ values is_values lows.
    small_along (Typed Rat) (source_ops from) target s (whole_peaked (bits_of from.rgb)) values refl (keeps_source from)
    (subst (λ (ops : List Op). are_typed (Typed Rat) ops ≡ true) parts typed) under is_values (λ left left_typed left_under.
    target_low to k least greatest rest left values is (every_one (target_is_low values) side_classes to lows is.listed) left_under
    left_typed)))

-- ---- the recipe
fits_type : (rgb : Bool) → bits_of rgb ≤ 32
fits_type true = omega arith
fits_type false = omega arith

-- What is known of a pair.
record IsListed (pair : Pair) : Type 0 where
  valid : IsValidPair pair
  from : IsOneOf (side_class pair.from) side_classes
  to : IsOneOf (side_class pair.to) side_classes
  few : bits (decoded_type pair.from.desc) ≤ bits_of (is_rgb pair.from.desc)

converting_low : (pair : Pair) (s : Peaked) → IsListed pair
    → are_typed (Typed (decoded_type pair.from.desc)) (convert pair ++ encode pair.to.desc) ≡ true
    → peak_from (Typed (decoded_type pair.from.desc)) (convert pair ++ encode pair.to.desc) s < 2 ^ 126
converting_low pair s listed =
    let elem = decoded_type pair.from.desc in
    let from = side_class pair.from in
    let to = side_class pair.to in
    let rest = encode pair.to.desc in
    let ops = class_list from to pair.dither (least_limits pair) (greatest_limits pair) in
    subst (λ (c : List Op). are_typed (Typed elem) (c ++ rest) ≡ true → peak_from (Typed elem) (c ++ rest) s < 2 ^ 126)
    (sym (convert_classes pair)) (λ typed.
    from_whole (Typed elem) (bits_of from.rgb) (ops ++ rest) s
    (whole_no_fractions elem (whole_typed pair.from.desc listed.valid.from).whole) listed.few (fits_type from.rgb) typed
    (λ left left_typed under. classes_low from to pair.dither (least_limits pair) (greatest_limits pair) rest left listed.from
    (record {
      listed = listed.to;
      dither = listed.valid.dither;
      least_are = least_are pair;
      greatest_are = greatest_are pair listed.valid.to;
      whole = encode_whole pair.to.desc listed.valid.to;
    })
    under left_typed))

recipe_from_low : (pair : Pair) → IsListed pair → peak_from Start (recipe pair) start_peaked < 2 ^ 126
recipe_from_low pair listed =
    let d = decode pair.from.desc in
    let rest = convert pair ++ encode pair.to.desc in
    let stage = (whole_typed pair.from.desc listed.valid.from).stage in
    let typed : are_typed Start (d ++ rest) ≡ true =
    subst (λ (ops : List Op). are_typed Start ops ≡ true) (recipe_parts pair) (recipe_is_list pair listed.valid).typed in
    let behind : are_typed (Typed (decoded_type pair.from.desc)) rest ≡ true =
    subst (λ (n : Stage). are_typed n rest ≡ true) stage (typed_fronts Start d rest typed).1 in
    subst (λ (ops : List Op). peak_from Start ops start_peaked < 2 ^ 126) (sym (recipe_parts pair))
    (whole_front Start d rest start_peaked (decode_whole pair.from.desc listed.valid.from) (omega arith) (λ left positive.
    subst (λ (n : Stage). peak_from n rest left < 2 ^ 126) (sym stage) (converting_low pair left listed behind)))

pub recipe_is_low : (pair : Pair) → IsValidPair pair → IsOneOf (side_class pair.from) side_classes
    → IsOneOf (side_class pair.to) side_classes → bits (decoded_type pair.from.desc) ≤ bits_of (is_rgb pair.from.desc)
    → peak (recipe pair) < 2 ^ 126
unfolding peak
recipe_is_low pair valid from to small =
    omega (arith, recipe_from_low pair (record { valid = valid; from = from; to = to; few = small }))
