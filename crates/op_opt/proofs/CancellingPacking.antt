-- Cancel unpack and pack.
use Rattle.std.proofs.Common.{◌≡◌, ℕ, zero, suc, ◌+◌, ◌*◌, ◌/◌, ◌%◌, ◌^◌, ◌<◌, Bool, true, false, not, ◌&&◌, List, [], ◌∷◌, length}
use Rattle.std.proofs.Common.{eqb-true, pow_pos, mod-lt, mod-eq_of_lt, subst, refl, sym, ◌∙◌, ap, arith}
use Rattle.std.specs.Prelude.{None, sum, nat_eq}
use Rattle.std.specs.Str.{bytes_eq}
use Rattle.std.proofs.lemmas.Slice.Eq.{bytes_eq-Decides}
use Rattle.std.proofs.lemmas.Option.{same_Some, none-some}
use Rattle.std.proofs.lemmas.Bool.{and_parts, both_ways}
use Rattle.std.proofs.lemmas.Nat.{mod-pow-add}
use Rattle.op_list.specs.declared.types.Stage.{Stage}
use Rattle.op_list.specs.declared.position.PixelPosition.{PixelPosition}
use Rattle.op_list.specs.declared.op.Op.{Op}
use Rattle.op_list.specs.declared.op.Op.TheVariants.{Unpack, Pack}
use Rattle.op_list.specs.declared.values.Values.{Values}
use Rattle.op_list.specs.declared.values.Values.TheVariants.{Numbers}
use Rattle.op_list.specs.Types.{bits_at, is_rational}
use Rattle.op_list.specs.Typing.{may_follow, stage_after, stage_from, are_typed}
use Rattle.op_list.specs.Values.{four, number, are_fractions}
use Rattle.op_list.specs.Whole.{field}
use Rattle.op_list.specs.Apply.{apply, packed}
use Rattle.op_list.specs.Run.{run_from}
use Rattle.op_list.proofs.Applied.{whole_not_rational}
use Rattle.op_list.proofs.Four.{from_four}
use Rattle.op_list.proofs.Typed.{typed_parts, typed_none}
use Rattle.op_list.proofs.Wholes.{last_behind}
use Rattle.op_range.specs.declared.range.ValueRange.{ValueRange}
use Rattle.op_range.specs.Used.{is_used, used_from, Agree}
use Rattle.op_opt.specs.declared.change.Change.{Change}
use Rattle.op_opt.specs.CancelPacking.{uses_first_alone, fill, cancel_packing}
use Rattle.op_opt.specs.Weight.{weight, weight_of}
use Rattle.op_opt.proofs.PassedTests.{chosen, from_not}
use Rattle.op_opt.proofs.Unchanged.{no_fraction}
use Rattle.op_opt.proofs.Replacing.{IsSound, Replaces, Replacement, same_by_agreement}

-- ---- the fields of a number, put together again
-- a field in its place
in_place : ℕ → ℕ → ℕ → ℕ
in_place n width below = n / 2 ^ below % 2 ^ width % 2 ^ width * 2 ^ below

next_part : (n width below : ℕ) → n % 2 ^ (width + below) ≡ in_place n width below + n % 2 ^ below
unfolding in_place
next_part n width below =
    mod-pow-add n width below ∙ sym (ap (λ k. k * 2 ^ below + n % 2 ^ below) (mod-eq_of_lt (mod-lt (n / 2 ^ below) (pow_pos width))))

four_parts : (n a b c d : ℕ) → n % 2 ^ (a + (b + (c + (d + 0))))
    ≡ in_place n a (b + (c + (d + 0))) + in_place n b (c + (d + 0)) + in_place n c (d + 0) + in_place n d 0
four_parts n a b c d =
    let none : n % 2 ^ 0 ≡ 0 = omega arith in
    omega (arith, none, next_part n a (b + (c + (d + 0))), next_part n b (c + (d + 0)), next_part n c (d + 0), next_part n d 0)

together : (widths : List ℕ) (n : ℕ) → length widths ≡ 4 → n < 2 ^ sum widths → packed widths (Numbers (four (λ i. field widths n i))) ≡ n
unfolding in_place
together widths n size =
    from_four (λ ws. n < 2 ^ sum ws → packed ws (Numbers (four (λ i. field ws n i))) ≡ n) widths size
    (λ a b c d below.
    (let all : 0 + a + b + c + d ≡ a + (b + (c + (d + 0))) = omega arith in
    let p : 0 + b + c + d ≡ b + (c + (d + 0)) = omega arith in
    let q : 0 + c + d ≡ c + (d + 0) = omega arith in
    let r : 0 + d ≡ d + 0 = omega arith in
    let whole : n % 2 ^ (0 + a + b + c + d) ≡ n = mod-eq_of_lt below in
    ap (λ k. in_place n a k + in_place n b (0 + c + d) + in_place n c (0 + d) + in_place n d 0) p
    ∙ ap (λ k. in_place n a (b + (c + (d + 0))) + in_place n b k + in_place n c (0 + d) + in_place n d 0) q
    ∙ ap (λ k. in_place n a (b + (c + (d + 0))) + in_place n b (c + (d + 0)) + in_place n c k + in_place n d 0) r
    ∙ sym (four_parts n a b c d) ∙ sym (ap (λ k. n % 2 ^ k) all) ∙ whole))

-- ---- the values
abbrev twice : List ℕ → Values → Values
twice widths v = Numbers (packed widths (Numbers (four (λ i. field widths (number v 0) i))) ∷ 0 ∷ 0 ∷ 0 ∷ [])

only_first : (used : List Bool) (i : ℕ) → uses_first_alone used ≡ true → is_used used (suc i) ≡ true → i < 3 → ⊥
only_first used i alone u below =
    let p = and_parts (not (is_used used 1) && not (is_used used 2)) (not (is_used used 3)) alone in
    let q = and_parts (not (is_used used 1)) (not (is_used used 2)) p.0 in
    at_index i below q.0 q.1 p.1 u
  where
    at_index : (k : ℕ) → k < 3 → not (is_used used 1) ≡ true → not (is_used used 2) ≡ true → not (is_used used 3) ≡ true
        → is_used used (suc k) ≡ true → ⊥
    at_index zero h x y z t = both_ways (is_used used 1) (from_not _ x) t
    at_index (suc zero) h x y z t = both_ways (is_used used 2) (from_not _ y) t
    at_index (suc (suc zero)) h x y z t = both_ways (is_used used 3) (from_not _ z) t
    at_index (suc (suc (suc k))) h x y z t = omega arith

first_same : (used : List Bool) (widths : List ℕ) (v : Values) (i : ℕ) → uses_first_alone used ≡ true → packed widths (Numbers (four
    (λ k. field widths (number v 0) k))) ≡ number v 0
    → i < 4 → is_used used i ≡ true → number v i ≡ number (twice widths v) i
first_same used widths v zero alone same below u = sym same
first_same used widths v (suc i) alone same below u = absurd (only_first used i alone u (omega arith))

agrees : (used : List Bool) (widths : List ℕ) (v : Values) → uses_first_alone used ≡ true → length widths ≡ 4
    → number v 0 < 2 ^ sum widths → are_fractions v ≡ false
    → Agree used v (twice widths v)
agrees used widths v alone size small kind = record {
  kind = kind;
  numbers = λ i below u. first_same used widths v i alone (together widths (number v 0) size small) below u;
  fractions = λ i below u. no_fraction v i kind;
}

runs : (frame : List ℕ) (position : PixelPosition) (stage : Stage) (widths : List ℕ) (used : List Bool) (v : Values)
    → Agree used v (twice widths v)
    → Agree used (run_from frame position stage [] v) (run_from frame position stage (Unpack widths ∷ Pack widths ∷ []) v)
unfolding run_from apply stage_after
runs frame position stage widths used v h = h

-- ---- the type
lighter : (fields widths : List ℕ) → weight [] < weight (Unpack fields ∷ Pack widths ∷ [])
unfolding weight weight_of
lighter fields widths = omega arith

stays : (stage : Stage) (fields widths : List ℕ) → stage_from stage [] ≡ stage_from stage (Unpack fields ∷ Pack widths ∷ [])
unfolding stage_from stage_after
stays stage fields widths = refl

whole_here : (stage : Stage) (widths : List ℕ) (rest : List Op) → are_typed stage (Unpack widths ∷ rest) ≡ true → is_rational stage ≡ false
unfolding may_follow
whole_here stage widths rest h = whole_not_rational stage (typed_parts stage (Unpack widths) rest h).0

replaces : (stage : Stage) (ranges : List ValueRange) (widths : List ℕ) (rest : List Op) → length widths ≡ 4
    → sum widths ≡ bits_at stage → uses_first_alone (used_from rest) ≡ true
    → Replaces stage ranges (Unpack widths ∷ Pack widths ∷ []) None rest
replaces stage ranges widths rest size fills alone = record {
  inner = refl;
  unread = refl;
  lighter = lighter widths widths;
  typed = λ h. (typed_none stage, stays stage widths widths);
  same = λ frame position v at.
      same_by_agreement frame position stage (Unpack widths ∷ Pack widths ∷ []) rest None v at.typed
      (last_behind (Pack widths) rest refl (last_behind (Unpack widths) (Pack widths ∷ rest) refl at.last)) (stays stage widths widths)
      (runs frame position stage widths (used_from rest) v
      (agrees (used_from rest) widths v alone size (subst (λ (k : ℕ). number v 0 < 2 ^ k) (sym fills) (at.small.each 0 (omega arith)))
      (at.kind ∙ whole_here stage widths (Pack widths ∷ rest) at.typed)));
}

pub cancel_packing_sound : IsSound (λ stage ranges ops. cancel_packing stage ops)
unfolding cancel_packing
cancel_packing_sound stage ranges (Unpack fields ∷ Pack widths ∷ rest) change is =
    let c = chosen (bytes_eq fields widths && fill (bits_at stage) fields && uses_first_alone (used_from rest)) _ change is in
    let p = and_parts (bytes_eq fields widths && fill (bits_at stage) fields) (uses_first_alone (used_from rest)) c.0 in
    let r = and_parts (bytes_eq fields widths) (fill (bits_at stage) fields) p.0 in
    let q = and_parts (nat_eq (length fields) 4) (nat_eq (sum fields) (bits_at stage)) r.1 in
    let same : fields ≡ widths = (bytes_eq-Decides fields widths).0 r.0 in
    subst (λ (d : Change). Replacement stage ranges (Unpack fields ∷ Pack widths ∷ rest) d) (same_Some _ change c.1)
    (record {
      old = Unpack fields ∷ Pack widths ∷ [];
      rest = rest;
      split = refl;
      behind = refl;
      replaces = subst (λ (ws : List ℕ). Replaces stage ranges (Unpack fields ∷ Pack ws ∷ []) None rest) same
          (replaces stage ranges fields rest (eqb-true (length fields) 4 q.0) (eqb-true (sum fields) (bits_at stage) q.1) p.1);
    })
cancel_packing_sound stage ranges _ change is = absurd (none-some change is)
