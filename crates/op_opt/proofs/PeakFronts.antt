-- A change of a list that does not raise the peak, at its place and behind other operations.
use Rattle.std.proofs.Common.{◌≡◌, ℕ, zero, suc, ◌+◌, ◌-◌, ◌*◌, ◌^◌, ◌<◌, ◌≤◌, Bool, true, false, ◌&&◌, ◌||◌, if◌then◌else◌, List, [], ◌∷◌}
use Rattle.std.proofs.Common.{nat_eq, nat_lt, max, sum, subst, refl, sym, ◌∙◌, ap, arith}
use Rattle.std.specs.Prelude.{slice_index}
use Rattle.std.proofs.lemmas.Bool.{and_from, and_parts}
use Rattle.op_list.specs.declared.types.Stage.{Stage}
use Rattle.op_list.specs.declared.op.Op.{Op}
use Rattle.op_list.specs.declared.op.Op.TheVariants.{Read, Write, SwapBytes, Unpack, Pack, Clear, LeftShift, RightShift, Swizzle}
use Rattle.op_list.specs.declared.op.Op.TheVariants.{Convert, Dither, Linear, Scale, Min, Max}
use Rattle.op_list.specs.Types.{is_rational, bits_at}
use Rattle.op_list.specs.Typing.{stage_after, are_typed}
use Rattle.op_list.specs.Values.{four, entry}
use Rattle.op_list.specs.Apply.{row_of}
use Rattle.op_list.proofs.Four.{get_or-four}
use Rattle.op_list.proofs.Typed.{typed_parts}
use Rattle.op_range.specs.Used.{is_used, any_of_four, is_missing, takes, used_before, used_from}
use Rattle.op_range.specs.Width.{fractions_width, whole_width, width_after}
use Rattle.op_range.proofs.AnyOfFour.{any_from}
use Rattle.op_range.proofs.Widths.{after_positive}
use Rattle.op_opt.specs.Peak.{Peaked, fractions_peak, peaked_after, peak_from}
use Rattle.op_opt.proofs.PeakSteps.{IsPart, Below, step_below, peaked, below_itself, fractions_after}

-- ---- what is used before more
or_split : {P : Type 0} (a b : Bool) → (a || b) ≡ true → (a ≡ true → P) → (b ≡ true → P) → P
or_split true b h left right = left refl
or_split false b h left right = right h

pub any_found : {P : Type 0} (test : ℕ → Bool) → any_of_four test ≡ true → ((j : ℕ) → j < 4 → test j ≡ true → P) → P
any_found test h found =
    or_split (test 0 || test 1 || test 2) (test 3) h
    (λ h2. or_split (test 0 || test 1) (test 2) h2
    (λ h1. or_split (test 0) (test 1) h1 (found 0 (omega arith)) (found 1 (omega arith)))
    (found 2 (omega arith))) (found 3 (omega arith))

any_part : (g h : ℕ → Bool) → ((j : ℕ) → j < 4 → g j ≡ true → h j ≡ true) → any_of_four g ≡ true → any_of_four h ≡ true
any_part g h each any = any_found g any (λ j below t. any_from h j below (each j below t))

pub four_part : (g h : ℕ → Bool) → ((i : ℕ) → i < 4 → g i ≡ true → h i ≡ true) → IsPart (four g) (four h)
four_part g h each = record { each = λ i below u. get_or-four h i false below ∙ each i below (sym (get_or-four g i false below) ∙ u) }

pub part_itself : (used : List Bool) → IsPart used used
part_itself used = record { each = λ i below u. u }

pub part_on : (less used more : List Bool) → IsPart less used → IsPart used more → IsPart less more
part_on less used more h k = record { each = λ i below u. k.each i below (h.each i below u) }

and_part : (a b c : Bool) → (a ≡ true → b ≡ true) → (a && c) ≡ true → (b && c) ≡ true
and_part a b c h t = let p = and_parts a c t in and_from b c (h p.0) p.1

pub used_part : (op : Op) (less used : List Bool) → IsPart less used → IsPart (used_before op less) (used_before op used)
unfolding used_before
used_part (Read elem planes palette) less used part = part
used_part (Write elem planes) less used part = part_itself (four (λ i. nat_lt i (sum planes)))
used_part SwapBytes less used part = part
used_part (Unpack widths) less used part =
    four_part (λ i. nat_eq i 0 && any_of_four (λ j. is_used less j && nat_lt 0 (slice_index widths j)))
    (λ i. nat_eq i 0 && any_of_four (λ j. is_used used j && nat_lt 0 (slice_index widths j)))
    (λ i below t. (let p = and_parts (nat_eq i 0) (any_of_four (λ j. is_used less j && nat_lt 0 (slice_index widths j))) t in
    and_from (nat_eq i 0) (any_of_four (λ j. is_used used j && nat_lt 0 (slice_index widths j))) p.0
    (any_part (λ j. is_used less j && nat_lt 0 (slice_index widths j)) (λ j. is_used used j && nat_lt 0 (slice_index widths j))
    (λ j inside u. and_part (is_used less j) (is_used used j) (nat_lt 0 (slice_index widths j)) (part.each j inside) u) p.1)))
used_part (Pack widths) less used part =
    four_part (λ i. is_used less 0 && nat_lt 0 (slice_index widths i)) (λ i. is_used used 0 && nat_lt 0 (slice_index widths i))
    (λ i below t. and_part (is_used less 0) (is_used used 0) (nat_lt 0 (slice_index widths i)) (part.each 0 (omega arith)) t)
used_part (Clear entries) less used part =
    four_part (λ i. is_used less i && is_missing (entry entries i)) (λ i. is_used used i && is_missing (entry entries i))
    (λ i below t. and_part (is_used less i) (is_used used i) (is_missing (entry entries i)) (part.each i below) t)
used_part (LeftShift n) less used part = part
used_part (RightShift n) less used part = part
used_part (Swizzle from) less used part =
    four_part (λ i. any_of_four (λ j. is_used less j && nat_eq (slice_index from j) i))
    (λ i. any_of_four (λ j. is_used used j && nat_eq (slice_index from j) i))
    (λ i below t. any_part (λ j. is_used less j && nat_eq (slice_index from j) i) (λ j. is_used used j && nat_eq (slice_index from j) i)
    (λ j inside u. and_part (is_used less j) (is_used used j) (nat_eq (slice_index from j) i) (part.each j inside) u) t)
used_part (Convert to expand) less used part = part
used_part (Dither k) less used part = part
used_part (Linear rows) less used part =
    four_part (λ i. any_of_four (λ j. is_used less j && takes (row_of rows j) i))
    (λ i. any_of_four (λ j. is_used used j && takes (row_of rows j) i))
    (λ i below t. any_part (λ j. is_used less j && takes (row_of rows j) i) (λ j. is_used used j && takes (row_of rows j) i)
    (λ j inside u. and_part (is_used less j) (is_used used j) (takes (row_of rows j) i) (part.each j inside) u) t)
used_part (Scale by) less used part = part
used_part (Min limits) less used part = part
used_part (Max limits) less used part = part

-- ---- a change that does not raise the peak, from any state that is not above
pub record Narrows (stage : Stage) (ops after : List Op) : Type 0 where
  pub used : are_typed stage ops ≡ true → IsPart (used_from after) (used_from ops)
  pub peak : (s t : Peaked) → are_typed stage ops ≡ true → 0 < s.width.denominator → 0 < t.width.denominator
      → (is_rational stage ≡ true → Below (used_from ops) s t) → peak_from stage after s ≤ max (2 ^ 32) (peak_from stage ops t)

pub no_more : (a f b d e : ℕ) → d * f ≡ e → 0 < e → a * f ≤ b → a ≤ b
no_more a zero b d e is p h = absurd (omega (arith, is, p))
no_more a (suc f) b d e is p h = let more : a * suc f ≡ a * f + a = omega arith in omega (arith, more, h)

head_below : (r : Bool) (used : List Bool) (s t : Peaked) → 0 < t.width.denominator → (r ≡ true → Below used s t)
    → (if r then s.peak else 0) ≤ (if r then t.peak else 0)
head_below true used s t p b = let h = b refl in no_more s.peak h.ratio t.peak s.width.denominator t.width.denominator h.denominator p
    h.peak
head_below false used s t p b = omega arith

both_most : (f a b c d : ℕ) → a ≤ c → b ≤ max f d → max a b ≤ max f (max c d)
both_most f a b c d h k = omega (arith, h, k)

used_behind : (op : Op) (ops after : List Op) → IsPart (used_from after) (used_from ops)
    → IsPart (used_from (op ∷ after)) (used_from (op ∷ ops))
unfolding used_from
used_behind op ops after part = used_part op (used_from after) (used_from ops) part

pub next_positive : (stage : Stage) (op : Op) (used : List Bool) (s : Peaked) → 0 < s.width.denominator
    → 0 < (peaked_after stage op used s).width.denominator
unfolding peaked_after
next_positive stage op used s p = after_positive stage op s.width p

used_of : (op : Op) (ops : List Op) → used_from (op ∷ ops) ≡ used_before op (used_from ops)
unfolding used_from
used_of op ops = refl

pub narrows_behind : (stage : Stage) (op : Op) (ops after : List Op) → Narrows (stage_after stage op) ops after
    → Narrows stage (op ∷ ops) (op ∷ after)
unfolding peak_from
narrows_behind stage op ops after h = record {
  used = λ typed. used_behind op ops after (h.used (typed_parts stage op ops typed).2);
  peak = λ s t typed p q b.
      (let parts = typed_parts stage op ops typed in
      let next = step_below stage op (used_from after) (used_from ops) s t parts.0 parts.1 p q (h.used parts.2)
      (λ r. subst (λ (u : List Bool). Below u s t) (used_of op ops) (b r)) in
      let new = peaked_after stage op (used_from after) s in
      let old = peaked_after stage op (used_from ops) t in
      let after_old = next_positive stage op (used_from ops) t q in
      both_most (2 ^ 32) (if is_rational (stage_after stage op) then new.peak else 0) (peak_from (stage_after stage op) after new)
      (if is_rational (stage_after stage op) then old.peak else 0) (peak_from (stage_after stage op) ops old)
      (head_below (is_rational (stage_after stage op)) (used_from ops) new old after_old next)
      (h.peak new old parts.2 (next_positive stage op (used_from after) s p) after_old next));
}

pub narrows_same : (stage : Stage) (ops : List Op) → Narrows stage ops ops
unfolding peak_from
narrows_same stage [] = record { used = λ typed. part_itself (used_from []); peak = λ s t typed p q b. omega arith }
narrows_same stage (op ∷ ops) = narrows_behind stage op ops ops (narrows_same (stage_after stage op) ops)

-- ---- the same, from one state
pub record Eases (stage : Stage) (ops after : List Op) : Type 0 where
  pub used : are_typed stage ops ≡ true → IsPart (used_from after) (used_from ops)
  pub peak : (s : Peaked) → are_typed stage ops ≡ true → 0 < s.width.denominator
      → peak_from stage after s ≤ max (2 ^ 32) (peak_from stage ops s)

most_on : (f a b c : ℕ) → a ≤ max f b → b ≤ max f c → a ≤ max f c
most_on f a b c h k = omega (arith, h, k)

pub eases_narrow : (stage : Stage) (ops after : List Op) → Eases stage ops after → Narrows stage ops after
eases_narrow stage ops after h = record {
  used = h.used;
  peak = λ s t typed p q b.
      most_on (2 ^ 32) (peak_from stage after s) (peak_from stage ops s) (peak_from stage ops t) (h.peak s typed p)
      ((narrows_same stage ops).peak s t typed p q b);
}

-- ---- at its place
pub tail_peak : (stage : Stage) (op : Op) (ops : List Op) (s : Peaked)
    → peak_from (stage_after stage op) ops (peaked_after stage op (used_from ops) s) ≤ peak_from stage (op ∷ ops) s
unfolding peak_from
tail_peak stage op ops s = omega arith

most_up : (f a b c : ℕ) → a ≤ max f b → b ≤ c → a ≤ max f c
most_up f a b c h k = omega (arith, h, k)

-- one operation is dropped
pub eases_dropped : (stage : Stage) (op : Op) (rest : List Op) → (are_typed stage (op ∷ rest) ≡ true → stage_after stage op ≡ stage)
    → (are_typed stage (op ∷ rest) ≡ true → IsPart (used_from rest) (used_before op (used_from rest)))
    → ((s : Peaked) → is_rational stage ≡ true → Below (used_from rest) s (peaked_after stage op (used_from rest) s))
    → Eases stage (op ∷ rest) rest
unfolding used_from
eases_dropped stage op rest same part below = record {
  used = part;
  peak = λ s typed p.
      (let is = same typed in
      let parts = typed_parts stage op rest typed in
      let after = peaked_after stage op (used_from rest) s in
      let along = (narrows_same stage rest).peak s after (subst (λ (n : Stage). are_typed n rest ≡ true) is parts.2) p
      (next_positive stage op (used_from rest) s p) (below s) in
      most_up (2 ^ 32) (peak_from stage rest s) (peak_from stage rest after) (peak_from stage (op ∷ rest) s) along
      (subst (λ (n : Stage). peak_from n rest after ≤ peak_from stage (op ∷ rest) s) is (tail_peak stage op rest s)));
}

-- the operation g in the place of others that end at this stage, with this state
given_peak : (stage last : Stage) (g : Op) (rest : List Op) (s t : Peaked) → stage_after stage g ≡ last → are_typed last rest ≡ true
    → 0 < s.width.denominator → 0 < t.width.denominator
    → (is_rational last ≡ true → Below (used_from rest) (peaked_after stage g (used_from rest) s) t)
    → peak_from stage (g ∷ rest) s ≤ max (2 ^ 32) (max (if is_rational last then t.peak else 0) (peak_from last rest t))
unfolding peak_from
given_peak stage last g rest s t is typed p q below =
    subst (λ (n : Stage). max (if is_rational n then (peaked_after stage g (used_from rest) s).peak else 0)
    (peak_from n rest (peaked_after stage g (used_from rest) s)) ≤ max (2 ^ 32) (max (if is_rational last then t.peak else 0)
    (peak_from last rest t))) (sym is)
    (both_most (2 ^ 32) (if is_rational last then (peaked_after stage g (used_from rest) s).peak else 0) (peak_from last rest
    (peaked_after stage g (used_from rest) s)) (if is_rational last then t.peak else 0) (peak_from last rest t)
    (head_below (is_rational last) (used_from rest) (peaked_after stage g (used_from rest) s) t q below)
    ((narrows_same last rest).peak (peaked_after stage g (used_from rest) s) t typed (next_positive stage g (used_from rest) s p) q below))

-- one for one
pub eases_one : (stage : Stage) (a g : Op) (rest : List Op) → stage_after stage g ≡ stage_after stage a
    → (are_typed stage (a ∷ rest) ≡ true → IsPart (used_before g (used_from rest)) (used_before a (used_from rest)))
    → ((s : Peaked) → are_typed stage (a ∷ rest) ≡ true → is_rational (stage_after stage a) ≡ true
    → Below (used_from rest) (peaked_after stage g (used_from rest) s) (peaked_after stage a (used_from rest) s))
    → Eases stage (a ∷ rest) (g ∷ rest)
unfolding used_from peak_from
eases_one stage a g rest is part below = record {
  used = part;
  peak = λ s typed p. given_peak stage (stage_after stage a) g rest s (peaked_after stage a (used_from rest) s) is (typed_parts stage a
      rest typed).2 p (next_positive stage a (used_from rest) s p) (below s typed);
}

-- one for two
pub eases_two : (stage : Stage) (a b g : Op) (rest : List Op) → (are_typed stage (a ∷ b ∷ rest) ≡ true
    → stage_after stage g ≡ stage_after (stage_after stage a) b)
    → (are_typed stage (a ∷ b ∷ rest) ≡ true → IsPart (used_before g (used_from rest)) (used_before a (used_before b (used_from rest))))
    → ((s : Peaked) → are_typed stage (a ∷ b ∷ rest) ≡ true → 0 < s.width.denominator
    → is_rational (stage_after (stage_after stage a) b) ≡ true
    → Below (used_from rest) (peaked_after stage g (used_from rest) s)
    (peaked_after (stage_after stage a) b (used_from rest) (peaked_after stage a (used_before b (used_from rest)) s)))
    → Eases stage (a ∷ b ∷ rest) (g ∷ rest)
unfolding used_from peak_from
eases_two stage a b g rest is part below = record {
  used = part;
  peak = λ s typed p.
      (let first = typed_parts stage a (b ∷ rest) typed in
      let second = typed_parts (stage_after stage a) b rest first.2 in
      let one = peaked_after stage a (used_before b (used_from rest)) s in
      let two = peaked_after (stage_after stage a) b (used_from rest) one in
      let last = stage_after (stage_after stage a) b in
      let q = next_positive stage a (used_before b (used_from rest)) s p in
      most_up (2 ^ 32) (peak_from stage (g ∷ rest) s) (max (if is_rational last then two.peak else 0) (peak_from last rest two))
      (peak_from stage (a ∷ b ∷ rest) s)
      (given_peak stage last g rest s two (is typed) second.2 p (next_positive (stage_after stage a) b (used_from rest) one q)
      (below s typed p))
      (tail_peak stage a (b ∷ rest) s));
}

-- none for two
pub eases_none : (stage : Stage) (a b : Op) (rest : List Op) → stage_after stage a ≡ stage → stage_after stage b ≡ stage
    → (are_typed stage (a ∷ b ∷ rest) ≡ true → IsPart (used_from rest) (used_before a (used_before b (used_from rest))))
    → ((s : Peaked) (used : List Bool) → is_rational stage ≡ true → peaked_after stage a used s ≡ s)
    → ((s : Peaked) (used : List Bool) → is_rational stage ≡ true → peaked_after stage b used s ≡ s) → Eases stage (a ∷ b ∷ rest) rest
unfolding used_from
eases_none stage a b rest same_a same_b part quiet_a quiet_b = record {
  used = part;
  peak = λ s typed p.
      (let first = typed_parts stage a (b ∷ rest) typed in
      let second = typed_parts stage b rest (subst (λ (n : Stage). are_typed n (b ∷ rest) ≡ true) same_a first.2) in
      let one = peaked_after stage a (used_before b (used_from rest)) s in
      let two = peaked_after stage b (used_from rest) one in
      let q = next_positive stage a (used_before b (used_from rest)) s p in
      let along = (narrows_same stage rest).peak s two (subst (λ (n : Stage). are_typed n rest ≡ true) same_b second.2) p
      (next_positive stage b (used_from rest) one q)
      (λ r. subst (λ (t : Peaked). Below (used_from rest) s t)
      (sym (quiet_b one (used_from rest) r ∙ quiet_a s (used_before b (used_from rest)) r)) (below_itself (used_from rest) s)) in
      let last = subst (λ (n : Stage). peak_from n rest two ≤ peak_from stage (b ∷ rest) one) same_b (tail_peak stage b rest one) in
      let first_tail = subst (λ (n : Stage). peak_from n (b ∷ rest) one ≤ peak_from stage (a ∷ b ∷ rest) s) same_a
      (tail_peak stage a (b ∷ rest) s) in
      most_up (2 ^ 32) (peak_from stage rest s) (peak_from stage (b ∷ rest) one) (peak_from stage (a ∷ b ∷ rest) s)
      (most_up (2 ^ 32) (peak_from stage rest s) (peak_from stage rest two) (peak_from stage (b ∷ rest) one) along last) first_tail);
}

-- one for three, where no fractions are left
pub eases_three : (stage : Stage) (a b c g : Op) (rest : List Op)
    → stage_after stage g ≡ stage_after (stage_after (stage_after stage a) b) c
    → (is_rational (stage_after (stage_after (stage_after stage a) b) c) ≡ true → ⊥)
    → IsPart (used_before g (used_from rest)) (used_before a (used_before b (used_before c (used_from rest))))
    → Eases stage (a ∷ b ∷ c ∷ rest) (g ∷ rest)
unfolding used_from peak_from
eases_three stage a b c g rest is whole part = record {
  used = λ typed. part;
  peak = λ s typed p.
      (let next = stage_after stage a in
      let later = stage_after next b in
      let last = stage_after later c in
      let used = used_from rest in
      let first = typed_parts stage a (b ∷ c ∷ rest) typed in
      let second = typed_parts next b (c ∷ rest) first.2 in
      let third = typed_parts later c rest second.2 in
      let one = peaked_after stage a (used_before b (used_before c used)) s in
      let two = peaked_after next b (used_before c used) one in
      let three = peaked_after later c used two in
      let q = next_positive stage a (used_before b (used_before c used)) s p in
      let q2 = next_positive next b (used_before c used) one q in
      most_up (2 ^ 32) (peak_from stage (g ∷ rest) s) (max (if is_rational last then three.peak else 0) (peak_from last rest three))
      (peak_from stage (a ∷ b ∷ c ∷ rest) s)
      (given_peak stage last g rest s three is third.2 p (next_positive later c used two q2) (λ r. absurd (whole r)))
      (up_three (peak_from later (c ∷ rest) two) (peak_from next (b ∷ c ∷ rest) one) (peak_from stage (a ∷ b ∷ c ∷ rest) s)
      (tail_peak next b (c ∷ rest) one) (tail_peak stage a (b ∷ c ∷ rest) s)));
}
  where
    up_three : (x y z : ℕ) → x ≤ y → y ≤ z → x ≤ z
    up_three x y z h k = omega (arith, h, k)

-- ---- operations on fractions, which leave fractions
pub after_fractions : (stage : Stage) (op : Op) (used : List Bool) (s : Peaked) → is_rational stage ≡ true
    → peaked_after stage op used s ≡ fractions_after op used s
unfolding peaked_after width_after
after_fractions stage op used s r =
    ap (λ (b : Bool). peaked (if b then fractions_width op s.width else whole_width (bits_at stage)) (if b then fractions_peak op used s
    else 2 ^ bits_at stage - 1)) r

pub drops_fractions : (stage : Stage) (op : Op) (rest : List Op) → stage_after stage op ≡ stage
    → IsPart (used_from rest) (used_before op (used_from rest))
    → ((s : Peaked) → Below (used_from rest) s (fractions_after op (used_from rest) s)) → Eases stage (op ∷ rest) rest
drops_fractions stage op rest same part below =
    eases_dropped stage op rest (λ typed. same) (λ typed. part)
    (λ s r. subst (λ (t : Peaked). Below (used_from rest) s t) (sym (after_fractions stage op (used_from rest) s r)) (below s))

pub one_fractions : (stage : Stage) (a g : Op) (rest : List Op) → stage_after stage g ≡ stage → stage_after stage a ≡ stage
    → (are_typed stage (a ∷ rest) ≡ true → IsPart (used_before g (used_from rest)) (used_before a (used_from rest)))
    → ((s : Peaked) → Below (used_from rest) (fractions_after g (used_from rest) s) (fractions_after a (used_from rest) s))
    → Eases stage (a ∷ rest) (g ∷ rest)
one_fractions stage a g rest same_g same_a part below =
    let used = used_from rest in
    eases_one stage a g rest (same_g ∙ sym same_a) part
    (λ s typed rational.
    (let r : is_rational stage ≡ true = sym (ap is_rational same_a) ∙ rational in
    subst (λ (t : Peaked). Below used t (peaked_after stage a used s)) (sym (after_fractions stage g used s r))
    (subst (λ (t : Peaked). Below used (fractions_after g used s) t) (sym (after_fractions stage a used s r)) (below s))))

pub two_fractions : (stage : Stage) (a b g : Op) (rest : List Op) → stage_after stage g ≡ stage → stage_after stage a ≡ stage
    → stage_after stage b ≡ stage
    → (are_typed stage (a ∷ b ∷ rest) ≡ true → IsPart (used_before g (used_from rest)) (used_before a (used_before b (used_from rest))))
    → ((s : Peaked) → are_typed stage (a ∷ b ∷ rest) ≡ true → 0 < s.width.denominator
    → Below (used_from rest) (fractions_after g (used_from rest) s)
    (fractions_after b (used_from rest) (fractions_after a (used_before b (used_from rest)) s)))
    → Eases stage (a ∷ b ∷ rest) (g ∷ rest)
two_fractions stage a b g rest same_g same_a same_b part below =
    let used = used_from rest in
    let before = used_before b (used_from rest) in
    eases_two stage a b g rest (λ typed. same_g ∙ sym (ap (λ (n : Stage). stage_after n b) same_a ∙ same_b)) part
    (λ s typed p rational.
    (let r : is_rational stage ≡ true = sym (ap is_rational (ap (λ (n : Stage). stage_after n b) same_a ∙ same_b)) ∙ rational in
    let one : peaked_after stage a before s ≡ fractions_after a before s = after_fractions stage a before s r in
    let two : peaked_after (stage_after stage a) b used (peaked_after stage a before s) ≡ fractions_after b used
    (fractions_after a before s) =
    ap (λ (n : Stage). peaked_after n b used (peaked_after stage a before s)) same_a ∙ after_fractions stage b used
    (peaked_after stage a before s) r
    ∙ ap (fractions_after b used) one in
    subst (λ (t : Peaked). Below used t (peaked_after (stage_after stage a) b used (peaked_after stage a before s)))
    (sym (after_fractions stage g used s r))
    (subst (λ (t : Peaked). Below used (fractions_after g used s) t) (sym two) (below s typed p))))
