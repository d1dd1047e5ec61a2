-- What a slice was given with is one list of numbers, from which each part of it can be read.
use Rattle.std.proofs.Common.{◌≡◌, ℕ, Bool, true, false, ℤ, pos, negsuc, List, [], ◌∷◌, length, drop, get_or, refl, ap, arith}
use Rattle.pix_desc.specs.declared.desc.Comp.{Comp}
use Rattle.pix_desc.specs.declared.desc.Desc.{Desc}
use Rattle.colour_matrix.specs.declared.class.Range.{Range}
use Rattle.colour_matrix.specs.declared.class.Range.TheVariants.{Full, Limited}
use Rattle.pix_meaning.specs.declared.pair.Side.{Side}
use Rattle.pix_meaning.specs.declared.pair.Pair.{Pair}
use Rattle.row_plan.specs.Jobs.{flag_number, range_number, signed_number, component_before, components_before, desc_before, side_before}
use Rattle.row_plan.specs.Jobs.{pair_before, BeginsWith, slice_origin}

same_flag : (a b : Bool) → flag_number a ≡ flag_number b → a ≡ b
same_flag true true same = refl
same_flag true false same = absurd (omega (arith, same))
same_flag false true same = absurd (omega (arith, same))
same_flag false false same = refl

same_range : (a b : Range) → range_number a ≡ range_number b → a ≡ b
same_range Full Full same = refl
same_range Full Limited same = absurd (omega (arith, same))
same_range Limited Full same = absurd (omega (arith, same))
same_range Limited Limited same = refl

same_signed : (a b : ℤ) → signed_number a ≡ signed_number b → a ≡ b
same_signed (pos n) (pos m) same = ap pos (omega (arith, same))
same_signed (pos n) (negsuc m) same = absurd (omega (arith, same))
same_signed (negsuc n) (pos m) same = absurd (omega (arith, same))
same_signed (negsuc n) (negsuc m) same = ap negsuc (omega (arith, same))

-- the number at a place of two lists that are one
at : (k : ℕ) {xs ys : List ℕ} → xs ≡ ys → get_or xs k 0 ≡ get_or ys k 0
at k same = ap (λ l. get_or l k 0) same

same_component : (a b : Comp) (rest others : List ℕ) → component_before a rest ≡ component_before b others → (a ≡ b) × (rest ≡ others)
same_component a b rest others same =
    let offset = same_signed a.offset b.offset (at 2 same) in (
      λ i. record { plane = at 0 same i; step = at 1 same i; offset = offset i; shift = at 3 same i; depth = at 4 same i },
      ap (drop 5) same,
    )

same_four : (a b c d : Comp) (ys : List Comp) (rest others : List ℕ)
    → components_before (a ∷ b ∷ c ∷ d ∷ []) rest ≡ components_before ys others → ((a ∷ b ∷ c ∷ d ∷ []) ≡ ys) × (rest ≡ others)
same_four a b c d [] rest others same = absurd (omega (arith, ap length same))
same_four a b c d (e ∷ []) rest others same = absurd (omega (arith, ap length same))
same_four a b c d (e ∷ f ∷ []) rest others same = absurd (omega (arith, ap length same))
same_four a b c d (e ∷ f ∷ g ∷ []) rest others same = absurd (omega (arith, ap length same))
same_four a b c d (e ∷ f ∷ g ∷ h ∷ []) rest others same =
    let s0 = same_component a e _ _ same in
    let s1 = same_component b f _ _ s0.1 in
    let s2 = same_component c g _ _ s1.1 in
    let s3 = same_component d h rest others s2.1 in
    (λ i. s0.0 i ∷ s1.0 i ∷ s2.0 i ∷ s3.0 i ∷ [], s3.1)
same_four a b c d (e ∷ f ∷ g ∷ h ∷ k ∷ ys) rest others same = absurd (omega (arith, ap length same))

same_components : (xs ys : List Comp) (rest others : List ℕ) → length xs ≡ 4
    → components_before xs rest ≡ components_before ys others → (xs ≡ ys) × (rest ≡ others)
same_components [] ys rest others four same = absurd (omega (arith, four))
same_components (a ∷ []) ys rest others four same = absurd (omega (arith, four))
same_components (a ∷ b ∷ []) ys rest others four same = absurd (omega (arith, four))
same_components (a ∷ b ∷ c ∷ []) ys rest others four same = absurd (omega (arith, four))
same_components (a ∷ b ∷ c ∷ d ∷ []) ys rest others four same = same_four a b c d ys rest others same
same_components (a ∷ b ∷ c ∷ d ∷ e ∷ xs) ys rest others four same = absurd (omega (arith, four))

same_desc : (a b : Desc) (rest others : List ℕ) → length a.comps ≡ 4 → desc_before a rest ≡ desc_before b others
    → (a ≡ b) × (rest ≡ others)
same_desc a b rest others four same =
    let behind = same_components a.comps b.comps _ _ four (ap (drop 1) same) in
    let be = same_flag a.be b.be (at 0 behind.1) in
    let rgb = same_flag a.rgb b.rgb (at 1 behind.1) in
    let alpha = same_flag a.alpha b.alpha (at 2 behind.1) in
    let palette = same_flag a.palette b.palette (at 3 behind.1) in (
      λ i. record { count = at 0 same i; comps = behind.0 i; be = be i; rgb = rgb i; alpha = alpha i; palette = palette i },
      ap (drop 4) behind.1,
    )

same_side : (a b : Side) (rest others : List ℕ) → length a.desc.comps ≡ 4 → side_before a rest ≡ side_before b others
    → (a ≡ b) × (rest ≡ others)
same_side a b rest others four same =
    let behind = same_desc a.desc b.desc _ _ four same in
    let range = same_range a.range b.range (at 3 behind.1) in (
      λ i. record {
        desc = behind.0 i;
        matrix = record { q = at 0 behind.1 i; r = at 1 behind.1 i; b = at 2 behind.1 i };
        range = range i;
      },
      ap (drop 4) behind.1,
    )

-- both descriptors of a pair have four entries
pub record HasFourEntries (pair : Pair) : Type 0 where
  pub from : length pair.from.desc.comps ≡ 4
  pub to : length pair.to.desc.comps ≡ 4

-- numbers begin with those of one pair alone
pub same_pair : (a b : Pair) (rest others : List ℕ) → HasFourEntries a → pair_before a rest ≡ pair_before b others
    → (a ≡ b) × (rest ≡ others)
unfolding pair_before
same_pair a b rest others four same =
    let from = same_side a.from b.from _ _ four.from same in
    let to = same_side a.to b.to _ _ four.to from.1 in
    (λ i. record { from = from.0 i; to = to.0 i; dither = at 0 to.1 i }, ap (drop 1) to.1)

-- the pair of a slice is the one that its origin begins with
pub pair_of_origin : (a b : Pair) (width first rows : ℕ) (bytes : List ℕ) → HasFourEntries a
    → BeginsWith b (slice_origin a width first rows bytes) → a ≡ b
pair_of_origin a b width first rows bytes four begins = (same_pair a b (width ∷ first ∷ rows ∷ bytes) begins.0 four begins.1).0

-- slices of one origin have all in common that they were given with
pub record IsSameSlice (a b : Pair) (width first rows other_width other_first other_rows : ℕ) (bytes others : List ℕ) : Type 0 where
  pub pair : a ≡ b
  pub wide : width ≡ other_width
  pub start : first ≡ other_first
  pub tall : rows ≡ other_rows
  pub input : bytes ≡ others

pub same_slice : (a b : Pair) (width first rows other_width other_first other_rows : ℕ) (bytes others : List ℕ) → HasFourEntries a
    → slice_origin a width first rows bytes ≡ slice_origin b other_width other_first other_rows others
    → IsSameSlice a b width first rows other_width other_first other_rows bytes others
same_slice a b width first rows other_width other_first other_rows bytes others four same =
    let both = same_pair a b (width ∷ first ∷ rows ∷ bytes) (other_width ∷ other_first ∷ other_rows ∷ others) four same in
    record { pair = both.0; wide = at 0 both.1; start = at 1 both.1; tall = at 2 both.1; input = ap (drop 3) both.1 }
