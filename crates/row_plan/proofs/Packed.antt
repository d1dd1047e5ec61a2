-- Packed RGB formats: each component is a byte of plane 0.
use Rattle.std.proofs.Common.{◌≡◌, ℕ, ◌<◌, true, false, not, ◌&&◌, nat_eq, subst, arith, eqb-true}
use Rattle.std.specs.List.{list_all}
use Rattle.std.proofs.lemmas.Bool.{and_parts, not-true}
use Rattle.pix_desc.specs.declared.desc.Comp.{Comp}
use Rattle.pix_desc.specs.declared.desc.Desc.{Desc}
use Rattle.pix_desc.specs.Component.{components, component_of, no_component}
use Rattle.pix_desc.proofs.ComponentLists.{list_all-true, get_or-components, length-components}
use Rattle.row_plan.specs.PackedRgb.{is_whole_byte, is_packed_rgb}

-- what the test says
pub record IsPacked (desc : Desc) : Type 0 where
  pub little : desc.be ≡ false
  pub plain : desc.palette ≡ false
  pub whole : list_all is_whole_byte (components desc) ≡ true

pub packed_parts : (desc : Desc) → is_packed_rgb desc ≡ true → IsPacked desc
packed_parts desc test =
    let first = and_parts desc.rgb (not desc.be && (not desc.palette && list_all is_whole_byte (components desc))) test in
    let second = and_parts (not desc.be) (not desc.palette && list_all is_whole_byte (components desc)) first.1 in
    let third = and_parts (not desc.palette) (list_all is_whole_byte (components desc)) second.1 in
    record { little = not-true desc.be second.0; plain = not-true desc.palette third.0; whole = third.1 }

-- a component is a whole byte of plane 0
pub record IsByte (c : Comp) : Type 0 where
  pub plane : c.plane ≡ 0
  pub shift : c.shift ≡ 0
  pub depth : c.depth ≡ 8

byte_parts : (c : Comp) → is_whole_byte c ≡ true → IsByte c
byte_parts c test =
    let first = and_parts (nat_eq c.plane 0 && nat_eq c.shift 0) (nat_eq c.depth 8) test in
    let second = and_parts (nat_eq c.plane 0) (nat_eq c.shift 0) first.0 in
    record { plane = eqb-true c.plane 0 second.0; shift = eqb-true c.shift 0 second.1; depth = eqb-true c.depth 8 first.1 }

pub is_byte : (desc : Desc) (j : ℕ) → IsPacked desc → j < desc.count → IsByte (component_of desc j)
is_byte desc j packed listed =
    byte_parts (component_of desc j)
    (subst (λ c. is_whole_byte c ≡ true) (get_or-components desc j no_component listed)
    (list_all-true is_whole_byte (components desc) j no_component packed.whole (omega (arith, listed, length-components desc))))
