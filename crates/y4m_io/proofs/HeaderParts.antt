-- What the tags of a header line say, part by part.
use Rattle.std.proofs.Common.{◌≡◌, ℕ, true, false, List, refl, sym, subst}
use Rattle.std.specs.Prelude.{Result, Ok, Err, IfErr, IfSome, IsErrAnd}
use Rattle.std.specs.List.{list_all}
use Rattle.y4m_io.specs.declared.fault.StreamFault.{StreamFault}
use Rattle.y4m_io.specs.declared.fault.StreamFault.TheVariants.{BadTag}
use Rattle.y4m_io.specs.declared.fault.HeaderEnd.{HeaderEnd}
use Rattle.y4m_io.specs.declared.fault.HeaderEnd.TheVariants.{Stream}
use Rattle.y4m_io.specs.declared.header.Header.{Header}
use Rattle.y4m_io.specs.Tags.{letter, is_known_tag, text_of}
use Rattle.y4m_io.specs.HeaderLine.{size_of, colour_of, header_with, header_of}
use Rattle.y4m_io.specs.Reading.{header_fault}

module _ (tags : List (List ℕ)) where
  pub header_of-unknown : list_all is_known_tag tags ≡ false → header_of tags ≡ Err BadTag
  unfolding header_of
  header_of-unknown unknown = rw unknown refl

  pub header_of-known : (size : Result (ℕ × ℕ) StreamFault) (colour : Result ℕ StreamFault) → list_all is_known_tag tags ≡ true
      → size_of (text_of (letter "W") tags) (text_of (letter "H") tags) ≡ size → colour_of (text_of (letter "C") tags) ≡ colour
      → header_of tags ≡ header_with size colour tags
  unfolding header_of
  header_of-known size colour known sized coloured = rw (known, sized, coloured) refl

  pub header_of-unsized : (fault : StreamFault) → list_all is_known_tag tags ≡ true
      → size_of (text_of (letter "W") tags) (text_of (letter "H") tags) ≡ Err fault → header_of tags ≡ Err fault
  unfolding header_of
  header_of-unsized fault known sized = rw (known, sized) refl

-- the fault that a call hands on
pub fault_from : (result : Result Header HeaderEnd) (fault : StreamFault) (P : StreamFault → Type 0)
    → IsErrAnd result (λ end. end ≡ Stream fault) → P fault
    → IfErr result (λ end. IfSome (header_fault end) P)
fault_from (Ok header) fault P is holds = absurd is
fault_from (Err end) fault P is holds = subst (λ end. IfSome (header_fault end) P) (sym is) holds
