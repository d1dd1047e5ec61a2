-- Calls of a source or a sink, one after the other.
use Rattle.std.proofs.Common.{◌≡◌, ℕ, ◌+◌, ◌-◌, ◌^◌, min, List, [], ◌++◌, Result, Ok, Err, refl, ◌∙◌, arith}
use Rattle.std.proofs.KnownBytes.{Consumes-trans, Appends-trans, Consumes-nil, Appends-nil}
use Rattle.pix_io.specs.Shown.{Shown}
use Rattle.pix_io.specs.Faults.{Rose, HasCause, HasNoFault}
use Rattle.pix_io.specs.Streams.{Takes, Writes}

-- a count that is raised by one, up to the last number
pub Rose-raised : (before now : ℕ) → now ≡ min (before + 1) (2 ^ 64 - 1) → Rose before now
Rose-raised before now is = grind arith

pub Rose-after : (a b c : ℕ) → b ≡ a → Rose b c → Rose a c
Rose-after a b c same rose = rw (← same) rose

pub Rose-kept : (a b c : ℕ) → c ≡ b → Rose a b → Rose a c
Rose-kept a b c same rose = rw same rose

pub HasNoFault-refl : (a : Shown) → HasNoFault a a
HasNoFault-refl a = record { faults = refl; made = refl }

pub HasNoFault-trans : (a b c : Shown) → HasNoFault a b → HasNoFault b c → HasNoFault a c
HasNoFault-trans a b c p q = record { faults = q.faults ∙ p.faults; made = q.made ∙ p.made }

-- a call after calls that did not fail
pub HasCause-after : {T E : Type 0} (a b c : Shown) (r : Result T E) → HasNoFault a b → HasCause b c r → HasCause a c r
HasCause-after a b c (Ok x) p q = record {
  later = omega (arith, p.faults, q.later);
  failed = tt;
  kept = q.kept ∙ p.faults;
  made = q.made
      ∙ p.made;
}
HasCause-after a b c (Err e) p q = record {
  later = omega (arith, p.faults, q.later);
  failed = Rose-after a.faults b.faults c.faults p.faults q.failed;
  kept = tt;
  made = q.made ∙ p.made;
}

-- a call that did not fail
pub HasCause-ok : {T E : Type 0} (a b : Shown) (x : T) → HasCause {T = T} {E = E} a b (Ok x) → HasNoFault a b
HasCause-ok a b x p = record { faults = p.kept; made = p.made }

pub Takes-trans : (a b c : Shown) (first second : List ℕ) → Takes a b first → Takes b c second → Takes a c (first ++ second)
Takes-trans a b c first second = Consumes-trans a.bytes b.bytes c.bytes first second

pub Takes-nil : (a : Shown) → Takes a a []
Takes-nil a = Consumes-nil a.bytes

pub Writes-trans : (a b c : Shown) (first second : List ℕ) → Writes a b first → Writes b c second → Writes a c (first ++ second)
Writes-trans a b c first second = Appends-trans a.bytes b.bytes c.bytes first second

pub Writes-nil : (a : Shown) → Writes a a []
Writes-nil a = Appends-nil a.bytes
