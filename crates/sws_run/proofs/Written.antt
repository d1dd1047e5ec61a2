-- Bytes that are written in several calls.
use Rattle.std.proofs.Common.{ℕ, ◌+◌, ◌<◌, List, ◌++◌, length, take, Result, Ok, Err, OnErr, sym, arith, subst, length-append}
use Rattle.std.proofs.Math.Seq.{take-append-add}
use Rattle.pix_io.specs.Shown.{Shown}
use Rattle.pix_io.specs.Streams.{Writes, WritesPart}
use Rattle.pix_io.proofs.Calls.{Writes-trans}

pub on_err_map : {T E : Type 0} (r : Result T E) (P Q : Type 0) → (P → Q) → OnErr r P → OnErr r Q
on_err_map (Ok x) P Q f p = tt
on_err_map (Err e) P Q f p = f p

-- a part of what follows
pub part_more : (a b c : Shown) (front frame : List ℕ) → Writes a b front → WritesPart b c frame → WritesPart a c (front ++ frame)
part_more a b c front frame first part = (
  length front + part.0,
  (let below : part.0 < length frame = part.1 in omega (arith, below, length-append front frame)),
  subst (Writes a c) (sym (take-append-add front frame part.0)) (Writes-trans a b c front (take part.0 frame) first part.2),
)
