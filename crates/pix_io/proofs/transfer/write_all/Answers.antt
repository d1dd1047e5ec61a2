use Rattle.std.proofs.Common.{length, rules, take, subst, le_refl, ap}
use Rattle.std.proofs.lemmas.Slice.{between_to_end}
use Rattle.std.specs.Io.KnownBytes.{Appends}
use Rattle.pix_io.proofs.Parts.{Appends-next}
use Rattle.pix_io.proofs.transfer.write_all.Goals as goal

pub loop-done-preserved : goal.loop-done-preserved
loop-done-preserved g c =
    let piece = c.args.piece.now in
    let done = c.loop-done.done in
    let n = c.in_ok-done.field-0 in
    let rest = between_to_end piece done (length piece) (le_refl (length piece)) in
    record {
      within = search rules;
      written = Appends-next _ _ _ piece done n c.loop-done.invariant.written
          (subst (Appends _ _) (ap (take n) rest) c.in_ok-done.ensures.bytes);
      quiet = search rules;
    }
