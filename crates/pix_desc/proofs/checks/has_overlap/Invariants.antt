use Rattle.std.proofs.Common.{◌≡◌, length}
use Rattle.pix_desc.specs.Layouts.{some_two, some_pair, overlap}
use Rattle.pix_desc.proofs.checks.has_overlap.Given as goal

-- the components that are left overlap exactly where some of all of them do
abbrev pub invariant-loop-first : goal.invariant-loop-first
invariant-loop-first l = some_two (overlap l.desc) l.rest ≡ some_pair l.desc (overlap l.desc)

abbrev pub decreases-loop-first : goal.decreases-loop-first
decreases-loop-first l = length l.rest
