-- The rows of the jobs so far were gathered, and there is room for the others.
use Rattle.std.proofs.Common.{◌≡◌, ◌+◌, ◌≤◌, ◌++◌, length}
use Rattle.std.specs.Prelude.{vec_len}
use Rattle.std.specs.Vec.{vec_capacity}
use Rattle.frame_slices.specs.Gathering.{AreGathered}
use Rattle.frame_slices.proofs.gathering.gather.Given as goal

abbrev pub invariant-loop-job : goal.invariant-loop-job
invariant-loop-job l = record {
  walks : goal.iterator-loop-job.can_next l.job-iterator × goal.iterator-loop-job.is_finite l.job-iterator;
  count : l.next + length l.job-iterator.rest.items ≡ vec_len l.tokens;
  next : l.next ≡ length l.yielded;
  jobs : l.fn.jobs.items ≡ l.yielded ++ l.job-iterator.rest.items;
  room : vec_len l.rows + length l.job-iterator.rest.items ≤ vec_capacity l.rows;
  gathered : AreGathered l.yielded l.tokens.items l.rows.items;
}
