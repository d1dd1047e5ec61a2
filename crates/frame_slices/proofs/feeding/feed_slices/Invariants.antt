-- The part of the slices so far was read, and they were handed over.
use Rattle.std.proofs.Common.{◌≡◌, ◌+◌, ◌*◌, ◌^◌, ◌≤◌, List, ◌++◌, length}
use Rattle.std.specs.Prelude.{vec_len}
use Rattle.std.specs.Vec.{vec_capacity}
use Rattle.pix_io.specs.Faults.{HasNoFault}
use Rattle.pix_io.specs.Streams.{Takes}
use Rattle.frame_slices.specs.declared.frame_slice.FrameSlice.{FrameSlice}
use Rattle.frame_slices.specs.Handing.{part_in, AreBut, AreHanded}
use Rattle.frame_slices.proofs.feeding.feed_slices.Given as goal

abbrev pub invariant-loop-slice : goal.invariant-loop-slice
invariant-loop-slice g l = record {
  walks : (goal.iterator-loop-slice g).can_next l.slice-iterator × (goal.iterator-loop-slice g).is_finite l.slice-iterator;
  whole : l.fn.slices.items ≡ l.yielded ++ l.slice-iterator.rest.items;
  done : List FrameSlice;
  count : length done ≡ l.next;
  but : AreBut l.part l.yielded done;
  taken : Takes (g.In.Source.shown l.fn.input) (g.In.Source.shown l.input) (part_in l.part done);
  quiet : HasNoFault (g.In.Source.shown l.fn.input) (g.In.Source.shown l.input);
  filled : l.filled ≡ length (part_in l.part done);
  small : l.filled ≤ l.next * 2 ^ 34;
  handed : AreHanded l.cells done l.tokens.items;
  cells : l.next + length l.slice-iterator.rest.items ≡ length l.cells;
  few : l.next + length l.slice-iterator.rest.items ≤ 16384;
  room : vec_len l.tokens + length l.slice-iterator.rest.items ≤ vec_capacity l.tokens;
}
