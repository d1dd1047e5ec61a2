use Rattle.std.proofs.Common.{◌*◌, arith}
use Rattle.frame_slices.specs.Generated.{generated}
use Rattle.frame_slices.proofs.MadeBytes.{length-generated}
use Rattle.sws_run.specs.Frames.{target_held}
use Rattle.sws_run.specs.Report.{made_length}
use Rattle.sws_run.proofs.Made.{enough_left, frame_in_front, next_sum, no_sum, rest_behind, start_made}
use Rattle.sws_run.proofs.making.sum_targets.Goals as goal

pub loop-init : goal.loop-init
loop-init g c = record {
  here = start_made c.args.making.now c.new-generator.result.state c.new-generator.result.left c.from.result c.frame_len-count.result
      c.new-generator.ensures.state c.new-generator.ensures.left c.from.ensures c.frame_len-count.ensures.value;
  value = no_sum c.args.making.now;
  most = omega arith;
  fits = c.requires.frame;
}

pub convert_made_frame-requires-clause-enough : goal.convert_made_frame-requires-clause-enough
convert_made_frame-requires-clause-enough g c = λ κs bound.
    let making = c.args.making.now in
    let n = made_length making.pair in
    enough_left n c.loop.counter (generated making.seed (4 * n)) (generated c.loop.generator.state c.loop.generator.left)
    c.loop.invariant.here (length-generated making.seed (4 * n)) c.loop-test.true

pub loop-preserved : goal.loop-preserved
loop-preserved g c =
    let making = c.args.making.now in
    let k = c.loop.counter in
    let n = made_length making.pair in
    let all = generated making.seed (4 * n) in
    let here = generated c.loop.generator.state c.loop.generator.left in
    let rest = generated c.convert_made_frame.new.generator.state c.convert_made_frame.new.generator.left in
    let made = c.in_ok-frame.ensures.converted in
    let is = frame_in_front n k all here made.frame rest c.loop.invariant.here made.front made.size in
    record {
      here = rest_behind n k all here made.frame rest c.loop.invariant.here made.front made.size;
      value =
          omega (
            arith,
            c.loop.invariant.value,
            c.from-total.ensures,
            c.sum.ensures,
            next_sum making k made.frame (target_held c.in_ok-frame.frame) is made.converted,
          );
      most = omega (arith, c.loop.invariant.most, c.from-total.ensures, c.sum.type_inv);
      fits = c.in_ok-frame.ensures.whole;
    }
