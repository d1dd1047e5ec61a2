use Rattle.std.proofs.Common.{◌≡◌, drop}
use Rattle.op_list.specs.declared.types.Stage.TheVariants.{Start}
use Rattle.op_list.specs.Values.{no_values}
use Rattle.op_list.specs.Run.{MayRun, checked_run_from}
use Rattle.op_list.proofs.run.values_after.Given as goal

abbrev pub invariant-loop-op : goal.invariant-loop-op
invariant-loop-op l = record {
  rest : MayRun l.frame l.position l.stage (drop l.op-index l.ops) l.values;
  same : checked_run_from l.frame l.position Start l.ops no_values
      ≡ checked_run_from l.frame l.position l.stage (drop l.op-index l.ops) l.values;
}
