use Rattle.colour_matrix.proofs.LevelLaws.{scale_positive, to_code-from_code, from_code-to_code}
use Rattle.colour_matrix.proofs.level_table.levels.Goals as goal

pub returns-clause-scale : goal.returns-clause-scale
returns-clause-scale c = rw c.scale_of.ensures (scale_positive c.args.class c.args.depth c.args.range c.requires.some_depth)

pub returns-clause-code_back : goal.returns-clause-code_back
returns-clause-code_back c = λ code.
    to_code-from_code (record { scale = c.scale_of.result; base = c.base_of.result }) code (returns-clause-scale c)

pub returns-clause-value_back : goal.returns-clause-value_back
returns-clause-value_back c = λ e.
    from_code-to_code (record { scale = c.scale_of.result; base = c.base_of.result }) e (returns-clause-scale c)
