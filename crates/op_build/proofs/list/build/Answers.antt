use Rattle.std.proofs.Common.{sym, subst}
use Rattle.op_build.specs.Meaning.{MeansTargetRows}
use Rattle.op_build.proofs.recipe.Frames.{is_whole}
use Rattle.op_build.proofs.recipe.Means.{means_target}
use Rattle.op_build.proofs.list.build.Goals as goal

pub returns-clause-whole : goal.returns-clause-whole
returns-clause-whole c = rw c.in_ok-append_recipe.ensures.ok (is_whole c.args.pair.now)

pub returns-clause-meaning : goal.returns-clause-meaning
returns-clause-meaning c =
    let pair = c.args.pair.now in
    subst (MeansTargetRows pair) (sym c.in_ok-append_recipe.ensures.ok) (means_target pair c.requires c.if-pair.false)
