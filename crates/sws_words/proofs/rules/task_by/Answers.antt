use Rattle.std.proofs.Common.{◌≡◌, sym, rules, subst, false}
use Rattle.sws_words.specs.Given.{given_in}
use Rattle.sws_words.specs.Rules.{is_missing, is_unwanted}
use Rattle.sws_words.specs.Task.{AreSides, IsConversion, IsMaking}
use Rattle.sws_words.specs.declared.options.TaskName.TheVariants as task
use Rattle.sws_words.proofs.Sound.{making_names_source, ops_name_source, sound_conversion, sound_making, sound_sides}
use Rattle.sws_words.proofs.rules.task_by.Goals as goal

pub returns-in-Convert-clause-sound : goal.returns-in-Convert-clause-sound
returns-in-Convert-clause-sound c =
    let missing : is_missing (given_in c.args.given.now) task.Convert ≡ false = cc in
    let unwanted : is_unwanted (given_in c.args.given.now) task.Convert ≡ false = cc in
    subst IsConversion (sym c.conversion.ensures)
    (sound_conversion (given_in c.args.given.now) missing unwanted
    (search rules) (search rules) (search rules) (search rules) (search rules))

pub returns-in-Ops-clause-sound : goal.returns-in-Ops-clause-sound
returns-in-Ops-clause-sound c =
    let missing : is_missing (given_in c.args.given.now) task.Ops ≡ false = cc in
    let unwanted : is_unwanted (given_in c.args.given.now) task.Ops ≡ false = cc in
    subst AreSides (sym c.sides.ensures)
    (sound_sides (given_in c.args.given.now) (ops_name_source (given_in c.args.given.now) missing unwanted) (search rules) (search rules))

pub returns-in-Generate-clause-sound : goal.returns-in-Generate-clause-sound
returns-in-Generate-clause-sound c =
    let missing : is_missing (given_in c.args.given.now) task.Generate ≡ false = cc in
    let unwanted : is_unwanted (given_in c.args.given.now) task.Generate ≡ false = cc in
    subst IsMaking (sym c.making.ensures)
    (sound_making (given_in c.args.given.now)
    (sound_sides (given_in c.args.given.now) (making_names_source (given_in c.args.given.now) missing unwanted)
    (search rules) (search rules)))
