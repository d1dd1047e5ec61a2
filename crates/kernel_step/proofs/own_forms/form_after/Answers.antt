use Rattle.std.proofs.Common.{rules, ◌≡◌, true}
use Rattle.kernel_step.specs.Forms.{bits_of}
use Rattle.kernel_step.specs.ValueSteps.{is_by_value}
use Rattle.kernel_step.proofs.ByValue.{some_made}
use Rattle.kernel_step.proofs.own_forms.form_after.Goals as goal

pub returns-in-Dither-clause-step : goal.returns-in-Dither-clause-step
returns-in-Dither-clause-step c =
    let kind : is_by_value c.args.op.now ≡ true = search rules in
    some_made c.args.number_width (bits_of c.args.storage) c.args.op.now c.args.stage c.args.before.now c.value_form.result kind
    c.value_form.ensures.made
