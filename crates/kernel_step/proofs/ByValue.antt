-- Operations that make each value from that value alone.
use Rattle.std.proofs.Common.{◌≡◌, ℕ, true, List}
use Rattle.std.specs.Prelude.{Option, Some, None, IfSome}
use Rattle.frac_math.specs.Fraction.{ℚ}
use Rattle.op_list.specs.declared.types.Stage.{Stage}
use Rattle.op_list.specs.declared.op.Op.{Op}
use Rattle.op_list.specs.declared.op.Op.TheVariants.{Dither, Scale, Min, Max}
use Rattle.kernel_step.specs.declared.form.Form.{Form}
use Rattle.kernel_step.specs.declared.form.NumberWidth.{NumberWidth}
use Rattle.kernel_step.specs.Forms.{AreMade, IsStep, width_of}
use Rattle.kernel_step.specs.ValueSteps.{is_by_value}

pub by_value : (P : Op → Type 0) → ((by : ℚ) → P (Scale by)) → ((limits : List (Option ℚ)) → P (Min limits))
    → ((limits : List (Option ℚ)) → P (Max limits)) → ((k : ℕ) → P (Dither k)) → (op : Op) → is_by_value op ≡ true → P op
by_value P scale lower higher dither (Scale by) h = scale by
by_value P scale lower higher dither (Min limits) h = lower limits
by_value P scale lower higher dither (Max limits) h = higher limits
by_value P scale lower higher dither (Dither k) h = dither k
by_value P scale lower higher dither op h = absurd (cc h)

pub made_is : (number_width : NumberWidth) (bits : ℕ) (op : Op) (stage : Stage) (before after : Form) → is_by_value op ≡ true
    → AreMade (width_of number_width) before op after
    → IsStep bits (width_of number_width) stage before op after
made_is number_width bits op stage before after kind made =
    by_value (λ op. AreMade (width_of number_width) before op after → IsStep bits (width_of number_width) stage before op after)
    (λ by m. m) (λ limits m. m) (λ limits m. m) (λ k m. m) op kind made

pub some_made : (number_width : NumberWidth) (bits : ℕ) (op : Op) (stage : Stage) (before : Form) (found : Option Form)
    → is_by_value op ≡ true → IfSome found (λ after. AreMade (width_of number_width) before op after)
    → IfSome found (λ after. IsStep bits (width_of number_width) stage before op after)
some_made number_width bits op stage before None kind made = tt
some_made number_width bits op stage before (Some after) kind made = made_is number_width bits op stage before after kind made
