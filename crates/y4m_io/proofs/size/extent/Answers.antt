use Rattle.std.proofs.Common.{◌+◌, sym, ◌∙◌, arith}
use Rattle.std.proofs.lemmas.Str.Parse.{digits_value-take-le}
use Rattle.y4m_io.proofs.Extents.{extent_of-large, digit_value-digit, digits-next, all_digits-next}
use Rattle.y4m_io.proofs.size.extent.Goals as goal

pub returns-then-number-gt16384-clause-value : goal.returns-then-number-gt16384-clause-value
returns-then-number-gt16384-clause-value c =
    let value = digit_value-digit _ (sym c.if-not-is_ascii_digit.ensures.value) ∙ sym c.from.ensures in
    let next = digits-next c.args.text.now c.loop-digit.digit-index c.loop-digit.number c.from.result c.loop-digit-test.true
    c.loop-digit.invariant.value value in
    let least = digits_value-take-le 10 c.args.text.now (c.loop-digit.digit-index + 1) (omega arith) in
    extent_of-large c.args.text.now (omega (arith, next, least))

pub loop-digit-preserved : goal.loop-digit-preserved
loop-digit-preserved c =
    let digit = sym c.if-not-is_ascii_digit.ensures.value in
    record {
      value = digits-next c.args.text.now c.loop-digit.digit-index c.loop-digit.number c.from.result c.loop-digit-test.true
          c.loop-digit.invariant.value (digit_value-digit _ digit ∙ sym c.from.ensures);
      digits = all_digits-next c.args.text.now c.loop-digit.digit-index c.loop-digit-test.true c.loop-digit.invariant.digits digit;
      most = c.if-number-gt16384.false;
    }
