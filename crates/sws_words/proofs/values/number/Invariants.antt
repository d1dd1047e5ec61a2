-- The digits that are left give the number, and it has no more digits than were read.
use Rattle.std.proofs.Common.{◌≡◌, ◌<◌, ◌^◌, drop}
use Rattle.sws_words.specs.Values.{digits_after}
use Rattle.sws_words.proofs.values.number.Given as goal

abbrev pub invariant-loop-digit : goal.invariant-loop-digit
invariant-loop-digit l = record {
  read : digits_after l.value (drop l.digit-index l.digits) ≡ digits_after 0 l.digits;
  small : l.value < 10 ^ l.digit-index;
}
