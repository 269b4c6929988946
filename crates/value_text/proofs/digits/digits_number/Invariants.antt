use Rattle.std.proofs.Common.{◌≡◌, ◌^◌, ◌<◌, drop}
use Rattle.value_text.proofs.DigitLemmas.{number_after}
use Rattle.value_text.proofs.digits.digits_number.Given as goal

abbrev pub invariant-loop-byte : goal.invariant-loop-byte
invariant-loop-byte l = record {
  rest : number_after l.number (drop l.byte-index l.text) ≡ number_after 0 l.text;
  small : l.number < 10 ^ l.byte-index;
}
