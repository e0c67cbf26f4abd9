use Rattle.std.proofs.Common.{◌≡◌, ◌<◌, ◌^◌, true, take}
use Rattle.std.specs.Str.{all_ascii_digits}
use Rattle.desk_base.proofs.DecimalLemmas.{number_on}
use Rattle.desk_base.proofs.decimal.number_of_digits.Given as goal

abbrev pub invariant-loop-byte : goal.invariant-loop-byte
invariant-loop-byte l = record {
  digits : all_ascii_digits (take l.byte-index l.text) ≡ true;
  is : l.number ≡ number_on 0 (take l.byte-index l.text);
  small : l.number < 10 ^ l.byte-index;
}
