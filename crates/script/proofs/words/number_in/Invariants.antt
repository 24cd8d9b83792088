use Rattle.std.proofs.Common.{◌≡◌, ◌<◌, ◌^◌, take, true}
use Rattle.std.specs.Str.Parse.{digits_value}
use Rattle.script.specs.Words.{all_digits}
use Rattle.script.proofs.words.number_in.Given as goal

abbrev pub invariant-digits : goal.invariant-digits
invariant-digits l = record {
  value : l.total ≡ digits_value l.radix (take l.byte-index l.digits);
  digits : all_digits l.radix (take l.byte-index l.digits) ≡ true;
  small : l.total < 2 ^ 64;
}
