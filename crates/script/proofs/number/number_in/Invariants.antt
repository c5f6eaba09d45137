-- The loop: held at the most, the value so far with the digits that are left behind it comes to that of all digits.
use Rattle.std.proofs.Common.{◌≡◌, min, ◌≤◌, drop}
use Rattle.std.specs.Str.{all_ascii_digits}
use Rattle.std.specs.Str.Parse.{digits_value, digits_value_after}
use Rattle.script.proofs.number.number_in.Given as goal

abbrev pub invariant-loop-digit : goal.invariant-loop-digit
invariant-loop-digit l = record {
  value : min l.most (digits_value_after 10 l.value (drop l.digit-index l.digits)) ≡ min l.most (digits_value 10 l.digits);
  held : l.value ≤ l.most;
  digits : all_ascii_digits (drop l.digit-index l.digits) ≡ all_ascii_digits l.digits;
}
