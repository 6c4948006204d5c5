-- the digits from here on, behind those so far, write the number; its value stays at the bound
use Rattle.std.proofs.Common.{◌≡◌, ◌≤◌, drop, min}
use Rattle.std.specs.Str.{all_ascii_digits}
use Rattle.std.specs.Str.Parse.{digits_value, digits_value_after}
use Rattle.carousel_cid.proofs.number.number_below.Given as goal

abbrev pub invariant-loop-byte : goal.invariant-loop-byte
invariant-loop-byte l = record {
  digits : all_ascii_digits (drop l.byte-index l.text) ≡ all_ascii_digits l.text;
  rest : min (digits_value_after 10 l.value (drop l.byte-index l.text)) l.bound ≡ min (digits_value 10 l.text) l.bound;
  fits : l.value ≤ l.bound;
}
