use Rattle.std.proofs.Common.{◌+◌, sym, ap, ◌∙◌, arith, drop, min}
use Rattle.std.specs.Str.Parse.{digits_value_after}
use Rattle.carousel_cid.proofs.Numbers.{digits_on, value_on}
use Rattle.carousel_cid.proofs.number.number_below.Goals as goal

pub loop-byte-preserved : goal.loop-byte-preserved
loop-byte-preserved c =
    let xs = c.args.text.now in
    let i = c.loop-byte.byte-index in
    let b = c.args.bound in
    let digit = sym c.is_ascii_digit.ensures.value ∙ c.if-not-is_ascii_digit.false in
    record {
      digits = digits_on xs i c.loop-byte-test.true digit ∙ c.loop-byte.invariant.digits;
      rest = ap (λ v. min (digits_value_after 10 v (drop (i + 1) xs)) b) c.min-value.ensures
          ∙ value_on c.loop-byte.value b xs i c.from.result c.loop-byte-test.true digit c.from.ensures ∙ c.loop-byte.invariant.rest;
      fits = omega arith;
    }
