use Rattle.std.proofs.Common.{◌≡◌, true, sym}
use Rattle.fcast_words.specs.Numbers.{is_numeral}
use Rattle.fcast_words.proofs.Numbers.{too_large}
use Rattle.fcast_words.proofs.number.number_in.Goals as goal

pub returns-in-Err-clause-value : goal.returns-in-Err-clause-value
returns-in-Err-clause-value c =
    let numeral : is_numeral c.args.text.now ≡ true = cc in
    sym (too_large c.args.least c.args.greatest c.args.text.now c.ranges.greatest.fits numeral c.in-Err.ensures.value.0)
