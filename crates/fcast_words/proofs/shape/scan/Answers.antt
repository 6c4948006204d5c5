use Rattle.std.proofs.Common.{◌≡◌, ◌+◌, true, false, drop, ◌∙◌, sym, arith}
use Rattle.fcast_words.specs.Pairs.{is_value}
use Rattle.fcast_words.specs.Shape.{is_name}
use Rattle.fcast_words.specs.Inner.Scan.{has_name}
use Rattle.fcast_words.proofs.Scans.{all_left, no_value, name_twice, good_pair}
use Rattle.fcast_words.proofs.shape.scan.Goals as goal

pub returns-then-words-place-lt2 : goal.returns-then-words-place-lt2
returns-then-words-place-lt2 c =
    sym (no_value c.args.words.now c.loop-place.place c.loop-place-test.true (omega arith)) ∙ c.loop-place.invariant.rest

pub returns-then-has_name : goal.returns-then-has_name
returns-then-has_name c =
    let again : has_name c.index-words-place.result (drop (c.loop-place.place + 2) c.args.words.now) ≡ true =
    rw (← all_left c.args.words.now (c.loop-place.place + 2), ← c.as_str-name.ensures) (sym c.has_name.ensures ∙ c.if-has_name.true) in
    sym (name_twice c.args.words.now c.loop-place.place c.index-words-place.result c.index-words-place-in-loop-place.result (omega arith)
    c.index-words-place.is c.index-words-place-in-loop-place.is again) ∙ c.loop-place.invariant.rest

pub loop-place-preserved : goal.loop-place-preserved
loop-place-preserved c = record {
  within = omega arith;
  rest =
      let name : is_name c.index-words-place.result ≡ true = cc in
      let value : is_value c.index-words-place-in-loop-place.result ≡ true = cc in
      let new : has_name c.index-words-place.result (drop (c.loop-place.place + 2) c.args.words.now) ≡ false =
      rw (← all_left c.args.words.now (c.loop-place.place + 2), ← c.as_str-name.ensures) (sym c.has_name.ensures ∙ c.if-has_name.false) in
      good_pair c.args.words.now c.loop-place.place c.index-words-place.result c.index-words-place-in-loop-place.result (omega arith)
      c.index-words-place.is c.index-words-place-in-loop-place.is name value new ∙ c.loop-place.invariant.rest;
}
