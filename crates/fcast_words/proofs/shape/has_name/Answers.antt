use Rattle.std.proofs.Common.{◌≡◌, true, false, ◌∙◌, sym, arith}
use Rattle.std.specs.Str.{bytes_eq}
use Rattle.fcast_words.proofs.Scans.{name_here, name_later}
use Rattle.fcast_words.proofs.shape.has_name.Goals as goal

pub returns-then-eq : goal.returns-then-eq
returns-then-eq c =
    let same : bytes_eq c.index-words-place.result c.args.name.now ≡ true = rw (← c.as_str.ensures) (sym c.eq.ensures ∙ c.if-eq.true) in
    sym (name_here c.args.name.now c.args.words.now c.loop-place.place c.index-words-place.result c.loop-place-test.true c.index-words-place.is same)
    ∙ c.loop-place.invariant.rest

pub loop-place-preserved : goal.loop-place-preserved
loop-place-preserved c = record {
  within = omega arith;
  rest =
      let other : bytes_eq c.index-words-place.result c.args.name.now ≡ false = rw (← c.as_str.ensures) (sym c.eq.ensures ∙ c.if-eq.false) in
      name_later c.args.name.now c.args.words.now c.loop-place.place c.index-words-place.result (omega arith) c.index-words-place.is other ∙ c.loop-place.invariant.rest;
}
