use Rattle.std.proofs.Common.{length, take, drop, rules, arith, inl, inr, ap, ◌∙◌, length-drop}
use Rattle.std.proofs.lemmas.Bool.{cases_lt}
use Rattle.std.proofs.lemmas.List.{drop-drop}
use Rattle.edge_io.proofs.Fills.{front_more}
use Rattle.edge_io.proofs.fill.fill.Goals as goal

pub loop-got-preserved : goal.loop-got-preserved
loop-got-preserved g c =
    let now = c.in_ok-count.ensures in
    let before = c.loop-got.invariant in
    let left = g.B.Bytes.left c.args.source.now in
    let size = λ (t : g.B.Bytes.told c.args.source.now). ap length (before.rest t) ∙ length-drop c.loop-got.got left in
    record {
      within = search rules;
      told = search rules;
      room = λ t. let read = now.bytes (before.told t) in omega (arith, read.within, size t, before.room t);
      front = λ t. let read = now.bytes (before.told t) in
          front_more c.loop-got.got c.in_ok-count.count c.loop-got.out c.read.new.out _ left before.within now.within (before.front t)
          (read.front ∙ ap (λ l. take c.in_ok-count.count l) (before.rest t));
      rest = λ t. let read = now.bytes (before.told t) in
          read.rest ∙ ap (λ l. drop c.in_ok-count.count l) (before.rest t) ∙ drop-drop c.in_ok-count.count c.loop-got.got left;
      fewer = λ t p. let few = now.fewer (before.told t) in
          elim (cases_lt 0 c.loop-got.got) [ inl some ↦ before.fewer t some | inr none ↦ omega (arith, few, size t) ];
      grows = search rules;
    }
