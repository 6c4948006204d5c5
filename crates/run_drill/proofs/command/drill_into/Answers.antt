use Rattle.std.proofs.Common.{◌≡◌, ◌∙◌, ℕ, List, length, ap, subst, rules}
use Rattle.std.specs.Prelude.{IfOk}
use Rattle.held_packets.specs.Verdict.{held_after}
use Rattle.receiver_core.specs.BestOf.{installed_after}
use Rattle.receiver_core.specs.Classes.{packets_of}
use Rattle.run_drill.specs.Drill.{deliveries, HoldsPart}
use Rattle.run_drill.specs.declared.summary.Summary.{Summary}
use Rattle.run_drill.proofs.DrillTaking.{on_ok, held_is, installed_is, all_held, is_summary}
use Rattle.run_base.proofs.Public.{on_error}
use Rattle.run_receive.proofs.Public.{fresh}
use Rattle.run_drill.proofs.command.drill_into.Goals as goal

pub feed-requires-clause-fresh : goal.feed-requires-clause-fresh
feed-requires-clause-fresh g c = fresh c.args.receiver.now 1 67108864 c.requires.fresh

pub returns-in_err-feed-clause-part : goal.returns-in_err-feed-clause-part
returns-in_err-feed-clause-part g c = on_error c.from_residual-in_err-feed.result _
    (subst (λ (ds : List (List ℕ)). HoldsPart ds c.feed.new.receiver.held) (c.as_slice.ensures.value ∙ c.in_ok-made.ensures.datagrams) c.in_err-feed.ensures.part)

pub returns-clause-held : goal.returns-clause-held
returns-clause-held g c =
    let fed = c.in_ok-feed.ensures in
    on_ok c.summed.result _ (held_is c.feed.new.receiver c.as_slice.result.now fed.tsi fed.budget fed.taken
    ∙ ap (λ (ds : List (List ℕ)). held_after 67108864 (packets_of 1 ds)) (c.as_slice.ensures.value ∙ c.in_ok-made.ensures.datagrams))

pub returns-clause-installed : goal.returns-clause-installed
returns-clause-installed g c =
    let fed = c.in_ok-feed.ensures in
    on_ok c.summed.result _ (installed_is c.feed.new.receiver c.as_slice.result.now fed.tsi fed.budget fed.taken
    ∙ ap (λ (ds : List (List ℕ)). installed_after 67108864 (packets_of 1 ds)) (c.as_slice.ensures.value ∙ c.in_ok-made.ensures.datagrams))

pub returns-clause-summary : goal.returns-clause-summary
returns-clause-summary g c =
    let made = c.in_ok-made.ensures in
    let fed = c.in_ok-feed.ensures in
    let few : c.len.result ≡ length c.in_ok-made.made.datagrams.items = search rules in
    subst (λ (t : Summary). IfOk c.summed.result (λ s. s ≡ t))
    (is_summary c.args.start _ _ _ made.sent
    (few ∙ ap (λ (ds : List (List ℕ)). length ds) made.datagrams)
    (c.installed.ensures ∙ installed_is c.feed.new.receiver c.as_slice.result.now fed.tsi fed.budget fed.taken
    ∙ ap (λ (ds : List (List ℕ)). installed_after 67108864 (packets_of 1 ds)) (c.as_slice.ensures.value ∙ made.datagrams)))
    c.summed.ensures

pub returns-clause-part : goal.returns-clause-part
returns-clause-part g c =
    let fed = c.in_ok-feed.ensures in
    on_error c.summed.result _ (all_held c.feed.new.receiver.held (deliveries c.args.start)
    (held_is c.feed.new.receiver c.as_slice.result.now fed.tsi fed.budget fed.taken
    ∙ ap (λ (ds : List (List ℕ)). held_after 67108864 (packets_of 1 ds)) (c.as_slice.ensures.value ∙ c.in_ok-made.ensures.datagrams)))
