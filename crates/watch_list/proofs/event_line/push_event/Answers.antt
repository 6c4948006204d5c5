use Rattle.std.proofs.Common.{◌++◌, ◌∙◌, sym, ap}
use Rattle.watch_list.specs.EventLines.{spaced, event_text}
use Rattle.watch_list.proofs.event_line.push_event.Goals as goal

pub returns-in-OverBudget-clause-text : goal.returns-in-OverBudget-clause-text
returns-in-OverBudget-clause-text c =
    let count = c.push_spaced-in-OverBudget.ensures.text ∙ ap (λ n. c.push_place-in-OverBudget.new.line.bytes ++ spaced n) c.from-in-OverBudget.ensures in
    let charge = c.push_spaced-in-OverBudget-2.ensures.text ∙ ap (λ n. c.push_spaced-in-OverBudget.new.line.bytes ++ spaced n) c.from-in-OverBudget-2.ensures in
    charge
    ∙ ap (λ t. t ++ spaced c.in-OverBudget.charge) (count ∙ ap (λ t. t ++ spaced c.in-OverBudget.count) c.push_place-in-OverBudget.ensures.text)
    ∙ sym (ap event_text c.in-OverBudget.is)
