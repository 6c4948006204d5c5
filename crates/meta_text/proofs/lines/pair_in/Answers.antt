use Rattle.std.proofs.Common.{◌≡◌, ◌+◌, drop, sym, ap, ◌∙◌}
use Rattle.std.proofs.lemmas.List.{take_rest}
use Rattle.meta_text.specs.Text.{trimmed, is_clean}
use Rattle.meta_text.proofs.Trims.{IsValue-trimmed}
use Rattle.meta_text.proofs.Faults.{fault_no_colon, fault_bad_name, fault_bad_value, fault_none}
use Rattle.meta_text.proofs.lines.pair_in.Goals as goal

pub returns-in_default-clause-fault : goal.returns-in_default-clause-fault
returns-in_default-clause-fault c = fault_no_colon c.args.number c.args.line.now (sym c.in_default.ensures)

pub returns-in_default-name_from-clause-fault : goal.returns-in_default-name_from-clause-fault
returns-in_default-name_from-clause-fault c =
    fault_bad_name c.args.number c.args.line.now c.in-Some.colon (sym c.in-Some.ensures) c.in_default-name_from.ensures.none

pub returns-in_default-clean_text-clause-fault : goal.returns-in_default-clean_text-clause-fault
returns-in_default-clean_text-clause-fault c =
    let line = c.args.line.now in
    let at = c.in-Some.colon in
    let value : c.trimmed.result.now ≡ trimmed (drop (at + 1) line) = c.trimmed.ensures ∙ ap trimmed (take_rest line (at + 1)) in
    fault_bad_value c.args.number line at (sym c.in-Some.ensures) c.in-Some-name_from.ensures.name (ap is_clean (sym value) ∙ c.in_default-clean_text.ensures.none)

pub returns-clause-sound : goal.returns-clause-sound
returns-clause-sound c =
    let line = c.args.line.now in
    let at = c.in-Some.colon in
    let value : c.trimmed.result.now ≡ trimmed (drop (at + 1) line) = c.trimmed.ensures ∙ ap trimmed (take_rest line (at + 1)) in
    fault_none c.args.number line at (sym c.in-Some.ensures) c.in-Some-name_from.ensures.name (ap is_clean (sym value) ∙ c.in-Some-clean_text.ensures.clean)

pub returns-clause-is_value : goal.returns-clause-is_value
returns-clause-is_value c =
    let line = c.args.line.now in
    let at = c.in-Some.colon in
    let value : c.trimmed.result.now ≡ trimmed (drop (at + 1) line) = c.trimmed.ensures ∙ ap trimmed (take_rest line (at + 1)) in
    IsValue-trimmed c.in-Some-clean_text.value.now c.trimmed.result.now (drop (at + 1) line) c.in-Some-clean_text.ensures.text value c.in-Some-clean_text.ensures.clean
