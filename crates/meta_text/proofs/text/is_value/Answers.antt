use Rattle.std.proofs.Common.{sym, ap, ◌∙◌}
use Rattle.meta_text.specs.Text.{trimmed}
use Rattle.meta_text.proofs.Trims.{IsValue-by_length}
use Rattle.meta_text.proofs.text.is_value.Goals as goal

pub returns-then-is_clean : goal.returns-then-is_clean
returns-then-is_clean c = IsValue-by_length c.args.text.now c.trimmed.result.now (c.trimmed.ensures ∙ ap trimmed c.as_bytes.ensures.value) (sym c.if-is_clean.ensures)
