use Rattle.std.proofs.Common.{ap, ◌∙◌}
use Rattle.std.specs.List.{list_all}
use Rattle.meta_text.specs.Text.{is_value_byte}
use Rattle.meta_text.proofs.Clean.{clean_text}
use Rattle.meta_text.proofs.text.is_clean.Goals as goal

pub returns : goal.returns
returns c = c.has_value_bytes.ensures ∙ ap (list_all is_value_byte) c.as_bytes.ensures.value ∙ clean_text c.args.text.now c.utf8.text
