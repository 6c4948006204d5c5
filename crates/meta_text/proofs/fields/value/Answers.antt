use Rattle.meta_text.specs.Inner.Spans.{value_at}
use Rattle.meta_text.proofs.Clean.{clean_is_utf8}
use Rattle.meta_text.proofs.fields.value.Goals as goal

pub as_text-requires : goal.as_text-requires
as_text-requires c = clean_is_utf8 (value_at c.args.text.now c.args.span) c.requires.value.clean
