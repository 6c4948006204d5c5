use Rattle.meta_text.specs.Inner.Spans.{name_at}
use Rattle.meta_text.proofs.Clean.{name_is_utf8}
use Rattle.meta_text.proofs.fields.name.Goals as goal

pub as_text-requires : goal.as_text-requires
as_text-requires c = name_is_utf8 (name_at c.args.text.now c.args.span) c.requires.name
