use Rattle.std.proofs.Common.{arith, sym, ◌∙◌}
use Rattle.sender_plan.specs.Inner.Lines.{item_of}
use Rattle.sender_plan.proofs.Causes.{item_is}
use Rattle.sender_plan.proofs.line.read_file.Goals as goal

pub returns-clause-follows : goal.returns-clause-follows
returns-clause-follows c = (
  omega arith,
  item_is (item_of c.args.file) c.is_bad_text-else-is_bad_text.ensures.utf8 c.has_bad_kind.ensures.utf8 c.requires
      (sym c.is_bad_text-else-is_bad_text.ensures.bad ∙ c.if-is_bad_text-2.false) (sym c.has_bad_kind.ensures.bad ∙ c.if-has_bad_kind.false),
)
