use Rattle.std.proofs.Common.{◌∙◌, arith, subst, sym}
use Rattle.meta_text.specs.Text.{IsValue}
use Rattle.carousel_cid.proofs.Values.{decimal_is_value}
use Rattle.carousel_cid.proofs.writing.file_fields.Goals as goal

pub push-requires-2-clause-value : goal.push-requires-2-clause-value
push-requires-2-clause-value c =
    subst IsValue (sym (c.as_str.ensures.value ∙ c.in_ok-length.ensures.ok)) (decimal_is_value c.args.size (omega arith))
