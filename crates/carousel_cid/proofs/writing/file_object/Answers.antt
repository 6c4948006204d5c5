use Rattle.std.proofs.Common.{◌≤◌, arith, subst, sym, length}
use Rattle.std.specs.Option.{option_copied}
use Rattle.meta_text.specs.Fields.{written}
use Rattle.carousel_cid.proofs.FileFields.{file_fields_length}
use Rattle.carousel_cid.proofs.writing.file_object.Goals as goal

pub write-requires : goal.write-requires
write-requires c =
    let most = file_fields_length c.args.location.now (option_copied c.args.kind) (length c.args.body.now) (omega (arith, c.type_inv.body)) in
    subst (λ fields. length (written fields) ≤ 4294967287) (sym c.in_ok-fields.ensures) (omega (arith, most))
