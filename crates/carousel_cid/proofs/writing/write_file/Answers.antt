use Rattle.std.proofs.Common.{◌≡◌, ◌<◌, ◌^◌, length, arith}
use Rattle.std.specs.Option.{option_copied}
use Rattle.carousel_cid.specs.declared.kind.Kind.TheVariants.{File}
use Rattle.carousel_cid.specs.File.{ReadsFile, file_bytes}
use Rattle.carousel_cid.specs.Kinds.{kind_of_object}
use Rattle.carousel_cid.proofs.ReadKinds.{file_read}
use Rattle.carousel_cid.proofs.WrittenKinds.{reads_written_file, type_copied, at_answer}
use Rattle.carousel_cid.proofs.writing.write_file.Goals as goal

pub returns-clause-spells : goal.returns-clause-spells
returns-clause-spells c =
    let location = c.args.location.now in
    let kind = option_copied c.args.kind in
    let body = c.args.body.now in
    let small : length body < 2 ^ 64 = omega (arith, c.type_inv.body) in
    let reads = reads_written_file location kind body c.requires.somewhere c.requires.location (type_copied c.args.kind c.requires.kind) small c.requires.texts in
    at_answer (λ v. v.items) (λ o. ReadsFile o location kind body) c.file_object.result (file_bytes location kind body) c.file_object.ensures reads

pub returns-clause-read_again : goal.returns-clause-read_again
returns-clause-read_again c =
    let location = c.args.location.now in
    let kind = option_copied c.args.kind in
    let body = c.args.body.now in
    let small : length body < 2 ^ 64 = omega (arith, c.type_inv.body) in
    let reads = reads_written_file location kind body c.requires.somewhere c.requires.location (type_copied c.args.kind c.requires.kind) small c.requires.texts in
    at_answer (λ v. v.items) (λ o. kind_of_object o ≡ File location kind body) c.file_object.result (file_bytes location kind body)
    c.file_object.ensures (file_read (file_bytes location kind body) location kind body reads)
