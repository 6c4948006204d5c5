use Rattle.std.proofs.Common.{◌≡◌, arith}
use Rattle.carousel_cid.specs.declared.kind.Kind.TheVariants.{Descriptor}
use Rattle.carousel_cid.specs.Descriptor.{ReadsDescriptor, descriptor_bytes}
use Rattle.carousel_cid.specs.Kinds.{kind_of_object}
use Rattle.carousel_cid.proofs.ReadKinds.{descriptor_read}
use Rattle.carousel_cid.proofs.WrittenKinds.{reads_written_descriptor, at_answer}
use Rattle.carousel_cid.proofs.writing.write_descriptor.Goals as goal

pub returns-clause-spells : goal.returns-clause-spells
returns-clause-spells c =
    let number = c.args.number in
    let listed = c.args.listed.now in
    let reads = reads_written_descriptor number listed (omega arith) c.requires.few c.requires.different c.requires.small in
    at_answer (λ v. v.items) (λ o. ReadsDescriptor o number listed) c.descriptor_object.result (descriptor_bytes number listed) c.descriptor_object.ensures reads

pub returns-clause-read_again : goal.returns-clause-read_again
returns-clause-read_again c =
    let number = c.args.number in
    let listed = c.args.listed.now in
    let reads = reads_written_descriptor number listed (omega arith) c.requires.few c.requires.different c.requires.small in
    at_answer (λ v. v.items) (λ o. kind_of_object o ≡ Descriptor number listed) c.descriptor_object.result (descriptor_bytes number listed)
    c.descriptor_object.ensures (descriptor_read (descriptor_bytes number listed) number listed reads)
