use Rattle.std.proofs.Common.{◌≡◌, sym, rules, Some, None}
use Rattle.carousel_cid.specs.Kinds.{kind_of_object}
use Rattle.carousel_cid.specs.declared.kind.Kind.TheVariants.{File, Unusable}
use Rattle.held_packets.specs.Whole.{whole}
use Rattle.receiver_core.proofs.Completing.{complete_none, complete_file, complete_unusable}
use Rattle.receiver_core.proofs.announcing.instance_of.Goals as goal

pub returns-in_default : goal.returns-in_default
returns-in_default c =
    let none : whole c.args.store.now.held c.args.candidate.now.toi ≡ None = search rules in
    sym (complete_none (whole c.args.store.now.held) c.args.candidate.now.toi none)

pub returns-in-File : goal.returns-in-File
returns-in-File c =
    let some : whole c.args.store.now.held c.args.candidate.now.toi ≡ Some c.in-Some.bytes.now = search rules in
    let is : kind_of_object c.in-Some.bytes.now ≡ File c.in-File.location c.in-File.kind c.in-File.body = search rules in
    complete_file (whole c.args.store.now.held) c.args.candidate.now.toi c.in-Some.bytes.now c.in-File.location c.in-File.kind c.in-File.body some is

pub returns : goal.returns
returns c =
    let some : whole c.args.store.now.held c.args.candidate.now.toi ≡ Some c.in-Some.bytes.now = search rules in
    let is : kind_of_object c.in-Some.bytes.now ≡ Unusable c.in-Unusable.field-0 = search rules in
    complete_unusable (whole c.args.store.now.held) c.args.candidate.now.toi c.in-Some.bytes.now c.in-Unusable.field-0 some is
