use Rattle.std.proofs.Common.{◌≡◌, ◌∙◌, ap, sym, subst, rules, Some, None}
use Rattle.carousel_cid.specs.Instances.{IsListed}
use Rattle.held_packets.specs.Whole.{whole}
use Rattle.receiver_core.specs.Best.{files_of}
use Rattle.receiver_core.proofs.Finding.{not_complete, made, listed_files}
use Rattle.receiver_core.proofs.announcing.announced.Goals as goal

pub returns-in_default : goal.returns-in_default
returns-in_default c =
    let none : files_of (whole c.args.store.now.held) c.args.listed ≡ None = search rules in
    not_complete (whole c.args.store.now.held) c.args.toi c.args.number c.args.listed c.requires none

pub new-requires-2 : goal.new-requires-2
new-requires-2 c =
    let written : c.in_ok-listed.listed ≡ c.args.listed = c.in_ok-listed.ensures in
    let are : files_of (whole c.args.store.now.held) c.args.listed ≡ Some c.in-Some.files.items = search rules in
    let files : c.in-Some.files.items ≡ c.new.result = search rules in
    subst (λ ts. IsListed ts c.new.result) (sym written)
    (subst (λ fs. IsListed c.args.listed fs) files (listed_files (whole c.args.store.now.held) c.args.toi c.args.number c.args.listed c.in-Some.files.items c.requires are))

pub returns : goal.returns
returns c =
    let written : c.in_ok-listed.listed ≡ c.args.listed = c.in_ok-listed.ensures in
    let are : files_of (whole c.args.store.now.held) c.args.listed ≡ Some c.in-Some.files.items = search rules in
    let is = made (whole c.args.store.now.held) c.args.toi c.args.number c.args.listed c.in-Some.files.items c.requires are in
    let files : c.new.result ≡ c.in-Some.files.items = search rules in
    ap (λ i. Some i) (c.new-2.ensures
    ∙ (λ k. record { number = c.args.number; descriptor_toi = c.args.toi; listed = written k; files = files k })) ∙ is
