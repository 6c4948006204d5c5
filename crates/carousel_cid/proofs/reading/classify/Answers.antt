use Rattle.std.proofs.Common.{◌≡◌, true, false, length, sym, ap, ◌∙◌}
use Rattle.compound_object.specs.Reading.{parts_of}
use Rattle.carousel_cid.specs.declared.kind.Cause.TheVariants.{KnownTwice, LengthDiffers}
use Rattle.carousel_cid.specs.Causes.{differs_from}
use Rattle.carousel_cid.proofs.Causes.{kind_caused, known_twice, length_differs, file_cause, descriptor_cause, file_kind, descriptor_kind, usable_when}
use Rattle.carousel_cid.proofs.reading.classify.Goals as goal

pub returns-then-is_known_twice-clause-kind : goal.returns-then-is_known_twice-clause-kind
returns-then-is_known_twice-clause-kind c =
    let parts = parts_of c.args.compound.now in
    sym (kind_caused parts KnownTwice (known_twice parts (sym c.is_known_twice.ensures ∙ c.if-is_known_twice.true)))

pub returns-then-differs_from-clause-kind : goal.returns-then-differs_from-clause-kind
returns-then-differs_from-clause-kind c =
    let parts = parts_of c.args.compound.now in
    let once = sym c.is_known_twice.ensures ∙ c.if-is_known_twice.false in
    let differs = ap (differs_from (length parts.body)) (sym c.value.ensures) ∙ sym c.differs_from.ensures ∙ c.if-differs_from.true in
    sym (kind_caused parts LengthDiffers (length_differs parts once differs))

pub returns-then-compound-clause-kind : goal.returns-then-compound-clause-kind
returns-then-compound-clause-kind c =
    let parts = parts_of c.args.compound.now in
    let once = sym c.is_known_twice.ensures ∙ c.if-is_known_twice.false in
    let same = ap (differs_from (length parts.body)) (sym c.value.ensures) ∙ sym c.differs_from.ensures ∙ c.if-differs_from.false in
    let is : parts.descriptor ≡ true = c.if-compound.true in
    rw (descriptor_kind parts is (descriptor_cause parts once same is)) c.descriptor.ensures.kind

pub returns-then-compound-clause-memory : goal.returns-then-compound-clause-memory
returns-then-compound-clause-memory c =
    let parts = parts_of c.args.compound.now in
    let once = sym c.is_known_twice.ensures ∙ c.if-is_known_twice.false in
    let same = ap (differs_from (length parts.body)) (sym c.value.ensures) ∙ sym c.differs_from.ensures ∙ c.if-differs_from.false in
    usable_when c.descriptor.result parts (rw (descriptor_cause parts once same c.if-compound.true) c.descriptor.ensures.memory)

pub returns-else-compound-clause-kind : goal.returns-else-compound-clause-kind
returns-else-compound-clause-kind c =
    let parts = parts_of c.args.compound.now in
    let once = sym c.is_known_twice.ensures ∙ c.if-is_known_twice.false in
    let same = ap (differs_from (length parts.body)) (sym c.value.ensures) ∙ sym c.differs_from.ensures ∙ c.if-differs_from.false in
    let is : parts.descriptor ≡ false = c.if-compound.false in
    rw (file_kind parts is (file_cause parts once same is)) c.file.ensures.kind

pub returns-else-compound-clause-memory : goal.returns-else-compound-clause-memory
returns-else-compound-clause-memory c =
    let parts = parts_of c.args.compound.now in
    let once = sym c.is_known_twice.ensures ∙ c.if-is_known_twice.false in
    let same = ap (differs_from (length parts.body)) (sym c.value.ensures) ∙ sym c.differs_from.ensures ∙ c.if-differs_from.false in
    usable_when c.file.result parts (rw (file_cause parts once same c.if-compound.false) c.file.ensures.memory)
