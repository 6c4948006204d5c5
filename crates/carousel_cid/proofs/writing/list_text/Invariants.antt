-- the identifiers so far are written
use Rattle.std.proofs.Common.{◌≡◌, take}
use Rattle.carousel_cid.specs.Descriptor.{list_text}
use Rattle.carousel_cid.proofs.writing.list_text.Given as goal

abbrev pub invariant-loop-toi : goal.invariant-loop-toi
invariant-loop-toi l = l.list.items ≡ list_text (take l.toi-index l.listed)
