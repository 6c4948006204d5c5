use Rattle.std.proofs.Common.{◌≡◌, ◌++◌, drop}
use Rattle.std.specs.Prelude.{option_map}
use Rattle.held_packets.specs.Whole.{whole}
use Rattle.receiver_core.specs.Best.{files_of}
use Rattle.receiver_core.proofs.announcing.files_of.Given as goal

-- the files so far with those of what is left are those of all
abbrev pub invariant-loop-toi : goal.invariant-loop-toi
invariant-loop-toi l = option_map (λ fs. l.files.items ++ fs) (files_of (whole l.store.held) (drop l.toi-index l.listed)) ≡ files_of (whole l.store.held) l.listed
