-- The longer of two beginnings of one history.
use Rattle.std.proofs.Common.{◌≡◌, List, length, nat_lt, Bool, true, false, if◌then◌else◌, sym, arith}
use Rattle.std.proofs.lemmas.Bool.Decides.{nat_tests}
use mathlib.Core.List.{IsPrefix}
use Rattle.carousel_cid.specs.Instances.{Shown}
use Rattle.snapshot_hub.specs.Histories.{IsRising, longer, newer}
use Rattle.snapshot_hub.specs.Inner.Kept.{BeginOne}
use Rattle.snapshot_hub.proofs.Rising.{newer_longer, rising_prefix}
use Rattle.snapshot_hub.proofs.Prefixes.{prefix_shorter, prefix_self}
use Rattle.snapshot_hub.proofs.Known.{both_begin_longer}

pub longer_this : (h t : List Shown) → BeginOne h t → IsPrefix h (longer h t)
longer_this h t one = (both_begin_longer h t one.all one.this one.that).0

pub longer_that : (h t : List Shown) → BeginOne h t → IsPrefix t (longer h t)
longer_that h t one = (both_begin_longer h t one.all one.this one.that).1

pub longer_is_newer : (h t : List Shown) → BeginOne h t → longer h t ≡ newer h t
longer_is_newer h t one = sym (newer_longer one.all h t one.rising one.this one.that)

pub this_rises : (h t : List Shown) → BeginOne h t → IsRising h
this_rises h t one = rising_prefix h one.all one.this one.rising

pub that_rises : (h t : List Shown) → BeginOne h t → IsRising t
that_rises h t one = rising_prefix t one.all one.that one.rising

pub shorter_begins : (h t : List Shown) → BeginOne h t → nat_lt (length h) (length t) ≡ true → IsPrefix h t
shorter_begins h t one less = prefix_shorter h t one.all one.this one.that (grind (arith, nat_tests))

-- what a snapshot is that was renewed
pub ruleset renewing = (prefix_self, this_rises, that_rises, shorter_begins)

one_rises : (b : Bool) (h t : List Shown) → BeginOne h t → IsRising (if b then t else h)
one_rises true h t one = that_rises h t one
one_rises false h t one = this_rises h t one

pub longer_rises : (h t : List Shown) → BeginOne h t → IsRising (longer h t)
longer_rises h t one = one_rises (nat_lt (length h) (length t)) h t one

-- what a reader has seen that learned
pub ruleset learning = (longer_this, longer_that, longer_rises, longer_is_newer)
