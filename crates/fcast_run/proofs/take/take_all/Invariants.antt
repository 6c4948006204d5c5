-- the datagrams before this one are taken
use Rattle.std.proofs.Common.{◌≡◌, ◌≤◌, length}
use Rattle.run_base.specs.Bounds.{limit}
use Rattle.run_receive.specs.HasTaken.{HasTakenSome}
use Rattle.snapshot_hub.specs.Histories.{last_of}
use Rattle.fcast_run.proofs.Gathering.{HasGathered}
use Rattle.fcast_run.proofs.take.take_all.Given as goal

abbrev pub invariant-loop-size : goal.invariant-loop-size
invariant-loop-size g l = let D = g.D.Datagrams in let A = g.A.Audience in record {
  tsi : l.receiver.tsi ≡ l.fn.receiver.tsi;
  budget : l.receiver.budget ≡ l.fn.receiver.budget;
  told : D.told l.fn.datagrams → D.told l.datagrams;
  gathered : HasGathered (λ v. (goal.Watch-dyn g (v.vtable, v.value)).hearing v.value) (D.told l.fn.datagrams) A.told
      l.fn.receiver.tsi l.fn.receiver.budget l.fn.bound (D.left l.fn.datagrams) (D.torn l.fn.datagrams) l.fn.watchers.items
      l.bound (D.left l.datagrams) (D.torn l.datagrams) l.receiver l.watchers.items (A.shown l.audience);
  some : HasTakenSome l.receiver;
  last : A.told → last_of (A.shown l.audience) ≡ l.receiver.installed;
  place : D.connected l.datagrams ≡ D.connected l.fn.datagrams;
  grows : D.faults l.fn.datagrams ≤ D.faults l.datagrams;
  room : 65535 ≤ length l.buffer;
}

abbrev pub decreases-loop-size : goal.decreases-loop-size
decreases-loop-size g l = limit l.bound
