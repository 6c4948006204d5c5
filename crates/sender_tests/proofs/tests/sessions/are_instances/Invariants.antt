-- The instances so far are instances of each session of three objects.
use Rattle.std.proofs.Common.{ℕ, ◌<◌, ◌≤◌, length, get_or}
use Rattle.sender_plan.specs.Session.{Session, SentInstance, IsInstance}
use Rattle.sender_tests.proofs.tests.sessions.are_instances.Given as goal

abbrev pub invariant-loop-i : goal.invariant-loop-i
invariant-loop-i l = (s : Session) → 3 ≤ length s.objects → (k : ℕ) (d : SentInstance) → k < l.i → IsInstance s (get_or l.instances k d)
