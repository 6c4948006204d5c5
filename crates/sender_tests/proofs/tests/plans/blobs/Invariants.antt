-- The bodies so far are short.
use Rattle.std.proofs.Common.{◌≤◌, length, All}
use Rattle.sender_tests.proofs.tests.plans.blobs.Given as goal

abbrev pub invariant-loop-body : goal.invariant-loop-body
invariant-loop-body l = All (λ body. length body ≤ 16777216) l.blobs.items
