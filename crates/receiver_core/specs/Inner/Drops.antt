-- The count of packets over the budget.
use Rattle.std.specs.Prelude.{ℕ, ◌+◌, ◌-◌, ◌^◌, min, if◌then◌else◌}
use Rattle.held_packets.specs.declared.kept.Kept.{Kept}
use Rattle.held_packets.specs.Verdict.{is_over_budget}

-- with a packet of the session that has this verdict
abbrev pub drops_after : ℕ → Kept → ℕ
drops_after drops kept = if is_over_budget kept then min (drops + 1) (2 ^ 64 - 1) else drops
