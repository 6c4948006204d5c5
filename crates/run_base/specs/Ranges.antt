-- The ranges of a receiver's settings.
use Rattle.std.specs.Prelude.{ℕ, ◌≤◌, ◌<◌, ◌^◌}
use Rattle.run_base.specs.declared.settings.Settings.{Settings}
use Rattle.run_base.specs.Bounds.{limit}

-- so many datagrams may be taken of a list
abbrev pub IsCount : ℕ → Type 0
IsCount n = n < 2 ^ 32

pub record IsInRange (c : Settings) : Type 0 where
  pub tsi : c.tsi < 2 ^ 48
  pub least : 4096 ≤ c.budget
  pub most : c.budget ≤ 2 ^ 30
  pub limit : IsCount (limit c.bound)
