-- The ranges of what a send is told.
use Rattle.std.specs.Prelude.{◌≤◌}
use Rattle.sender_plan.specs.declared.params.Params.{Params}

-- a plan can be made with these
pub record AreParams (p : Params) : Type 0 where
  pub symbol_from : 8 ≤ p.symbol
  pub symbol_to : p.symbol ≤ 65475
  pub block : 1 ≤ p.max_block
  pub cycles : 1 ≤ p.cycles
