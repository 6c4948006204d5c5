use Rattle.compound_object.proofs.OnesSums.{IsOnesSum-from_equal, equal-from_IsOnesSum}
use Rattle.compound_object.proofs.laws.ones_sums.Goals as goal

pub returns : goal.returns
returns c plain ones = (equal-from_IsOnesSum plain ones, IsOnesSum-from_equal plain ones)
