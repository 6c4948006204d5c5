use Rattle.compound_object.proofs.FirstCauses.{first_fault_of_object}
use Rattle.compound_object.proofs.laws.first_cause_told.Goals as goal

pub returns : goal.returns
returns c object cause = first_fault_of_object object cause
