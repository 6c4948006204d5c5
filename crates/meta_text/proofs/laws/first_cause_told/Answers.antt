use Rattle.meta_text.proofs.Spelled.{first_fault_told}
use Rattle.meta_text.proofs.laws.first_cause_told.Goals as goal

pub returns : goal.returns
returns c text fault = first_fault_told text fault
