use Rattle.sender_plan.proofs.LastInstance.{descriptor_object, file_objects, any_descriptor}
use Rattle.sender_plan.proofs.laws.last_instance_reads_back.Goals as goal

pub returns-clause-descriptor : goal.returns-clause-descriptor
returns-clause-descriptor c earlier last bodies params s plan = descriptor_object bodies earlier last params s plan

pub returns-clause-files : goal.returns-clause-files
returns-clause-files c earlier last bodies params s plan = file_objects bodies earlier last params s plan

pub returns-clause-others : goal.returns-clause-others
returns-clause-others c earlier last bodies params s plan = any_descriptor bodies earlier last params s plan
