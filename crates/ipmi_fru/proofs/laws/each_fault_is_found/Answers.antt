use Rattle.ipmi_fru.proofs.FaultLemmas.{fault_found, fault_listed}
use Rattle.ipmi_fru.proofs.laws.each_fault_is_found.Goals as goal

pub returns-clause-areas : goal.returns-clause-areas
returns-clause-areas c = fault_found

pub returns-clause-records : goal.returns-clause-records
returns-clause-records c = fault_listed
