use Rattle.std.proofs.Common.{rules}
use Rattle.ipmi_fru.proofs.area_text.labels_of.Goals as goal

pub returns-in-Chassis-clause-fields : goal.returns-in-Chassis-clause-fields
returns-in-Chassis-clause-fields c = search rules
