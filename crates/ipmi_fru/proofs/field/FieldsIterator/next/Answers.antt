use Rattle.std.proofs.Common.{rules}
use Rattle.ipmi_fru.proofs.field.FieldsIterator.next.Goals as goal

pub returns-clause-steps : goal.returns-clause-steps
returns-clause-steps c = search rules
