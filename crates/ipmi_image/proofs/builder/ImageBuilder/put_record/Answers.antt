use Rattle.std.proofs.Common.{rules}
use Rattle.ipmi_image.proofs.builder.ImageBuilder.put_record.Goals as goal

pub put_record-requires-in-Sel-clause-shelf : goal.put_record-requires-in-Sel-clause-shelf
put_record-requires-in-Sel-clause-shelf c = search rules

pub invariant_of-self-in-Sel : goal.invariant_of-self-in-Sel
invariant_of-self-in-Sel c = search rules

pub returns-in-Sel-clause-put : goal.returns-in-Sel-clause-put
returns-in-Sel-clause-put c = search rules
