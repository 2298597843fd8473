use Rattle.std.proofs.Common.{rules}
use Rattle.ipmi_image.proofs.WithLemmas.{honest_with}
use Rattle.ipmi_image.proofs.with_records.WithRecords.new.Goals as goal

pub returns-clause-honest : goal.returns-clause-honest
returns-clause-honest g c = λ honest. honest_with c.new.result _ (search rules) honest
