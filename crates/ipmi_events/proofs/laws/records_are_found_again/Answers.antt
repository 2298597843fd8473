use Rattle.ipmi_events.proofs.RecordLemmas.{records_in-concat}
use Rattle.ipmi_events.proofs.laws.records_are_found_again.Goals as goal

pub returns : goal.returns
returns c = records_in-concat
