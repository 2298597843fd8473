use Rattle.std.proofs.Common.{sym}
use Rattle.ipmi_events.proofs.NameLemmas.{split_first}
use Rattle.ipmi_events.proofs.RecordLemmas.{last_record}
use Rattle.ipmi_events.proofs.name.split_record.Goals as goal

pub returns-in_err-first : goal.returns-in_err-first
returns-in_err-first c = rw c.from_residual.ensures (last_record c.args.records.now (sym c.in_err-first.ensures))

pub returns : goal.returns
returns c = split_first c.args.records.now c.in_ok-first.first.now c.in_ok-first.ensures
