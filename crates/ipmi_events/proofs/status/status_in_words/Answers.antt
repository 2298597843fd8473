use Rattle.std.proofs.Common.{rules}
use Rattle.ipmi_events.proofs.status.status_in_words.Goals as goal

pub returns-in-OtherOwner : goal.returns-in-OtherOwner
returns-in-OtherOwner c = search rules
