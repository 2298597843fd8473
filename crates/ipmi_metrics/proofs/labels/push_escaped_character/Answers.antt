use Rattle.std.proofs.Common.{rules}
use Rattle.ipmi_metrics.proofs.EscapeLemmas.{escaped-encode}
use Rattle.ipmi_metrics.proofs.labels.push_escaped_character.Goals as goal

pub returns-in_default : goal.returns-in_default
returns-in_default c = search (rules, escaped-encode)
