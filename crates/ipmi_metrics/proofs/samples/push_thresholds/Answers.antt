use Rattle.std.proofs.Common.{string_bytes}
use Rattle.ipmi_metrics.proofs.SampleLemmas.{no_thresholds}
use Rattle.ipmi_metrics.proofs.samples.push_thresholds.Goals as goal

pub returns-in_default : goal.returns-in_default
returns-in_default c = no_thresholds c.args.labels.now c.args.view.now c.in_default.not-Full (string_bytes c.args.text.now)
