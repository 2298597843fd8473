use Rattle.std.proofs.Common.{◌++◌, append_assoc, sym}
use Rattle.std.proofs.lemmas.Result.{on_ok_weaker}
use Rattle.ipmi_metrics.specs.Labels.{threshold_label}
use Rattle.ipmi_metrics.proofs.SampleLemmas.{threshold_made}
use Rattle.ipmi_metrics.proofs.samples.push_threshold.Goals as goal

pub returns : goal.returns
returns c =
    let all = c.args.labels.now ++ threshold_label c.args.threshold in
    on_ok_weaker c.push_value.result
    (λ said. threshold_made all _ c.in-Some.value.0 _ _ (sym c.in-Some.ensures) (rw c.name-name.ensures at said))
    (c.push_value.ensures all (rw c.threshold_end.ensures (simp append_assoc)))
