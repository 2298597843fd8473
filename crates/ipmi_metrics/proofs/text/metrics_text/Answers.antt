use Rattle.std.proofs.Common.{option_map}
use Rattle.ipmi_metrics.proofs.MetricsLemmas.{metrics_made}
use Rattle.ipmi_metrics.proofs.text.metrics_text.Goals as goal

pub returns : goal.returns
returns c =
    metrics_made c.args.found.now (option_map (λ info. info.now) c.args.info) c.args.is_up c.args.dialect _ _ _ _ _
    (rw c.as_slice-found.ensures at c.in_ok-text.ensures) (rw c.as_slice-found.ensures at c.in_ok-push_faults.ensures)
    c.in_ok-push_log.ensures c.in_ok-push_up.ensures (rw c.end_of.ensures at c.in_ok-push_str.ensures.bytes)
