use Rattle.ipmi_metrics.proofs.MetricsLemmas.{log_made}
use Rattle.ipmi_metrics.proofs.text.push_log_gauges.Goals as goal

pub returns : goal.returns
returns c =
    log_made c.args.info.now c.read-info.result _ _ _ c.from-entries.result c.from-free.result c.read-info.ensures (cc) (cc)
    c.in_ok-push_gauge.ensures c.in_ok-push_gauge-2.ensures
