use Rattle.std.proofs.lemmas.Result.{on_ok_weaker}
use lib.Utf8.{encode}
use Rattle.ipmi_metrics.proofs.LabelLemmas.{place_made}
use Rattle.ipmi_metrics.proofs.labels.push_place.Goals as goal

pub returns : goal.returns
unfolding encode
returns c = on_ok_weaker c.push_type.result
    (λ said. place_made c.args.sensor.now _ _ _ _ _ _ _ c.in_ok-push_after.ensures c.in_ok-push_after-2.ensures
    c.in_ok-push_after-3.ensures c.in_ok-push_after-4.ensures c.in_ok-push.ensures.bytes said) c.push_type.ensures
