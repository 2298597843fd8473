use Rattle.std.proofs.Common.{refl}
use Rattle.std.proofs.lemmas.Result.{on_ok_weaker}
use Rattle.ipmi_json.proofs.MemberLemmas.{joined, told_some}
use Rattle.ipmi_json.proofs.sdr.tell_thresholds.Goals as goal

pub returns : goal.returns
returns g c =
    let upper = joined (joined c.in_ok-put.ensures c.in_ok-put-2.ensures) c.in_ok-put-3.ensures in
    on_ok_weaker c.put-6.result (λ last. told_some (joined (joined (joined upper c.in_ok-put-4.ensures) c.in_ok-put-5.ensures) last)
    (record {
      upper_non_recoverable = _;
      upper_critical = _;
      upper_non_critical = _;
      lower_non_recoverable = _;
      lower_critical = _;
      lower_non_critical = _;
      is_upper_non_recoverable = c.in_ok-threshold.ensures;
      is_upper_critical = c.in_ok-threshold-2.ensures;
      is_upper_non_critical = c.in_ok-threshold-3.ensures;
      is_lower_non_recoverable = c.in_ok-threshold-4.ensures;
      is_lower_critical = c.in_ok-threshold-5.ensures;
      is_lower_non_critical = c.in_ok-threshold-6.ensures;
      are = refl;
    })) c.put-6.ensures
