use Rattle.std.proofs.Common.{refl}
use Rattle.std.proofs.lemmas.Result.{on_ok_weaker}
use Rattle.ipmi_json.proofs.MemberLemmas.{joined, told_some}
use Rattle.ipmi_json.proofs.multirecords.tell_ranges.Goals as goal

pub returns : goal.returns
returns g c =
    let nominal = c.in_ok-decimal_or_null.ensures in
    let low = c.in_ok-decimal_or_null-2.ensures in
    let high = c.in_ok-decimal_or_null-3.ensures in
    let first = rw nominal.1.1 at c.in_ok-put.ensures in
    let second = rw (c.low_key.ensures, low.1.1) at c.in_ok-put-2.ensures in
    let third = rw (c.high_key.ensures, high.1.1) at c.in_ok-put-3.ensures in
    on_ok_weaker c.tell_currents.result
    (λ currents. told_some (joined (joined (joined first second) third) currents) (record {
      nominal = nominal.0;
      low = low.0;
      high = high.0;
      nominal_is = nominal.1.0;
      low_is = low.1.0;
      high_is = high.1.0;
      are = refl;
    })) c.tell_currents.ensures
