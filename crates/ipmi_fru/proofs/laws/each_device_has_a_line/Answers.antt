use Rattle.std.proofs.Common.{refl}
use Rattle.ipmi_fru.proofs.LineLemmas.{line}
use Rattle.ipmi_fru.proofs.laws.each_device_has_a_line.Goals as goal

pub returns : goal.returns
returns c = record {
  bare = λ id name. (_, refl);
  present = line c.each_value_has_a_decimal.ensures c.each_time_has_a_text.ensures.minutes;
}
