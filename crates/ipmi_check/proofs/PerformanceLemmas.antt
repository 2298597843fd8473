-- The performance data of a sensor, part by part.
use Rattle.std.proofs.Common.{◌≡◌, ◌∙◌, ℕ, ℤ, List, ◌++◌, append_assoc, codes, refl}
use Rattle.ipmi_text.specs.Appended.{Appends}
use Rattle.ipmi_text.specs.Decimal.{IsDecimalOf}
use Rattle.ipmi_records.specs.declared.threshold.Threshold.{Threshold}
use Rattle.ipmi_json.specs.Sdr.{threshold_value}
use Rattle.ipmi_check.specs.Performance.{IsDatum, IsRange, label_part}

pub datum_made : (label bytes : List ℕ) (value : ℤ) (old begun numbered first warned second text : List ℕ) → begun ≡ old ++ label_part label
    → Appends (IsDecimalOf value) begun numbered → first ≡ numbered ++ codes ";"
    → Appends (IsRange (threshold_value Threshold.LowerNonCritical bytes) (threshold_value Threshold.UpperNonCritical bytes)) first warned
    → second ≡ warned ++ codes ";"
    → Appends (IsRange (threshold_value Threshold.LowerCritical bytes) (threshold_value Threshold.UpperCritical bytes)) second text
    → Appends (IsDatum label bytes value) old text
datum_made label bytes value old begun numbered first warned second text begun_is number first_is warning second_is critical = record {
  part = label_part label ++ (number.part ++ (codes ";" ++ (warning.part ++ (codes ";" ++ critical.part))));
  is_text = record {
    number = number.part;
    warning = warning.part;
    critical = critical.part;
    is_number = number.is_text;
    is_warning = warning.is_text;
    is_critical = critical.is_text;
    text_is = refl;
  };
  text_is = critical.text_is ∙ rw (second_is, warning.text_is, first_is, number.text_is, begun_is) (simp append_assoc);
}
