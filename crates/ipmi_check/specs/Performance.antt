-- Performance data, as plugins of monitoring systems print them: a label, a value, and the ranges outside of which a value is a warning and
-- critical.
use Rattle.std.specs.Prelude.{◌≡◌, ℕ, ℤ, ◌==◌, ◌||◌, if◌then◌else◌, Option, None, Some, Result, Ok, Err, List, [], ◌∷◌, ◌++◌, codes, flat_map}
use Rattle.ipmi_text.specs.Decimal.{IsDecimalOf}
use Rattle.ipmi_text.specs.Texts.{AreTexts}
use Rattle.ipmi_records.specs.Prelude.{has_thresholds, known, printed_name, sdr_view_of, sensor_in, shown_of}
use Rattle.ipmi_records.specs.declared.column.KnownReading.{KnownReading}
use Rattle.ipmi_records.specs.declared.sdr.SdrFault.{SdrFault}
use Rattle.ipmi_records.specs.declared.sdr.SdrView.{SdrView}
use Rattle.ipmi_records.specs.declared.threshold.Threshold.{Threshold}
use Rattle.ipmi_sensors.specs.Sensors.{Found}
use Rattle.ipmi_json.specs.Sdr.{threshold_value, value_shown}
use Rattle.ipmi_check.specs.Name.{name_or_id}
use Rattle.ipmi_check.specs.declared.performance.Detail.{Detail}

-- ---- labels

-- a quote is doubled; `=` and a bar become a slash, and a line feed a space, since they would end the label or all data
abbrev pub label_byte : ℕ → List ℕ
label_byte byte =
    if byte == 39 then 39 ∷ 39 ∷ []
    else if (byte == 61) || (byte == 124) then 47 ∷ []
    else if byte == 10 then 32 ∷ []
    else byte ∷ []

-- a label in quotes, after a space and before its value
abbrev pub label_part : List ℕ → List ℕ
label_part label = codes " '" ++ (flat_map label_byte label ++ codes "'=")

-- ---- ranges

-- an end that is not there is empty
abbrev pub IsEnd : Option ℤ → List ℕ → Type 0
IsEnd None text = text ≡ []
IsEnd (Some value) text = IsDecimalOf value text

pub record AreEnds (low high : Option ℤ) (text : List ℕ) : Type 0 where
  pub low_text : List ℕ
  pub high_text : List ℕ
  pub is_low : IsEnd low low_text
  pub is_high : IsEnd high high_text
  pub text_is : text ≡ low_text ++ (codes ":" ++ high_text)

-- `LOW:HIGH`, `LOW:` or `:HIGH`; without ends there is no range
abbrev pub IsRange : Option ℤ → Option ℤ → List ℕ → Type 0
IsRange None None text = text ≡ []
IsRange low high text = AreEnds low high text

-- ---- the data of a sensor

-- its label, its value, and the ranges of values that are no warning and not critical, by the thresholds that its record has
pub record IsDatum (label bytes : List ℕ) (value : ℤ) (text : List ℕ) : Type 0 where
  pub number : List ℕ
  pub warning : List ℕ
  pub critical : List ℕ
  pub is_number : IsDecimalOf value number
  pub is_warning : IsRange (threshold_value Threshold.LowerNonCritical bytes) (threshold_value Threshold.UpperNonCritical bytes) warning
  pub is_critical : IsRange (threshold_value Threshold.LowerCritical bytes) (threshold_value Threshold.UpperCritical bytes) critical
  pub text_is : text ≡ label_part label ++ (number ++ (codes ";" ++ (warning ++ (codes ";" ++ critical))))

abbrev pub IsDatumIfAny : List ℕ → List ℕ → Option ℤ → List ℕ → Type 0
IsDatumIfAny label bytes None text = text ≡ []
IsDatumIfAny label bytes (Some value) text = IsDatum label bytes value text

-- the value that is reported of a full record's sensor: that of a reading, if the sensor has thresholds
abbrev pub reported_value : List ℕ → KnownReading → Option ℤ
reported_value bytes reading =
    if has_thresholds (sensor_in bytes) then value_shown bytes (shown_of (sensor_in bytes) reading) else None

-- only a full record has values
abbrev pub IsDatumOfView : ℕ → SdrView → KnownReading → List ℕ → Type 0
IsDatumOfView id (SdrView.Full bytes) reading text =
    IsDatumIfAny (name_or_id id (printed_name (SdrView.Full bytes))) bytes (reported_value bytes reading) text
IsDatumOfView id view reading text = text ≡ []

-- a record with a fault has no data
abbrev pub IsDatumIn : ℕ → Result SdrView SdrFault → KnownReading → List ℕ → Type 0
IsDatumIn id (Ok view) reading text = IsDatumOfView id view reading text
IsDatumIn id (Err fault) reading text = text ≡ []

abbrev pub IsDatumOf : Found → List ℕ → Type 0
IsDatumOf found text = IsDatumIn found.id (sdr_view_of found.bytes) (known found.reading) text

-- ---- all data

-- the data follow a bar
abbrev pub after_bar : List ℕ → List ℕ
after_bar [] = []
after_bar (first ∷ rest) = codes " |" ++ (first ∷ rest)

pub record AreData (found : List Found) (text : List ℕ) : Type 0 where
  pub all : List ℕ
  pub are_all : AreTexts IsDatumOf found all
  pub text_is : text ≡ after_bar all

-- the end of the first line
abbrev pub IsDataPart : List Found → Detail → List ℕ → Type 0
IsDataPart found Detail.Plain text = text ≡ []
IsDataPart found Detail.PerformanceData text = AreData found text
