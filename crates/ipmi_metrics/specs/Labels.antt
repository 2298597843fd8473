-- The labels of a sensor, as the text format writes them.
use Rattle.std.specs.Prelude.{◌≢◌, ℕ, ◌==◌, if◌then◌else◌, List, [], ◌∷◌, ◌++◌, codes, decimal, flat_map}
use Rattle.ipmi_text.specs.SensorTypes.{sensor_type_text_of}
use Rattle.ipmi_records.specs.Prelude.{printed_name}
use Rattle.ipmi_records.specs.declared.sdr.SdrView.{SdrView}
use Rattle.ipmi_records.specs.declared.sensor.Sensor.{Sensor}
use Rattle.ipmi_records.specs.declared.threshold.Threshold.{Threshold}
use Rattle.ipmi_metrics.specs.declared.measure.Measure.{Measure}

-- a backslash, a quote and a line feed are escaped with a backslash
abbrev pub escaped_byte : ℕ → List ℕ
escaped_byte byte =
    if byte == 92 then 92 ∷ 92 ∷ []
    else if byte == 34 then 92 ∷ 34 ∷ []
    else if byte == 10 then 92 ∷ 110 ∷ []
    else byte ∷ []

-- the others stand for themselves
abbrev pub IsPlain : ℕ → Type 0
IsPlain byte = (byte ≢ 92) × (byte ≢ 34) × (byte ≢ 10)

abbrev pub escaped : List ℕ → List ℕ
escaped text = flat_map escaped_byte text

-- a label with a value that is written so
abbrev pub label : List ℕ → List ℕ → List ℕ
label key value = key ++ (codes "=\"" ++ (value ++ codes "\""))

abbrev pub next_label : List ℕ → List ℕ → List ℕ
next_label key value = codes "," ++ label key value

-- The id and the name of a record. No two records of a walk have one id, so no two sensors have the same labels.
abbrev pub name_labels : ℕ → SdrView → List ℕ
name_labels id view = label (codes "id") (decimal id) ++ next_label (codes "name") (escaped (printed_name view))

abbrev pub type_label : Sensor → List ℕ
type_label sensor = next_label (codes "type") (sensor_type_text_of sensor.sensor_type)

-- the type tells apart what has no family of its own
abbrev pub type_part : Measure → Sensor → List ℕ
type_part Measure.Other sensor = type_label sensor
type_part measure sensor = []

-- the labels of a sensor's value and state, after those of its name
abbrev pub sensor_labels : List ℕ → Measure → Sensor → List ℕ
sensor_labels names measure sensor = names ++ type_part measure sensor

-- what else a record says of its sensor
abbrev pub place_labels : Sensor → List ℕ
place_labels sensor =
    next_label (codes "entity_id") (decimal sensor.entity.id)
    ++ (next_label (codes "entity_instance") (decimal sensor.entity.instance)
    ++ (next_label (codes "lun") (decimal sensor.lun)
    ++ (next_label (codes "number") (decimal sensor.number) ++ type_label sensor)))

abbrev pub info_labels : List ℕ → Sensor → List ℕ
info_labels names sensor = names ++ place_labels sensor

abbrev pub threshold_word : Threshold → List ℕ
threshold_word Threshold.UpperNonRecoverable = codes "upper_non_recoverable"
threshold_word Threshold.UpperCritical = codes "upper_critical"
threshold_word Threshold.UpperNonCritical = codes "upper_non_critical"
threshold_word Threshold.LowerNonRecoverable = codes "lower_non_recoverable"
threshold_word Threshold.LowerCritical = codes "lower_critical"
threshold_word Threshold.LowerNonCritical = codes "lower_non_critical"

abbrev pub threshold_label : Threshold → List ℕ
threshold_label threshold = next_label (codes "threshold") (threshold_word threshold)
