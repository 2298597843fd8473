-- The line of a sensor (the project's own).
use Rattle.std.specs.Prelude.{◌≡◌, ℕ, Bool, true, false, if◌then◌else◌, Option, Some, None, List, [], ◌∷◌, ◌++◌, codes, flat_map}
use Rattle.ipmi_events.specs.Below.{IsRawValue, IsSdrLine, KnownReading, SdrView, Sensor, Threshold, byte_h, columns_line, has_thresholds, is_readable, padded_to, printed_name, sensor_in, shown_of, threshold_in}
use Rattle.ipmi_events.specs.Entities.{entity_in_words}
use Rattle.ipmi_events.specs.Severity.{severity_column}
use Rattle.ipmi_events.specs.Shown.{IsReadingInWords}
use Rattle.ipmi_events.specs.Status.{status_in_words}
use Rattle.ipmi_events.specs.Worst.{sensor_severity}

-- ---- thresholds

-- The thresholds are those in the record; the sensor is not asked for them (Get Sensor Thresholds).

-- the bytes of a record with thresholds: a full record of a sensor that has thresholds
abbrev pub with_thresholds : SdrView → Option (List ℕ)
with_thresholds (SdrView.Full bytes) =
    if has_thresholds (sensor_in bytes) then Some bytes else None
with_thresholds _ = None

abbrev pub IsValueOrDash : Bool → List ℕ → Threshold → List ℕ → Type 0
IsValueOrDash false bytes threshold text = text ≡ codes "-"
IsValueOrDash true bytes threshold text = IsRawValue bytes (threshold_in threshold bytes) text

-- the value of a threshold without its unit, or a dash if there is no readable threshold
abbrev pub IsThresholdColumn : Option (List ℕ) → Threshold → List ℕ → Type 0
IsThresholdColumn None threshold text = text ≡ codes "-"
IsThresholdColumn (Some bytes) threshold text =
    IsValueOrDash (is_readable threshold bytes) bytes threshold text

abbrev pub AreThresholdColumns : Option (List ℕ) → List Threshold → List (List ℕ) → Type 0
AreThresholdColumns record_ [] columns = columns ≡ []
AreThresholdColumns record_ (threshold ∷ thresholds) columns =
    (column : List ℕ) × (more : List (List ℕ)) × (IsThresholdColumn record_ threshold column
    × (AreThresholdColumns record_ thresholds more × (columns ≡ column ∷ more)))

-- the thresholds in the order of their columns
abbrev pub from_lowest : List Threshold
from_lowest =
    Threshold.LowerNonRecoverable ∷ Threshold.LowerCritical ∷ Threshold.LowerNonCritical
    ∷ Threshold.UpperNonCritical ∷ Threshold.UpperCritical ∷ Threshold.UpperNonRecoverable ∷ []

-- ---- lines

-- new is old followed by a text that satisfies `IsText`, padded to a width
pub record AppendsPadded (width : ℕ) (IsText : List ℕ → Type 0) (old new : List ℕ) : Type 0 where
  pub part : List ℕ
  pub is_text : IsText part
  pub text_is : new ≡ old ++ padded_to width part

-- new is old followed by the columns of thresholds, ` | ` before each
pub record AppendsColumns (record_ : Option (List ℕ)) (thresholds : List Threshold)
    (old new : List ℕ) : Type 0 where
  pub columns : List (List ℕ)
  pub are_columns : AreThresholdColumns record_ thresholds columns
  pub text_is : new ≡ old ++ flat_map (λ column. codes " | " ++ column) columns

-- the record's name, the sensor's number and its entity, ` | ` after each
abbrev pub head_columns : SdrView → Sensor → List ℕ
head_columns view sensor =
    padded_to 16 (printed_name view)
    ++ (codes " | " ++ (byte_h sensor.number
    ++ (codes " | " ++ (entity_in_words sensor.entity ++ codes " | "))))

-- The name of the record, by which `sensor get` finds it, then number, entity, reading, status, severity, and the thresholds
-- from lowest to highest. For sensors that share a record, the number, the reading and what follows from it are those of the first.
pub record IsLineOfSensor (view : SdrView) (sensor : Sensor) (reading : KnownReading)
    (text : List ℕ) : Type 0 where
  pub column : List ℕ
  pub thresholds : List (List ℕ)
  pub is_column : IsReadingInWords view reading column
  pub are_thresholds : AreThresholdColumns (with_thresholds view) from_lowest thresholds
  pub text_is : text ≡ columns_line (
      padded_to 16 (printed_name view)
      ∷ byte_h sensor.number
      ∷ entity_in_words sensor.entity
      ∷ padded_to 17 column
      ∷ padded_to 3 (status_in_words sensor (shown_of sensor reading))
      ∷ padded_to 8 (severity_column (sensor_severity sensor (shown_of sensor reading)))
      ∷ thresholds)

-- the line of a full or a compact record; any other record has the line of `sdr list`
abbrev pub IsSensorLine : SdrView → KnownReading → List ℕ → Type 0
IsSensorLine (SdrView.Full bytes) reading text =
    IsLineOfSensor (SdrView.Full bytes) (sensor_in bytes) reading text
IsSensorLine (SdrView.Compact bytes) reading text =
    IsLineOfSensor (SdrView.Compact bytes) (sensor_in bytes) reading text
IsSensorLine view reading text = IsSdrLine view reading text
