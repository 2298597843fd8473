-- The texts of sensor data records (the project's own): the line, the extended line, the block, and
-- the line of bytes that are not a record.
use Rattle.std.specs.Prelude.{◌≡◌, ℕ, Option, Some, None, unwrap_or, Bool, true, false, if◌then◌else◌, List, [], ◌∷◌, ◌++◌, codes, decimal}
use Rattle.std.specs.List.{concat}
use Rattle.ipmi_records.specs.Below.{byte_h, sensor_type_text_of, labelled, word_h}
use Rattle.ipmi_records.specs.declared.column.KnownReading.{KnownReading}
use Rattle.ipmi_records.specs.declared.sdr.SdrFault.{SdrFault}
use Rattle.ipmi_records.specs.declared.sdr.SdrView.{SdrView}
use Rattle.ipmi_records.specs.declared.entity.Entity.{Entity}
use Rattle.ipmi_records.specs.declared.sensor.Sensor.{Sensor}
use Rattle.ipmi_records.specs.declared.threshold.Threshold.{Threshold}
use Rattle.ipmi_records.specs.declared.locator.Locator.{Locator}
use Rattle.ipmi_records.specs.Bytes.{labelled_lines, columns_line, padded_to}
use Rattle.ipmi_records.specs.Sdr.{locator_of, name_of, record_type, sensor_of}
use Rattle.ipmi_records.specs.Sensor.{is_readable, sensor_in, threshold_in}
use Rattle.ipmi_records.specs.Columns.{IsRawText, IsReadingColumn, has_thresholds, status_of, type_text}

-- ---- lines

-- the name as printed; empty for a record of another type, which has none
abbrev pub printed_name : SdrView → List ℕ
printed_name view = unwrap_or (name_of view) []

-- name, reading and status
pub record IsSdrLine (view : SdrView) (reading : KnownReading) (text : List ℕ) : Type 0 where
  pub column : List ℕ
  pub is_column : IsReadingColumn view reading column
  pub text_is : text ≡ columns_line (padded_to 16 (printed_name view) ∷ padded_to 17 column
      ∷ status_of view reading ∷ [])

-- ---- extended lines

-- the number of a sensor, dashes for other records
abbrev pub number_text : Option Sensor → List ℕ
number_text None = codes "--h"
number_text (Some sensor) = byte_h sensor.number

abbrev pub entity_text : Entity → List ℕ
entity_text entity = decimal entity.id ++ (codes "." ++ decimal entity.instance)

abbrev pub entity_or_dash : Option Entity → List ℕ
entity_or_dash None = codes "-"
entity_or_dash (Some entity) = entity_text entity

-- the entity of a sensor or a device, a dash for other records
abbrev pub entity_column : Option Sensor → Option Locator → List ℕ
entity_column (Some sensor) locator = entity_text sensor.entity
entity_column None (Some locator) = entity_text locator.entity
entity_column None None = codes "-"

-- the columns between name and reading
abbrev pub sensor_columns : SdrView → List ℕ → List ℕ
sensor_columns view status =
    codes " | " ++ (number_text (sensor_of view)
    ++ (codes " | " ++ (padded_to 3 status
    ++ (codes " | " ++ (padded_to 5 (entity_column (sensor_of view) (locator_of view))
    ++ codes " | ")))))

-- name, sensor number, status, entity and reading
pub record IsExtendedLine (view : SdrView) (reading : KnownReading) (text : List ℕ) : Type 0 where
  pub column : List ℕ
  pub is_column : IsReadingColumn view reading column
  pub text_is : text ≡ columns_line (
      padded_to 16 (printed_name view)
      ∷ number_text (sensor_of view)
      ∷ padded_to 3 (status_of view reading)
      ∷ padded_to 5 (entity_column (sensor_of view) (locator_of view))
      ∷ column
      ∷ [])

-- ---- the line of a fault

abbrev pub fault_text : SdrFault → List ℕ
fault_text SdrFault.Short = codes "short"
fault_text SdrFault.Length = codes "wrong length"
fault_text SdrFault.BodyShort = codes "body too short"

abbrev pub fault_line : ℕ → SdrFault → List ℕ
fault_line id fault = labelled (codes "record " ++ word_h id) (fault_text fault)

-- ---- blocks

abbrev pub kind_text : SdrView → List ℕ
kind_text (SdrView.Full bytes) = codes "full"
kind_text (SdrView.Compact bytes) = codes "compact"
kind_text (SdrView.EventOnly bytes) = codes "event-only"
kind_text (SdrView.Generic bytes) = codes "generic locator"
kind_text (SdrView.Fru bytes) = codes "FRU locator"
kind_text (SdrView.Controller bytes) = codes "controller locator"
kind_text (SdrView.Other bytes) = type_text (record_type bytes)

abbrev pub name_line : Option (List ℕ) → List ℕ
name_line None = []
name_line (Some name) = labelled (codes "Name") name

abbrev pub head_lines : ℕ → SdrView → List ℕ
head_lines id view =
    labelled (codes "Record") (word_h id)
    ++ (labelled (codes "Type") (kind_text view) ++ name_line (name_of view))

-- the lines of a sensor: its address, its entity and its type
abbrev pub sensor_lines : Option Sensor → List ℕ
sensor_lines None = []
sensor_lines (Some sensor) = labelled_lines (
    (codes "Owner", byte_h sensor.owner ++ (codes " LUN " ++ decimal sensor.lun))
    ∷ (codes "Sensor", byte_h sensor.number)
    ∷ (codes "Entity", entity_text sensor.entity)
    ∷ (codes "Kind", sensor_type_text_of sensor.sensor_type)
    ∷ (codes "Event type", byte_h sensor.event_type)
    ∷ [])

-- the lines of a device
abbrev pub locator_lines : Option Locator → List ℕ
locator_lines None = []
locator_lines (Some locator) =
    labelled (codes "Address") (byte_h locator.address)
    ++ labelled (codes "Entity") (entity_text locator.entity)

-- the reading column and the status, one line each
pub record AreReadingLines (view : SdrView) (reading : KnownReading)
    (text : List ℕ) : Type 0 where
  pub column : List ℕ
  pub is_column : IsReadingColumn view reading column
  pub text_is : text ≡ labelled (codes "Reading") column
      ++ labelled (codes "Status") (status_of view reading)

abbrev pub threshold_name : Threshold → List ℕ
threshold_name Threshold.UpperNonRecoverable = codes "Upper non-recoverable"
threshold_name Threshold.UpperCritical = codes "Upper critical"
threshold_name Threshold.UpperNonCritical = codes "Upper non-critical"
threshold_name Threshold.LowerNonRecoverable = codes "Lower non-recoverable"
threshold_name Threshold.LowerCritical = codes "Lower critical"
threshold_name Threshold.LowerNonCritical = codes "Lower non-critical"

-- the line of a threshold's value
pub record IsThresholdLine (bytes : List ℕ) (threshold : Threshold) (text : List ℕ) : Type 0 where
  pub value : List ℕ
  pub is_value : IsRawText bytes (threshold_in threshold bytes) value
  pub text_is : text ≡ labelled (threshold_name threshold) value

-- no line if the threshold is not readable
abbrev pub IsThresholdText : Bool → List ℕ → Threshold → List ℕ → Type 0
IsThresholdText false bytes threshold text = text ≡ []
IsThresholdText true bytes threshold text = IsThresholdLine bytes threshold text

abbrev pub AreThresholdTexts : List ℕ → List Threshold → List ℕ → Type 0
AreThresholdTexts bytes [] text = text ≡ []
AreThresholdTexts bytes (threshold ∷ thresholds) text =
    (line more : List ℕ) × (IsThresholdText (is_readable threshold bytes) bytes threshold line
    × (AreThresholdTexts bytes thresholds more × (text ≡ line ++ more)))

-- the thresholds in the order of their bits, from bit 5 down
abbrev pub all_thresholds : List Threshold
all_thresholds =
    Threshold.UpperNonRecoverable ∷ Threshold.UpperCritical ∷ Threshold.UpperNonCritical
    ∷ Threshold.LowerNonRecoverable ∷ Threshold.LowerCritical ∷ Threshold.LowerNonCritical ∷ []

-- a sensor without thresholds has no threshold lines
abbrev pub thresholds_of : Sensor → List Threshold
thresholds_of sensor = if has_thresholds sensor then all_thresholds else []

-- a full record: its reading and its readable thresholds
pub record AreFullLines (bytes : List ℕ) (reading : KnownReading) (text : List ℕ) : Type 0 where
  pub columns : List ℕ
  pub thresholds : List ℕ
  pub are_columns : AreReadingLines (SdrView.Full bytes) reading columns
  pub are_thresholds : AreThresholdTexts bytes (thresholds_of (sensor_in bytes)) thresholds
  pub text_is : text ≡ columns ++ thresholds

-- the lines of a sensor's values: only a full and a compact record have them
abbrev pub AreValueLines : SdrView → KnownReading → List ℕ → Type 0
AreValueLines (SdrView.Full bytes) reading text = AreFullLines bytes reading text
AreValueLines (SdrView.Compact bytes) reading text =
    AreReadingLines (SdrView.Compact bytes) reading text
AreValueLines _ reading text = text ≡ []

-- the block of a record, which ends with an empty line
pub record IsSdrBlock (id : ℕ) (view : SdrView) (reading : KnownReading)
    (text : List ℕ) : Type 0 where
  pub values : List ℕ
  pub are_values : AreValueLines view reading values
  pub text_is : text ≡ concat (head_lines id view ∷ sensor_lines (sensor_of view)
      ∷ locator_lines (locator_of view) ∷ values ∷ codes "\n" ∷ [])
