-- The block of a sensor (the project's own).
use Rattle.std.specs.Prelude.{◌≡◌, ℕ, nat_lt, if◌then◌else◌, Option, Some, None, List, [], ◌∷◌, ◌++◌, codes, decimal}
use Rattle.std.specs.List.{concat}
use Rattle.ipmi_events.specs.Below.{AreThresholdTexts, IsSdrBlock, KnownReading, SdrView, Sensor, Sharing, byte_h, labelled, labelled_lines, printed_name, sensor_in, sensor_type_text_of, sharing_of, shown_of, thresholds_of, word_h}
use Rattle.ipmi_events.specs.Entities.{entity_in_words}
use Rattle.ipmi_events.specs.Shown.{IsReadingInWords}
use Rattle.ipmi_events.specs.Status.{status_in_words}

-- the number of sensors that share the record, if it is more than one
abbrev pub sharing_line : Option Sharing → List ℕ
sharing_line None = []
sharing_line (Some sharing) =
    if nat_lt 1 sharing.count
    then labelled (codes "Shared by") (decimal sharing.count ++ codes " sensors")
    else []

-- the identity of the sensor: its record with the name, its number, the sensors that share the record, its owner and LUN, its
-- entity and its type
abbrev pub identity_lines : ℕ → SdrView → Sensor → List ℕ
identity_lines id view sensor = labelled_lines (
    (codes "Record", word_h id)
    ∷ (codes "Name", printed_name view)
    ∷ (codes "Sensor", byte_h sensor.number)
    ∷ []) ++ (sharing_line (sharing_of view) ++ labelled_lines (
    (codes "Owner", byte_h sensor.owner ++ (codes " LUN " ++ decimal sensor.lun))
    ∷ (codes "Entity", entity_in_words sensor.entity)
    ∷ (codes "Kind", sensor_type_text_of sensor.sensor_type)
    ∷ []))

-- the reading and the status of the sensor
pub record AreShownLines (view : SdrView) (sensor : Sensor) (reading : KnownReading)
    (text : List ℕ) : Type 0 where
  pub column : List ℕ
  pub is_column : IsReadingInWords view reading column
  pub text_is : text ≡ labelled (codes "Reading") column
      ++ labelled (codes "Status") (status_in_words sensor (shown_of sensor reading))

-- the readable thresholds; only a full record has them
abbrev pub AreThresholdLines : SdrView → Sensor → List ℕ → Type 0
AreThresholdLines (SdrView.Full bytes) sensor text =
    AreThresholdTexts bytes (thresholds_of sensor) text
AreThresholdLines _ sensor text = text ≡ []

-- the block ends with an empty line; for sensors that share a record, it describes the first
pub record IsBlockOfSensor (id : ℕ) (view : SdrView) (sensor : Sensor) (reading : KnownReading)
    (text : List ℕ) : Type 0 where
  pub shown : List ℕ
  pub thresholds : List ℕ
  pub are_shown : AreShownLines view sensor reading shown
  pub are_thresholds : AreThresholdLines view sensor thresholds
  pub text_is : text ≡ concat (
      identity_lines id view sensor ∷ shown ∷ thresholds ∷ codes "\n" ∷ [])

-- the block of a full or a compact record; any other record has the block of `sdr get`
abbrev pub IsSensorBlock : ℕ → SdrView → KnownReading → List ℕ → Type 0
IsSensorBlock id (SdrView.Full bytes) reading text =
    IsBlockOfSensor id (SdrView.Full bytes) (sensor_in bytes) reading text
IsSensorBlock id (SdrView.Compact bytes) reading text =
    IsBlockOfSensor id (SdrView.Compact bytes) (sensor_in bytes) reading text
IsSensorBlock id view reading text = IsSdrBlock id view reading text
