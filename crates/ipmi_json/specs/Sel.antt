-- The object of an entry of the event log. Each kind always has the same keys, and a value never changes its type, except to
-- null.
use Rattle.std.specs.Prelude.{◌≡◌, ℕ, Bool, if◌then◌else◌, Option, Some, None, List, [], ◌∷◌, ◌++◌, codes}
use Rattle.json.specs.Json.{Json, null, string}
use Rattle.ipmi_text.specs.FieldText.{binary_text}
use Rattle.ipmi_text.specs.SensorTypes.{sensor_type_text_of}
use Rattle.ipmi_records.specs.Prelude.{data_after_type, entry_bytes, entry_type, event_data, event_type, generator_id, is_deasserted, manufacturer_id, oem_data, revision, sensor_number, sensor_type, time_stamp, words_of_event}
use Rattle.ipmi_records.specs.declared.sdr.SdrView.{SdrView}
use Rattle.ipmi_records.specs.declared.sel.SelView.{SelView}
use Rattle.ipmi_events.specs.Details.{IsDetails}
use Rattle.ipmi_events.specs.EventLines.{full_of, record_for}
use Rattle.ipmi_events.specs.Name.{sensor_name}
use Rattle.ipmi_events.specs.Reason.{event_reason}
use Rattle.ipmi_events.specs.Severity.{event_severity}
use Rattle.ipmi_events.specs.Words.{event_offset, event_words}
use Rattle.ipmi_json.specs.declared.object.Label.{Label}
use Rattle.ipmi_json.specs.Object.{integer, IsLineOfSome, Pair, text_or_null, text_unless_empty}
use Rattle.ipmi_json.specs.Record.{head_members, raw_members, severity_value}
use Rattle.ipmi_json.specs.Time.{IsIsoTimeOf}

abbrev pub kind_word : SelView → List ℕ
kind_word (SelView.Event bytes) = codes "event"
kind_word (SelView.OemTimed bytes) = codes "oem_timestamped"
kind_word (SelView.OemPlain bytes) = codes "oem"
kind_word (SelView.Other bytes) = codes "unknown"

-- the time, and the time stamp itself
abbrev pub time_members : Option (List ℕ) → ℕ → List Pair
time_members time stamp =
    (codes "timestamp", text_or_null time) ∷ (codes "timestamp_raw", integer stamp) ∷ []

abbrev pub data_members : List ℕ → List Pair
data_members bytes = (codes "oem_data", string (binary_text bytes)) ∷ []

-- ---- events

-- the record of an event's sensor among the records of a repository, if they are given
abbrev pub sensor_record : List ℕ → Option (List (List ℕ)) → Option SdrView
sensor_record event None = None
sensor_record event (Some records) = record_for event records

-- the name of the sensor; null if it has no record, or the record has no name
abbrev pub name_by : List ℕ → Option SdrView → Json
name_by event None = null
name_by event (Some view) = text_unless_empty (sensor_name view (sensor_number event))

-- the source of the event
abbrev pub source_members : Option SdrView → List ℕ → List Pair
source_members view bytes =
    (codes "generator_id", integer (generator_id bytes))
    ∷ (codes "event_revision", integer (revision bytes))
    ∷ (codes "sensor_type", integer (sensor_type bytes))
    ∷ (codes "sensor_type_name", string (sensor_type_text_of (sensor_type bytes)))
    ∷ (codes "sensor_number", integer (sensor_number bytes))
    ∷ (codes "sensor_name", name_by bytes view)
    ∷ []

abbrev pub direction_word : Bool → List ℕ
direction_word deasserted = if deasserted then codes "deasserted" else codes "asserted"

-- the meaning of the event
abbrev pub meaning_members : List ℕ → List Pair
meaning_members bytes =
    (codes "event_type", integer (event_type bytes))
    ∷ (codes "event", string (words_of_event bytes))
    ∷ (codes "event_words", text_or_null (event_words (event_type bytes) (sensor_type bytes) (event_offset bytes)))
    ∷ (codes "direction", string (direction_word (is_deasserted bytes)))
    ∷ (codes "severity", severity_value (event_severity bytes))
    ∷ (codes "severity_reason", text_or_null (event_reason bytes))
    ∷ (codes "event_data", string (binary_text (event_data bytes)))
    ∷ []

-- the details in its second and third byte of data; the full record of its sensor, if there is one, converts raw bytes to
-- values
abbrev pub AreDetailsMembers : List ℕ → Option SdrView → List Pair → Type 0
AreDetailsMembers bytes view ms =
    (details : List ℕ) × (IsDetails bytes (full_of view) details
    × (ms ≡ (codes "event_details", text_unless_empty details) ∷ []))

pub record AreEventMembers (bytes : List ℕ) (view : Option SdrView) (ms : List Pair) : Type 0 where
  pub time : Option (List ℕ)
  pub details : List Pair
  pub is_time : IsIsoTimeOf (time_stamp bytes) time
  pub are_details : AreDetailsMembers bytes view details
  pub are : ms ≡ ((time_members time (time_stamp bytes) ++ source_members view bytes)
      ++ meaning_members bytes) ++ details

-- ---- entries

-- an OEM timestamped record
pub record AreTimedMembers (bytes : List ℕ) (ms : List Pair) : Type 0 where
  pub time : Option (List ℕ)
  pub is_time : IsIsoTimeOf (time_stamp bytes) time
  pub are : ms ≡ (time_members time (time_stamp bytes)
      ++ (codes "manufacturer_id", integer (manufacturer_id bytes)) ∷ [])
      ++ data_members (oem_data bytes)

-- the members by the kind of the entry; the records of a repository, if they are given, name an event's sensor
abbrev pub AreTold : SelView → Option (List (List ℕ)) → List Pair → Type 0
AreTold (SelView.Event bytes) records ms = AreEventMembers bytes (sensor_record bytes records) ms
AreTold (SelView.OemTimed bytes) records ms = AreTimedMembers bytes ms
AreTold (SelView.OemPlain bytes) records ms = ms ≡ data_members (data_after_type bytes)
AreTold (SelView.Other bytes) records ms = ms ≡ data_members (data_after_type bytes)

-- the members of an entry, with its id
pub record AreEntryMembers (id : ℕ) (view : SelView) (records : Option (List (List ℕ)))
    (ms : List Pair) : Type 0 where
  pub told : List Pair
  pub are_told : AreTold view records told
  pub are : ms ≡ (head_members (codes "sel_entry") id (entry_type (entry_bytes view)) (kind_word view)
      ++ told) ++ raw_members (entry_bytes view)

-- the line of an entry, with its id
abbrev pub IsSelLine : ℕ → SelView → Option (List (List ℕ)) → List Label → List ℕ → Type 0
IsSelLine id view records labels text =
    IsLineOfSome (AreEntryMembers id view records) labels text
