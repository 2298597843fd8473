-- The line of an entry in words (the project's own): the time, the sensor, the words and the severity of an
-- event.
use Rattle.std.specs.Prelude.{◌≡◌, ℕ, ◌/◌, ◌%◌, Option, Some, None, List, [], ◌∷◌, ◌++◌, codes}
use Rattle.ipmi_text.specs.Hex.{hex_word}
use Rattle.ipmi_text.specs.Times.{IsUtcTextOf}
use Rattle.ipmi_records.specs.Bytes.{columns_line}
use Rattle.ipmi_records.specs.Prelude.{direction_text, event_type, generator_id, IsSelLine, is_deasserted, numbered_sensor, sensor_number, sensor_type, time_stamp}
use Rattle.ipmi_records.specs.declared.sdr.SdrView.{SdrView}
use Rattle.ipmi_records.specs.declared.sel.SelView.{SelView}
use Rattle.ipmi_events.specs.Details.{IsDetails}
use Rattle.ipmi_events.specs.Name.{sensor_name}
use Rattle.ipmi_events.specs.Sensors.{sensor_for}
use Rattle.ipmi_events.specs.Severity.{event_severity, severity_column}
use Rattle.ipmi_events.specs.Words.{event_in_words, event_offset}

-- ---- the sensor

-- the record of the event's sensor: the owner is the low byte of the generator id, and the LUN is
-- bits 1:0 of the high byte (IPMI v2.0, table 32-1)
abbrev pub record_for : List ℕ → List (List ℕ) → Option SdrView
record_for event records =
    sensor_for (generator_id event % 256) (generator_id event / 256 % 4)
    (sensor_number event) records

-- a name, or another text if the name is empty
abbrev pub name_or : List ℕ → List ℕ → List ℕ
name_or other [] = other
name_or other (c ∷ name) = c ∷ name

-- the name of the event's sensor, even if its record has another sensor type than the event;
-- without a name, its type and number
abbrev pub sensor_column : List ℕ → Option SdrView → List ℕ
sensor_column event None = numbered_sensor (sensor_type event) (sensor_number event)
sensor_column event (Some view) =
    name_or (numbered_sensor (sensor_type event) (sensor_number event))
    (sensor_name view (sensor_number event))

-- the bytes of a full sensor record
abbrev pub full_of : Option SdrView → Option (List ℕ)
full_of (Some (SdrView.Full bytes)) = Some bytes
full_of _ = None

-- ---- lines

-- a column of the details, if there are any
abbrev pub details_columns : List ℕ → List (List ℕ)
details_columns [] = []
details_columns (c ∷ details) = (c ∷ details) ∷ []

-- the text after the other columns
abbrev pub details_column : List ℕ → List ℕ
details_column [] = []
details_column (c ∷ details) = codes " | " ++ (c ∷ details)

pub record IsEventLineInWords (id : ℕ) (event : List ℕ) (view : Option SdrView)
    (text : List ℕ) : Type 0 where
  pub time : List ℕ
  pub details : List ℕ
  pub is_time : IsUtcTextOf (time_stamp event) time
  pub are_details : IsDetails event (full_of view) details
  pub text_is : text ≡ columns_line (
      hex_word id
      ∷ time
      ∷ sensor_column event view
      ∷ event_in_words (event_type event) (sensor_type event) (event_offset event)
      ∷ direction_text (is_deasserted event)
      ∷ severity_column (event_severity event)
      ∷ details_columns details)

-- an entry that is not an event has the line of `sel list`
abbrev pub IsEventInWords : ℕ → SelView → List (List ℕ) → List ℕ → Type 0
IsEventInWords id (SelView.Event bytes) records text =
    IsEventLineInWords id bytes (record_for bytes records) text
IsEventInWords id view records text = IsSelLine id view text
