-- The texts of a form of output over an image that lacks readings.
use Rattle.std.specs.Prelude.{◌≡◌, ℕ, Bool, false, ◌==◌, ◌&&◌, if◌then◌else◌, List, Option, Some, None}
use Rattle.std.specs.List.{list_any}
use Rattle.ipmi_commands.specs.Format.{Texts}
use Rattle.ipmi_image.specs.declared.lack.Item.{Item}
use Rattle.ipmi_image.specs.declared.lack.Lack.{Lack}
use Rattle.ipmi_records.specs.Sdr.{reading_of}
use Rattle.ipmi_records.specs.declared.column.KnownReading.{KnownReading}
use Rattle.ipmi_records.specs.declared.sdr.SdrView.{SdrView}

-- the reading of the sensor with this LUN and number
abbrev pub item_is_reading : ℕ × ℕ → Item → Bool
item_is_reading key (Item.Reading lun number) = (lun == key.0) && (number == key.1)
item_is_reading key item = false

abbrev pub is_reading : ℕ × ℕ → Lack → Bool
is_reading key lack = item_is_reading key lack.item

abbrev pub lacks_reading : List Lack → Option (ℕ × ℕ) → Bool
lacks_reading lacks None = false
lacks_reading lacks (Some key) = list_any (is_reading key) lacks

-- a reading that the image has not, and that is among these, was not captured
abbrev pub captured : List Lack → SdrView → KnownReading → KnownReading
captured lacks view KnownReading.Absent =
    if lacks_reading lacks (reading_of view) then KnownReading.NotCaptured else KnownReading.Absent
captured lacks view reading = reading

-- only the texts of records with such a reading are others
abbrev pub with_lacks : List Lack → Texts → Texts
with_lacks lacks x = record x {
  IsRecord = λ detail id view reading text. x.IsRecord detail id view (captured lacks view reading) text;
}

-- a reading that is not among these is printed as it is
abbrev pub OthersStay : Type 0
OthersStay = (lacks : List Lack) (view : SdrView) (reading : KnownReading)
    → lacks_reading lacks (reading_of view) ≡ false → captured lacks view reading ≡ reading
