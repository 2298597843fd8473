-- The names of sensors and of FRU devices.
use Rattle.std.specs.Prelude.{ℕ, ◌+◌, ◌-◌, ◌/◌, ◌%◌, ◌==◌, nat_lt, Bool, false, if◌then◌else◌, Option, Some, None, option_map, List, [], ◌∷◌, ◌++◌, codes, decimal, filter_map, nat_eq}
use Rattle.std.specs.List.{ends_with, find}
use Rattle.ipmi_records.specs.Prelude.{fru_of, printed_name, sensor_of, sharing_of}
use Rattle.ipmi_records.specs.declared.sdr.SdrView.{SdrView}
use Rattle.ipmi_records.specs.declared.sensor.Sensor.{Sensor}
use Rattle.ipmi_records.specs.declared.sharing.Modifier.{Modifier}
use Rattle.ipmi_records.specs.declared.sharing.Sharing.{Sharing}
use Rattle.ipmi_events.specs.Sensors.{view_of}

-- ---- ID string instance modifiers (IPMI v2.0, table 43-2)

-- letter 0 is `A`
abbrev pub letter : ℕ → ℕ
letter n = 0x41 + n

-- `A` to `Z`, then `AA`, `AB` and so on; two letters are always enough
abbrev pub letters : ℕ → List ℕ
letters n =
    if nat_lt n 26 then letter n ∷ []
    else letter (n / 26 - 1) ∷ letter (n % 26) ∷ []

-- a reserved modifier has no text
abbrev pub modifier_text : Modifier → ℕ → Option (List ℕ)
modifier_text Modifier.Numeric n = Some (decimal n)
modifier_text Modifier.Alpha n = Some (letters n)
modifier_text Modifier.Reserved n = None

-- ---- sensors

-- the suffix of the sensor with this number among those that share its record: the offset plus the
-- distance from the record's own number (0 for a number below it); none if the record is not shared
abbrev pub suffix_of : Option Sensor → Option Sharing → ℕ → Option (List ℕ)
suffix_of (Some sensor) (Some sharing) number =
    if nat_lt 1 sharing.count
    then modifier_text sharing.modifier (sharing.offset + (number - sensor.number))
    else None
suffix_of _ _ number = None

-- a space between a name and its suffix, as in `Temp 5`; a name that ends with a space gets no
-- second
abbrev pub space_after : List ℕ → List ℕ
space_after name = if ends_with nat_eq name (codes " ") then [] else codes " "

-- the text of a suffix after this name
abbrev pub suffix_text : List ℕ → Option (List ℕ) → List ℕ
suffix_text name None = []
suffix_text name (Some suffix) = space_after name ++ suffix

-- a name with its suffix; an empty name gets none
abbrev pub followed_by : Option (List ℕ) → List ℕ → List ℕ
followed_by suffix [] = []
followed_by suffix (c ∷ name) = (c ∷ name) ++ suffix_text (c ∷ name) suffix

-- the name of the sensor with this number: that of its record, with the sensor's own suffix;
-- without a name of the record, its sensors have none
abbrev pub sensor_name : SdrView → ℕ → List ℕ
sensor_name view number =
    followed_by (suffix_of (sensor_of view) (sharing_of view) number) (printed_name view)

-- ---- FRU devices

abbrev pub is_device : ℕ → Option ℕ → Bool
is_device id None = false
is_device id (Some device) = device == id

-- a record is a locator of the controller's FRU device with this id
abbrev pub locates : ℕ → SdrView → Bool
locates id view = is_device id (fru_of view)

-- the first locator of the device; records with a fault are skipped
abbrev pub locator_for : ℕ → List (List ℕ) → Option SdrView
locator_for id records = find (locates id) (filter_map view_of records)

-- the name of the device, if it has a locator
abbrev pub device_name : ℕ → List (List ℕ) → Option (List ℕ)
device_name id records = option_map printed_name (locator_for id records)
