-- The sensors of sensor data records (IPMI v2.0, section 43).
use Rattle.std.specs.Prelude.{◌≡◌, ℕ, zero, suc, ◌+◌, ◌*◌, ◌<◌, ◌==◌, ◌&&◌, nat_le, nat_lt, not, Bool, false, if◌then◌else◌, Option, Some, None, MatchOption, option_and_then, List, [], ◌∷◌, length, take, drop, filter_map, get_or}
use Rattle.std.specs.List.{find}
use Rattle.std.specs.Result.{result_ok}
use Rattle.ipmi_text.specs.SdrHeader.{sdr_len}
use Rattle.ipmi_records.specs.Prelude.{sdr_view_of, sensor_of, sharing_of}
use Rattle.ipmi_records.specs.declared.sdr.SdrView.{SdrView}
use Rattle.ipmi_records.specs.declared.sensor.Sensor.{Sensor}
use Rattle.ipmi_records.specs.declared.sharing.Sharing.{Sharing}

-- ---- concatenated records

-- the record at the start of the bytes, if it is complete
abbrev pub first_record : List ℕ → Option (List ℕ)
first_record bytes =
    if nat_le (sdr_len bytes) (length bytes) then Some (take (sdr_len bytes) bytes) else None

-- the concatenated records from the first byte, at most this many
unfoldable pub first_records : ℕ → List ℕ → List (List ℕ)
first_records zero bytes = []
first_records (suc most) bytes =
    if nat_le (sdr_len bytes) (length bytes)
    then take (sdr_len bytes) bytes ∷ first_records most (drop (sdr_len bytes) bytes)
    else []

-- all records: a record has at least 5 bytes, so there are at most as many records as bytes; bytes
-- at the end that are not a whole record are ignored
unfoldable pub records_in : List ℕ → List (List ℕ)
records_in bytes = first_records (length bytes) bytes

-- a record has a header and as many bytes as the header says
abbrev pub is_whole_record : List ℕ → Bool
is_whole_record bytes = not (nat_lt (length bytes) 5) && (length bytes == sdr_len bytes)

-- ---- the record of a sensor

-- the number of sensors that a record describes; a count of 0 is treated as a record that is not
-- shared
abbrev pub count_of : Option Sharing → ℕ
count_of None = 1
count_of (Some sharing) = if sharing.count == 0 then 1 else sharing.count

-- A record of `count` sensors describes this one: it has this owner and LUN, and the numbers of its
-- sensors are consecutive, starting with its own. Channels are not compared: two controllers with
-- the same address on different channels are not distinguished.
abbrev pub is_among : ℕ → ℕ → ℕ → ℕ → Option Sensor → Bool
is_among owner lun number count None = false
is_among owner lun number count (Some sensor) =
    (sensor.owner == owner) && ((sensor.lun == lun)
    && (nat_le sensor.number number && nat_lt number (sensor.number + count)))

abbrev pub is_of_sensor : ℕ → ℕ → ℕ → SdrView → Bool
is_of_sensor owner lun number view =
    is_among owner lun number (count_of (sharing_of view)) (sensor_of view)

-- the view of a record, if it has no fault
abbrev pub view_of : List ℕ → Option SdrView
view_of bytes = result_ok (sdr_view_of bytes)

-- the first record of the sensor with this owner, LUN and number; records with a fault are skipped
abbrev pub sensor_for : ℕ → ℕ → ℕ → List (List ℕ) → Option SdrView
sensor_for owner lun number records =
    find (is_of_sensor owner lun number) (filter_map view_of records)

-- ---- the index

-- the row of an owner's sensors at a LUN: there is a page for each row, with a place for each number
abbrev pub row_of : ℕ → ℕ → ℕ
row_of owner lun = lun * 256 + owner

-- the place that the pages have for the number of a row; `none` where there is no page
abbrev pub place_in : List (List ℕ) → ℕ → ℕ → ℕ → ℕ
place_in pages row number none = get_or (get_or pages row []) number none

-- the record at a place, if it has no fault
abbrev pub view_at : List ℕ → ℕ → Option SdrView
view_at bytes place =
    option_and_then view_of (first_record (drop place bytes))

-- a sensor's place is that of its record, or the end of the bytes if it has none
abbrev pub IsPlaceOf : List ℕ → ℕ → Option SdrView → Type 0
IsPlaceOf bytes place view =
    MatchOption view (place ≡ length bytes) (λ v. view_at bytes place ≡ Some v)

abbrev pub IsIndex : List ℕ → List (List ℕ) → List (List ℕ) → Type 0
IsIndex bytes records pages = (owner lun number : ℕ) → owner < 256 → number < 256
    → IsPlaceOf bytes (place_in pages (row_of owner lun) number (length bytes))
    (sensor_for owner lun number records)

-- the place of a record, if it is the first record of the sensor; otherwise the old value
abbrev pub noted : Bool → ℕ → ℕ → ℕ → ℕ
noted named place none old = if named && (old == none) then place else old

-- whether there is a view, and its record describes the sensor
abbrev pub names : ℕ → ℕ → ℕ → Option SdrView → Bool
names owner lun number None = false
names owner lun number (Some view) = is_of_sensor owner lun number view
