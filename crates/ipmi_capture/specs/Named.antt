-- Sensors and devices that records name, each marked at its index.
use Rattle.std.specs.Prelude.{◌≡◌, ℕ, ◌+◌, ◌*◌, ◌<◌, Bool, true, false, Option, Some, None, List, All, map, nat_eq, set, slice_index_or}
use Rattle.std.specs.List.{list_any}
use Rattle.ipmi_capture.specs.Below.{Row}
use Rattle.ipmi_capture.specs.Capture.{devices_of, sensors_of}

-- a sensor has a LUN of two bits, and a number of one byte
pub record IsSensorKey (key : ℕ × ℕ) : Type 0 where
  pub lun : key.0 < 4
  pub number : key.1 < 256

-- the index of a sensor; no two of the 1024 sensors have the same
abbrev pub sensor_place : ℕ × ℕ → ℕ
sensor_place key = key.0 * 256 + key.1

-- the marks with one more, if there is an index
abbrev pub marked : List Bool → Option ℕ → List Bool
marked marks None = marks
marked marks (Some place) = set marks place true

-- these indexes are marked, and no others
abbrev pub AreMarks : List Bool → List ℕ → Type 0
AreMarks marks places = (place : ℕ) → slice_index_or marks place false ≡ list_any (nat_eq place) places

-- the sensors and devices that the rows name are marked, and no others
pub record Names (rows : List Row) (sensors devices : List Bool) : Type 0 where
  pub sensors_are : AreMarks sensors (map sensor_place (sensors_of rows))
  pub keys : All IsSensorKey (sensors_of rows)
  pub devices_are : AreMarks devices (devices_of rows)
  pub ids : All (λ id. id < 256) (devices_of rows)
