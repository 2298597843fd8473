-- The contents of an image as contracts see them.
use Rattle.std.specs.Prelude.{ℕ, ◌≡◌, ◌≢◌, ◌⊎◌, [], Option, Some, None, Result, Ok, Err, MatchResult, List, map, filter_map, fold, All, AllPairs}
use Rattle.ipmi_image.specs.Below.{Sdr, Sel, Store, Inventory, SensorReading, IsInventory, IsSensorReading, OtherSensor}
use Rattle.ipmi_image.specs.declared.contents.Contents.{Contents}
use Rattle.ipmi_image.specs.declared.image_line.Line.{Line as ReadLine}
use Rattle.ipmi_image.specs.declared.image_line.LineFault.{LineFault}
use Rattle.ipmi_image.specs.declared.stored.StoredSensor.{StoredSensor}
use Rattle.ipmi_image.specs.Table.{kept_inventory}
use Rattle.ipmi_image.specs.Line.{Line, a_row, an_inventory, a_reading, an_info, the_end}
use Rattle.ipmi_image.specs.Image.{chained, row_on, with_inventory_line, sensor_on, info_on, first_of}

abbrev pub sensor_of : StoredSensor → SensorReading
sensor_of sensor = record { lun = sensor.lun; number = sensor.number; reading = sensor.reading }

-- the line that was read, with these bytes
abbrev pub said : List ℕ → ReadLine → Line
said bytes (ReadLine.Row shelf id next) =
    a_row shelf (record { id = id; next = next; bytes = bytes })
said bytes (ReadLine.Inventory id) = an_inventory id bytes
said bytes (ReadLine.Reading lun number) = a_reading lun number bytes
said bytes (ReadLine.Info shelf) = an_info shelf bytes
said bytes ReadLine.End = the_end

-- the line with these bytes was read, or its fault is returned, or memory ran out
abbrev pub IsRead : Result Line LineFault → List ℕ → Result ReadLine LineFault → Type 0
IsRead wanted bytes result =
    MatchResult result (λ l. wanted ≡ Ok (said bytes l))
    (λ e. (e ≡ LineFault.Memory) ⊎ (wanted ≡ Err e))

-- the store of an image's contents
abbrev pub store_of : Contents → Store
store_of contents = record {
  sdr = chained contents.sdr;
  sel = chained contents.sel;
  inventories = map kept_inventory contents.inventories;
  readings = map sensor_of contents.sensors;
  sdr_info = contents.sdr_info;
  sel_info = contents.sel_info;
}

-- inventories that a store may have, and below, readings that it may have
pub record AreInventories (inventories : List Inventory) : Type 0 where
  pub all : All IsInventory inventories
  pub distinct : AllPairs (λ a b. a.id ≢ b.id) inventories

pub record AreReadings (readings : List SensorReading) : Type 0 where
  pub all : All IsSensorReading readings
  pub distinct : AllPairs OtherSensor readings

-- the contents are those of these lines
pub record HoldsLines (contents : Contents) (lines : List Line) : Type 0 where
  pub sdr : contents.sdr ≡ filter_map (row_on Sdr) lines
  pub sel : contents.sel ≡ filter_map (row_on Sel) lines
  pub inventories : map kept_inventory contents.inventories ≡ fold with_inventory_line [] lines
  pub readings : map sensor_of contents.sensors ≡ filter_map sensor_on lines
  pub sdr_info : contents.sdr_info ≡ first_of (filter_map (info_on Sdr) lines)
  pub sel_info : contents.sel_info ≡ first_of (filter_map (info_on Sel) lines)

-- `Done` holds if there is no fault; otherwise the fault is returned; or memory ran out
abbrev pub Puts : Option LineFault → Type 0 → Result (Unit {0}) LineFault → Type 0
Puts fault Done result =
    MatchResult result (λ done. (fault ≡ None) × Done)
    (λ e. (e ≡ LineFault.Memory) ⊎ (fault ≡ Some e))
