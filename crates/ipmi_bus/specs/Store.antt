-- The contents of a management controller: both shelves, FRU inventories, sensor readings and
-- repository info.
use Rattle.std.specs.Prelude.{◌≡◌, ◌≢◌, ℕ, ◌<◌, ◌≤◌, ◌==◌, ◌&&◌, if◌then◌else◌, Option, None, Some, IfSome, List, [], ◌∷◌, length, All, AllPairs}
use Rattle.ipmi_text.specs.declared.reading.Reading.{Reading}
use Rattle.ipmi_bus.specs.Types.{Sdr, Sel, Shelf}
use Rattle.ipmi_text.specs.Bytes.{AreBytes}
use Rattle.ipmi_bus.specs.Shelf.{Row, IsShelf}

-- the inventory of a FRU device
pub record Inventory : Type 0 where
  pub id : ℕ
  pub bytes : List ℕ

-- the answer of the sensor with this number at this LUN
pub record SensorReading : Type 0 where
  pub lun : ℕ
  pub number : ℕ
  pub reading : Reading

pub record Store : Type 0 where
  pub sdr : List Row
  pub sel : List Row
  pub inventories : List Inventory
  pub readings : List SensorReading
  pub sdr_info : Option (List ℕ)
  pub sel_info : Option (List ℕ)

abbrev pub rows_of : Shelf → Store → List Row
rows_of Sdr store = store.sdr
rows_of Sel store = store.sel

abbrev pub info_of : Shelf → Store → Option (List ℕ)
info_of Sdr store = store.sdr_info
info_of Sel store = store.sel_info

-- the reading of the sensor with this number at this LUN
abbrev pub reading_in : List SensorReading → ℕ → ℕ → Option Reading
reading_in [] lun number = None
reading_in (sensor ∷ sensors) lun number =
    if (sensor.lun == lun) && (sensor.number == number) then Some sensor.reading
    else reading_in sensors lun number

abbrev pub reading_of : ℕ → ℕ → Store → Option Reading
reading_of lun number store = reading_in store.readings lun number

-- the bytes of the inventory of the FRU device with this id
abbrev pub inventory_in : List Inventory → ℕ → Option (List ℕ)
inventory_in [] id = None
inventory_in (inventory ∷ inventories) id =
    if inventory.id == id then Some inventory.bytes else inventory_in inventories id

abbrev pub inventory_of : ℕ → Store → Option (List ℕ)
inventory_of id store = inventory_in store.inventories id

-- FRU device FFh is no device, and an inventory's size is a 16-bit number
pub record IsInventory (inventory : Inventory) : Type 0 where
  pub id : inventory.id ≤ 254
  pub fits : length inventory.bytes ≤ 65535
  pub bytes : AreBytes inventory.bytes

-- the answer of Get SDR Repository Info or Get SEL Info, without its completion code
pub record IsInfo (bytes : List ℕ) : Type 0 where
  pub len : length bytes ≡ 14
  pub all : AreBytes bytes

-- all its numbers are bytes
pub record IsSensorReading (sensor : SensorReading) : Type 0 where
  pub lun : sensor.lun < 256
  pub number : sensor.number < 256
  pub raw : sensor.reading.raw < 256
  pub flags : sensor.reading.flags < 256
  pub status : sensor.reading.status < 256
  pub more : sensor.reading.more < 256

-- two different sensors
abbrev pub OtherSensor : SensorReading → SensorReading → Type 0
OtherSensor a b = (a.lun ≡ b.lun) → (a.number ≢ b.number)

-- a well-formed store
pub record IsStore (store : Store) : Type 0 where
  pub sdr : IsShelf Sdr store.sdr
  pub sel : IsShelf Sel store.sel
  pub inventories : All IsInventory store.inventories
  pub distinct_inventories : AllPairs (λ a b. a.id ≢ b.id) store.inventories
  pub readings : All IsSensorReading store.readings
  pub distinct_readings : AllPairs OtherSensor store.readings
  pub sdr_info : IfSome store.sdr_info IsInfo
  pub sel_info : IfSome store.sel_info IsInfo

-- both shelves of a well-formed store are well formed
pub store_shelf : (shelf : Shelf) (store : Store) → IsStore store
    → IsShelf shelf (rows_of shelf store)
store_shelf Sdr store ok = ok.sdr
store_shelf Sel store ok = ok.sel
