-- The store of an image is a capture of a controller's store.
use Rattle.std.specs.Prelude.{◌≡◌, ℕ, Option, None, Result, Ok, Err, List, ◌∷◌, All, filter_map, length, take, ◌⊎◌}
use Rattle.std.specs.List.{Any}
use Rattle.ipmi_capture.specs.Below.{First, info_of, inventory_of, EndsBy, IsWalk, reading_of, Row, rows_of, Sdr, SdrFault, SdrView, sdr_view_of, Sel, Shelf, Store, WalkEnd}
use Rattle.ipmi_capture.specs.Left.{EndIsNoted, LacksInfo, LacksInventory, LacksReading, LacksRecords, SameOrLeft}
use Rattle.ipmi_capture.specs.declared.left.Left.{Left}
use Rattle.ipmi_records.specs.Sdr as sdr

-- ---- what records name

-- the LUN and number of the sensor whose reading is requested for a record; none for a faulty record
abbrev pub sensor_named : Result SdrView SdrFault → Option (ℕ × ℕ)
sensor_named (Ok view) = sdr.reading_of view
sensor_named (Err fault) = None

-- the FRU device whose inventory is requested for a record
abbrev pub device_named : Result SdrView SdrFault → Option ℕ
device_named (Ok view) = sdr.fru_of view
device_named (Err fault) = None

abbrev pub sensors_of : List Row → List (ℕ × ℕ)
sensors_of rows = filter_map (λ row. sensor_named (sdr_view_of row.bytes)) rows

abbrev pub devices_of : List Row → List ℕ
devices_of rows = filter_map (λ row. device_named (sdr_view_of row.bytes)) rows

-- ---- a capture

-- the rows of the image's shelf are exactly this walk, and it is their walk from the first record, with this end
abbrev pub HasWalk : Shelf → Store → List Row → WalkEnd → Type 0
HasWalk shelf image walk end = (rows_of shelf image ≡ walk)
    × IsWalk (rows_of shelf image) First walk × EndsBy (rows_of shelf image) First walk end

-- the image's shelf has the same walk from the first record as the store's, with the same end, and no other rows
abbrev pub SameWalk : Shelf → Store → Store → Type 0
SameWalk shelf image store = (walk : List Row) (end : WalkEnd)
    → IsWalk (rows_of shelf store) First walk → EndsBy (rows_of shelf store) First walk end
    → HasWalk shelf image walk end

abbrev pub SameReading : Store → Store → ℕ × ℕ → Type 0
SameReading image store key = reading_of key.0 key.1 image ≡ reading_of key.0 key.1 store

abbrev pub SameInventory : Store → Store → ℕ → Type 0
SameInventory image store id = inventory_of id image ≡ inventory_of id store

-- the image has no value, or the value of the store
abbrev pub NoneOrSame : {V : Type 0} → Option V → Option V → Type 0
NoneOrSame of_image of_store = (of_image ≡ None) ⊎ (of_image ≡ of_store)

abbrev pub OwnReadings : Store → Store → Type 0
OwnReadings image store =
    (lun number : ℕ) → NoneOrSame (reading_of lun number image) (reading_of lun number store)

abbrev pub OwnInventories : Store → Store → Type 0
OwnInventories image store =
    (id : ℕ) → NoneOrSame (inventory_of id image) (inventory_of id store)

-- The image has both walks and both infos of the store, the reading of each sensor that a record names, and the inventories of
-- device 0 and of each device that a record names. It has no record, reading or inventory that differs from the store's.
pub record IsCaptureOf (image store : Store) : Type 0 where
  pub sdr : SameWalk Sdr image store
  pub sel : SameWalk Sel image store
  pub sdr_info : info_of Sdr image ≡ info_of Sdr store
  pub sel_info : info_of Sel image ≡ info_of Sel store
  pub readings : All (SameReading image store) (sensors_of image.sdr)
  pub inventories : All (SameInventory image store) (0 ∷ devices_of image.sdr)
  pub own_readings : OwnReadings image store
  pub own_inventories : OwnInventories image store

-- ---- a capture that lacks something

-- the same walk, whose end is noted unless it is FFFFh; or the image has only the first records of the walk, and the records
-- after them were left out (there may be none)
abbrev pub WalkOrLeft : Shelf → List Left → Store → Store → Type 0
WalkOrLeft shelf left image store = (walk : List Row) (end : WalkEnd)
    → IsWalk (rows_of shelf store) First walk → EndsBy (rows_of shelf store) First walk end
    → (HasWalk shelf image walk end × EndIsNoted shelf left end)
    ⊎ ((rows_of shelf image ≡ take (length (rows_of shelf image)) walk) × Any (LacksRecords shelf) left)

abbrev pub ReadingOrLeft : List Left → Store → Store → ℕ × ℕ → Type 0
ReadingOrLeft left image store key =
    SameOrLeft (LacksReading key.0 key.1) left (reading_of key.0 key.1 image) (reading_of key.0 key.1 store)

abbrev pub InventoryOrLeft : List Left → Store → Store → ℕ → Type 0
InventoryOrLeft left image store id =
    SameOrLeft (LacksInventory id) left (inventory_of id image) (inventory_of id store)

-- The image has each of these items of the store, unless that item was left out. It has nothing that differs from the store.
pub record IsCaptureBut (left : List Left) (image store : Store) : Type 0 where
  pub sdr : WalkOrLeft Sdr left image store
  pub sel : WalkOrLeft Sel left image store
  pub sdr_info : SameOrLeft (LacksInfo Sdr) left (info_of Sdr image) (info_of Sdr store)
  pub sel_info : SameOrLeft (LacksInfo Sel) left (info_of Sel image) (info_of Sel store)
  pub readings : All (ReadingOrLeft left image store) (sensors_of image.sdr)
  pub inventories : All (InventoryOrLeft left image store) (0 ∷ devices_of image.sdr)
  pub own_readings : OwnReadings image store
  pub own_inventories : OwnInventories image store
