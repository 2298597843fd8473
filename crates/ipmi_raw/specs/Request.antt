-- The bytes of each request (IPMI v2.0; appendix G has the numbers of all commands).
use Rattle.std.specs.Prelude.{ℕ, ◌/◌, ◌%◌, ◌<◌, ◌==◌, ◌&&◌, nat_le, if◌then◌else◌, ◌++◌, List, [], ◌∷◌}
use Rattle.ipmi_bus.specs.declared.controller.Shelf.{Shelf}
use Rattle.ipmi_bus.specs.declared.controller.Shelf.TheVariants.{Sdr, Sel}
use Rattle.ipmi_raw.specs.declared.request.InventoryPart.{InventoryPart}
use Rattle.ipmi_raw.specs.declared.request.RecordPart.{RecordPart}
use Rattle.ipmi_raw.specs.declared.request.Request.{Request}
use Rattle.ipmi_raw.specs.declared.request.Request.TheVariants.{DeviceId, Reserve, Get, Info, InventorySize, ReadInventory, Reading}

-- 06h is application, 0Ah is storage, 04h is sensor
abbrev pub network_function_of : Request → ℕ
network_function_of DeviceId = 0x06
network_function_of (Reserve shelf) = 0x0A
network_function_of (Get part) = 0x0A
network_function_of (Info shelf) = 0x0A
network_function_of (InventorySize id) = 0x0A
network_function_of (ReadInventory part) = 0x0A
network_function_of (Reading lun number) = 0x04

abbrev pub lun_of : Request → ℕ
lun_of DeviceId = 0
lun_of (Reserve shelf) = 0
lun_of (Get part) = 0
lun_of (Info shelf) = 0
lun_of (InventorySize id) = 0
lun_of (ReadInventory part) = 0
lun_of (Reading lun number) = lun

-- one of two commands, the first for sensor data records, the second for the event log
abbrev pub for_shelf : Shelf → ℕ → ℕ → ℕ
for_shelf Sdr sdr sel = sdr
for_shelf Sel sdr sel = sel

abbrev pub command_of : Request → ℕ
command_of DeviceId = 0x01
command_of (Reserve shelf) = for_shelf shelf 0x22 0x42
command_of (Get part) = for_shelf part.shelf 0x23 0x43
command_of (Info shelf) = for_shelf shelf 0x20 0x40
command_of (InventorySize id) = 0x10
command_of (ReadInventory part) = 0x11
command_of (Reading lun number) = 0x2D

-- FFh requests a whole record. An event log entry has sixteen bytes, and some controllers do not
-- return parts of one, so a whole entry is requested with FFh. A sensor data record is requested
-- with the actual count, as the buffers of some controllers are smaller than a whole record.
abbrev pub count_asked : RecordPart → ℕ
count_asked part = for_shelf part.shelf part.count (if (part.offset == 0) && nat_le 16 part.count then 0xFF else part.count)

-- a two-byte number, the low byte first
abbrev pub two_bytes : ℕ → List ℕ
two_bytes n = (n % 256) ∷ (n / 256) ∷ []

abbrev pub data_of : Request → List ℕ
data_of DeviceId = []
data_of (Reserve shelf) = []
data_of (Get part) = two_bytes part.reservation ++ two_bytes part.id ++ part.offset ∷ count_asked part ∷ []
data_of (Info shelf) = []
data_of (InventorySize id) = id ∷ []
data_of (ReadInventory part) = part.id ∷ two_bytes part.offset ++ part.count ∷ []
data_of (Reading lun number) = number ∷ []

-- network function, command and data
abbrev pub message_of : Request → List ℕ
message_of request = network_function_of request ∷ command_of request ∷ data_of request

-- ---- the requests of calls

abbrev pub record_part : Shelf → ℕ → ℕ → ℕ → ℕ → RecordPart
record_part shelf reservation id offset count = record {
  shelf = shelf;
  reservation = reservation;
  id = id;
  offset = offset;
  count = count;
}

abbrev pub inventory_part : ℕ → ℕ → ℕ → InventoryPart
inventory_part id offset count = record { id = id; offset = offset; count = count }

-- Each number fits its field of the message, and a part has 1 to 254 bytes. The logical unit may be
-- any byte: a message can hold only 0 to 3, and no sensor answers at another unit.
abbrev pub IsRequest : Request → Type 0
IsRequest DeviceId = Unit {0}
IsRequest (Reserve shelf) = Unit {0}
IsRequest (Get part) =
    (part.reservation < 65536) × (part.id < 65536) × (part.offset < 256) × (0 < part.count) × (part.count < 255)
IsRequest (Info shelf) = Unit {0}
IsRequest (InventorySize id) = id < 256
IsRequest (ReadInventory part) = (part.id < 256) × (part.offset < 65536) × (0 < part.count) × (part.count < 255)
IsRequest (Reading lun number) = (lun < 256) × (number < 256)
