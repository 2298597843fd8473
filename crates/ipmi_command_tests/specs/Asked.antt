-- The request of a message, as a controller reads it.
use Rattle.std.specs.Prelude.{ℕ, ◌+◌, ◌*◌, ◌==◌, ◌&&◌, nat_lt, if◌then◌else◌, Option, Some, None, List, [], ◌∷◌}
use Rattle.ipmi_bus.specs.declared.controller.Shelf.{Shelf}
use Rattle.ipmi_bus.specs.declared.controller.Shelf.TheVariants.{Sdr, Sel}
use Rattle.ipmi_raw.specs.declared.request.Request.{Request}
use Rattle.ipmi_raw.specs.declared.request.Request.TheVariants.{DeviceId, Reserve, Get, Info, InventorySize, ReadInventory, Reading}

-- with a network function and a command only
abbrev pub of_two : ℕ → ℕ → Option Request
of_two function command =
    if (function == 0x0A) && (command == 0x20) then Some (Info Sdr)
    else if (function == 0x0A) && (command == 0x22) then Some (Reserve Sdr)
    else if (function == 0x0A) && (command == 0x40) then Some (Info Sel)
    else if (function == 0x0A) && (command == 0x42) then Some (Reserve Sel)
    else if (function == 0x06) && (command == 0x01) then Some DeviceId
    else None

-- with one byte of data
abbrev pub of_three : ℕ → ℕ → ℕ → ℕ → Option Request
of_three lun function command number =
    if (function == 0x0A) && (command == 0x10) then Some (InventorySize number)
    else if (function == 0x04) && (command == 0x2D) then Some (Reading lun number)
    else None

-- with four bytes of data
abbrev pub of_six : ℕ → ℕ → ℕ → ℕ → ℕ → Option Request
of_six function command id offset count =
    if (function == 0x0A) && ((command == 0x11) && (nat_lt 0 count && nat_lt count 255))
    then Some (ReadInventory (record { id = id; offset = offset; count = count }))
    else None

-- for a part of a record
abbrev pub part_of : Shelf → ℕ → ℕ → ℕ → ℕ → Option Request
part_of shelf reservation id offset count =
    if nat_lt 0 count && nat_lt count 255
    then Some (Get (record { shelf = shelf; reservation = reservation; id = id; offset = offset; count = count }))
    else None

-- with six bytes of data: FFh asks for the sixteen bytes of a whole event log entry
abbrev pub of_eight : ℕ → ℕ → ℕ → ℕ → ℕ → ℕ → Option Request
of_eight function command reservation id offset count =
    if (function == 0x0A) && (command == 0x23) then part_of Sdr reservation id offset count
    else if (function == 0x0A) && (command == 0x43)
    then part_of Sel reservation id offset (if (offset == 0) && (count == 0xFF) then 16 else count)
    else None

-- a two-byte number
abbrev pub number : ℕ → ℕ → ℕ
number low high = low + 256 * high

abbrev pub asked_by : ℕ → List ℕ → Option Request
asked_by lun (function ∷ command ∷ []) = of_two function command
asked_by lun (function ∷ command ∷ byte ∷ []) = of_three lun function command byte
asked_by lun (function ∷ command ∷ id ∷ low ∷ high ∷ count ∷ []) = of_six function command id (number low high) count
asked_by lun (function ∷ command ∷ low ∷ high ∷ id_low ∷ id_high ∷ offset ∷ count ∷ []) =
    of_eight function command (number low high) (number id_low id_high) offset count
asked_by lun _ = None
