-- The commands of requests.
use Rattle.std.proofs.Common.{◌≡◌, ℕ, Bool, true, false, List, refl}
use Rattle.ipmi_bus.specs.declared.controller.Shelf.{Shelf}
use Rattle.ipmi_bus.specs.declared.controller.Shelf.TheVariants.{Sdr, Sel}
use Rattle.ipmi_raw.specs.declared.request.Request.{Request}
use Rattle.ipmi_raw.specs.declared.request.Request.TheVariants.{DeviceId, Reserve, Get, Info, InventorySize, ReadInventory, Reading}
use Rattle.ipmi_raw.specs.Commands.{has_one_of, inventory_changes, is_one_of, log_changes, NoneHas, OnlyReadingCommands, reading_commands, record_changes, resets, sensor_changes}
use Rattle.ipmi_raw.specs.Request.{for_shelf}

-- whether each command of a request is one of these
abbrev AreAnswered : List (ℕ × ℕ) → Bool → Type 0
AreAnswered commands answer =
    (is_one_of commands 0x0A 0x10 ≡ answer) × (is_one_of commands 0x0A 0x11 ≡ answer)
    × (is_one_of commands 0x0A 0x20 ≡ answer) × (is_one_of commands 0x0A 0x40 ≡ answer)
    × (is_one_of commands 0x0A 0x22 ≡ answer) × (is_one_of commands 0x0A 0x42 ≡ answer)
    × (is_one_of commands 0x0A 0x23 ≡ answer) × (is_one_of commands 0x0A 0x43 ≡ answer)
    × (is_one_of commands 0x04 0x2D ≡ answer) × (is_one_of commands 0x06 0x01 ≡ answer)

of_shelf : (commands : List (ℕ × ℕ)) (answer : Bool) (sdr sel : ℕ) → is_one_of commands 0x0A sdr ≡ answer
    → is_one_of commands 0x0A sel ≡ answer → (shelf : Shelf) → is_one_of commands 0x0A (for_shelf shelf sdr sel) ≡ answer
of_shelf commands answer sdr sel one other Sdr = one
of_shelf commands answer sdr sel one other Sel = other

answered : (commands : List (ℕ × ℕ)) (answer : Bool) → AreAnswered commands answer
    → (request : Request) → has_one_of commands request ≡ answer
answered commands answer are (InventorySize id) = are.0
answered commands answer are (ReadInventory part) = are.1
answered commands answer are (Info shelf) = of_shelf commands answer 0x20 0x40 are.2 are.3 shelf
answered commands answer are (Reserve shelf) = of_shelf commands answer 0x22 0x42 are.4 are.5 shelf
answered commands answer are (Get part) = of_shelf commands answer 0x23 0x43 are.6 are.7 part.shelf
answered commands answer are (Reading lun number) = are.8
answered commands answer are DeviceId = are.9

pub only_reading_commands : OnlyReadingCommands
only_reading_commands = answered reading_commands true (refl, refl, refl, refl, refl, refl, refl, refl, refl, refl)

pub no_inventory_changes : NoneHas inventory_changes
no_inventory_changes = answered inventory_changes false (refl, refl, refl, refl, refl, refl, refl, refl, refl, refl)

pub no_record_changes : NoneHas record_changes
no_record_changes = answered record_changes false (refl, refl, refl, refl, refl, refl, refl, refl, refl, refl)

pub no_log_changes : NoneHas log_changes
no_log_changes = answered log_changes false (refl, refl, refl, refl, refl, refl, refl, refl, refl, refl)

pub no_sensor_changes : NoneHas sensor_changes
no_sensor_changes = answered sensor_changes false (refl, refl, refl, refl, refl, refl, refl, refl, refl, refl)

pub no_resets : NoneHas resets
no_resets = answered resets false (refl, refl, refl, refl, refl, refl, refl, refl, refl, refl)
