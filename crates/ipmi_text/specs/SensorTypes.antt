-- The names of sensor types (IPMI v2.0, table 42-3).
use Rattle.std.specs.Prelude.{ℕ, ◌+◌, List, [], ◌∷◌, codes, Option, option_map}
use Rattle.std.specs.List.{position}
use Rattle.std.specs.Str.{str_eq_ignore_ascii_case}
use Rattle.ipmi_text.specs.Names.{name_from_one, name_or_code}

-- the names, starting at type 01h, some of them shortened
abbrev pub sensor_types : List (List ℕ)
sensor_types =
    codes "Temperature" ∷
    codes "Voltage" ∷
    codes "Current" ∷
    codes "Fan" ∷
    codes "Physical Security" ∷
    codes "Platform Security" ∷
    codes "Processor" ∷
    codes "Power Supply" ∷
    codes "Power Unit" ∷
    codes "Cooling Device" ∷
    codes "Other Units-based Sensor" ∷
    codes "Memory" ∷
    codes "Drive Slot" ∷
    codes "POST Memory Resize" ∷
    codes "System Firmware Progress" ∷
    codes "Event Logging Disabled" ∷
    codes "Watchdog 1" ∷
    codes "System Event" ∷
    codes "Critical Interrupt" ∷
    codes "Button" ∷
    codes "Module" ∷
    codes "Microcontroller" ∷
    codes "Add-in Card" ∷
    codes "Chassis" ∷
    codes "Chip Set" ∷
    codes "Other FRU" ∷
    codes "Cable" ∷
    codes "Terminator" ∷
    codes "System Boot Initiated" ∷
    codes "Boot Error" ∷
    codes "OS Boot" ∷
    codes "OS Stop" ∷
    codes "Slot" ∷
    codes "System ACPI Power State" ∷
    codes "Watchdog 2" ∷
    codes "Platform Alert" ∷
    codes "Entity Presence" ∷
    codes "Monitor ASIC" ∷
    codes "LAN" ∷
    codes "Management Subsystem Health" ∷
    codes "Battery" ∷
    codes "Session Audit" ∷
    codes "Version Change" ∷
    codes "FRU State" ∷ []

-- the name of a type, or else `sensor type 0xNN`
abbrev pub sensor_type_text_of : ℕ → List ℕ
sensor_type_text_of code = name_or_code (name_from_one sensor_types code) (codes "sensor type") code

-- the type with this name, in capital or small letters
abbrev pub sensor_type_named : List ℕ → Option ℕ
sensor_type_named name = option_map (λ place. place + 1) (position (λ known. str_eq_ignore_ascii_case known name) sensor_types)
