-- The commands of requests, and commands that no request has. A command is a network function and a number (IPMI v2.0, appendix G).
use Rattle.std.specs.Prelude.{◌≡◌, ◌==◌, ◌&&◌, ℕ, Bool, false, true, List, [], ◌∷◌}
use Rattle.std.specs.List.{list_any}
use Rattle.ipmi_raw.specs.declared.request.Request.{Request}
use Rattle.ipmi_raw.specs.Request.{command_of, network_function_of}

-- Get FRU Inventory Area Info, Read FRU Data, Get SDR Repository Info, Reserve SDR Repository, Get SDR, Get SEL Info, Reserve SEL,
-- Get SEL Entry; Get Sensor Reading; Get Device ID
abbrev pub reading_commands : List (ℕ × ℕ)
reading_commands =
    (0x0A, 0x10) ∷ (0x0A, 0x11) ∷ (0x0A, 0x20) ∷ (0x0A, 0x22) ∷ (0x0A, 0x23) ∷ (0x0A, 0x40) ∷ (0x0A, 0x42) ∷ (0x0A, 0x43)
    ∷ (0x04, 0x2D) ∷ (0x06, 0x01) ∷ []

-- Write FRU Data
abbrev pub inventory_changes : List (ℕ × ℕ)
inventory_changes = (0x0A, 0x12) ∷ []

-- Add SDR, Partial Add SDR, Delete SDR, Clear SDR Repository, Set SDR Repository Time, Enter and Exit SDR Repository Update Mode, Run
-- Initialization Agent
abbrev pub record_changes : List (ℕ × ℕ)
record_changes =
    (0x0A, 0x24) ∷ (0x0A, 0x25) ∷ (0x0A, 0x26) ∷ (0x0A, 0x27) ∷ (0x0A, 0x29) ∷ (0x0A, 0x2A) ∷ (0x0A, 0x2B) ∷ (0x0A, 0x2C) ∷ []

-- Add SEL Entry, Partial Add SEL Entry, Delete SEL Entry, Clear SEL, Set SEL Time, Set Auxiliary Log Status, Set SEL Time UTC Offset
abbrev pub log_changes : List (ℕ × ℕ)
log_changes =
    (0x0A, 0x44) ∷ (0x0A, 0x45) ∷ (0x0A, 0x46) ∷ (0x0A, 0x47) ∷ (0x0A, 0x49) ∷ (0x0A, 0x5B) ∷ (0x0A, 0x5D) ∷ []

-- Set Event Receiver, Platform Event, Set Sensor Hysteresis, Set Sensor Threshold, Set Sensor Event Enable, Re-arm Sensor Events, Set
-- Sensor Type, Set Sensor Reading And Event Status
abbrev pub sensor_changes : List (ℕ × ℕ)
sensor_changes =
    (0x04, 0x00) ∷ (0x04, 0x02) ∷ (0x04, 0x24) ∷ (0x04, 0x26) ∷ (0x04, 0x28) ∷ (0x04, 0x2A) ∷ (0x04, 0x2E) ∷ (0x04, 0x30) ∷ []

-- Cold Reset, Warm Reset; Chassis Control, Chassis Reset
abbrev pub resets : List (ℕ × ℕ)
resets = (0x06, 0x02) ∷ (0x06, 0x03) ∷ (0x00, 0x02) ∷ (0x00, 0x03) ∷ []

-- the command of this network function and number is one of these
abbrev pub is_one_of : List (ℕ × ℕ) → ℕ → ℕ → Bool
is_one_of commands function number = list_any (λ command. (command.0 == function) && (command.1 == number)) commands

abbrev pub has_one_of : List (ℕ × ℕ) → Request → Bool
has_one_of commands request = is_one_of commands (network_function_of request) (command_of request)

-- each request has one of the ten commands that read or reserve
abbrev pub OnlyReadingCommands : Type 0
OnlyReadingCommands = (request : Request) → has_one_of reading_commands request ≡ true

-- no request has one of these commands
abbrev pub NoneHas : List (ℕ × ℕ) → Type 0
NoneHas commands = (request : Request) → has_one_of commands request ≡ false
