-- How bad a state or an event is. The standard gives severities to the offsets of types 01h and 07h only; the others are
-- those of FreeIPMI, or decided.
use Rattle.std.specs.Prelude.{ℕ, ◌-◌, ◌==◌, List, [], ◌∷◌, map, codes, Option, None, Some, option_map, slice_get, if◌then◌else◌}
use Rattle.std.specs.Option.{option_and_then}
use Rattle.ipmi_records.specs.Prelude.{event_type, is_deasserted, sensor_type}
use Rattle.ipmi_events.specs.Words.{event_offset}
use Rattle.ipmi_events.specs.declared.severity.Severity.{Severity}

abbrev pub severity_word : Severity → List ℕ
severity_word Severity.Nominal = codes "nominal"
severity_word Severity.Warning = codes "warning"
severity_word Severity.Critical = codes "critical"

-- the column of a severity: its word, or a dash if there is none
abbrev pub severity_column : Option Severity → List ℕ
severity_column None = codes "-"
severity_column (Some severity) = severity_word severity

-- n: nominal, w: warning, c: critical; another letter marks an offset that the standard reserves
abbrev pub severity_by : ℕ → Option Severity
severity_by letter =
    if letter == 0x6e then Some Severity.Nominal
    else (if letter == 0x77 then Some Severity.Warning
    else (if letter == 0x63 then Some Severity.Critical else None))

-- a letter for each offset of a generic type, from 01h (IPMI v2.0, table 42-2)
abbrev pub generic_types : List (List ℕ)
generic_types =
    codes "wncwccnwwccc" ∷  -- 01h thresholds
    codes "nnn" ∷  -- 02h usage states
    codes "nw" ∷  -- 03h digital states
    codes "nc" ∷  -- 04h predictive failure
    codes "nc" ∷  -- 05h limit exceeded
    codes "nc" ∷  -- 06h performance
    codes "nwccwccwn" ∷  -- 07h severities
    codes "cn" ∷  -- 08h device presence
    codes "wn" ∷  -- 09h device enabled
    codes "nwwnwwcwc" ∷  -- 0Ah availability
    codes "ncwcccww" ∷  -- 0Bh redundancy
    codes "nnnn" ∷ []  -- 0Ch ACPI device power states

-- and of a sensor type, from 01h (table 42-3)
abbrev pub sensor_types : List (List ℕ)
sensor_types =
    [] ∷
    [] ∷
    [] ∷
    [] ∷
    codes "ccccccc" ∷  -- 05h Physical Security (Chassis Intrusion)
    codes "cccccc" ∷  -- 06h Platform Security Violation Attempt
    codes "cccccccncnwcw" ∷  -- 07h Processor
    codes "nccccccw" ∷  -- 08h Power Supply
    codes "nnwwcccc" ∷  -- 09h Power Unit
    [] ∷
    [] ∷
    codes "wccccwncnwc" ∷  -- 0Ch Memory
    codes "nccnnccnc" ∷  -- 0Dh Drive Slot (Drive Bay)
    [] ∷
    codes "ccn" ∷  -- 0Fh System Firmware Progress
    codes "ccnccwc" ∷  -- 10h Event Logging Disabled
    codes "cccccwww" ∷  -- 11h Watchdog 1
    codes "wncnnw" ∷  -- 12h System Event
    codes "cccwcccwcccw" ∷  -- 13h Critical Interrupt
    codes "nnnww" ∷  -- 14h Button / Switch
    [] ∷
    [] ∷
    [] ∷
    [] ∷
    codes "cc" ∷  -- 19h Chip Set
    [] ∷
    codes "nc" ∷  -- 1Bh Cable / Interconnect
    [] ∷
    codes "nnnnnwwn" ∷  -- 1Dh System Boot / Restart Initiated
    codes "ccccw" ∷  -- 1Eh Boot Error
    codes "nnnnnnwnnwc" ∷  -- 1Fh Base OS Boot / Installation Status
    codes "ccwwwc" ∷  -- 20h OS Stop / Shutdown
    codes "cwnnnnwwwn" ∷  -- 21h Slot / Connector
    codes "nnnnnnnnnnnnn-c" ∷  -- 22h System ACPI Power State
    codes "wccc----w" ∷  -- 23h Watchdog 2
    codes "nnnn" ∷  -- 24h Platform Alert
    codes "ncc" ∷  -- 25h Entity Presence
    [] ∷
    codes "wn" ∷  -- 27h LAN
    codes "cccccc" ∷  -- 28h Management Subsystem Health
    codes "wcn" ∷  -- 29h Battery
    codes "nnwc" ∷  -- 2Ah Session Audit
    codes "wwccccnn" ∷  -- 2Bh Version Change
    codes "ccwwnwwc" ∷ []  -- 2Ch FRU State

-- the severities of such types
abbrev pub severities : List (List ℕ) → List (List (Option Severity))
severities types = map (λ letters. map severity_by letters) types

-- the severity at an offset of the type with this code, which is 01h for the first
abbrev pub severity_at : List (List (Option Severity)) → ℕ → ℕ → Option Severity
severity_at types code offset =
    if code == 0 then None
    else option_and_then (λ type. option_and_then (λ severity. severity) (slice_get type offset)) (slice_get types (code - 1))

-- of event/reading type 6Fh by the sensor type, of others by themselves
unfoldable pub severity_of : ℕ → ℕ → ℕ → Option Severity
severity_of event_type sensor_type offset =
    if event_type == 0x6f then severity_at (severities sensor_types) sensor_type offset
    else severity_at (severities generic_types) event_type offset

-- of the state that an event reports; it is nominal if that state was deasserted
abbrev pub event_severity : List ℕ → Option Severity
event_severity event =
    option_map (λ severity. if is_deasserted event then Severity.Nominal else severity)
    (severity_of (event_type event) (sensor_type event) (event_offset event))
