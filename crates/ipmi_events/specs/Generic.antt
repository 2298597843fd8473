-- The words of the generic event/reading types (IPMI v2.0, table 42-2), without the remarks in
-- brackets.
use Rattle.std.specs.Prelude.{ℕ, ◌==◌, List, [], ◌∷◌, codes, Option, if◌then◌else◌}
use Rattle.ipmi_text.specs.Events.{event_name}
use Rattle.ipmi_events.specs.Table.{table_from_one, words_at}

-- type 02h: usage states
abbrev pub usage_states : List (List ℕ)
usage_states =
    codes "Transition to Idle" ∷
    codes "Transition to Active" ∷
    codes "Transition to Busy" ∷ []

-- type 03h: digital states
abbrev pub digital_states : List (List ℕ)
digital_states =
    codes "State Deasserted" ∷
    codes "State Asserted" ∷ []

-- type 04h: predictive failure
abbrev pub predictive_failure : List (List ℕ)
predictive_failure =
    codes "Predictive Failure deasserted" ∷
    codes "Predictive Failure asserted" ∷ []

-- type 05h: limit exceeded
abbrev pub limit : List (List ℕ)
limit =
    codes "Limit Not Exceeded" ∷
    codes "Limit Exceeded" ∷ []

-- type 06h: performance
abbrev pub performance : List (List ℕ)
performance =
    codes "Performance Met" ∷
    codes "Performance Lags" ∷ []

-- type 07h: severities
abbrev pub severities : List (List ℕ)
severities =
    codes "transition to OK" ∷
    codes "transition to Non-Critical from OK" ∷
    codes "transition to Critical from less severe" ∷
    codes "transition to Non-recoverable from less severe" ∷
    codes "transition to Non-Critical from more severe" ∷
    codes "transition to Critical from Non-recoverable" ∷
    codes "transition to Non-recoverable" ∷
    codes "Monitor" ∷
    codes "Informational" ∷ []

-- type 08h: device presence
abbrev pub device_presence : List (List ℕ)
device_presence =
    codes "Device Removed / Device Absent" ∷
    codes "Device Inserted / Device Present" ∷ []

-- type 09h: device enabled
abbrev pub device_enabled : List (List ℕ)
device_enabled =
    codes "Device Disabled" ∷
    codes "Device Enabled" ∷ []

-- type 0Ah: availability
abbrev pub availability : List (List ℕ)
availability =
    codes "transition to Running" ∷
    codes "transition to In Test" ∷
    codes "transition to Power Off" ∷
    codes "transition to On Line" ∷
    codes "transition to Off Line" ∷
    codes "transition to Off Duty" ∷
    codes "transition to Degraded" ∷
    codes "transition to Power Save" ∷
    codes "Install Error" ∷ []

-- type 0Bh: redundancy
abbrev pub redundancy : List (List ℕ)
redundancy =
    codes "Fully Redundant" ∷
    codes "Redundancy Lost" ∷
    codes "Redundancy Degraded" ∷
    codes "Non-redundant: Sufficient Resources from Redundant" ∷
    codes "Non-redundant: Sufficient Resources from Insufficient Resources" ∷
    codes "Non-redundant: Insufficient Resources" ∷
    codes "Redundancy Degraded from Fully Redundant" ∷
    codes "Redundancy Degraded from Non-redundant" ∷ []

-- type 0Ch: ACPI device power states
abbrev pub device_power_states : List (List ℕ)
device_power_states =
    codes "D0 Power State" ∷
    codes "D1 Power State" ∷
    codes "D2 Power State" ∷
    codes "D3 Power State" ∷ []

-- starting at type 01h; the table of 01h is empty, as its words are in `event_name`
abbrev pub generic_tables : List (List (List ℕ))
generic_tables =
    [] ∷
    usage_states ∷
    digital_states ∷
    predictive_failure ∷
    limit ∷
    performance ∷
    severities ∷
    device_presence ∷
    device_enabled ∷
    availability ∷
    redundancy ∷
    device_power_states ∷ []

unfoldable pub generic_words : ℕ → ℕ → Option (List ℕ)
generic_words event_type offset =
    if event_type == 0x01 then event_name event_type offset
    else words_at (table_from_one generic_tables event_type) offset
