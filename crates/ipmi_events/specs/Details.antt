-- The details in event data 2 and 3 (IPMI v2.0, section 29.7).
use Rattle.std.specs.Prelude.{◌≡◌, ℕ, ◌==◌, Bool, true, false, List, Option}
use Rattle.ipmi_events.specs.declared.event_data.EventData.{EventData}
use Rattle.ipmi_events.specs.Discrete.{discrete_details}
use Rattle.ipmi_events.specs.EventData.{data_of}
use Rattle.ipmi_events.specs.Threshold.{IsThresholdDetails}

abbrev pub AreDetails : Bool → EventData → Option (List ℕ) → List ℕ → Type 0
AreDetails true event full text = IsThresholdDetails event full text
AreDetails false event full text = text ≡ discrete_details event

-- the details of a threshold event (type 01h) or of another event, given the full record of its
-- sensor if there is one
abbrev pub IsDetails : List ℕ → Option (List ℕ) → List ℕ → Type 0
IsDetails bytes full text =
    AreDetails ((data_of bytes).event_type == 0x01) (data_of bytes) full text
