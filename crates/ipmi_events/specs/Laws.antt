-- The statements of the laws of events' lines, for laws that build on them.
use Rattle.std.specs.Prelude.{◌≡◌, ℕ, ◌<ℤ◌, Option, List, codes}
use Rattle.ipmi_text.specs.Bytes.{AreBytes}
use Rattle.ipmi_records.specs.Prelude.{entry_bytes}
use Rattle.ipmi_records.specs.declared.sel.SelView.{SelView}
use Rattle.ipmi_events.specs.Details.{IsDetails}
use Rattle.ipmi_events.specs.EventLines.{IsEventInWords}
use Rattle.ipmi_events.specs.Threshold.{comparison, printed_number}
use Rattle.ipmi_events.specs.declared.event_data.EventData.{EventData}

-- an event has at most one text of details, given the full record of its sensor, if there is one
abbrev pub DetailsAreUnique : Type 0
DetailsAreUnique = (event : List ℕ) (full : Option (List ℕ)) (text other : List ℕ)
    → IsDetails event full text → IsDetails event full other → text ≡ other

-- an entry has at most one line in words, for an id and the records of the sensors
abbrev pub EventInWordsIsUnique : Type 0
EventInWordsIsUnique =
    (id : ℕ) (view : SelView) (records : List (List ℕ)) (text other : List ℕ)
    → AreBytes (entry_bytes view) → IsEventInWords id view records text
    → IsEventInWords id view records other → text ≡ other

-- an event has details; their text may be empty
abbrev pub DetailsExist : Type 0
DetailsExist =
    (event : List ℕ) (full : Option (List ℕ)) → (text : List ℕ) × IsDetails event full text

-- an entry has a line in words
abbrev pub EventInWordsExists : Type 0
EventInWordsExists = (id : ℕ) (view : SelView) (records : List (List ℕ))
    → (text : List ℕ) × IsEventInWords id view records text

-- a sign is printed between a reading and a threshold only if it is true of the two printed numbers
pub record SignIsTrue (full : Option (List ℕ)) (event : EventData) : Type 0 where
  pub less : comparison full event ≡ codes " < "
      → printed_number full event.second <ℤ printed_number full event.third
  pub equal : comparison full event ≡ codes " = "
      → printed_number full event.second ≡ printed_number full event.third
  pub greater : comparison full event ≡ codes " > "
      → printed_number full event.third <ℤ printed_number full event.second

-- each sign is true, for any event and any full record of its sensor
abbrev pub SignsAreTrue : Type 0
SignsAreTrue = (full : Option (List ℕ)) (event : EventData) → SignIsTrue full event
