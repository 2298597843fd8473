-- The statements of the laws of lines, for laws that build on them.
use Rattle.std.specs.Prelude.{◌≡◌, ◌≢◌, ◌<◌, ℕ, ◌++◌, List, Option, codes, length}
use Rattle.std.specs.List.{All}
use Rattle.ipmi_text.specs.Bytes.{AreBytes}
use Rattle.ipmi_records.specs.Prelude.{entry_bytes}
use Rattle.ipmi_records.specs.declared.column.KnownReading.{KnownReading}
use Rattle.ipmi_records.specs.declared.sdr.SdrFault.{SdrFault}
use Rattle.ipmi_records.specs.declared.sdr.SdrView.{SdrView}
use Rattle.ipmi_records.specs.declared.sel.SelView.{SelView}
use Rattle.ipmi_json.specs.declared.object.Label.{Label}
use Rattle.ipmi_json.specs.Fru.{AreFruMembers, IsFruLine, elsewhere_members}
use Rattle.ipmi_json.specs.Info.{AreInfoMembers, IsInfoLine, end_members}
use Rattle.ipmi_json.specs.Object.{IsLineOf, Pair}
use Rattle.ipmi_json.specs.Sdr.{AreRecordMembers, IsSdrLine, bytes_members, fault_members}
use Rattle.ipmi_json.specs.Sel.{AreEntryMembers, IsSelLine}

-- ---- at most one list of members

-- members that satisfy `Are` are the only ones
abbrev pub AreUnique : (List Pair → Type 0) → Type 0
AreUnique Are = (ms more : List Pair) → Are ms → Are more → ms ≡ more

abbrev pub RecordMembersAreUnique : Type 0
RecordMembersAreUnique = (id : ℕ) (view : SdrView) (reading : KnownReading)
    → AreUnique (AreRecordMembers id view reading)

abbrev pub EntryMembersAreUnique : Type 0
EntryMembersAreUnique = (id : ℕ) (view : SelView) (records : Option (List (List ℕ)))
    → AreBytes (entry_bytes view) → AreUnique (AreEntryMembers id view records)

abbrev pub InfoMembersAreUnique : Type 0
InfoMembersAreUnique = (name bytes : List ℕ) → AreBytes bytes → AreUnique (AreInfoMembers name bytes)

abbrev pub DeviceMembersAreUnique : Type 0
DeviceMembersAreUnique = (id : ℕ) (name inventory : Option (List ℕ))
    → AreUnique (AreFruMembers id name inventory)

-- ---- at most one line

-- an object with labels has at most one line
abbrev pub ObjectLineIsUnique : Type 0
ObjectLineIsUnique = (ms : List Pair) (labels : List Label) (text other : List ℕ)
    → IsLineOf ms labels text → IsLineOf ms labels other → text ≡ other

-- a record has at most one line for an id, a reading and labels
abbrev pub RecordLineIsUnique : Type 0
RecordLineIsUnique = (id : ℕ) (view : SdrView) (reading : KnownReading) (labels : List Label)
    (text other : List ℕ) → IsSdrLine id view reading labels text
    → IsSdrLine id view reading labels other → text ≡ other

-- an entry has at most one line for an id, the records of the sensors and labels
abbrev pub EntryLineIsUnique : Type 0
EntryLineIsUnique = (id : ℕ) (view : SelView) (records : Option (List (List ℕ)))
    (labels : List Label) (text other : List ℕ) → AreBytes (entry_bytes view)
    → IsSelLine id view records labels text → IsSelLine id view records labels other
    → text ≡ other

-- an info has at most one line for the name of its object and labels
abbrev pub InfoLineIsUnique : Type 0
InfoLineIsUnique = (name bytes : List ℕ) (labels : List Label) (text other : List ℕ)
    → AreBytes bytes → IsInfoLine name bytes labels text → IsInfoLine name bytes labels other
    → text ≡ other

-- a device has at most one line for an id, a name, an inventory and labels
abbrev pub DeviceLineIsUnique : Type 0
DeviceLineIsUnique =
    (id : ℕ) (name inventory : Option (List ℕ)) (labels : List Label) (text other : List ℕ)
    → IsFruLine id name inventory labels text → IsFruLine id name inventory labels other
    → text ≡ other

-- ---- no line is empty

abbrev pub NoObjectLineIsEmpty : Type 0
NoObjectLineIsEmpty = (ms : List Pair) (labels : List Label) (text : List ℕ)
    → IsLineOf ms labels text → 0 < length text

abbrev pub NoRecordLineIsEmpty : Type 0
NoRecordLineIsEmpty = (id : ℕ) (view : SdrView) (reading : KnownReading) (labels : List Label)
    (text : List ℕ) → IsSdrLine id view reading labels text → 0 < length text

abbrev pub NoEntryLineIsEmpty : Type 0
NoEntryLineIsEmpty = (id : ℕ) (view : SelView) (records : Option (List (List ℕ)))
    (labels : List Label) (text : List ℕ) → IsSelLine id view records labels text
    → 0 < length text

abbrev pub NoInfoLineIsEmpty : Type 0
NoInfoLineIsEmpty = (name bytes : List ℕ) (labels : List Label) (text : List ℕ)
    → IsInfoLine name bytes labels text → 0 < length text

abbrev pub NoDeviceLineIsEmpty : Type 0
NoDeviceLineIsEmpty =
    (id : ℕ) (name inventory : Option (List ℕ)) (labels : List Label) (text : List ℕ)
    → IsFruLine id name inventory labels text → 0 < length text

-- ---- each line

-- its last byte is its only line feed
pub record IsOneLine (text : List ℕ) : Type 0 where
  pub line : List ℕ
  pub text_is : text ≡ line ++ codes "\n"
  pub no_line_feed : All (λ (byte : ℕ). byte ≢ 10) line

-- what holds for each line of this crate, and the labels in it
pub record ForEachLine (Holds : List Label → List ℕ → Type 0) : Type 0 where
  pub sdr_record : (id : ℕ) (view : SdrView) (reading : KnownReading) (labels : List Label)
      (text : List ℕ) → IsSdrLine id view reading labels text → Holds labels text
  pub sdr_fault : (id : ℕ) (fault : SdrFault) (bytes : List ℕ) (labels : List Label)
      (text : List ℕ) → IsLineOf (fault_members id fault bytes) labels text → Holds labels text
  pub sdr_raw : (id next : ℕ) (bytes : List ℕ) (labels : List Label) (text : List ℕ)
      → IsLineOf (bytes_members id next bytes) labels text → Holds labels text
  pub entry : (id : ℕ) (view : SelView) (records : Option (List (List ℕ))) (labels : List Label)
      (text : List ℕ) → IsSelLine id view records labels text → Holds labels text
  pub info : (name bytes : List ℕ) (labels : List Label) (text : List ℕ)
      → IsInfoLine name bytes labels text → Holds labels text
  pub device : (id : ℕ) (name inventory : Option (List ℕ)) (labels : List Label) (text : List ℕ)
      → IsFruLine id name inventory labels text → Holds labels text
  pub elsewhere : (name : Option (List ℕ)) (labels : List Label) (text : List ℕ)
      → IsLineOf (elsewhere_members name) labels text → Holds labels text
  pub end : (status : ℕ) (reason : List ℕ) (message : Option (List ℕ)) (count : ℕ) (labels : List Label)
      (text : List ℕ) → IsLineOf (end_members status reason message count) labels text
      → Holds labels text
