-- What a call returns for a reply, and which replies an honest controller gives to a request (IPMI
-- v2.0, sections 20.1, 31.2, 31.4, 31.5, 33.9, 33.11, 33.12, 34.1, 34.2 and 35.14).
use Rattle.std.specs.Prelude.{ℕ, ◌≡◌, ◌≢◌, ◌+◌, ◌-◌, ◌%◌, ◌≤◌, ◌==◌, ◌||◌, Bool, false, if◌then◌else◌, Result, Ok, Err, List, [], ◌∷◌, length, slice_index, drop}
use Rattle.ipmi_text.specs.declared.reading.Reading as sensor
use Rattle.ipmi_bus.specs.declared.code.Code.{Code}
use Rattle.ipmi_bus.specs.declared.controller.FruSize.{FruSize}
use Rattle.ipmi_bus.specs.declared.controller.Part.{Part}
use Rattle.ipmi_bus.specs.Seen.{Seen}
use Rattle.ipmi_bus.specs.Shelf.{id_in}
use Rattle.ipmi_bus.specs.Store.{info_of, reading_of}
use Rattle.ipmi_bus.specs.Answers.{BytesAnswers, PartAnswers, ReserveAnswers, SizeAnswers, ValueAnswers, part_asked}
use Rattle.ipmi_raw.specs.declared.reply.Reply.{Reply}
use Rattle.ipmi_raw.specs.declared.reply.Reply.TheVariants.{Data, Refused, Silent}
use Rattle.ipmi_raw.specs.declared.request.Request.{Request}
use Rattle.ipmi_raw.specs.declared.request.Request.TheVariants.{DeviceId, Reserve, Get, Info, InventorySize, ReadInventory, Reading}

-- ---- the data of a reply, after its completion code

-- Its length is as in the standard. A part has at most as many bytes as asked, not counting the
-- next id or the count before them. What a device says of itself is not used, so it may have any
-- length.
abbrev pub IsDataOf : Request → List ℕ → Type 0
IsDataOf DeviceId bytes = Unit {0}
IsDataOf (Reserve shelf) bytes = length bytes ≡ 2
IsDataOf (Get part) bytes = (2 ≤ length bytes) × (length bytes ≤ 2 + part.count)
IsDataOf (Info shelf) bytes = length bytes ≡ 14
IsDataOf (InventorySize id) bytes = length bytes ≡ 3
IsDataOf (ReadInventory part) bytes = (length bytes ≡ 1 + slice_index bytes 0) × (slice_index bytes 0 ≤ part.count)
IsDataOf (Reading lun number) bytes = (2 ≤ length bytes) × (length bytes ≤ 4)

-- the id of the next record, the low byte first, then bytes of this record
abbrev pub part_in : List ℕ → Part
part_in bytes = record { next = id_in bytes; got = length bytes - 2 }

-- the count of the bytes that follow
abbrev pub first_in : List ℕ → ℕ
first_in bytes = slice_index bytes 0

-- the size in bytes, the low byte first, then the access: bit 0 is set if it is by words
abbrev pub size_in : List ℕ → FruSize
size_in bytes = record { size = id_in bytes; words = slice_index bytes 2 % 2 == 1 }

-- four bytes, of which the last two may be absent; what is absent is 00h
abbrev pub reading_in : List ℕ → sensor.Reading
reading_in bytes = record {
  raw = slice_index bytes 0;
  flags = slice_index bytes 1;
  status = slice_index bytes 2;
  more = slice_index bytes 3;
}

-- ---- the result of a call

-- codes other than CBh by which controllers say that there is no such sensor or device
abbrev pub says_absent : Request → ℕ → Bool
says_absent DeviceId code = false
says_absent (Reserve shelf) code = false
says_absent (Get part) code = false
says_absent (Info shelf) code = false
says_absent (InventorySize id) code = code == 0xCC
says_absent (ReadInventory part) code = false
says_absent (Reading lun number) code = (code == 0xCC) || ((code == 0xCD) || (code == 0xD5))

-- the code that a call returns for a code of a reply: CBh if it says that the thing is absent
abbrev pub code_given : Request → ℕ → Code
code_given request code = record { 0 = if says_absent request code then 0xCB else code }

-- a controller that does not know the command to reserve a shelf has no reservations
abbrev pub says_unreserved : Request → ℕ → Bool
says_unreserved DeviceId code = false
says_unreserved (Reserve shelf) code = code == 0xC1
says_unreserved (Get part) code = false
says_unreserved (Info shelf) code = false
says_unreserved (InventorySize id) code = false
says_unreserved (ReadInventory part) code = false
says_unreserved (Reading lun number) code = false

-- The data, or a code; C3h if the controller was silent. If there are no reservations (sections 31.2
-- and 33.9 have a bit for that), the number is 0000h, and requests for parts have that number (section
-- 31.5).
abbrev pub given : Request → Reply → Result (List ℕ) Code
given request (Data bytes) = Ok bytes
given request (Refused code) = if says_unreserved request code then Ok (0 ∷ 0 ∷ []) else Err (code_given request code)
given request Silent = Err (record { 0 = 0xC3 })

-- the value read from the data, or the code
abbrev pub value_in : {V : Type 0} → (List ℕ → V) → Result (List ℕ) Code → Result V Code
value_in read (Ok bytes) = Ok (read bytes)
value_in read (Err code) = Err code

abbrev pub data_in : Result (List ℕ) Code → List ℕ
data_in (Ok bytes) = bytes
data_in (Err code) = []

-- if it is data, it is data of a reply to the request
abbrev pub IsDataIfAny : Request → Result (List ℕ) Code → Type 0
IsDataIfAny request (Ok bytes) = IsDataOf request bytes
IsDataIfAny request (Err code) = Unit {0}

-- ---- an honest controller

-- nothing changes but what counts calls
abbrev pub CountsCalls : Seen → Seen → Type 0
CountsCalls old new = new ≡ record old {
  calls = new.calls;
  most_asked = new.most_asked;
  last_asked = new.last_asked;
  last_failure = new.last_failure;
}

-- Get Device ID is met neither with silence nor with C3h: the standard requires that each controller answers it
abbrev pub IsThere : Result (List ℕ) Code → Type 0
IsThere result = result ≢ given DeviceId Silent

-- the result is what an honest controller may answer to this request
abbrev pub IsAnswer : Request → Result (List ℕ) Code → Seen → Seen → Type 0
IsAnswer DeviceId result old new = IsThere result × CountsCalls old new
IsAnswer (Reserve shelf) result old new = ReserveAnswers shelf (value_in id_in result) old new
IsAnswer (Get part) result old new =
    PartAnswers (part_asked part.shelf part.reservation part.id part.offset part.count) (value_in part_in result)
    (drop 2 (data_in result)) old new
IsAnswer (Info shelf) result old new = ValueAnswers (info_of shelf) (value_in (λ bytes. bytes) result) old new
IsAnswer (InventorySize id) result old new = SizeAnswers id (value_in size_in result) old new
IsAnswer (ReadInventory part) result old new =
    BytesAnswers part.id part.offset part.count (value_in first_in result) (drop 1 (data_in result)) old new
IsAnswer (Reading lun number) result old new = ValueAnswers (reading_of lun number) (value_in reading_in result) old new
