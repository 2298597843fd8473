-- The multirecord area (Platform Management FRU Information Storage Definition v1.0, section 16).
use Rattle.std.specs.Prelude.{◌≡◌, ℕ, zero, suc, ◌+◌, ◌%◌, nat_le, nat_lt, not, Bool, true, false, if◌then◌else◌, Option, Some, None, Result, Ok, Err, List, [], ◌∷◌, length, take, drop, slice_index, codes}
use Rattle.ipmi_fru.specs.declared.multirecord.MultiFault.{MultiFault}
use Rattle.ipmi_fru.specs.declared.multirecord.MultiView.{MultiView}
use Rattle.ipmi_fru.specs.declared.multirecord.Records.{Records}
use Rattle.std.specs.Borrow.{Bor}
use Rattle.ipmi_fru.specs.Header.{is_zero_sum, offset_of}

-- a record: its type, the version of its format, whether it is the last, and its data
pub record MultiRecord : Type 0 where
  pub kind : ℕ
  pub version : ℕ
  pub last : Bool
  pub bytes : List ℕ

-- the bytes after the record
abbrev pub after_record : List ℕ → List ℕ
after_record bytes = drop (5 + slice_index bytes 2) bytes

-- the record at the start of the bytes: its data follows the five bytes of its header; the third
-- byte is the length of the data
abbrev pub record_in : List ℕ → MultiRecord
record_in bytes = record {
  kind = slice_index bytes 0;
  version = slice_index bytes 1 % 16;
  last = nat_le 128 (slice_index bytes 1);
  bytes = take (slice_index bytes 2) (drop 5 bytes);
}

-- why there is no record at the start of the bytes; the fourth byte is the checksum of the data
abbrev pub record_fault : List ℕ → Option MultiFault
record_fault bytes =
    if nat_lt (length bytes) 5 then Some MultiFault.Outside
    else if not (is_zero_sum (take 5 bytes)) then Some MultiFault.HeaderSum
    else if nat_lt (length bytes) (5 + slice_index bytes 2) then Some MultiFault.Outside
    else if not (is_zero_sum (slice_index bytes 3 ∷ (record_in bytes).bytes)) then Some MultiFault.DataSum
    else None

-- the name of a fault
abbrev pub multi_fault_name : MultiFault → List ℕ
multi_fault_name MultiFault.Outside = codes "outside"
multi_fault_name MultiFault.HeaderSum = codes "header checksum"
multi_fault_name MultiFault.DataSum = codes "data checksum"

-- the last record ends the list without a fault, whatever bytes follow; after any other record the
-- list continues
abbrev pub ContinuesBy : Bool → List MultiRecord → Option MultiFault → Type 0 → Type 0
ContinuesBy true records end more = (records ≡ []) × (end ≡ None)
ContinuesBy false records end more = more

-- the bytes encode these records, in order; the list ends with the last record or with the first
-- fault
abbrev pub IsRecordList : List ℕ → List MultiRecord → Option MultiFault → Type 0
IsRecordList bytes [] None = ⊥
IsRecordList bytes [] (Some f) = record_fault bytes ≡ Some f
IsRecordList bytes (r ∷ records) end =
    (record_fault bytes ≡ None)
    × ((r ≡ record_in bytes) × ContinuesBy r.last records end
    (IsRecordList (after_record bytes) records end))

-- the records at an offset, if there is one; otherwise no records and no fault
abbrev pub AreRecordsAt : Option ℕ → List ℕ → List MultiRecord → Option MultiFault → Type 0
AreRecordsAt None bytes records end = (records ≡ []) × (end ≡ None)
AreRecordsAt (Some offset) bytes records end = IsRecordList (drop offset bytes) records end

-- the records, then the fault, if there is one
abbrev pub items_of : List MultiRecord → Option MultiFault → List (Result MultiRecord MultiFault)
items_of [] None = []
items_of [] (Some f) = Err f ∷ []
items_of (r ∷ records) end = Ok r ∷ items_of records end

-- ---- computing the records

-- the items in bytes: a fault, or a record and, unless it is the last, the items after it
abbrev pub items_by : Option MultiFault → MultiRecord → List (Result MultiRecord MultiFault)
    → List (Result MultiRecord MultiFault)
items_by (Some f) r more = Err f ∷ []
items_by None r more = Ok r ∷ (if r.last then [] else more)

-- the records and the fault at the start of the bytes, at most n items
abbrev pub items_from : ℕ → List ℕ → List (Result MultiRecord MultiFault)
items_from zero bytes = []
items_from (suc n) bytes =
    items_by (record_fault bytes) (record_in bytes) (items_from n (after_record bytes))

-- all items: at most one more than there are bytes
abbrev pub items_in : List ℕ → List (Result MultiRecord MultiFault)
items_in bytes = items_from (suc (length bytes)) bytes

-- a record as contracts see it
abbrev pub record_of : MultiView → MultiRecord
record_of view = record {
  kind = view.kind;
  version = view.version;
  last = view.last;
  bytes = view.bytes.now;
}

-- an item as contracts see it
abbrev pub item_of : Result MultiView MultiFault → Result MultiRecord MultiFault
item_of (Ok view) = Ok (record_of view)
item_of (Err f) = Err f

abbrev pub items_after : Option (Bor (List ℕ)) → List (Result MultiRecord MultiFault)
items_after None = []
items_after (Some bytes) = items_in bytes.now

-- the remaining items
abbrev pub items_left : Records → List (Result MultiRecord MultiFault)
items_left records = items_after records.left

-- the records of an inventory, then their fault, if there is one; the last offset in the header is
-- that of the records
pub record HasItems (bytes : List ℕ) (items : List (Result MultiRecord MultiFault)) : Type 0 where
  pub records : List MultiRecord
  pub end : Option MultiFault
  pub are_records : AreRecordsAt (offset_of 5 bytes) bytes records end
  pub items_are : items ≡ items_of records end
