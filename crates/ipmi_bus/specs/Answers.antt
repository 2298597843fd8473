-- What an honest controller may answer to each call, and what a plain controller must answer.
use Rattle.std.specs.Prelude.{◌≡◌, ℕ, ◌+◌, ◌<◌, ◌≤◌, ◌==◌, ◌&&◌, nat_lt, Bool, true, false, IsTrue, Option, None, Some, MatchOption, Result, Ok, Err, IsOk, MatchResult, List, length, take, drop}
use Rattle.ipmi_bus.specs.Types.{Busy, Cancelled, Code, CodeClass, FruSize, NotPresent, Part, Refusal, Sdr, Sel, Shelf, SmallerPart}
use Rattle.ipmi_bus.specs.Shelf.{Row, look}
use Rattle.ipmi_bus.specs.Store.{Store, rows_of, inventory_of}
use Rattle.ipmi_bus.specs.Code.{class_of}
use Rattle.ipmi_bus.specs.Seen.{Seen, IsQuiet, IsTroubled, IsFinished, IsRefused, IsChange, MayLoseReservation, current}

abbrev pub other : Shelf → Shelf
other Sdr = Sel
other Sel = Sdr

-- data that includes the last byte finishes what is read in parts
abbrev pub CountsPiece : Bool → Seen → Seen → Type 0
CountsPiece true old new = IsFinished old new
CountsPiece false old new = IsQuiet old new

-- what a failed call counts; a code that asks for a smaller part needs one condition, and CBh
-- another
abbrev pub FailsWith : Type 0 → Type 0 → CodeClass → ℕ → Seen → Seen → Type 0
FailsWith may_be_smaller is_absent Cancelled code old new = IsTroubled old new
FailsWith may_be_smaller is_absent Busy code old new = IsTroubled old new
FailsWith may_be_smaller is_absent SmallerPart code old new = may_be_smaller × IsQuiet old new
FailsWith may_be_smaller is_absent NotPresent code old new = is_absent × IsFinished old new
FailsWith may_be_smaller is_absent Refusal code old new = IsRefused code old new

-- a refusal to read ahead counts nothing, as a code that asks for a smaller part does
abbrev pub CountsRefusal : Bool → ℕ → Seen → Seen → Type 0
CountsRefusal true code old new = IsQuiet old new
CountsRefusal false code old new = IsRefused code old new

-- the same for a part, whose request reads ahead or does not
abbrev pub PartFailsWith : Bool → Type 0 → Type 0 → CodeClass → ℕ → Seen → Seen → Type 0
PartFailsWith ahead may_be_smaller is_absent Refusal code old new = CountsRefusal ahead code old new
PartFailsWith ahead may_be_smaller is_absent class code old new =
    FailsWith may_be_smaller is_absent class code old new

abbrev pub not_present : Code
not_present = record { 0 = 0xCB }

-- ---- a reservation

-- its number becomes the current reservation
pub record ReserveAnswers (shelf : Shelf) (result : Result ℕ Code) (old new : Seen) : Type 0 where
  pub change : IsChange old new
  pub gives : MatchResult result (λ r. IsQuiet old new × (current shelf new ≡ Some r))
      (λ code. FailsWith ⊥ ⊥ (class_of code.0) code.0 old new × MayLoseReservation shelf old new)
  pub beside : MayLoseReservation (other shelf) old new
  pub plain : IsTrue old.plain → IsOk result

-- ---- a part of a record

-- a request for `len` bytes
pub record Asked : Type 0 where
  pub shelf : Shelf
  pub reservation : ℕ
  pub id : ℕ
  pub offset : ℕ
  pub len : ℕ

-- the request of a call with these parameters
abbrev pub part_asked : Shelf → ℕ → ℕ → ℕ → ℕ → Asked
part_asked shelf reservation id offset len = record {
  shelf = shelf;
  reservation = reservation;
  id = id;
  offset = offset;
  len = len;
}

-- the request reads ahead: it begins in the header of a sensor data record and reaches over it
abbrev pub reads_ahead : Shelf → ℕ → ℕ → Bool
reads_ahead Sdr offset len = nat_lt offset 5 && nat_lt 5 (offset + len)
reads_ahead Sel offset len = false

-- a piece of these bytes that starts at the offset: at least one byte and at most as many as asked
pub record IsPiece (whole : List ℕ) (offset asked got : ℕ) (into : List ℕ) : Type 0 where
  pub some : 0 < got
  pub fits : got ≤ asked
  pub within : offset + got ≤ length whole
  pub bytes : take got into ≡ take got (drop offset whole)

-- The data is from a row of the store as it is after the call. At an offset above 0, data comes
-- only under the current reservation.
pub record GivesPiece (ask : Asked) (part : Part) (into : List ℕ) (old new : Seen)
    (row : Row) : Type 0 where
  pub found : look (rows_of ask.shelf new.store) ask.id ≡ Some row
  pub piece : IsPiece row.bytes ask.offset ask.len part.got into
  pub next : part.next ≡ row.next
  pub reserved : 0 < ask.offset → current ask.shelf new ≡ Some ask.reservation
  pub counts : CountsPiece (ask.offset + part.got == length row.bytes) old new

-- a plain controller returns data of a row that is present, at an offset above 0 under the current
-- reservation; if no such row is present, it answers CBh
pub record PartAnswers (ask : Asked) (result : Result Part Code) (into : List ℕ)
    (old new : Seen) : Type 0 where
  pub change : IsChange old new
  pub gives : MatchResult result (λ part. (row : Row) × GivesPiece ask part into old new row)
      (λ code. PartFailsWith (reads_ahead ask.shelf ask.offset ask.len) (1 < ask.len)
      (look (rows_of ask.shelf new.store) ask.id ≡ None) (class_of code.0) code.0 old new)
  pub keeps : MayLoseReservation ask.shelf old new
  pub beside : MayLoseReservation (other ask.shelf) old new
  pub plain : IsTrue old.plain → MatchOption (look (rows_of ask.shelf old.store) ask.id)
      (result ≡ Err not_present)
      (λ row. ask.offset < length row.bytes
      → (0 < ask.offset → current ask.shelf old ≡ Some ask.reservation) → IsOk result)

-- ---- a value: an info, a reading

-- the answer to a request for a value of the store; a plain controller returns a value that is
-- present, and otherwise answers CBh
pub record ValueAnswers {V : Type 0} (value : Store → Option V) (result : Result V Code)
    (old new : Seen) : Type 0 where
  pub change : IsChange old new
  pub gives : MatchResult result (λ v. (value new.store ≡ Some v) × IsFinished old new)
      (λ code. FailsWith ⊥ (value new.store ≡ None) (class_of code.0) code.0 old new)
  pub sdr : MayLoseReservation Sdr old new
  pub sel : MayLoseReservation Sel old new
  pub plain : IsTrue old.plain → MatchOption (value old.store) (result ≡ Err not_present)
      (λ v. result ≡ Ok v)

-- ---- an inventory

-- its size in bytes, and access by bytes, as for every inventory of a store; a size of 0 finishes
-- it
pub record SizeAnswers (id : ℕ) (result : Result FruSize Code) (old new : Seen) : Type 0 where
  pub change : IsChange old new
  pub gives : MatchResult result
      (λ size. (bytes : List ℕ) × (inventory_of id new.store ≡ Some bytes)
      × (size.size ≡ length bytes) × (size.words ≡ false)
      × CountsPiece (length bytes == 0) old new)
      (λ code. FailsWith ⊥ (inventory_of id new.store ≡ None) (class_of code.0) code.0 old new)
  pub sdr : MayLoseReservation Sdr old new
  pub sel : MayLoseReservation Sel old new
  pub plain : IsTrue old.plain
      → MatchOption (inventory_of id old.store) (result ≡ Err not_present) (λ bytes. IsOk result)

-- its data, starting at an offset
pub record BytesAnswers (id offset asked : ℕ) (result : Result ℕ Code) (into : List ℕ)
    (old new : Seen) : Type 0 where
  pub change : IsChange old new
  pub gives : MatchResult result
      (λ got. (bytes : List ℕ) × (inventory_of id new.store ≡ Some bytes)
      × IsPiece bytes offset asked got into
      × CountsPiece (offset + got == length bytes) old new)
      (λ code. FailsWith (1 < asked) (inventory_of id new.store ≡ None) (class_of code.0) code.0
      old new)
  pub sdr : MayLoseReservation Sdr old new
  pub sel : MayLoseReservation Sel old new
  pub plain : IsTrue old.plain → MatchOption (inventory_of id old.store)
      (result ≡ Err not_present) (λ bytes. offset < length bytes → IsOk result)
