-- A record being read in parts: what is read so far, and the state after one call.
use Rattle.std.specs.Prelude.{◌≡◌, ℕ, min, ◌+◌, ◌-◌, ◌*◌, ◌<◌, ◌≤◌, Bool, true, false, IsTrue, ◌&&◌, ◌⊎◌, MatchResult, nat_lt, if◌then◌else◌, Option, None, Some, IsSome, Result, Ok, Err, List, length, take, slice_index}
use Rattle.ipmi_text.specs.SdrHeader.{sdr_len}
use Rattle.ipmi_bus.specs.Types.{Absent, Again, Busy, CallOutcome, Cancelled, Code, CodeClass, Ended, GaveUp, Malformed, NotPresent, Over, Part, Refusal, Refused, Retrieval, Sdr, Sel, Shelf, SmallerPart, Stalled, Whole}
use Rattle.ipmi_bus.specs.Shelf.{Row, look, largest_len}
use Rattle.ipmi_bus.specs.Store.{rows_of}
use Rattle.ipmi_bus.specs.Answers.{reads_ahead}
use Rattle.ipmi_bus.specs.Seen.{Seen, current}
use Rattle.ipmi_bus.specs.Tries.{LastCallSays, LastFailed, RefusesRecord}
use Rattle.ipmi_bus.specs.Bounds.{digits}
use Rattle.ipmi_bus.specs.Calls.{smaller_part}

-- the number of bytes to read, as known from the bytes read so far: the header of a sensor data
-- record comes first
abbrev pub wanted_len : Shelf → ℕ → List ℕ → ℕ
wanted_len Sdr have buffer = if nat_lt have 5 then 5 else sdr_len buffer
wanted_len Sel have buffer = 16

-- How far into the record the next request may reach. Until the header of a sensor data record is
-- read, its length is not known. A retrieval that reads ahead then asks for as many bytes as the
-- longest record of the standard has, which is 64.
abbrev pub asked_to : Bool → Shelf → ℕ → List ℕ → ℕ
asked_to true Sdr have buffer = if nat_lt have 5 then 64 else sdr_len buffer
asked_to _ shelf have buffer = wanted_len shelf have buffer

-- the number of bytes in the next request
abbrev pub request_len : Retrieval → ℕ
request_len r = min r.part (asked_to r.ahead r.shelf r.have r.buffer - r.have)

-- a record that is not whole yet
pub record IsOpenRecord (r : Retrieval) : Type 0 where
  pub part : 0 < r.part
  pub part_fits : r.part < 255
  pub more : r.have < wanted_len r.shelf r.have r.buffer
  pub fits : wanted_len r.shelf r.have r.buffer ≤ largest_len r.shelf
  pub troubles : r.troubles ≤ r.tries
  pub reserved : 0 < r.have → IsSome r.reservation

-- What a call does not change, that the part size does not grow, and that reading ahead is not begun.
-- It goes on while the part size stays, and ends at the latest when that falls below 16.
pub record SameRequest (old new : Retrieval) : Type 0 where
  pub shelf : new.shelf ≡ old.shelf
  pub tries : new.tries ≡ old.tries
  pub id : new.id ≡ old.id
  pub part : new.part ≤ old.part
  pub some : 0 < new.part
  pub ahead : IsTrue new.ahead → IsTrue old.ahead
  pub ahead_stays : new.part ≡ old.part → new.ahead ≡ old.ahead
  pub ahead_ends : IsTrue new.ahead → (new.part ≡ old.part) ⊎ (16 ≤ new.part)

-- the bytes read so far are those of the row
pub record HasBytes (r : Retrieval) (seen : Seen) (row : Row) : Type 0 where
  pub found : look (rows_of r.shelf seen.store) r.id ≡ Some row
  pub within : r.have ≤ length row.bytes
  pub bytes : take r.have r.buffer ≡ take r.have row.bytes

-- and the next id is the row's
pub record HasRead (r : Retrieval) (seen : Seen) (row : Row) : Type 0 where
  pub read : HasBytes r seen row
  pub next : r.next ≡ row.next

-- While the reservation is current, the bytes read so far are those of a row that is present. Its
-- next id may have changed since they were read.
pub record IsReading (r : Retrieval) (seen : Seen) : Type 0 where
  pub piece : 0 < r.have → current r.shelf seen ≡ r.reservation → (row : Row) × HasBytes r seen row

-- a reservation that is held is current
pub record HoldsCurrent (r : Retrieval) (seen : Seen) : Type 0 where
  pub held : (n : ℕ) → r.reservation ≡ Some n → current r.shelf seen ≡ Some n

-- the retrieval keeps its reservation, and no other became current
pub record KeepsHeld (old new : Retrieval) (s s' : Seen) : Type 0 where
  pub held : new.reservation ≡ old.reservation
  pub none_given : (n : ℕ) → current old.shelf s' ≡ Some n → current old.shelf s ≡ Some n

-- the retrieval after one more trouble; if that cancelled the reservation, it drops the reservation
-- and the bytes read so far
abbrev pub after_trouble : Bool → Retrieval → Retrieval
after_trouble is_cancelled r =
    record r {
      troubles = r.troubles + 1;
      reservation = if is_cancelled then None else r.reservation;
      have =
          if is_cancelled then 0 else r.have;
    }

-- the trouble is counted, or it exceeds the tries
abbrev pub CountsTrouble : Bool → Retrieval → Retrieval → Result CallOutcome Ended → Type 0
CountsTrouble is_cancelled old new result = MatchResult result
    (λ turn. (turn ≡ Again) × (new ≡ after_trouble is_cancelled old) × (old.troubles < old.tries))
    (λ ended. (ended ≡ GaveUp old.id) × (new ≡ old) × (old.troubles ≡ old.tries))

-- a failed call for a reservation, by the class of its code: CBh and a request for a smaller part
-- are refusals
abbrev pub ReserveFails : CodeClass → Code → Retrieval → Retrieval → Result CallOutcome Ended
    → Type 0
ReserveFails Cancelled code old new result = CountsTrouble false old new result
ReserveFails Busy code old new result = CountsTrouble false old new result
ReserveFails _ code old new result = (result ≡ Err (Refused old.id code)) × (new ≡ old)

-- the part size is reduced, and reading ahead goes on if more than 32 bytes were asked for; or the
-- read stalls because the part size is already one byte
abbrev pub MakesSmaller : ℕ → Retrieval → Retrieval → Result CallOutcome Ended → Type 0
MakesSmaller asked old new result = MatchResult result
    (λ turn. (turn ≡ Again) × (smaller_part asked ≡ Some new.part)
    × (new ≡ record old { part = new.part; ahead = old.ahead && nat_lt 32 asked }))
    (λ ended. (ended ≡ Stalled old.id) × (smaller_part asked ≡ None) × (new ≡ old))

-- The request read ahead: its code is kept from the caller. The part size is reduced, and nothing more
-- is read ahead, so the header is asked for next.
abbrev pub StopsReadingAhead : ℕ → Retrieval → Retrieval → Result CallOutcome Ended → Type 0
StopsReadingAhead asked old new result =
    (result ≡ Ok Again) × (smaller_part asked ≡ Some new.part)
    × (new ≡ record old { part = new.part; ahead = false })

abbrev pub RefusesPart : Bool → Code → ℕ → Retrieval → Retrieval → Result CallOutcome Ended → Type 0
RefusesPart true code asked old new result = StopsReadingAhead asked old new result
RefusesPart false code asked old new result =
    (result ≡ Err (Refused old.id code)) × (new ≡ old)

-- a failed call for a part of `asked` bytes, by the class of its code
abbrev pub PartFails : CodeClass → Code → ℕ → Retrieval → Retrieval → Result CallOutcome Ended
    → Type 0
PartFails Cancelled code asked old new result = CountsTrouble true old new result
PartFails Busy code asked old new result = CountsTrouble false old new result
PartFails SmallerPart code asked old new result = MakesSmaller asked old new result
PartFails NotPresent code asked old new result = (result ≡ Ok (Over Absent)) × (new ≡ old)
PartFails Refusal code asked old new result =
    RefusesPart (reads_ahead old.shelf old.have asked) code asked old new result

-- the retrieval after a part is received
abbrev pub after_part : Part → Retrieval → Retrieval
after_part part r = record r { have = r.have + part.got; next = part.next }

-- The received bytes make the record whole or not; bytes after its end are left out. The read ends
-- if the header's length is too large, or if there are no bytes.
abbrev pub TakesRecordPart : Part → Retrieval → Retrieval → Result CallOutcome Ended → Type 0
TakesRecordPart part old new (Ok Again) =
    (0 < part.got) × (new ≡ after_part part old)
    × (new.have < wanted_len new.shelf new.have new.buffer)
    × (wanted_len new.shelf new.have new.buffer ≤ largest_len new.shelf)
TakesRecordPart part old new (Ok (Over Whole)) =
    (0 < part.got) × (new ≡ record old { have = new.have; next = part.next })
    × (new.have ≤ old.have + part.got) × (new.have ≡ wanted_len new.shelf new.have new.buffer)
    × (new.have ≤ largest_len new.shelf) × (5 ≤ new.have)
TakesRecordPart part old new (Err (Stalled id)) = (part.got ≡ 0) × (id ≡ old.id) × (new ≡ old)
TakesRecordPart part old new (Err (Malformed id)) =
    (0 < part.got) × (new ≡ after_part part old) × (id ≡ old.id) × (old.shelf ≡ Sdr)
    × (5 ≤ new.have) × (0xFB < slice_index old.buffer 4)
TakesRecordPart part old new _ = ⊥

-- the call agrees with its outcome: the last part came, or there is no such record
abbrev pub CallSays : Result CallOutcome Ended → Seen → Type 0
CallSays (Ok Again) seen = Unit {0}
CallSays (Ok (Over Whole)) seen = (0 < seen.last_asked) × (seen.last_failure ≡ None)
CallSays (Ok (Over Absent)) seen =
    (0 < seen.last_asked) × LastFailed (λ class. class ≡ NotPresent) seen
CallSays (Err ended) seen = LastCallSays RefusesRecord ended seen

-- one call for a reservation, if none is held
abbrev pub unreserved : Option ℕ → ℕ
unreserved None = 1
unreserved (Some n) = 0

-- an upper bound on the remaining calls for a record of this length
abbrev pub calls_left : ℕ → Retrieval → ℕ
calls_left len r = (r.tries - r.troubles) * (len + 2) + unreserved r.reservation + (len - r.have)
    + 1 + digits r.part

-- a failed read of a record names its id
abbrev pub NamesId : ℕ → Shelf → Ended → Type 0
NamesId id shelf (GaveUp n) = n ≡ id
NamesId id shelf (Refused n code) = n ≡ id
NamesId id shelf (Stalled n) = n ≡ id
NamesId id shelf (Malformed n) = (n ≡ id) × (shelf ≡ Sdr)
NamesId id shelf _ = ⊥

-- after a call fewer calls remain, or the record is whole, or the read ends
abbrev pub CallLeaves : Retrieval → Retrieval → Result CallOutcome Ended → Type 0
CallLeaves old new (Ok Again) =
    IsOpenRecord new × ((len : ℕ) → new.have ≤ len → calls_left len new + 1 ≤ calls_left len old)
CallLeaves old new (Ok (Over Whole)) =
    (new.part ≡ old.part) × (5 ≤ new.have) × (new.have ≤ largest_len new.shelf)
    × (new.have ≡ wanted_len new.shelf new.have new.buffer) × IsSome new.reservation
CallLeaves old new (Ok (Over Absent)) = new.part ≡ old.part
CallLeaves old new (Err ended) = (new.part ≡ old.part) × NamesId old.id old.shelf ended
