-- What contracts see of a controller over another one, whose sensor data records are those of an image.
use Rattle.std.specs.Prelude.{◌≡◌, ℕ, ◌==◌, ◌&&◌, bytes_eq, nat_lt, nat_le, min, not, if◌then◌else◌, Bool, true, false, Option, Some, Result, Ok, Err, slice_range, List, [], ◌∷◌, length, map}
use Rattle.std.specs.List.{list_all}
use Rattle.ipmi_bus.specs.Counts.{Counts}
use Rattle.ipmi_bus.specs.Events.{counts_after}
use Rattle.ipmi_bus.specs.declared.step.Ended.{Ended}
use Rattle.ipmi_bus.specs.declared.tally.Event.{Event}
use Rattle.ipmi_image.specs.Below.{Asked, Code, failing_code, id_in, info_of, IsCall, IsPiece, look, Part, Row, rows_of, Sdr, Seen, Store, whole_len}
use Rattle.ipmi_image.specs.Built.{with_rows}
use Rattle.ipmi_image.specs.Responder.{is_stale, out_of_range, part_answer, seen_as}
use Rattle.ipmi_image.specs.declared.responder.Responder.{Responder}
use Rattle.ipmi_image.specs.declared.with_records.WithRecords.{WithRecords}

-- ---- well-formed sensor data records, as a test (`IsShelf`)

abbrev pub is_row : Row → Bool
is_row row = nat_lt row.id 65535 && nat_lt row.next 65536 && length row.bytes == whole_len Sdr row.bytes
    && nat_le (length row.bytes) 256 && list_all (λ b. nat_lt b 256) row.bytes

abbrev pub lacks_id : ℕ → List Row → Bool
lacks_id n [] = true
lacks_id n (row ∷ rows) = not (row.id == n) && lacks_id n rows

abbrev pub are_rows : List Row → Bool
are_rows [] = true
are_rows (row ∷ rows) = is_row row && lacks_id row.id rows && are_rows rows

abbrev pub begins_well : List Row → Bool
begins_well [] = true
begins_well (row ∷ rows) = id_in row.bytes == row.id && lacks_id 0 rows

abbrev pub is_sdr_shelf : List Row → Bool
is_sdr_shelf rows = are_rows rows && begins_well rows

-- ---- whether the records are the same

-- infos with the same number of records, and the same times of the last addition and the last erasure
abbrev pub same_records : List ℕ → List ℕ → Bool
same_records old now = bytes_eq (slice_range old 1 3) (slice_range now 1 3) && bytes_eq (slice_range old 5 13) (slice_range now 5 13)

-- the info of an image, and what was read of that of a machine
abbrev pub are_current : Option (List ℕ) → Result (Option (List ℕ)) Ended → Bool
are_current (Some old) (Ok (Some now)) = same_records old now
are_current old now = false

-- a machine with such an info has the records of the image: the premise under which a listing over both is one of the machine
abbrev pub InfoTellsRecords : Store → Store → Type 0
InfoTellsRecords image store =
    are_current (info_of Sdr image) (Ok (info_of Sdr store)) ≡ true → rows_of Sdr store ≡ rows_of Sdr image

-- ---- the controller

-- the counts after a call for `asked` bytes with this answer; what it finished is left out
abbrev pub counts_with : {V : Type 0} → ℕ → Result V Code → Counts → Counts
counts_with asked (Ok answer) counts = counts_after counts (Event.Called asked)
counts_with asked (Err code) counts = counts_after (counts_after counts (Event.Called asked)) (Event.Failed code)

-- The stores of the machine, but with the sensor data records of the image, and the counts of the calls made here. Fresh troubles
-- are those since the machine finished something, and since a record of the image was finished. It is as honest as the machine.
abbrev pub seen_with : Responder → Seen → Seen
seen_with records machine = record (seen_as false records) {
  store = with_rows Sdr records.image.sdr machine.store;
  earlier = map (with_rows Sdr records.image.sdr) machine.earlier;
  honest = machine.honest && is_sdr_shelf machine.store.sdr;
  sel_reservation = machine.sel_reservation;
  fresh_troubles = min machine.fresh_troubles records.tally.counts.fresh_troubles;
  stores_added = machine.stores_added;
}

-- the same, given the state of a machine
abbrev pub with_records_seen : {C : Type 0} → (C → Seen) → WithRecords C → Seen
with_records_seen seen c = seen_with c.records (seen c.machine)

-- the answer of the image to a request for a part of a record: C9h under a reservation that is not the last one
abbrev pub record_answer : Asked → Option ℕ → List Row → Result Part Code
record_answer ask last rows =
    if is_stale ask.offset ask.reservation last then Err out_of_range else part_answer ask 254 last (look rows ask.id)

-- these bytes are a piece of the record that the id requests, and its next id comes with them
abbrev pub GivesRecord : ℕ → ℕ → ℕ → List Row → Part → List ℕ → Type 0
GivesRecord id offset asked rows part into = (row : Row) × (look rows id ≡ Some row)
    × IsPiece row.bytes offset asked part.got into × (part.next ≡ row.next)

-- the machine got one call, for `asked` bytes, which failed or not as this result says
pub record IsHandedOn {V : Type 0} (asked : ℕ) (result : Result V Code) (old new : Seen) : Type 0 where
  pub call : IsCall asked old new
  pub failure : new.last_failure ≡ failing_code result

-- the machine
abbrev pub machine_of : {C : Type 0} → WithRecords C → C
machine_of c = c.machine

-- the machine, with the records of an image or alone
abbrev pub machine_after : {C : Type 0} → Result (WithRecords C) C → C
machine_after (Ok c) = machine_of c
machine_after (Err machine) = machine

-- the sensor data records that it answers from
abbrev pub records_of : {C : Type 0} → WithRecords C → List Row
records_of c = c.records.image.sdr
