-- The state and the answers of an image that answers calls.
use Rattle.std.specs.Prelude.{◌≡◌, ℕ, ◌+◌, ◌-◌, ◌≤◌, ◌==◌, nat_lt, nat_le, min, if◌then◌else◌, Bool, true, false, bytes_eq, ◌&&◌, not, Option, None, Some, Result, Ok, Err, List, [], ◌∷◌, length, drop}
use Rattle.ipmi_image.specs.Below.{Code, FruSize, Part, Shelf, Sdr, Sel, Row, Store, Seen, Asked, IsPiece, not_present}
use Rattle.ipmi_image.specs.declared.responder.Responder.{Responder}
use Rattle.ipmi_image.specs.Line.{SavedRow, id_of}
use Rattle.ipmi_image.specs.Table.{place_of}

-- the index of the record that the id requests; 0000h requests the first
abbrev pub place_asked : ℕ → List SavedRow → Option ℕ
place_asked id [] = None
place_asked id (row ∷ rows) = if id == 0 then Some 0 else place_of id_of id (row ∷ rows)

-- the number of bytes returned: the smallest of the number requested, the largest number allowed,
-- and the number left after the offset
abbrev pub len_given : ℕ → ℕ → ℕ → ℕ → ℕ
len_given asked most offset len = min (min asked most) (len - offset)

-- this many bytes were copied, at least one, or there is no byte at the offset
abbrev pub IsCopied : List ℕ → ℕ → ℕ → List ℕ → List ℕ → Option ℕ → Type 0
IsCopied bytes offset most old new None = (length bytes ≤ offset) × (new ≡ old)
IsCopied bytes offset most old new (Some got) =
    (got ≡ len_given (length old) most offset (length bytes))
    × IsPiece bytes offset (length old) got new × (drop got new ≡ drop got old)

-- ---- reservations

-- the number after this one; after FFFFh that is 1
abbrev pub number_after : ℕ → ℕ
number_after number = if number == 0xFFFF then 1 else number + 1

-- this reservation is the last one given, and the current one of the shelf; that of the other shelf
-- is unchanged
abbrev pub with_reservation : Shelf → ℕ → Responder → Responder
with_reservation Sdr number r = record r { given = number; sdr_reservation = Some number }
with_reservation Sel number r = record r { given = number; sel_reservation = Some number }

-- the second shelf begins with the records of the first; next ids may differ
abbrev pub begins_with : List Row → List Row → Bool
begins_with [] later = true
begins_with (row ∷ rows) [] = false
begins_with (row ∷ rows) (now ∷ later) =
    ((row.id == now.id) && bytes_eq row.bytes now.bytes) && begins_with rows later

abbrev pub reservation_if : Bool → Option ℕ → Option ℕ
reservation_if true reservation = reservation
reservation_if false reservation = None

-- another image
abbrev pub with_image : Store → Responder → Responder
with_image image r =
    record r { image = image; earlier = record { stores = r.image ∷ r.earlier.stores } }

-- another image; the reservation of a shelf stays if the shelf begins with its earlier records
abbrev pub with_appended : Store → Responder → Responder
with_appended image r = record (with_image image r) {
  sdr_reservation = reservation_if (begins_with r.image.sdr image.sdr) r.sdr_reservation;
  sel_reservation = reservation_if (begins_with r.image.sel image.sel) r.sel_reservation;
}

-- at an offset above 0, and not under the last reservation of the shelf
abbrev pub is_stale : ℕ → ℕ → Option ℕ → Bool
is_stale offset reservation None = nat_lt 0 offset
is_stale offset reservation (Some last) = nat_lt 0 offset && not (last == reservation)

-- ---- parts: CBh for a missing item is checked first, then C5h for a stale reservation, then C9h
-- for an offset at or past the end

abbrev pub out_of_range : Code
out_of_range = record { 0 = 0xC9 }

-- the answer to a request for a part of the record; at most `most` bytes may be returned, and
-- `last` is the shelf's last reservation
abbrev pub part_answer : Asked → ℕ → Option ℕ → Option Row → Result Part Code
part_answer ask most last None = Err not_present
part_answer ask most last (Some row) =
    if is_stale ask.offset ask.reservation last then Err (record { 0 = 0xC5 })
    else if nat_le (length row.bytes) ask.offset then Err out_of_range
    else Ok (record { next = row.next; got = len_given ask.len most ask.offset (length row.bytes) })

-- the answer to a request for `asked` bytes of the inventory; at most `most` bytes may be returned
abbrev pub fru_answer : ℕ → ℕ → ℕ → Option (List ℕ) → Result ℕ Code
fru_answer offset asked most None = Err not_present
fru_answer offset asked most (Some bytes) =
    if nat_le (length bytes) offset then Err out_of_range
    else Ok (len_given asked most offset (length bytes))

-- the answer to a request for the size of the inventory, which is accessed by bytes
abbrev pub size_answer : Option (List ℕ) → Result FruSize Code
size_answer None = Err not_present
size_answer (Some bytes) = Ok (record { size = length bytes; words = false })

-- the state of an image that a controller's contracts see; `plain` says whether it claims to be
-- plain
abbrev pub seen_as : Bool → Responder → Seen
seen_as plain r = record {
  store = r.image;
  earlier = r.earlier.stores;
  honest = true;
  plain = plain;
  sdr_reservation = r.sdr_reservation;
  sel_reservation = r.sel_reservation;
  calls = r.tally.counts.calls;
  most_asked = r.tally.counts.most_asked;
  last_asked = r.tally.counts.last_asked;
  last_failure = r.tally.counts.last_failure;
  troubles = r.tally.counts.troubles;
  fresh_troubles = r.tally.counts.fresh_troubles;
  refusals = r.tally.counts.refusals;
  last_code = r.tally.counts.last_code;
  stores_added = r.tally.counts.stores_added;
}
