-- The record that a cursor returns is the row that it requested.
use Rattle.std.proofs.Common.{◌≡◌, ℕ, ◌+◌, ◌*◌, ◌<◌, ◌≤◌, Bool, false, nat_eq, None, Some, IfSome, IsSome, List, length, take, get_or, inl, inr, refl, sym, ◌∙◌, arith, nat_cmp, take_all, get_or-take, length-take}
use Rattle.std.specs.FinSet as set
use Rattle.std.specs.FinSet.{contains-empty, len-empty}
use Rattle.std.proofs.lemmas.Bool.Decides.{nat_tests}
use Rattle.ipmi_bus.specs.Prelude.{Shelf, Place, First, Id, End, Retrieval, Handed, Progress, Row, IsShelf, id_in, whole_len, largest_len, look, first_row, place_after, rows_of, store_shelf, Seen, IsHonest, wanted_len, handed_id, IsAsked, cycle_at, asked_at, HandsOut, CursorState, IsCursor, asked_to, begun, first_len, FirstAsks, ReadFirstAsks, state_of}
use Rattle.ipmi_bus.specs.Retrieval.{HasRead}
use Rattle.ipmi_bus.proofs.PartLemmas.{get_or-read}
use Rattle.ipmi_bus.proofs.WalkLemmas.{id-row_at}

-- the row in the buffer, if this id was requested and the row is complete
abbrev pub whole_row : Place → ℕ → Retrieval → Row
whole_row place asked r = record { id = handed_id place asked r.buffer; next = r.next; bytes = take r.have r.buffer }

-- the returned row
abbrev handed_row : Progress → Handed → Row
handed_row p handed = record { id = handed.id; next = handed.next; bytes = take handed.len p.retrieval.buffer }

-- the returned id is the id of the row
begins : (rows : List Row) (row : Row) → IfSome (first_row rows) (λ r. id_in r.bytes ≡ r.id)
    → first_row rows ≡ Some row
    → get_or row.bytes 0 0 + 256 * get_or row.bytes 1 0 ≡ row.id
begins rows row ok found = grind arith

-- an id requested after the start is not 0000h, and was not returned before
asked_unseen : (n : ℕ) (ids : set.FinSet nat_cmp) → cycle_at (Id n) ids ≡ None
    → (nat_eq n 0 ≡ false) × (set.contains ids n ≡ false)
asked_unseen n ids none = grind (arith, nat_tests)

pub handed_id-row : (shelf : Shelf) (rows : List Row) (place : Place) (ids : set.FinSet nat_cmp)
    (asked have : ℕ) (buffer : List ℕ) (row : Row) → IsShelf shelf rows → IsAsked place ids asked
    → look rows asked ≡ Some row → 5 ≤ have
    → take have buffer ≡ take have row.bytes → handed_id place asked buffer ≡ row.id
handed_id-row shelf rows First ids asked have buffer row ok asks found some same =
    let low = get_or-read have 0 buffer row.bytes (omega arith) same in
    let high = get_or-read have 1 buffer row.bytes (omega arith) same in
    let id = begins rows row ok.first (rw asks.id at found) in omega arith
handed_id-row shelf rows (Id n) ids asked have buffer row ok asks found some same =
    let zero = (asked_unseen n ids asks.none).0 in asks.id ∙ sym (id-row_at shelf rows n row ok (rw zero (rw (asks.id, zero) at found))).1
handed_id-row shelf rows End ids asked have buffer row ok asks found some same = absurd (asks.not_at_end refl)

-- the row in the buffer is the one that was read
pub look-whole_row : (place : Place) (ids : set.FinSet nat_cmp) (asked : ℕ) (r : Retrieval)
    (s : Seen) (row : Row) → IsHonest s → IsAsked place ids asked → r.id ≡ asked → HasRead r s row
    → r.have ≡ length row.bytes → 5 ≤ r.have
    → look (rows_of r.shelf s.store) asked ≡ Some (whole_row place asked r)
look-whole_row place ids asked r s row honest asks is read whole some =
    let found : look (rows_of r.shelf s.store) asked ≡ Some row = rw (sym is) read.read.found in
    let id = handed_id-row r.shelf (rows_of r.shelf s.store) place ids asked r.have r.buffer row (store_shelf r.shelf s.store honest.store) asks found some read.read.bytes in
    let bytes : take r.have r.buffer ≡ row.bytes = read.read.bytes ∙ rw whole (take_all _ row.bytes (omega arith)) in
    rw (id, read.next, bytes) found

-- and it is the returned row
pub handed_row-whole : (p : Progress) (handed : Handed) (place : Place) (asked : ℕ) (r : Retrieval)
    → handed.id ≡ handed_id place asked r.buffer → handed.next ≡ r.next → handed.len ≡ r.have
    → p.retrieval ≡ r → handed_row p handed ≡ whole_row place asked r
handed_row-whole p handed place asked r id next len is = rw (id, next, len, is) refl

-- the returned id was not returned before
pub contains-handed_id : (place : Place) (ids : set.FinSet nat_cmp) (asked : ℕ) (buffer : List ℕ)
    → (place ≡ First → ids ≡ set.empty) → IsAsked place ids asked
    → set.contains ids (handed_id place asked buffer) ≡ false
contains-handed_id place ids asked buffer first asks = grind (arith, nat_tests, contains-empty nat_cmp)

-- the returned row has the requested id
has_id_asked : (place : Place) (ids : set.FinSet nat_cmp) (asked : ℕ) (r : Retrieval) → 5 ≤ r.have
    → IsAsked place ids asked → (whole_row place asked r).id ≡ handed_id place (asked_at place) (whole_row place asked r).bytes
has_id_asked place ids asked r some asks = grind (arith, get_or-take)

-- and the length given in its bytes
length-take-whole : (shelf : Shelf) (have : ℕ) (buffer : List ℕ) → 5 ≤ have → have ≤ length buffer
    → have ≡ wanted_len shelf have buffer
    → length (take have buffer) ≡ whole_len shelf (take have buffer)
length-take-whole shelf have buffer some fits whole = grind (arith, nat_tests, length-take, get_or-take)

largest_fits : (shelf : Shelf) → largest_len shelf ≤ 256
largest_fits shelf = grind arith

-- the cursor returns a whole row that it did not return before
pub hands_out : (old new : CursorState) (asked : ℕ) (r : Retrieval) (row : Row)
    → row ≡ whole_row old.place asked r → IsAsked old.place old.ids asked
    → (old.place ≡ First → old.ids ≡ set.empty) → new.place ≡ place_after row.next
    → new.ids ≡ set.insert old.ids row.id
    → set.len new.ids ≤ 65536 → row.next < 65536 → r.shelf ≡ old.shelf → length r.buffer ≡ 256
    → 5 ≤ r.have → r.have ≤ largest_len r.shelf → r.have ≡ wanted_len r.shelf r.have r.buffer
    → IsSome new.reservation → HandsOut old new row
hands_out old new asked r row is asks first place ids at_most next shelf room some fits whole reserved =
    let within : r.have ≤ length r.buffer = omega (arith, largest_fits r.shelf) in
    record {
      place = place;
      ids = ids;
      unseen = rw is (contains-handed_id old.place old.ids asked r.buffer first asks);
      at_most = at_most;
      id = rw is (has_id_asked old.place old.ids asked r some asks);
      whole = rw (is, ← shelf) (length-take-whole r.shelf r.have r.buffer some within whole);
      fits = rw (is, ← shelf) (omega (arith, length-take r.have r.buffer));
      not_at_end = asks.not_at_end;
      next = next;
      reserved = reserved;
    }

-- the first request for a record
first_is : (ahead : Bool) (shelf : Shelf) (buffer : List ℕ) → asked_to ahead shelf 0 buffer ≡ first_len ahead shelf
first_is ahead shelf buffer = grind arith

pub first_asks : (p : Progress) (id : ℕ) (s s' : Seen) → ReadFirstAsks (begun p.retrieval id) s s'
    → FirstAsks (state_of p) s s'
first_asks p id s s' first some one =
    let is = first_is p.retrieval.ahead p.retrieval.shelf p.retrieval.buffer in
    omega (arith, first some one, is)

-- a cursor stays one if its part size does not grow
pub is_cursor-after : (old new : Progress) → IsCursor old → 0 < new.retrieval.part
    → new.retrieval.part ≤ old.retrieval.part → (new.place ≡ First → new.ids ≡ set.empty)
    → IsCursor new
is_cursor-after old new is some part first = record { some = some; fits = omega (arith, is.fits); first = first }

-- no record is before the start
pub place_after-not_first : (next : ℕ) → place_after next ≡ First → ⊥
place_after-not_first next first = grind (arith, nat_tests)

-- a cursor that requests a record has not returned all ids
pub room_asked : (place : Place) (ids : set.FinSet nat_cmp) (asked : ℕ) → IsAsked place ids asked
    → (place ≡ First → ids ≡ set.empty) → set.len ids < 65536
room_asked place ids asked asks first = elim asks.room [ inl start ↦ rw (first start, len-empty nat_cmp) (omega arith) | inr room ↦ room ]

-- if no id was returned yet, there is room for each id
pub ruleset empty_ids = (contains-empty, len-empty)
