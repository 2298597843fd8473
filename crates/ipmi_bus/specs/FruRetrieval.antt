-- An inventory being read in parts: what is read so far, and the state after one call.
use Rattle.std.specs.Prelude.{◌≡◌, ℕ, min, ◌+◌, ◌-◌, ◌*◌, ◌<◌, ◌≤◌, true, false, IsTrue, None, Some, IsSome, Result, Ok, Err, List, length, take}
use Rattle.ipmi_bus.specs.Types.{Busy, Cancelled, Code, CodeClass, FruEnded, FruRetrieval, FruSize, Size, SmallerPart, TriesFor}
use Rattle.ipmi_bus.specs.Store.{inventory_of}
use Rattle.ipmi_bus.specs.Seen.{Seen, StaysHonest}
use Rattle.ipmi_bus.specs.Held.{Keeps}
use Rattle.ipmi_bus.specs.Readers.{inventory_len, InventoryCounts, InventoryIs, IsLastPart, KeepsReservations, PlainMayAnswer}
use Rattle.ipmi_bus.specs.Failures.{HasMet, TroubleIs}
use Rattle.ipmi_bus.specs.Bounds.{digits, fru_call_bound, retrying_call_bound}
use Rattle.ipmi_bus.specs.Calls.{smaller_part}

-- an inventory with its first `have` bytes read
pub record IsBegun (r : FruRetrieval) : Type 0 where
  pub part : 0 < r.part
  pub part_fits : r.part < 255
  pub have : r.have ≤ length r.bytes.items
  pub fits : length r.bytes.items ≤ 65535
  pub troubles : r.troubles ≤ r.tries

-- and with bytes missing
pub record IsOpenInventory (r : FruRetrieval) : Type 0 where
  pub begun : IsBegun r
  pub more : r.have < length r.bytes.items

-- the number of bytes in the next request
abbrev pub request_len : FruRetrieval → ℕ
request_len r = min r.part (length r.bytes.items - r.have)

-- what a call does not change
pub record SameInventory (old new : FruRetrieval) : Type 0 where
  pub id : new.id ≡ old.id
  pub tries : new.tries ≡ old.tries
  pub tries_for : new.tries_for ≡ old.tries_for
  pub size : length new.bytes.items ≡ length old.bytes.items
  pub part : new.part ≤ old.part
  pub some : 0 < new.part
  pub fits : new.part < 255
  pub have : new.have ≤ length new.bytes.items
  pub troubles : new.troubles ≤ new.tries

-- an upper bound on the calls that bring one byte, or a trouble before it
abbrev pub calls_for_byte : TriesFor → ℕ → ℕ
calls_for_byte TriesFor.Inventory tries = 1
calls_for_byte TriesFor.EachPart tries = tries + 1

-- an upper bound on the remaining calls
abbrev pub calls_left : FruRetrieval → ℕ
calls_left r = (r.tries - r.troubles)
    + calls_for_byte r.tries_for r.tries * (length r.bytes.items - r.have) + digits r.part

-- the number of troubles that count after a part that brought bytes
abbrev pub troubles_after : TriesFor → ℕ → ℕ
troubles_after TriesFor.Inventory troubles = troubles
troubles_after TriesFor.EachPart troubles = 0

-- one more trouble is counted, or it exceeds the tries
abbrev pub CountsTrouble : FruRetrieval → FruRetrieval → Result (Unit {0}) FruEnded → Type 0
CountsTrouble old new (Ok u) =
    (new ≡ record old { troubles = old.troubles + 1 }) × (old.troubles < old.tries)
CountsTrouble old new (Err ended) =
    (ended ≡ FruEnded.GaveUp) × (new ≡ old) × (old.troubles ≡ old.tries)

-- the part size is reduced, or the read stalls because it is already one byte
abbrev pub MakesSmaller : ℕ → FruRetrieval → FruRetrieval → Result (Unit {0}) FruEnded → Type 0
MakesSmaller asked old new (Ok u) =
    (smaller_part asked ≡ Some new.part) × (new ≡ record old { part = new.part })
MakesSmaller asked old new (Err ended) =
    (ended ≡ FruEnded.Stalled) × (smaller_part asked ≡ None) × (new ≡ old)

-- a failed call for a part of `asked` bytes, by the class of its code: CBh is a refusal
abbrev pub PartFails : CodeClass → Code → ℕ → FruRetrieval → FruRetrieval
    → Result (Unit {0}) FruEnded → Type 0
PartFails Cancelled code asked old new result = CountsTrouble old new result
PartFails Busy code asked old new result = CountsTrouble old new result
PartFails SmallerPart code asked old new result = MakesSmaller asked old new result
PartFails _ code asked old new result = (result ≡ Err (FruEnded.Refused code)) × (new ≡ old)

-- `got` bytes were received; with none, the read stalls
abbrev pub TakesInventoryPart : ℕ → FruRetrieval → FruRetrieval → Result (Unit {0}) FruEnded
    → Type 0
TakesInventoryPart got old new (Ok u) = (0 < got) × (new ≡ record old {
  have = old.have + got;
  troubles = troubles_after old.tries_for old.troubles;
})
TakesInventoryPart got old new (Err ended) = (got ≡ 0) × (ended ≡ FruEnded.Stalled) × (new ≡ old)

-- the bytes read so far are those of the inventory
pub record HasRead (r : FruRetrieval) (s : Seen) : Type 0 where
  pub whole : List ℕ
  pub found : inventory_of r.id s.store ≡ Some whole
  pub size : length whole ≡ length r.bytes.items
  pub bytes : take r.have r.bytes.items ≡ take r.have whole

-- troubles count since `last`: since the read began, or since the last part that brought bytes
abbrev pub CountFrom : TriesFor → (Seen → Type 0) → ℕ → Seen → Seen → Seen → Type 0
CountFrom TriesFor.Inventory IsState tries s last s' = last ≡ s
CountFrom TriesFor.EachPart IsState tries s last s' = IsLastPart IsState tries s last s'

-- What holds since the read began, over an honest controller: the retrieval counted all troubles
-- since `last`, and nothing was refused. Before all bytes are read, something is finished only if the
-- inventory changed.
pub record FruSince (IsState : Seen → Type 0) (r : FruRetrieval) (s s' : Seen) : Type 0 where
  pub stays : StaysHonest s s'
  pub last : Seen
  pub counted : CountFrom r.tries_for IsState r.tries s last s'
  pub read : Keeps (inventory_of r.id) s s' → HasRead r s
  pub met : HasMet r.troubles last s'
  pub fresh_most : r.have < length r.bytes.items
      → s'.fresh_troubles ≤ last.fresh_troubles + r.troubles
  pub found : r.have ≡ length r.bytes.items → IsSome (inventory_of r.id s'.store)
  pub fresh : Keeps (inventory_of r.id) s s' → r.have < length r.bytes.items
      → s'.fresh_troubles ≡ last.fresh_troubles + r.troubles
  pub plain : IsTrue s.plain → (r.troubles ≡ 0) × KeepsReservations s s'

-- the read fails, over an honest controller; troubles count since `last`
pub record FruEnds (id tries : ℕ) (s last s' : Seen) (ended : FruEnded) : Type 0 where
  pub stays : StaysHonest s s'
  pub counts : InventoryCounts id tries last s' (Err ended)
  pub is : Keeps (inventory_of id) s s' → InventoryIs id tries last s' (Err ended)
  pub plain : IsTrue s.plain → PlainMayAnswer (Err ended) × KeepsReservations s s'

-- the state after one more call
abbrev pub FruNext : (Seen → Type 0) → FruRetrieval → FruRetrieval → Seen → Seen
    → Result (Unit {0}) FruEnded → Type 0
FruNext IsState old new s s' (Ok u) = FruSince IsState new s s'
FruNext IsState old new s s' (Err ended) =
    (last : Seen) × CountFrom old.tries_for IsState old.tries s last s'
    × FruEnds old.id old.tries s last s' ended

-- ---- the whole read

abbrev pub read_call_bound : TriesFor → ℕ → ℕ → ℕ
read_call_bound TriesFor.Inventory tries len = fru_call_bound tries len
read_call_bound TriesFor.EachPart tries len = retrying_call_bound tries len

-- reading an inventory, over an honest controller; troubles count since `last`
pub record ReadsWithTries (tries_for : TriesFor) (IsState : Seen → Type 0) (id tries : ℕ)
    (s s' : Seen) (result : Result (List ℕ) FruEnded) : Type 0 where
  pub stays : StaysHonest s s'
  pub last : Seen
  pub counted : CountFrom tries_for IsState tries s last s'
  pub counts : InventoryCounts id tries last s' result
  pub is : Keeps (inventory_of id) s s' → InventoryIs id tries last s' result
  pub calls : Keeps (inventory_of id) s s'
      → s'.calls ≤ s.calls + read_call_bound tries_for tries (inventory_len id s.store)
  pub plain : IsTrue s.plain → PlainMayAnswer result × KeepsReservations s s'

-- ---- its size

-- a failed call for the size, by the class of its code: CBh and a request for a smaller part are
-- refusals; Ok if the call is to be repeated
abbrev pub SizeFails : CodeClass → Code → ℕ → ℕ → Result (Unit {0}) FruEnded → Type 0
SizeFails Cancelled code troubles tries result = TroubleIs tt FruEnded.GaveUp troubles tries result
SizeFails Busy code troubles tries result = TroubleIs tt FruEnded.GaveUp troubles tries result
SizeFails _ code troubles tries result = result ≡ Err (FruEnded.Refused code)

-- the size in the answer, unless the device is accessed by words
abbrev pub TakesSize : FruSize → ℕ → Result Size FruEnded → Type 0
TakesSize told troubles (Ok size) =
    (told.words ≡ false) × (size ≡ record { bytes = told.size; troubles = troubles })
TakesSize told troubles (Err ended) = (told.words ≡ true) × (ended ≡ FruEnded.Words)

-- the size is that of the inventory in the store when the call returns
pub record HasSize (id : ℕ) (size : Size) (s s' : Seen) : Type 0 where
  pub stays : StaysHonest s s'
  pub found : (bytes : List ℕ) × (inventory_of id s'.store ≡ Some bytes)
      × (length bytes ≡ size.bytes)
  pub met : HasMet size.troubles s s'
  pub fresh_troubles : 0 < size.bytes → s'.fresh_troubles ≡ s.fresh_troubles + size.troubles
  pub plain : IsTrue s.plain → (size.troubles ≡ 0) × KeepsReservations s s'
