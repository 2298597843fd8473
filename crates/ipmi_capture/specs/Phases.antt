-- The effect of each phase of a capture, for the contracts of private functions.
use Rattle.std.specs.Prelude.{◌≡◌, ℕ, ◌+◌, ◌*◌, ◌<◌, ◌==◌, ◌||◌, IsSome, IsTrue, Bool, false, true, Option, Some, None, Result, Ok, Err, List, [], ◌++◌, All, map, take, length, slice_index_or, ◌⊎◌}
use Rattle.std.specs.List.{Any}
use Rattle.std.specs.Option.{option_to_list}
use Rattle.ipmi_capture.specs.Accounted.{IsAbsent, IsListedOrAbsent, IsReadingAccounted}
use Rattle.ipmi_capture.specs.Below.{Code, Cycle, CycleAt, Done, Ended, EndsBy, First, FruEnded, inventory_of, InventoryCounts, IsRefusedWith, IsWalk, Keeps, largest_len, LastFruCallSays, Malformed, Missing, MissingAt, not_present, OnGrowing, PlainMayAnswer, Reading, reading_of, retrying_call_bound, Row, rows_of, Sdr, Seen, Sel, Shelf, Stalled, StaysHonest, step_call_bound, Store, WalkEnd, with_inventory, with_reading}
use Rattle.ipmi_capture.specs.Capture.{InventoryOrLeft, NoneOrSame, OwnInventories, OwnReadings, ReadingOrLeft}
use Rattle.ipmi_capture.specs.Left.{AreCounted, EndIsNoted, EndsAs, LacksInventory, LacksReading, LacksRecords, PlainLeaves}
use Rattle.ipmi_capture.specs.Meanwhile.{IsTrueWhile, OfHeld, OwnRows}
use Rattle.ipmi_capture.specs.Named.{IsSensorKey, sensor_place}
use Rattle.ipmi_capture.specs.declared.left.Left.{Left}

-- ---- over any controller

-- more items were left out, and `P` holds for each
pub record Adds (P : Left → Type 0) (left left' : List Left) : Type 0 where
  pub more : List Left
  pub grows : left' ≡ left ++ more
  pub all : All P more

-- an end of a shelf with these rows
pub record IsEndOf (shelf : Shelf) (rows : List Row) (left : Left) : Type 0 where
  pub ended : Ended
  pub is : left ≡ Left.Records shelf ended
  pub ends : EndsAs shelf rows ended

-- a reading that the image lacks
pub record IsUnread (image : Store) (left : Left) : Type 0 where
  pub key : ℕ × ℕ
  pub lacks : LacksReading key.0 key.1 left
  pub none : reading_of key.0 key.1 image ≡ None

-- an inventory that the image lacks
pub record IsUnkept (image : Store) (left : Left) : Type 0 where
  pub id : ℕ
  pub lacks : LacksInventory id left
  pub none : inventory_of id image ≡ None

-- the reading of each marked sensor is in the image, or listed, or absent
abbrev pub AreReadingsAccounted : (Seen → Type 0) → List Bool → List Left → Store → Type 0
AreReadingsAccounted IsState marks left image = (key : ℕ × ℕ) → IsSensorKey key
    → slice_index_or marks (sensor_place key) false ≡ true → IsReadingAccounted IsState left image key

-- the same for the inventory of device 0, and of each marked device
abbrev pub AreInventoriesAccounted : (Seen → Type 0) → List Bool → List Left → Store → Type 0
AreInventoriesAccounted IsState marks left image = (id : ℕ) → id < 255
    → IsTrue ((id == 0) || slice_index_or marks id false)
    → IsListedOrAbsent IsState (LacksInventory id) left (inventory_of id image)

-- ---- over an honest controller

-- A phase of a capture, with the list of items left out before and after it: the list grows, and what the new items say is true.
-- If no store is added, the fact holds.
pub record Captures (IsState : Seen → Type 0) (tries : ℕ) (s s' : Seen) (left left' : List Left) (Fact : Type 0) : Type 0 where
  pub more : List Left
  pub grows : left' ≡ left ++ more
  pub counts : AreCounted IsState tries more s s'
  pub fact : s'.stores_added ≡ s.stores_added → Fact
  pub told : All (IsTrueWhile s s') more
  pub plain : IsTrue s.plain → All (PlainLeaves s.store) left → All (PlainLeaves s.store) left'

-- the rows are the whole walk, and its end is noted; or they are its first rows, and the others were left out
abbrev pub AreRowsOf : Shelf → List Left → List Row → List Row → WalkEnd → Type 0
AreRowsOf shelf left rows walk end = ((rows ≡ walk) × EndIsNoted shelf left end)
    ⊎ ((rows ≡ take (length rows) walk) × Any (LacksRecords shelf) left)

-- the same for the walk of the shelf from its first record
abbrev pub AreWalk : Shelf → List Left → Store → List Row → Type 0
AreWalk shelf left store rows = (walk : List Row) (end : WalkEnd)
    → IsWalk (rows_of shelf store) First walk → EndsBy (rows_of shelf store) First walk end
    → AreRowsOf shelf left rows walk end

-- the rows read, by why reading stopped: the whole walk, or its first rows
abbrev pub CameOf : List Row → WalkEnd → List Row → Option Ended → Type 0
CameOf walk end rows None = (rows ≡ walk) × (end ≡ Done)
CameOf walk end rows (Some (Cycle n)) = (rows ≡ walk) × (end ≡ CycleAt n)
CameOf walk end rows (Some (Missing n)) = (rows ≡ walk) × (end ≡ MissingAt n)
CameOf walk end rows (Some ended) = rows ≡ take (length rows) walk

-- over a plain controller reading stops only at the end of the walk
abbrev pub PlainEnds : Option Ended → Type 0
PlainEnds None = Unit {0}
PlainEnds (Some (Cycle n)) = Unit {0}
PlainEnds (Some (Missing n)) = Unit {0}
PlainEnds (Some ended) = ⊥

-- no record stalls or is malformed
abbrev pub NoneIsFaulty : Option Ended → Type 0
NoneIsFaulty (Some (Stalled n)) = ⊥
NoneIsFaulty (Some (Malformed n)) = ⊥
NoneIsFaulty ended = Unit {0}

-- a shelf was read; if no store is added, along its walk
pub record Walks (IsState : Seen → Type 0) (shelf : Shelf) (tries : ℕ) (s s' : Seen) (rows : List Row) (ended : Option Ended) : Type 0 where
  pub along : s'.stores_added ≡ s.stores_added → (walk : List Row) (end : WalkEnd)
      → IsWalk (rows_of shelf s.store) First walk → EndsBy (rows_of shelf s.store) First walk end
      → CameOf walk end rows ended
  pub none_faulty : NoneIsFaulty ended
  pub plain : IsTrue s.plain → PlainEnds ended
  pub counts : AreCounted IsState tries (map (Left.Records shelf) (option_to_list ended)) s s'

-- ---- items put into the image

-- a reading, if there is one, is put after the others
abbrev pub HasRead : ℕ → ℕ → Option Reading → Store → Store → Type 0
HasRead lun number None old new = new ≡ old
HasRead lun number (Some reading) old new = new ≡ with_reading lun number reading old

abbrev pub HasInventory : ℕ → Option (List ℕ) → Store → Store → Type 0
HasInventory id None old new = new ≡ old
HasInventory id (Some bytes) old new = new ≡ with_inventory id bytes old

-- the reading of each marked sensor is the store's, or was left out; no reading differs from the store's
pub record HasReadings (marks : List Bool) (left : List Left) (image store : Store) : Type 0 where
  pub named : (key : ℕ × ℕ) → IsSensorKey key
      → slice_index_or marks (sensor_place key) false ≡ true → ReadingOrLeft left image store key
  pub own : OwnReadings image store

-- the same for the inventory of device 0, and of each marked device but FFh
pub record HasInventories (marks : List Bool) (left : List Left) (image store : Store) : Type 0 where
  pub named : (id : ℕ) → id < 255 → IsTrue ((id == 0) || slice_index_or marks id false)
      → InventoryOrLeft left image store id
  pub own : OwnInventories image store

-- ---- over an honest controller whose store may change

-- the reading of each marked sensor is that of a store that the controller held meanwhile, or was left out; each reading is that
-- of such a store
pub record HasReadingsWhile (marks : List Bool) (left : List Left) (image : Store) (s s' : Seen) : Type 0 where
  pub named : (key : ℕ × ℕ) → IsSensorKey key → slice_index_or marks (sensor_place key) false ≡ true
      → OfHeld s s' (λ store. ReadingOrLeft left image store key)
  pub own : (lun number : ℕ)
      → OfHeld s s' (λ store. NoneOrSame (reading_of lun number image) (reading_of lun number store))

-- the same for the inventory of device 0, and of each marked device but FFh, if that inventory did not change
pub record HasInventoriesWhile (marks : List Bool) (left : List Left) (image : Store) (s s' : Seen) : Type 0 where
  pub named : (id : ℕ) → id < 255 → IsTrue ((id == 0) || slice_index_or marks id false)
      → Keeps (inventory_of id) s s' → InventoryOrLeft left image s.store id
  pub own : (id : ℕ) → Keeps (inventory_of id) s s' → NoneOrSame (inventory_of id image) (inventory_of id s.store)

-- the rows read of a walk that only grew, by why reading stopped: the whole walk, or its first rows
abbrev pub CameOfLog : Shelf → List Row → List Row → Option Ended → Type 0
CameOfLog shelf log rows None = rows ≡ log
CameOfLog shelf log rows (Some ended) =
    (rows ≡ take (length rows) log) × LacksRecords shelf (Left.Records shelf ended)

-- the rows read of a shelf whose rows did not change, whatever else of the store did
abbrev pub CameKept : Shelf → Seen → Seen → List Row → Option Ended → Type 0
CameKept shelf s s' rows ended = Keeps (rows_of shelf) s s' → (walk : List Row) (end : WalkEnd)
    → IsWalk (rows_of shelf s.store) First walk → EndsBy (rows_of shelf s.store) First walk end
    → CameOf walk end rows ended

-- a shelf was read; if its rows did not change, or if its walk only grew, along its walk
pub record WalksWhile (shelf : Shelf) (s s' : Seen) (rows : List Row) (ended : Option Ended) : Type 0 where
  pub kept : CameKept shelf s s' rows ended
  pub along : OnGrowing shelf First s s' (λ log. CameOfLog shelf log rows ended)
  pub own : OwnRows shelf rows s s'

-- if the rows of the shelf did not change, or if its walk only grew: the rows read are the whole walk, or its first rows, and the
-- others were left out
pub record HasLog (shelf : Shelf) (left : List Left) (s s' : Seen) (rows : List Row) : Type 0 where
  pub kept : Keeps (rows_of shelf) s s' → AreWalk shelf left s.store rows
  pub along : OnGrowing shelf First s s' (λ log. (rows ≡ log)
      ⊎ ((rows ≡ take (length rows) log) × Any (LacksRecords shelf) left))
  pub own : OwnRows shelf rows s s'

-- ---- inventories that are left out

-- over a plain controller, reading an inventory does not end this way
abbrev pub IsNotPlain : FruEnded → Type 0
IsNotPlain ended = PlainMayAnswer (Err ended) → ⊥

-- the last call agrees with how a request for a size ended: it was given, given up or refused
abbrev pub SizeSays : Result (Unit {0}) FruEnded → Seen → Type 0
SizeSays (Ok u) seen = seen.last_failure ≡ None
SizeSays (Err FruEnded.GaveUp) seen = LastFruCallSays FruEnded.GaveUp seen
SizeSays (Err (FruEnded.Refused code)) seen = LastFruCallSays (FruEnded.Refused code) seen
SizeSays (Err ended) seen = ⊥

-- a size that was given counts as an inventory that was read
abbrev as_read : Result (Unit {0}) FruEnded → Result (List ℕ) FruEnded
as_read (Ok u) = Ok []
as_read (Err ended) = Err ended

-- the size of an inventory was requested, with tries of its own; a plain controller says at once that there is no inventory
pub record SizeCame (id tries : ℕ) (s s' : Seen) (result : Result (Unit {0}) FruEnded) : Type 0 where
  pub stays : StaysHonest s s'
  pub counts : InventoryCounts id tries s s' (as_read result)
  pub plain : IsTrue s.plain → inventory_of id s.store ≡ None → result ≡ Err (FruEnded.Refused not_present)

-- The item left out if reading the inventory ended this way, by the last call. After a refusal the size was requested again. If it was
-- refused with the same code, the size is left out. After CBh the inventory is cut off if the size was given; if that was given up, or
-- refused with another code, it isn't known whether there is an inventory, and it is left out with this reason.
abbrev pub IsLeftBy : ℕ → FruEnded → Seen → Left → Type 0
IsLeftBy id ended seen (Left.Size i code) =
    (i ≡ id) × IsNotPlain ended × (ended ≡ FruEnded.Refused code) × (seen.last_failure ≡ Some code.0)
IsLeftBy id ended seen (Left.CutOff i) = (i ≡ id) × (ended ≡ FruEnded.Refused not_present) × (seen.last_failure ≡ None)
IsLeftBy id ended seen (Left.Inventory i e) = (i ≡ id) × IsNotPlain e
    × ((e ≡ ended) ⊎ ((ended ≡ FruEnded.Refused not_present) × LastFruCallSays e seen))
IsLeftBy id ended seen left = ⊥

-- the item left out of what was read: an inventory without bytes; or if it was not read, as above
abbrev pub IsLeftAfter : ℕ → Result (List ℕ) FruEnded → Seen → Left → Type 0
IsLeftAfter id (Ok bytes) seen left = (left ≡ Left.Empty id) × (bytes ≡ [])
IsLeftAfter id (Err ended) seen left = IsLeftBy id ended seen left

-- nothing is left out: the image has the bytes; or CBh was answered, and again to the last call, for the size
abbrev pub NoneIsLeft : Result (List ℕ) FruEnded → Seen → Option (List ℕ) → Type 0
NoneIsLeft (Ok bytes) seen of_image = of_image ≡ Some bytes
NoneIsLeft (Err ended) seen of_image = (ended ≡ FruEnded.Refused not_present) × IsAbsent seen

-- the inventory was refused with this code, and its size was not
abbrev pub IsNotSize : Code → Seen → Left → Type 0
IsNotSize code seen (Left.Inventory id ended) = LastFruCallSays (FruEnded.Refused code) seen → ⊥
IsNotSize code seen left = Unit {0}

-- What the request for the size says of the item, over an honest controller: a size was refused with this code; an inventory that is
-- cut off is in the store; and one that isn't known to be absent was given up or refused.
abbrev pub IsLeftAgain : FruEnded → ℕ → Seen → Seen → Left → Type 0
IsLeftAgain ended tries s s' (Left.Size id code) = IsRefusedWith tries code.0 s s'
IsLeftAgain ended tries s s' (Left.CutOff id) = IsSome (inventory_of id s'.store)
IsLeftAgain ended tries s s' (Left.Inventory id e) =
    ended ≡ FruEnded.Refused not_present → InventoryCounts id tries s s' (Err e)
IsLeftAgain ended tries s s' left = Unit {0}

-- ---- calls, over any controller

-- for a cursor: it requests at most 65,536 records, and reduces its part size at most seven times
abbrev pub most_on_walk : Shelf → ℕ → ℕ
most_on_walk shelf tries = 65536 * step_call_bound tries (largest_len shelf) + 7

-- for four cursors
abbrev pub most_on_shelf : Shelf → ℕ → ℕ
most_on_shelf shelf tries = 4 * most_on_walk shelf tries

-- for an inventory, and once more for its size
abbrev pub most_for_inventory : ℕ → ℕ
most_for_inventory tries = retrying_call_bound tries 65535 + (tries + 1)

-- for both shelves, both infos, 1024 readings and 255 inventories
abbrev pub most_calls : ℕ → ℕ
most_calls tries = most_on_shelf Sdr tries + most_on_shelf Sel tries + 2 * (tries + 1)
    + 1024 * (tries + 1) + 255 * most_for_inventory tries
