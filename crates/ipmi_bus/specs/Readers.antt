-- The results of the readers of infos, sensor readings and inventories.
use Rattle.std.specs.Prelude.{◌≡◌, ℕ, ◌+◌, ◌<◌, ◌≤◌, ◌==◌, zero, suc, Bool, true, false, IsTrue, Option, None, Some, IsSome, unwrap_or, Result, Ok, Err, List, [], length, Vec}
use Rattle.std.specs.declared.alloc.Global.{Global}
use Rattle.ipmi_bus.specs.Types.{Ended, FruEnded, GaveUp, NotPresent, Refused, Sdr, Sel}
use Rattle.ipmi_bus.specs.Store.{Store, inventory_of}
use Rattle.ipmi_bus.specs.Seen.{Seen, StaysHonest, current}
use Rattle.ipmi_bus.specs.Held.{Keeps}
use Rattle.ipmi_bus.specs.Bounds.{fru_call_bound, retrying_call_bound}
use Rattle.ipmi_bus.specs.Tries.{LastCallSays, LastFailed, RefusesValue, WithinTries, GivesUp, GivesUpOverChange, IsRefusedWith}

-- ---- a value: an info, a reading

-- over any controller: the read of a value fails only by giving up or by a refusal, and names this
-- id
abbrev pub EndsUnder : {V : Type 0} → ℕ → Result V Ended → Type 0
EndsUnder id (Ok o) = Unit {0}
EndsUnder id (Err (GaveUp n)) = n ≡ id
EndsUnder id (Err (Refused n code)) = n ≡ id
EndsUnder id _ = ⊥

-- the last call agrees with the result: a value came, or there is none
abbrev pub ValueSays : {V : Type 0} → Result (Option V) Ended → Seen → Type 0
ValueSays (Ok (Some v)) seen = seen.last_failure ≡ None
ValueSays (Ok None) seen = LastFailed (λ class. class ≡ NotPresent) seen
ValueSays (Err ended) seen = LastCallSays RefusesValue ended seen

-- over an honest controller: the value in the store when the call returns, or none if that store
-- has none
abbrev pub ValueIs : {V : Type 0} → (Store → Option V) → ℕ → Seen → Seen → Result (Option V) Ended
    → Type 0
ValueIs value tries s s' (Ok o) = WithinTries tries s s' × (o ≡ value s'.store)
ValueIs value tries s s' (Err (GaveUp n)) = GivesUp tries s s'
ValueIs value tries s s' (Err (Refused n code)) = IsRefusedWith tries code.0 s s'
ValueIs value tries s s' _ = ⊥

-- the current reservations are unchanged
pub record KeepsReservations (s s' : Seen) : Type 0 where
  pub sdr : current Sdr s' ≡ current Sdr s
  pub sel : current Sel s' ≡ current Sel s

-- reading a value, over an honest controller; over a plain one, the value is that of the store, and
-- the reservations are unchanged
pub record ReadsValue {V : Type 0} (value : Store → Option V) (tries : ℕ) (s s' : Seen)
    (result : Result (Option V) Ended) : Type 0 where
  pub stays : StaysHonest s s'
  pub is : ValueIs value tries s s' result
  pub plain : IsTrue s.plain → (result ≡ Ok (value s.store)) × KeepsReservations s s'

-- ---- an inventory

-- CBh does not count as a refusal, and is returned only if the store has no such inventory
abbrev pub IsRefusedInventory : Bool → ℕ → ℕ → ℕ → Seen → Seen → Type 0
IsRefusedInventory true id tries code s s' =
    WithinTries tries s s' × (inventory_of id s.store ≡ None)
IsRefusedInventory false id tries code s s' = IsRefusedWith tries code s s'

-- the result if the inventory does not change meanwhile: its bytes, or why there are none; it is out
-- of memory only if there is such an inventory
abbrev pub InventoryIs : ℕ → ℕ → Seen → Seen → Result (List ℕ) FruEnded → Type 0
InventoryIs id tries s s' (Ok bytes) =
    WithinTries tries s s' × (inventory_of id s.store ≡ Some bytes)
InventoryIs id tries s s' (Err FruEnded.Memory) =
    WithinTries tries s s' × IsSome (inventory_of id s.store)
InventoryIs id tries s s' (Err (FruEnded.Refused code)) =
    IsRefusedInventory (code.0 == 0xCB) id tries code.0 s s'
InventoryIs id tries s s' (Err FruEnded.GaveUp) = GivesUp tries s s'
InventoryIs id tries s s' _ = ⊥

-- CBh does not count as a refusal, and is returned only if the store has no such inventory when the
-- call returns
abbrev pub IsRefusedOverChange : Bool → ℕ → ℕ → ℕ → Seen → Seen → Type 0
IsRefusedOverChange true id tries code s s' =
    WithinTries tries s s' × (inventory_of id s'.store ≡ None)
IsRefusedOverChange false id tries code s s' = IsRefusedWith tries code s s'

-- the counts of the read, whatever stores are added; bytes, or out of memory, are returned only if
-- the store has such an inventory when the call returns
abbrev pub InventoryCounts : ℕ → ℕ → Seen → Seen → Result (List ℕ) FruEnded → Type 0
InventoryCounts id tries s s' (Ok bytes) =
    WithinTries tries s s' × IsSome (inventory_of id s'.store)
InventoryCounts id tries s s' (Err FruEnded.Memory) =
    WithinTries tries s s' × IsSome (inventory_of id s'.store)
InventoryCounts id tries s s' (Err (FruEnded.Refused code)) =
    IsRefusedOverChange (code.0 == 0xCB) id tries code.0 s s'
InventoryCounts id tries s s' (Err FruEnded.GaveUp) = GivesUpOverChange tries s s'
InventoryCounts id tries s s' _ = ⊥

-- over a plain controller the read is refused only if there is no such inventory, and it never
-- gives up
abbrev pub PlainMayAnswer : Result (List ℕ) FruEnded → Type 0
PlainMayAnswer (Ok bytes) = Unit {0}
PlainMayAnswer (Err FruEnded.Memory) = Unit {0}
PlainMayAnswer (Err (FruEnded.Refused code)) = code.0 ≡ 0xCB
PlainMayAnswer _ = ⊥

-- the length of the inventory in bytes, 0 if there is none
abbrev pub inventory_len : ℕ → Store → ℕ
inventory_len id store = length (unwrap_or (inventory_of id store) [])

-- reading an inventory, over an honest controller: exact if that inventory does not change meanwhile,
-- whatever else does
pub record ReadsInventory (id tries : ℕ) (s s' : Seen)
    (result : Result (List ℕ) FruEnded) : Type 0 where
  pub stays : StaysHonest s s'
  pub counts : InventoryCounts id tries s s' result
  pub is : Keeps (inventory_of id) s s' → InventoryIs id tries s s' result
  pub calls : Keeps (inventory_of id) s s'
      → s'.calls ≤ s.calls + fru_call_bound tries (inventory_len id s.store)
  pub plain : IsTrue s.plain → PlainMayAnswer result × KeepsReservations s s'

-- the last call was for a part, and brought bytes
abbrev pub BroughtBytes : Seen → Type 0
BroughtBytes seen = (0 < seen.last_asked) × (seen.last_failure ≡ None)

-- parts that brought bytes, one after another: since the one before there were at most `tries` troubles, and no refusal
abbrev pub PartsCame : (Seen → Type 0) → ℕ → ℕ → Seen → Seen → Type 0
PartsCame IsState tries zero s s' = s' ≡ s
PartsCame IsState tries (suc parts) s s' = (before : Seen) × PartsCame IsState tries parts s before
    × IsState s' × BroughtBytes s' × WithinTries tries before s'

-- calls, one after another, of which none brought bytes
abbrev pub NoneCame : (Seen → Type 0) → ℕ → Seen → Seen → Type 0
NoneCame IsState zero s s' = s' ≡ s
NoneCame IsState (suc calls) s s' = (before : Seen) × NoneCame IsState calls s before
    × IsState s' × (s'.calls ≡ before.calls + 1) × (BroughtBytes s' → ⊥)

-- `last` is the state after the last part that brought bytes, or the first state if none did
pub record IsLastPart (IsState : Seen → Type 0) (tries : ℕ) (s last s' : Seen) : Type 0 where
  pub first : StaysHonest s last
  pub later : StaysHonest last s'
  pub parts : ℕ
  pub came : PartsCame IsState tries parts s last
  pub calls : ℕ
  pub none : NoneCame IsState calls last s'

-- the same as `ReadsInventory`, but troubles are counted afresh after each part that brought bytes
pub record ReadsRetryingParts (IsState : Seen → Type 0) (id tries : ℕ) (s s' : Seen)
    (result : Result (List ℕ) FruEnded) : Type 0 where
  pub stays : StaysHonest s s'
  pub last : Seen
  pub is_last : IsLastPart IsState tries s last s'
  pub counts : InventoryCounts id tries last s' result
  pub kept : Keeps (inventory_of id) s s' → inventory_of id last.store ≡ inventory_of id s.store
  pub is : Keeps (inventory_of id) s s' → InventoryIs id tries last s' result
  pub calls : Keeps (inventory_of id) s s'
      → s'.calls ≤ s.calls + retrying_call_bound tries (inventory_len id s.store)
  pub plain : IsTrue s.plain → PlainMayAnswer result × KeepsReservations s s'

-- an inventory's bytes, as a list
abbrev pub as_inventory : Result (Vec ℕ Global) FruEnded → Result (List ℕ) FruEnded
as_inventory (Ok bytes) = Ok bytes.items
as_inventory (Err ended) = Err ended
