-- What an image has of a controller whose store may change during the capture.
use Rattle.std.specs.Prelude.{◌≡◌, ℕ, IsSome, None, Some, List, [], ◌∷◌, All, length, take, ◌⊎◌}
use Rattle.std.specs.List.{Any}
use Rattle.ipmi_capture.specs.Below.{Cycle, CycleAt, Done, First, FruEnded, info_of, inventory_of, IsLog, Keeps, Malformed, Missing, MissingAt, OnGrowing, OnlyGrew, reading_of, Row, row_with_id, rows_of, Sdr, Seen, Sel, Shelf, Stalled, StaysHonest, Store, WalkEnd, WasHeld}
use Rattle.ipmi_capture.specs.Capture.{devices_of, HasWalk, InventoryOrLeft, NoneOrSame, ReadingOrLeft, sensors_of, WalkOrLeft}
use Rattle.ipmi_capture.specs.Left.{LacksInfo, LacksRecords, SameOrLeft, WalkEndsBy}
use Rattle.ipmi_capture.specs.declared.left.Left.{Left}

-- `Holds` for a store that the controller held meanwhile: at the first state, at the second, or between them
abbrev pub OfHeld : Seen → Seen → (Store → Type 0) → Type 0
OfHeld s s' Holds = (store : Store) × WasHeld s s' store × Holds store

-- If the walk of the shelf was empty or ended with FFFFh at first, and only grew until the end: the image has the whole walk of a
-- store that the controller held meanwhile, which begins with all records of the first walk. Or it has the first records of such
-- a walk, perhaps none, and the others were left out.
abbrev pub LogOrLeft : Shelf → List Left → Store → Seen → Seen → Type 0
LogOrLeft shelf left image s s' = OnGrowing shelf First s s' (λ log. HasWalk shelf image log Done
    ⊎ ((rows_of shelf image ≡ take (length (rows_of shelf image)) log) × Any (LacksRecords shelf) left))

-- each row was on this shelf, with this id, next id and bytes, in a store held meanwhile, perhaps each in another one
abbrev pub OwnRows : Shelf → List Row → Seen → Seen → Type 0
OwnRows shelf rows s s' =
    All (λ row. OfHeld s s' (λ store. row_with_id row.id (rows_of shelf store) ≡ Some row)) rows

-- The info of the shelf was read before its records: it is that of a store held up to a state, or was left out, and each record is
-- that of a store held from this state on. A shelf that did not change since then is exact, or was left out, whatever else changed. Of
-- one that changed otherwise than by growing only single records are known.
pub record IsShelfWhile (shelf : Shelf) (left : List Left) (image : Store) (s s' : Seen) : Type 0 where
  pub between : Seen
  pub first : StaysHonest s between
  pub later : StaysHonest between s'
  pub info : OfHeld s between (λ store. SameOrLeft (LacksInfo shelf) left (info_of shelf image) (info_of shelf store))
  pub rows : Keeps (rows_of shelf) between s' → WalkOrLeft shelf left image between.store
  pub grown : LogOrLeft shelf left image between s'
  pub own : OwnRows shelf (rows_of shelf image) between s'

-- Each record is that of a store held meanwhile, and so is each info and reading, unless it was left out. An inventory that did not
-- change is exact, unless it was left out; of one that changed nothing is known.
pub record IsCaptureWhile (left : List Left) (image : Store) (s s' : Seen) : Type 0 where
  pub sdr : IsShelfWhile Sdr left image s s'
  pub sel : IsShelfWhile Sel left image s s'
  pub readings : All (λ key. OfHeld s s' (λ store. ReadingOrLeft left image store key)) (sensors_of image.sdr)
  pub inventories : All (λ id. Keeps (inventory_of id) s s' → InventoryOrLeft left image s.store id) (0 ∷ devices_of image.sdr)
  pub own_readings : (lun number : ℕ)
      → OfHeld s s' (λ store. NoneOrSame (reading_of lun number image) (reading_of lun number store))
  pub own_inventories : (id : ℕ) → Keeps (inventory_of id) s s'
      → NoneOrSame (inventory_of id image) (inventory_of id s.store)

-- ---- items left out

-- the walk of the shelf ended with FFFFh at first, and then only grew
abbrev pub OnlyGrewAsLog : Shelf → Seen → Seen → Type 0
OnlyGrewAsLog shelf s s' = (log : List Row) × IsLog shelf First s.store log × OnlyGrew shelf First s s'

-- if the rows of the shelf did not change, their walk has this end; and the walk is not one that only grew
pub record EndsWhile (shelf : Shelf) (s s' : Seen) (end : WalkEnd) : Type 0 where
  pub kept : Keeps (rows_of shelf) s s' → WalkEndsBy shelf s.store end
  pub not_grown : OnlyGrewAsLog shelf s s' → ⊥

-- the controller held a store with this inventory
abbrev pub WasIn : ℕ → Seen → Seen → Type 0
WasIn id s s' = OfHeld s s' (λ store. IsSome (inventory_of id store))

-- An end is noted of a walk only if it is true, or the rows of the shelf changed otherwise than by growing. An inventory noted as empty
-- was in a store held meanwhile, and it is empty unless it changed. One that is cut off was in such a store, and was not in another.
-- No record stalls or is malformed; no inventory stalls, uses words, or is noted as out of memory.
abbrev pub IsTrueWhile : Seen → Seen → Left → Type 0
IsTrueWhile s s' (Left.Records shelf (Cycle n)) = EndsWhile shelf s s' (CycleAt n)
IsTrueWhile s s' (Left.Records shelf (Missing n)) = EndsWhile shelf s s' (MissingAt n)
IsTrueWhile s s' (Left.Records shelf (Stalled n)) = ⊥
IsTrueWhile s s' (Left.Records shelf (Malformed n)) = ⊥
IsTrueWhile s s' (Left.Empty id) = WasIn id s s' × (Keeps (inventory_of id) s s' → inventory_of id s.store ≡ Some [])
IsTrueWhile s s' (Left.CutOff id) = WasIn id s s' × OfHeld s s' (λ store. inventory_of id store ≡ None)
IsTrueWhile s s' (Left.Inventory id FruEnded.Stalled) = ⊥
IsTrueWhile s s' (Left.Inventory id FruEnded.Words) = ⊥
IsTrueWhile s s' (Left.Inventory id FruEnded.Memory) = ⊥
IsTrueWhile s s' _ = Unit {0}
