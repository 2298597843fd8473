-- The items that an image lacks: which of them leave it whole or only note an end, the counts of the controller for them, and
-- their lines.
use Rattle.std.specs.Prelude.{◌≡◌, ℕ, ◌+◌, ◌≤◌, Bool, true, false, codes, decimal, flat_map, Option, None, Some, List, [], ◌∷◌, ◌++◌, ◌⊎◌}
use Rattle.std.specs.List.{Any}
use Rattle.ipmi_capture.specs.Below.{byte_h, Cycle, CycleAt, Done, Ended, ended_text, EndsBy, First, FruEnded, GaveUp, hex_byte, info_of, inventory_of, IsRefusedWith, IsWalk, Malformed, Missing, MissingAt, reading_of, Refused, Row, rows_of, Sdr, Seen, Sel, Shelf, Stalled, Store, WalkEnd}
pub use Rattle.ipmi_capture.specs.Below.{IsStateOf}
use Rattle.ipmi_capture.specs.declared.left.Left.{Left}
use Rattle.ipmi_capture.specs.declared.left.Unread.{Unread}

-- a value was refused or given up
abbrev pub unread_of : Ended → Unread
unread_of (Refused id code) = Unread.Refused code
unread_of _ = Unread.GaveUp

-- the image is whole without this item: a cycle, an info, a reading, a size that the controller refused, or an inventory without
-- bytes
abbrev pub leaves_whole : Left → Bool
leaves_whole (Left.Records shelf (Cycle n)) = true
leaves_whole (Left.Info shelf unread) = true
leaves_whole (Left.Reading lun number unread) = true
leaves_whole (Left.Size id code) = true
leaves_whole (Left.Empty id) = true
leaves_whole _ = false

-- ---- which item is missing

-- records of the shelf; after a cycle, or after a next id without a record, there are no other records
abbrev pub LacksRecords : Shelf → Left → Type 0
LacksRecords shelf (Left.Records s (Cycle n)) = ⊥
LacksRecords shelf (Left.Records s (Missing n)) = ⊥
LacksRecords shelf (Left.Records s ended) = s ≡ shelf
LacksRecords shelf _ = ⊥

abbrev pub LacksInfo : Shelf → Left → Type 0
LacksInfo shelf (Left.Info s unread) = s ≡ shelf
LacksInfo shelf _ = ⊥

abbrev pub LacksReading : ℕ → ℕ → Left → Type 0
LacksReading lun number (Left.Reading l n unread) = (l ≡ lun) × (n ≡ number)
LacksReading lun number _ = ⊥

abbrev pub LacksInventory : ℕ → Left → Type 0
LacksInventory id (Left.Size i code) = i ≡ id
LacksInventory id (Left.Empty i) = i ≡ id
LacksInventory id (Left.CutOff i) = i ≡ id
LacksInventory id (Left.Inventory i ended) = i ≡ id
LacksInventory id _ = ⊥

-- the next record to read was the first one; or that with the next id of the last row, and no row has it
abbrev pub StopsAt : List Row → ℕ → Type 0
StopsAt [] n = n ≡ 0
StopsAt (row ∷ rows) n = EndsBy (row ∷ rows) First (row ∷ rows) (MissingAt n)

-- The rows end as is noted. A malformed record is a sensor data record; or the first one, with the id FFFFh, which an image
-- can't hold.
abbrev pub EndsAs : Shelf → List Row → Ended → Type 0
EndsAs shelf rows (Cycle n) = EndsBy rows First rows (CycleAt n)
EndsAs shelf rows (Missing n) = EndsBy rows First rows (MissingAt n)
EndsAs shelf rows (GaveUp n) = StopsAt rows n
EndsAs shelf rows (Refused n code) = StopsAt rows n
EndsAs shelf rows (Stalled n) = StopsAt rows n
EndsAs shelf rows (Malformed n) = ((shelf ≡ Sdr) × StopsAt rows n) ⊎ ((rows ≡ []) × (n ≡ 0xFFFF))

-- an item left out is not in the image; the image's rows of a shelf end as is noted
abbrev pub IsLeftOut : Store → Left → Type 0
IsLeftOut image (Left.Records shelf ended) = EndsAs shelf (rows_of shelf image) ended
IsLeftOut image (Left.Info shelf unread) = info_of shelf image ≡ None
IsLeftOut image (Left.Reading lun number unread) = reading_of lun number image ≡ None
IsLeftOut image (Left.Size id code) = inventory_of id image ≡ None
IsLeftOut image (Left.Empty id) = inventory_of id image ≡ None
IsLeftOut image (Left.CutOff id) = inventory_of id image ≡ None
IsLeftOut image (Left.Inventory id ended) = inventory_of id image ≡ None

-- the item only notes an end, and no records are missing
abbrev pub leaves_nothing : Left → Bool
leaves_nothing (Left.Records shelf (Cycle n)) = true
leaves_nothing (Left.Records shelf (Missing n)) = true
leaves_nothing _ = false

-- the item notes this end of the shelf's walk
abbrev pub NotesEnd : Shelf → WalkEnd → Left → Type 0
NotesEnd shelf Done left = ⊥
NotesEnd shelf (CycleAt n) left = left ≡ Left.Records shelf (Cycle n)
NotesEnd shelf (MissingAt n) left = left ≡ Left.Records shelf (Missing n)

-- the walk of the shelf ends with FFFFh, or its end is noted
abbrev pub EndIsNoted : Shelf → List Left → WalkEnd → Type 0
EndIsNoted shelf left end = (end ≡ Done) ⊎ Any (NotesEnd shelf end) left

-- the image has the value of the store, or has none and the value was left out
abbrev pub SameOrLeft : {V : Type 0} → (Left → Type 0) → List Left → Option V → Option V → Type 0
SameOrLeft Lacks left of_image of_store = (of_image ≡ of_store) ⊎ ((of_image ≡ None) × Any Lacks left)

-- ---- facts about the store

-- the walk of the shelf from its first record has this end
abbrev pub WalkEndsBy : Shelf → Store → WalkEnd → Type 0
WalkEndsBy shelf store by = (walk : List Row) (end : WalkEnd)
    → IsWalk (rows_of shelf store) First walk → EndsBy (rows_of shelf store) First walk end
    → end ≡ by

-- An end noted of a walk, and an inventory noted as empty, is true of the store. From a store that stays, no record stalls or is
-- malformed, and no inventory is cut off, stalls, uses words, or is noted as out of memory.
abbrev pub IsTrueOf : Store → Left → Type 0
IsTrueOf store (Left.Records shelf (Cycle n)) = WalkEndsBy shelf store (CycleAt n)
IsTrueOf store (Left.Records shelf (Missing n)) = WalkEndsBy shelf store (MissingAt n)
IsTrueOf store (Left.Records shelf (Stalled n)) = ⊥
IsTrueOf store (Left.Records shelf (Malformed n)) = ⊥
IsTrueOf store (Left.Empty id) = inventory_of id store ≡ Some []
IsTrueOf store (Left.CutOff id) = ⊥
IsTrueOf store (Left.Inventory id FruEnded.Stalled) = ⊥
IsTrueOf store (Left.Inventory id FruEnded.Words) = ⊥
IsTrueOf store (Left.Inventory id FruEnded.Memory) = ⊥
IsTrueOf store _ = Unit {0}

-- over a plain controller, the only items are true ends of walks and empty inventories
abbrev pub PlainLeaves : Store → Left → Type 0
PlainLeaves store (Left.Records shelf (Cycle n)) = WalkEndsBy shelf store (CycleAt n)
PlainLeaves store (Left.Records shelf (Missing n)) = WalkEndsBy shelf store (MissingAt n)
PlainLeaves store (Left.Empty id) = inventory_of id store ≡ Some []
PlainLeaves store _ = ⊥

-- ---- the counts of the controller

-- Why the item was not read: it was given up, or refused with a code. A size was requested once more, and refused again.
abbrev pub unread_in : Left → List Unread
unread_in (Left.Records shelf (GaveUp n)) = Unread.GaveUp ∷ []
unread_in (Left.Records shelf (Refused n code)) = Unread.Refused code ∷ []
unread_in (Left.Info shelf unread) = unread ∷ []
unread_in (Left.Reading lun number unread) = unread ∷ []
unread_in (Left.Size id code) = Unread.Refused code ∷ Unread.Refused code ∷ []
unread_in (Left.Inventory id FruEnded.GaveUp) = Unread.GaveUp ∷ []
unread_in (Left.Inventory id (FruEnded.Refused code)) = Unread.Refused code ∷ []
unread_in _ = []

-- no count falls, and without a refusal the last code is unchanged
pub record CountsGrow (s s' : Seen) : Type 0 where
  pub troubles : s.troubles ≤ s'.troubles
  pub refusals : s.refusals ≤ s'.refusals
  pub code : s'.refusals ≡ s.refusals → s'.last_code ≡ s.last_code

-- one trouble more than the tries, and no refusal
pub record IsGivenUp (tries : ℕ) (s s' : Seen) : Type 0 where
  pub troubles : s'.troubles ≡ s.troubles + tries + 1
  pub refusals : s'.refusals ≡ s.refusals
  pub code : s'.last_code ≡ s.last_code

-- given up; or at most `tries` troubles, and one refusal, with this code
abbrev pub IsUnreadOver : ℕ → Unread → Seen → Seen → Type 0
IsUnreadOver tries Unread.GaveUp s s' = IsGivenUp tries s s'
IsUnreadOver tries (Unread.Refused code) s s' = IsRefusedWith tries code.0 s s'

-- Each of these has a stretch of the run of its own, from one state of the controller to a later one, in this order.
abbrev pub HaveStretches : (Seen → Type 0) → ℕ → List Unread → Seen → Seen → Type 0
HaveStretches IsState tries [] s s' = CountsGrow s s'
HaveStretches IsState tries (unread ∷ more) s s' = (from : Seen) × (to : Seen) × IsState from × IsState to
    × CountsGrow s from × IsUnreadOver tries unread from to × HaveStretches IsState tries more to s'

-- The controller counted each item left out: one after another, each was given up or refused in a stretch of its own, a size in two.
abbrev pub AreCounted : (Seen → Type 0) → ℕ → List Left → Seen → Seen → Type 0
AreCounted IsState tries left s s' = HaveStretches IsState tries (flat_map unread_in left) s s'

-- ---- lines

abbrev pub unread_text : Unread → List ℕ
unread_text (Unread.Refused code) = codes "refused with code " ++ byte_h code.0
unread_text Unread.GaveUp = codes "gave up"

-- why an inventory was not read
abbrev pub fru_ended_text : FruEnded → List ℕ
fru_ended_text FruEnded.Memory = codes "out of memory"
fru_ended_text (FruEnded.Refused code) = unread_text (Unread.Refused code)
fru_ended_text FruEnded.GaveUp = unread_text Unread.GaveUp
fru_ended_text FruEnded.Stalled = codes "stalled"
fru_ended_text FruEnded.Words = codes "uses words"

abbrev pub shelf_text : Shelf → List ℕ
shelf_text Sdr = codes "sdr"
shelf_text Sel = codes "sel"

abbrev pub left_text : Left → List ℕ
left_text (Left.Records shelf ended) = shelf_text shelf ++ (codes ": " ++ ended_text ended)
left_text (Left.Info shelf unread) =
    codes "info " ++ (shelf_text shelf ++ (codes ": " ++ unread_text unread))
left_text (Left.Reading lun number unread) =
    codes "reading " ++ (decimal lun ++ (codes " " ++ (hex_byte number ++ (codes ": " ++ unread_text unread))))
left_text (Left.Size id code) =
    codes "fru " ++ (hex_byte id ++ (codes ": size " ++ unread_text (Unread.Refused code)))
left_text (Left.Empty id) = codes "fru " ++ (hex_byte id ++ codes ": empty")
left_text (Left.CutOff id) = codes "fru " ++ (hex_byte id ++ codes ": cut off")
left_text (Left.Inventory id ended) = codes "fru " ++ (hex_byte id ++ (codes ": " ++ fru_ended_text ended))
