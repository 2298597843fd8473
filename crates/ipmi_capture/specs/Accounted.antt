-- Over any controller, an image lacks nothing without a note.
use Rattle.std.specs.Prelude.{◌≡◌, ◌<◌, ◌⊎◌, ℕ, Option, None, Some, List, [], ◌∷◌, All}
use Rattle.std.specs.List.{Any}
use Rattle.ipmi_capture.specs.Below.{Cycle, CycleAt, Done, Ended, EndsBy, First, info_of, inventory_of, LastCallSays, LastFailed, NotPresent, reading_of, RefusesRecord, Row, rows_of, Sdr, Seen, Sel, Shelf, Store}
use Rattle.ipmi_capture.specs.Capture.{devices_of, sensors_of}
use Rattle.ipmi_capture.specs.Left.{EndsAs, LacksInfo, LacksInventory, LacksReading}
use Rattle.ipmi_capture.specs.declared.left.Left.{Left}

-- the last call failed with the code for 'not present'
abbrev pub IsAbsent : Seen → Type 0
IsAbsent seen = LastFailed (λ class. class ≡ NotPresent) seen

-- `Holds` in a state of the controller
abbrev pub AtSome : (Seen → Type 0) → (Seen → Type 0) → Type 0
AtSome IsState Holds = (s : Seen) × IsState s × Holds s

-- ---- records

-- the last row has the next id FFFFh; or there are no rows, and the last call says that there is no first record
abbrev pub EndsWhole : List Row → Seen → Type 0
EndsWhole [] seen = IsAbsent seen
EndsWhole (row ∷ rows) seen = EndsBy (row ∷ rows) First (row ∷ rows) Done

-- a shelf ended this way: so say the rows that were read, and the last call
abbrev pub HasEnded : Shelf → List Row → Option Ended → Seen → Type 0
HasEnded shelf rows None seen = EndsWhole rows seen
HasEnded shelf rows (Some ended) seen = EndsAs shelf rows ended × LastCallSays RefusesRecord ended seen

abbrev pub EndIsListed : Shelf → List Left → Option Ended → Type 0
EndIsListed shelf left None = Unit {0}
EndIsListed shelf left (Some ended) = Any (λ l. l ≡ Left.Records shelf ended) left

-- the shelf ended in some way, which is listed unless the rows end whole
pub record IsShelfRead (IsState : Seen → Type 0) (shelf : Shelf) (left : List Left) (rows : List Row) : Type 0 where
  pub ended : Option Ended
  pub has : AtSome IsState (HasEnded shelf rows ended)
  pub listed : EndIsListed shelf left ended

-- the rows end whole, or turn to an id of their own, and that is listed
abbrev pub EndsOrTurns : (Seen → Type 0) → List Left → Store → Shelf → Type 0
EndsOrTurns IsState left image shelf = AtSome IsState (EndsWhole (rows_of shelf image))
    ⊎ ((n : ℕ) × EndsBy (rows_of shelf image) First (rows_of shelf image) (CycleAt n)
    × Any (λ l. l ≡ Left.Records shelf (Cycle n)) left)

abbrev pub BothEndOrTurn : (Seen → Type 0) → List Left → Store → Type 0
BothEndOrTurn IsState left image = (shelf : Shelf) → EndsOrTurns IsState left image shelf

-- ---- other items

-- if the image lacks the value, it is listed; or a call said that there is none
abbrev pub IsListedOrAbsent : {V : Type 0} → (Seen → Type 0) → (Left → Type 0) → List Left → Option V → Type 0
IsListedOrAbsent IsState Lacks left of_image = of_image ≡ None → Any Lacks left ⊎ AtSome IsState IsAbsent

abbrev pub IsReadingAccounted : (Seen → Type 0) → List Left → Store → ℕ × ℕ → Type 0
IsReadingAccounted IsState left image key =
    IsListedOrAbsent IsState (LacksReading key.0 key.1) left (reading_of key.0 key.1 image)

-- FFh is no device, and is not asked for
abbrev pub IsInventoryAccounted : (Seen → Type 0) → List Left → Store → ℕ → Type 0
IsInventoryAccounted IsState left image id =
    id < 255 → IsListedOrAbsent IsState (LacksInventory id) left (inventory_of id image)

-- ---- a capture

-- both shelves were read to an end; both infos, the reading of each sensor that a record names, and the inventories of device 0
-- and of each device that a record names are in the image, or listed, or absent
pub record IsAccountedFor (IsState : Seen → Type 0) (left : List Left) (image : Store) : Type 0 where
  pub sdr : IsShelfRead IsState Sdr left (rows_of Sdr image)
  pub sel : IsShelfRead IsState Sel left (rows_of Sel image)
  pub sdr_info : IsListedOrAbsent IsState (LacksInfo Sdr) left (info_of Sdr image)
  pub sel_info : IsListedOrAbsent IsState (LacksInfo Sel) left (info_of Sel image)
  pub readings : All (IsReadingAccounted IsState left image) (sensors_of image.sdr)
  pub inventories : All (IsInventoryAccounted IsState left image) (0 ∷ devices_of image.sdr)
