-- The two repositories of records, SDR and SEL, as lists of rows.
use Rattle.std.specs.Prelude.{◌≡◌, ◌≢◌, ℕ, ◌+◌, ◌*◌, ◌<◌, ◌≤◌, ◌==◌, if◌then◌else◌, Option, Some, None, IfSome, List, [], ◌∷◌, length, drop, slice_index}
use Rattle.ipmi_text.specs.Bytes.{AreBytes}
use Rattle.ipmi_text.specs.SdrHeader.{sdr_len}
use Rattle.ipmi_bus.specs.Types.{Sdr, Sel, Shelf}

-- a record of a shelf: its id, the id of the next record (FFFFh after the last one), its bytes
pub record Row : Type 0 where
  pub id : ℕ
  pub next : ℕ
  pub bytes : List ℕ

abbrev pub first_row : List Row → Option Row
first_row [] = None
first_row (row ∷ rows) = Some row

abbrev pub row_with_id : ℕ → List Row → Option Row
row_with_id n [] = None
row_with_id n (row ∷ rows) = if row.id == n then Some row else row_with_id n rows

-- the row that an id requests: 0000h requests the first
abbrev pub look : List Row → ℕ → Option Row
look rows n = if n == 0 then first_row rows else row_with_id n rows

-- the same record; its next id may be another one
pub record SameRecord (row now : Row) : Type 0 where
  pub id : now.id ≡ row.id
  pub bytes : now.bytes ≡ row.bytes

-- each id that requested a row still requests that record; rows may be added, and next ids may change
abbrev pub KeepsRows : List Row → List Row → Type 0
KeepsRows rows later =
    (n : ℕ) (row : Row) → look rows n ≡ Some row
    → (now : Row) × (look later n ≡ Some now) × SameRecord row now

-- the length of the row in bytes, 0 if there is none
abbrev pub len_of : Option Row → ℕ
len_of None = 0
len_of (Some row) = length row.bytes

-- ---- a well-formed shelf

-- the length of a whole record in bytes: for a sensor data record, the one in its header
abbrev pub whole_len : Shelf → List ℕ → ℕ
whole_len Sdr bytes = sdr_len bytes
whole_len Sel bytes = 16

-- the largest length of a record in bytes
abbrev pub largest_len : Shelf → ℕ
largest_len Sdr = 256
largest_len Sel = 16

-- a well-formed row of the shelf
pub record IsRow (shelf : Shelf) (row : Row) : Type 0 where
  pub id : row.id < 65535
  pub next : row.next < 65536
  pub whole : length row.bytes ≡ whole_len shelf row.bytes
  pub fits : length row.bytes ≤ largest_len shelf
  pub bytes : AreBytes row.bytes

abbrev pub AllRows : Shelf → List Row → Type 0
AllRows shelf [] = Unit {0}
AllRows shelf (row ∷ rows) = IsRow shelf row × AllRows shelf rows

-- no row has this id
abbrev pub LacksId : ℕ → List Row → Type 0
LacksId n [] = Unit {0}
LacksId n (row ∷ rows) = (row.id ≢ n) × LacksId n rows

-- no id occurs twice
abbrev pub DistinctIds : List Row → Type 0
DistinctIds [] = Unit {0}
DistinctIds (row ∷ rows) = LacksId row.id rows × DistinctIds rows

-- the number in the first two bytes, the low byte first
abbrev pub id_in : List ℕ → ℕ
id_in bytes = slice_index bytes 0 + 256 * slice_index bytes 1

-- the first row's bytes begin with its id, and no later row has the id 0000h
pub record IsShelf (shelf : Shelf) (rows : List Row) : Type 0 where
  pub all : AllRows shelf rows
  pub distinct : DistinctIds rows
  pub first : IfSome (first_row rows) (λ row. id_in row.bytes ≡ row.id)
  pub later : LacksId 0 (drop 1 rows)

-- ---- a law

-- a record found on a well-formed shelf is a well-formed row
abbrev pub FoundIsRow : Type 0
FoundIsRow = (shelf : Shelf) (rows : List Row) (n : ℕ) (row : Row) → IsShelf shelf rows
    → look rows n ≡ Some row → IsRow shelf row
