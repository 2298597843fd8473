-- Walks that follow the next ids of a shelf, as lists of rows, and how a walk ends.
use Rattle.std.specs.Prelude.{◌≡◌, ◌≢◌, ℕ, ◌==◌, if◌then◌else◌, Option, Some, None, IfSome, List, [], ◌∷◌, ◌++◌, Bool, false, ◌||◌, IsTrue}
use Rattle.ipmi_bus.specs.Types.{End, First, Id, Place, Shelf}
use Rattle.ipmi_bus.specs.Shelf.{Row, look, first_row, DistinctIds, IsShelf}

-- the first row of a walk from a place
abbrev pub row_at : Place → List Row → Option Row
row_at First rows = first_row rows
row_at (Id n) rows = if n == 0 then None else look rows n
row_at End rows = None

-- each row's next id is the id of the row after it, and that is not 0000h
abbrev pub Links : List Row → Type 0
Links [] = Unit {0}
Links (row ∷ []) = Unit {0}
Links (row ∷ (after ∷ rows)) = (row.next ≡ after.id) × (after.id ≢ 0) × Links (after ∷ rows)

-- each row is the row of the shelf with its id
abbrev pub AllOf : List Row → List Row → Type 0
AllOf rows [] = Unit {0}
AllOf rows (row ∷ walk) = (look rows row.id ≡ Some row) × AllOf rows walk

-- a walk from a place that follows the next ids of the shelf's rows
pub record IsWalk (rows : List Row) (start : Place) (walk : List Row) : Type 0 where
  pub of_shelf : AllOf rows walk
  pub distinct : DistinctIds walk
  pub first : IfSome (first_row walk) (λ row. row_at start rows ≡ Some row)
  pub links : Links walk

-- the place after a record with this next id
abbrev pub place_after : ℕ → Place
place_after next = if next == 0xFFFF then End else Id next

-- the place after these rows, or the start if there are none
abbrev pub place_after_rows : Place → List Row → Place
place_after_rows start [] = start
place_after_rows start (row ∷ rows) = place_after_rows (place_after row.next) rows

-- one of the rows has this id
abbrev pub has_id : List Row → ℕ → Bool
has_id [] n = false
has_id (row ∷ rows) n = (n == row.id) || has_id rows n

-- ---- how a walk ends

-- after the last row; at a repeated id or 0000h; at an id that no row has
pub data WalkEnd : Type 0 where
  Done : WalkEnd
  CycleAt : ℕ → WalkEnd
  MissingAt : ℕ → WalkEnd

-- the end of a walk whose last row has this next id
abbrev pub EndsAfter : List Row → List Row → ℕ → WalkEnd → Type 0
EndsAfter rows walk next Done = next ≡ 0xFFFF
EndsAfter rows walk next (CycleAt n) =
    (n ≡ next) × (next ≢ 0xFFFF) × IsTrue ((next == 0) || has_id walk next)
EndsAfter rows walk next (MissingAt n) =
    (n ≡ next) × (next ≢ 0xFFFF) × (next ≢ 0) × (has_id walk next ≡ false) × (look rows next ≡ None)

-- the end of the empty walk
abbrev pub EndsEmpty : List Row → Place → WalkEnd → Type 0
EndsEmpty rows First Done = first_row rows ≡ None
EndsEmpty rows (Id id) (CycleAt n) = (n ≡ id) × (id ≡ 0)
EndsEmpty rows (Id id) (MissingAt n) = (n ≡ id) × (id ≢ 0) × (look rows id ≡ None)
EndsEmpty rows End Done = Unit {0}
EndsEmpty rows _ _ = ⊥

-- the next id of the last of these rows, or `next` if there are none
abbrev pub last_next : ℕ → List Row → ℕ
last_next next [] = next
last_next next (row ∷ rows) = last_next row.next rows

-- the walk ends this way; a walk that can continue has no end
abbrev pub EndsBy : List Row → Place → List Row → WalkEnd → Type 0
EndsBy rows start [] end = EndsEmpty rows start end
EndsBy rows start (row ∷ walk) end = EndsAfter rows (row ∷ walk) (last_next row.next walk) end

-- ---- laws

-- on a well-formed shelf, a walk without its first row is a walk from the place after that row
abbrev pub TailIsWalk : Type 0
TailIsWalk =
    (shelf : Shelf) (rows : List Row) (start : Place) (row : Row) (walk : List Row)
    → IsShelf shelf rows
    → IsWalk rows start (row ∷ walk) → IsWalk rows (place_after row.next) walk

-- on a well-formed shelf, from each place there is a walk that has an end
abbrev pub WalkExists : Type 0
WalkExists = (shelf : Shelf) (rows : List Row) (start : Place) → IsShelf shelf rows
    → (walk : List Row) × (end : WalkEnd) × IsWalk rows start walk × EndsBy rows start walk end

-- and only one such walk, with only one end
abbrev pub WalkIsUnique : Type 0
WalkIsUnique = (shelf : Shelf) (rows : List Row) (start : Place) (a b : List Row) (e f : WalkEnd)
    → IsShelf shelf rows
    → IsWalk rows start a → EndsBy rows start a e → IsWalk rows start b → EndsBy rows start b f
    → (a ≡ b) × (e ≡ f)

-- if a walk ends with Done, its rest from a row is a walk from that row's id, unless that is 0000h,
-- and ends with Done
abbrev pub RestIsWalk : Type 0
RestIsWalk = (shelf : Shelf) (rows : List Row) (start : Place) (before : List Row) (row : Row)
    (after : List Row) → IsShelf shelf rows → IsWalk rows start (before ++ row ∷ after)
    → EndsBy rows start (before ++ row ∷ after) Done
    → row.id ≢ 0 → IsWalk rows (Id row.id) (row ∷ after)
    × EndsBy rows (Id row.id) (row ∷ after) Done
