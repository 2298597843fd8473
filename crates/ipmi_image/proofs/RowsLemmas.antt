-- The records of a shelf, whose bytes are in one list.
use Rattle.std.proofs.Common.{◌≡◌, ℕ, zero, suc, ◌+◌, ◌<◌, ◌≤◌, ◌&&◌, true, Option, None, Some, List, [], ◌∷◌, ◌++◌, length, drop, map, refl, ◌∙◌, arith, All, option_map, slice_get, unwrap_or, length-drop}
use Rattle.std.proofs.lemmas.Option.{get_or_from_slice_get, slice_get_cases, slice_get_within}
use Rattle.std.proofs.lemmas.List.{map-append, take-append-le, drop-append-le, drop_more, drop_all}
use Rattle.std.proofs.Math.Seq.{take-length, drop-append_seam}
use Rattle.ipmi_image.specs.Prelude.{RowHead, SavedRow, begins_saved, begins_with, chained, first_id, is_same_saved, place_of, id_of, row_in}

abbrev pub head_id : RowHead → ℕ
head_id head = head.id

pub place_of_row_in : (bytes : List ℕ) (id : ℕ) (heads : List RowHead)
    → place_of id_of id (map (row_in bytes) heads) ≡ place_of head_id id heads
place_of_row_in bytes id [] = refl
place_of_row_in bytes id (head ∷ heads) = rw (place_of_row_in bytes id heads) refl

-- the id of the row at a place
pub first_id_at : (bytes : List ℕ) (heads : List RowHead) (place : ℕ)
    → first_id id_of (drop place (map (row_in bytes) heads))
    ≡ unwrap_or (option_map head_id (slice_get heads place)) 65535
first_id_at bytes [] zero = refl
first_id_at bytes [] (suc place) = refl
first_id_at bytes (head ∷ heads) zero = refl
first_id_at bytes (head ∷ heads) (suc place) = first_id_at bytes heads place

-- the row at a place, and the rows after it
pub found_below : (rows : List SavedRow) (place : ℕ) (row : SavedRow)
    → slice_get rows place ≡ Some row → place < length rows
found_below rows place row at = slice_get_within rows place row at

pub drop-found : (rows : List SavedRow) (place : ℕ) (row : SavedRow)
    → slice_get rows place ≡ Some row → drop place rows ≡ row ∷ drop (place + 1) rows
drop-found rows place row at = rw (get_or_from_slice_get rows place row row at) at (drop_more rows place row (slice_get_within rows place row at))

pub drop-past : (rows : List SavedRow) (place : ℕ) → slice_get rows place ≡ None
    → drop place rows ≡ []
drop-past rows place past = drop_all place rows (grind (arith, slice_get_cases rows place))

module _ (bytes more : List ℕ) where
  -- appending bytes does not change the existing rows
  pub map-row_in_longer : (heads : List RowHead)
      → All (λ head. head.start + head.len ≤ length bytes) heads
      → map (row_in (bytes ++ more)) heads ≡ map (row_in bytes) heads
  map-row_in_longer [] within = refl
  map-row_in_longer (head ∷ heads) within =
      let fits = within 0 head (omega arith) in
      let len = length-drop head.start bytes in
      rw (drop-append-le head.start bytes more (omega (arith, fits)), take-append-le head.len (drop head.start bytes) more (omega (arith, fits, len)), map-row_in_longer heads (λ k d lt. within (suc k) d (omega (arith, lt)))) refl

  pub map-row_in_with : (heads : List RowHead) (id : ℕ) (next : Option ℕ)
      → All (λ head. head.start + head.len ≤ length bytes) heads
      → map (row_in (bytes ++ more)) (heads
      ++ record { id = id; next = next; start = length bytes; len = length more } ∷ [])
      ≡ map (row_in bytes) heads ++ record { id = id; next = next; bytes = more } ∷ []
  map-row_in_with heads id next within = map-append (row_in (bytes ++ more)) heads _ ∙ rw (map-row_in_longer heads within, drop-append_seam bytes more, take-length more) refl

-- ---- shelves of which one begins with the records of the other

-- from a place on
pub begins_at : (rows later : List SavedRow) (place : ℕ) (row : SavedRow)
    → slice_get rows place ≡ Some row
    → begins_saved (drop place rows) (drop place later)
    ≡ (is_same_saved row (slice_get later place) && begins_saved (drop (place + 1) rows) (drop (place + 1) later))
begins_at rows later place row at = rw (drop-found rows place row at) (by (slice_get later place) refl)
  where
    by : (o : Option SavedRow) → slice_get later place ≡ o
        → begins_saved (row ∷ drop (place + 1) rows) (drop place later)
        ≡ (is_same_saved row o && begins_saved (drop (place + 1) rows) (drop (place + 1) later))
    by None past = rw (drop-past later place past) refl
    by (Some now) there = rw (drop-found later place now there) refl

-- past the last row
pub begins_past : (rows later : List SavedRow) (place : ℕ) → slice_get rows place ≡ None
    → begins_saved (drop place rows) (drop place later) ≡ true
begins_past rows later place past = rw (drop-past rows place past) refl

pub begins_with_chained : (rows later : List SavedRow)
    → begins_with (chained rows) (chained later) ≡ begins_saved rows later
begins_with_chained [] later = refl
begins_with_chained (row ∷ rows) [] = refl
begins_with_chained (row ∷ rows) (now ∷ later) = rw (begins_with_chained rows later) refl
