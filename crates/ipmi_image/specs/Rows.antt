-- The records of a shelf over one buffer with all their bytes.
use Rattle.std.specs.Prelude.{ℕ, ◌+◌, ◌*◌, ◌≤◌, ◌==◌, ◌&&◌, Bool, true, false, bytes_eq, Option, Some, None, List, [], ◌∷◌, All, length, take, drop}
use Rattle.ipmi_image.specs.declared.rows.RowHead.{RowHead}
use Rattle.ipmi_image.specs.declared.rows.StoredRow.{StoredRow}
use Rattle.ipmi_image.specs.Line.{SavedRow}

abbrev pub row_of : StoredRow → SavedRow
row_of row = record { id = row.id; next = row.next; bytes = row.bytes.now }

-- a record whose bytes are in this buffer
abbrev pub row_in : List ℕ → RowHead → SavedRow
row_in bytes head = record {
  id = head.id;
  next = head.next;
  bytes = take head.len (drop head.start bytes);
}

-- the bytes of each record are in this buffer; there are at most FFFFh records, with at most 256
-- bytes per record on average
pub record AreHeads (heads : List RowHead) (bytes : List ℕ) : Type 0 where
  pub within : All (λ head. head.start + head.len ≤ length bytes) heads
  pub size : length bytes ≤ length heads * 256
  pub few : length heads ≤ 65535

-- the same record; its next id may be another one
abbrev pub is_same_saved : SavedRow → Option SavedRow → Bool
is_same_saved row None = false
is_same_saved row (Some now) = (row.id == now.id) && bytes_eq row.bytes now.bytes

-- the second list begins with the records of the first
abbrev pub begins_saved : List SavedRow → List SavedRow → Bool
begins_saved [] later = true
begins_saved (row ∷ rows) [] = false
begins_saved (row ∷ rows) (now ∷ later) = is_same_saved row (Some now) && begins_saved rows later
