-- The state of a cursor once the borrow of its record ends.
use Rattle.std.specs.Prelude.{Option, None, Some, Result, Ok, Err}
use Rattle.std.specs.Borrow.{Fml, MutBor}
use Rattle.std.specs.Io.BufRead.{Rests}
use Rattle.ipmi_bus.specs.Types.{Ended, Record}
use Rattle.ipmi_bus.specs.contracts.cursor.Cursor.{the_row}
use Rattle.ipmi_bus.specs.Shelf.{Row}
use Rattle.ipmi_bus.specs.CursorState.{CursorState}

abbrev pub row_of_record : Record → Row
row_of_record r = record { id = r.id; next = r.next; bytes = r.bytes.now }

-- the result of a step, with the record as a row
abbrev pub as_rows : Result (Option Record) Ended → Result (Option Row) Ended
as_rows (Ok (Some r)) = Ok (Some (row_of_record r))
as_rows (Ok None) = Ok None
as_rows (Err ended) = Err ended

-- P holds of the cursor once the borrow of the record ends
abbrev pub CursorRests : MutBor CursorState → (CursorState → Type 0) → Fml
CursorRests c P = Rests the_row c P
