-- Plans of what a run prints over a store. A plan has items in order, an end, and the points at
-- which the run may give up or be refused.
use Rattle.std.specs.Prelude.{ℕ, zero, suc, true, ◌-◌, ◌==◌, nat_le, ◌||◌, Bool, false, if◌then◌else◌, Option, Some, None, is_some, Result, Ok, Err, List, [], ◌∷◌, ◌++◌, length, map, take, drop}
use Rattle.std.specs.List.{count_by}
use Rattle.ipmi_commands.specs.Below.{Place, First, Shelf, Row, Store, rows_of, IsWalk, EndsBy, asked_at, WalkEnd, Done, CycleAt, MissingAt, place_after, place_after_rows, SdrFault, SdrView, Cycle, Missing, Ending, Failure}
use Rattle.ipmi_records.specs.Sdr as sdr
use Rattle.ipmi_commands.specs.declared.job.EntryText.{EntryText}
use Rattle.ipmi_commands.specs.declared.job.Form.{Form}
use Rattle.ipmi_commands.specs.declared.job.Listing.{Listing}
use Rattle.ipmi_selection.specs.declared.detail.Detail.{Detail}
use Rattle.ipmi_selection.specs.Selection.{chosen, is_name, Selected, selects, selects_entry}
use Rattle.ipmi_commands.specs.Texts.{Subject, OfRow, OfInventory, OfInfo}

-- `Holds` for each walk of a shelf from this place that has an end, and for that end; by a law of
-- ipmi_bus there is exactly one
abbrev pub OnWalk : Shelf → Place → Store → (List Row → WalkEnd → Type 0) → Type 0
OnWalk shelf start store Holds =
    (walk : List Row) (end : WalkEnd) → IsWalk (rows_of shelf store) start walk
    → EndsBy (rows_of shelf store) start walk end → Holds walk end

-- ---- first and last rows

-- whether a limit counts a row: it counts each record, and of the entries of the event log those that pass the filters
abbrev pub counts : Form → Row → Bool
counts (Form.Entry entries) row = selects_entry entries.selection row
counts form row = true

abbrev pub counted : Form → List Row → ℕ
counted form rows = count_by (counts form) rows

-- the rows of a walk up to the nth one that counts, or all of them if there are fewer
abbrev pub up_to : Form → ℕ → List Row → List Row
up_to form zero walk = []
up_to form (suc n) [] = []
up_to form (suc n) (row ∷ walk) = row ∷ up_to form (if counts form row then n else suc n) walk

-- the first rows of a walk, or all of them if there is no limit
abbrev pub first_rows : Form → Option ℕ → List Row → List Row
first_rows form None walk = walk
first_rows form (Some n) walk = up_to form n walk

-- the end of a listing of them: after the last row within the limit it is done
abbrev pub first_end : Form → Option ℕ → List Row → WalkEnd → WalkEnd
first_end form None walk end = end
first_end form (Some n) walk end = if nat_le n (counted form walk) then Done else end

-- the last n rows of a walk that ends with `Done`; none of another walk
abbrev pub last_rows : ℕ → List Row → WalkEnd → List Row
last_rows n walk Done = drop (length walk - n) walk
last_rows n walk _ = []

-- ---- points at which a run may give up or be refused

-- `AtRecord`: the requested id, 0000h for the first record and for an info; for a reading, the id
-- of its record. `AtInventory`: the id of the device.
pub data ReadPoint : Type 0 where
  AtRecord : ℕ → ReadPoint
  AtInventory : ℕ → ReadPoint

-- the point of a record's reading has the id of the record
abbrev pub reading_points : ℕ → Result SdrView SdrFault → List ReadPoint
reading_points id (Ok view) = if is_some (sdr.reading_of view) then AtRecord id ∷ [] else []
reading_points id (Err fault) = []

-- the reading's point, for a record that is selected; for any other record no reading is requested
abbrev pub listed_points : Selected → Row → List ReadPoint
listed_points selection row =
    if selects selection row then reading_points row.id (sdr.sdr_view_of row.bytes) else []

-- the reading's point, for a record with this name
abbrev pub named_points : List ℕ → ℕ → Result SdrView SdrFault → List ReadPoint
named_points name id (Ok view) =
    if is_name name (sdr.name_of view) then reading_points id (Ok view) else []
named_points name id (Err fault) = []

-- the point of the inventory of a locator's device; none for device 0, which was already read
abbrev pub device_points : Option ℕ → List ReadPoint
device_points None = []
device_points (Some id) = if id == 0 then [] else AtInventory id ∷ []

abbrev pub locator_points : Result SdrView SdrFault → List ReadPoint
locator_points (Ok view) = device_points (sdr.fru_of view)
locator_points (Err fault) = []

-- the points of the reading or inventory that a row requires
abbrev pub points_because_of : Form → Row → List ReadPoint
points_because_of (Form.Record detail selection) row = listed_points selection row
points_because_of (Form.Block name) row = named_points name row.id (sdr.sdr_view_of row.bytes)
points_because_of Form.Device row = locator_points (sdr.sdr_view_of row.bytes)
points_because_of _ row = []

-- the ids requested along the rows
abbrev pub points_of_rows : Place → List Row → List ReadPoint
points_of_rows start [] = []
points_of_rows start (row ∷ rows) = AtRecord (asked_at start) ∷ points_of_rows (place_after row.next) rows

-- at the end of a walk: the id that no row has, or 0000h at the start of an empty shelf
abbrev pub points_at_walk_end : Place → List Row → WalkEnd → List ReadPoint
points_at_walk_end start walk (MissingAt n) = AtRecord n ∷ []
points_at_walk_end start walk (CycleAt n) = []
points_at_walk_end First [] Done = AtRecord 0 ∷ []
points_at_walk_end start walk Done = []

-- the ids requested along a whole walk and at its end
abbrev pub points_of_walk : Place → List Row → WalkEnd → List ReadPoint
points_of_walk start walk end = points_of_rows start walk ++ points_at_walk_end start walk end

-- ---- plans

-- what is printed as one text, and the points at which a run may stop before it prints this text
pub record Item : Type 0 where
  pub subject : Subject
  pub points : List ReadPoint

-- What a run prints. An item names the subject of its text, not the text: texts are defined by
-- relations, and plans by functions.
pub record Plan : Type 0 where
  pub items : List Item
  pub end : Ending
  pub end_points : List ReadPoint

-- one item for each row; `start` is the place where the first row is requested
abbrev pub row_items : Form → Place → List Row → List Item
row_items form start [] = []
row_items form start (row ∷ rows) =
    record { subject = OfRow form row; points = AtRecord (asked_at start) ∷ points_because_of form row }
    ∷ row_items form (place_after row.next) rows

abbrev pub view_has_name : List ℕ → Result SdrView SdrFault → Bool
view_has_name name (Ok view) = is_name name (sdr.name_of view)
view_has_name name (Err fault) = false

-- one of the rows has this name
abbrev pub some_has_name : List ℕ → List Row → Bool
some_has_name name [] = false
some_has_name name (row ∷ rows) =
    view_has_name name (sdr.sdr_view_of row.bytes) || some_has_name name rows

-- the end of a listing of these rows, by the end of its walk; a finished search for a name fails if
-- no row has it
abbrev pub rows_end : Form → List Row → WalkEnd → Ending
rows_end form rows (CycleAt n) = Err (Failure.Ended (Cycle n))
rows_end form rows (MissingAt n) = Err (Failure.Ended (Missing n))
rows_end (Form.Block name) rows Done =
    if some_has_name name rows then Ok tt else Err (Failure.NoName name)
rows_end form rows Done = Ok tt

-- the plan of a listing along one walk
abbrev pub listing_plan : Listing → List Row → WalkEnd → Plan
listing_plan l walk end = record {
  items = row_items l.form l.start (first_rows l.form l.most walk);
  end = rows_end l.form (first_rows l.form l.most walk) (first_end l.form l.most walk end);
  end_points = points_at_walk_end l.start walk (first_end l.form l.most walk end);
}

-- The last entries are listed after a walk that counts all entries, and the entries before them are
-- skipped on a second walk. So before the first item the run may stop at any point of the walk; the
-- item's own point is one of them.
abbrev pub with_first_points : List ReadPoint → List Item → List Item
with_first_points points [] = []
with_first_points points (item ∷ items) = record { subject = item.subject; points = points } ∷ items

-- if there are no items, the run may stop at any point of the walk
abbrev pub end_points_of_last : List ReadPoint → List Item → List ReadPoint → List ReadPoint
end_points_of_last points [] at_end = points
end_points_of_last points (item ∷ items) at_end = at_end

abbrev pub last_items : EntryText → ℕ → Place → List Row → WalkEnd → List Item
last_items entries n start walk end = row_items (Form.Entry entries)
    (place_after_rows start (take (length walk - n) walk)) (last_rows n walk end)

-- the plan of a listing of the last n entries
abbrev pub last_plan : EntryText → ℕ → Place → List Row → WalkEnd → Plan
last_plan entries n start walk end = record {
  items = with_first_points (points_of_walk start walk end) (last_items entries n start walk end);
  end = rows_end (Form.Entry entries) walk end;
  end_points = end_points_of_last (points_of_walk start walk end) (last_items entries n start walk end)
      (points_at_walk_end start walk end);
}

-- no request for one of the entries that were kept in memory can end the run
abbrev pub kept_items : EntryText → List Row → List Item
kept_items entries [] = []
kept_items entries (row ∷ rows) = record { subject = OfRow (Form.Entry entries) row; points = [] } ∷ kept_items entries rows

-- the plan of a listing of the last n entries that pass the filters, if one walk keeps them in memory
abbrev pub kept_plan : EntryText → ℕ → Place → List Row → WalkEnd → Plan
kept_plan entries n start walk end = record {
  items = with_first_points (points_of_walk start walk end) (kept_items entries (last_rows n (chosen entries.selection walk) end));
  end = rows_end (Form.Entry entries) walk end;
  end_points = end_points_of_last (points_of_walk start walk end) (kept_items entries (last_rows n (chosen entries.selection walk) end)) [];
}

-- ---- listings after the walk of the sensor data records that reads names

abbrev pub bytes_of_rows : List Row → List (List ℕ)
bytes_of_rows rows = map (λ row. row.bytes) rows

-- the points of the first item, or of the end if there are no items
abbrev pub next_points : List Item → List ReadPoint → List ReadPoint
next_points [] at_end = at_end
next_points (item ∷ items) at_end = item.points

-- before the first item, or before the end if there are no items, the run may also stop at a point
-- of that walk
abbrev pub points_before : List Row → WalkEnd → Plan → List ReadPoint
points_before records records_end plan =
    points_of_walk First records records_end ++ next_points plan.items plan.end_points

-- if that walk did not end with `Done`, a run that would succeed fails: names may be missing
abbrev pub end_after_names : WalkEnd → Ending → Ending
end_after_names (CycleAt n) (Ok done) = Err (Failure.NamesCycle n)
end_after_names (MissingAt n) (Ok done) = Err (Failure.NamesMissing n)
end_after_names _ ending = ending

-- the plan of a listing after that walk
abbrev pub after_names : List Row → WalkEnd → Plan → Plan
after_names records records_end plan = record {
  items = with_first_points (points_before records records_end plan) plan.items;
  end = end_after_names records_end plan.end;
  end_points = end_points_of_last (points_before records records_end plan) plan.items plan.end_points;
}

-- the plan of one text, after which the run is finished
abbrev pub text_plan : Subject → List ReadPoint → Plan
text_plan subject points = record {
  items = record { subject = subject; points = points } ∷ [];
  end = Ok tt;
  end_points = [];
}

abbrev pub inventory_item : Detail → ℕ → Option (List ℕ) → Item
inventory_item detail id name =
    record { subject = OfInventory detail id name; points = AtInventory id ∷ [] }

-- the plan of one inventory
abbrev pub inventory_plan : Detail → ℕ → Option (List ℕ) → Plan
inventory_plan detail id name = text_plan (OfInventory detail id name) (AtInventory id ∷ [])

-- the plan of all inventories: that of device 0, with this name, then those of the locators
abbrev pub inventories_plan : Option (List ℕ) → List Row → WalkEnd → Plan
inventories_plan name walk end = record {
  items = inventory_item Detail.Line 0 name ∷ row_items Form.Device First walk;
  end = rows_end Form.Device walk end;
  end_points = points_at_walk_end First walk end;
}

-- the plan of a shelf's info: its text, or a failure if there is none
abbrev pub info_plan : Shelf → Option (List ℕ) → Plan
info_plan shelf None =
    record { items = []; end = Err Failure.NoInfo; end_points = AtRecord 0 ∷ [] }
info_plan shelf (Some info) = text_plan (OfInfo shelf info) (AtRecord 0 ∷ [])
