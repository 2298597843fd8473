-- The largest number of calls in a run. For each record, reading, info or inventory, `tries`
-- troubles are allowed; one more ends the run.
use Rattle.std.specs.Prelude.{ℕ, ◌+◌, ◌*◌, Bool, true, false, List, [], ◌∷◌, length}
use Rattle.ipmi_commands.specs.Below.{step_call_bound, fru_call_bound, retrying_call_bound, inventory_len, Row, largest_len, sdr_view_of, Store}
use Rattle.ipmi_commands.specs.declared.limits.Tries.{Tries}
use Rattle.ipmi_commands.specs.declared.job.Form.{Form}
use Rattle.ipmi_commands.specs.Job.{shelf_of}
use Rattle.ipmi_commands.specs.Plan.{ReadPoint, AtRecord, AtInventory, locator_points, points_because_of}

-- this number of tries for each record, reading, info or inventory
abbrev pub for_inventory : ℕ → Tries
for_inventory tries = record { count = tries; for_each_part = false }

-- the same, but for each part of an inventory
abbrev pub for_each_part : ℕ → Tries
for_each_part tries = record { count = tries; for_each_part = true }

-- the largest number of calls for an inventory of this length, with so many tries for each part of it or for the whole
abbrev pub read_call_bound : Bool → ℕ → ℕ → ℕ
read_call_bound true tries len = retrying_call_bound tries len
read_call_bound false tries len = fru_call_bound tries len

abbrev pub inventory_call_bound : Tries → ℕ → ℕ
inventory_call_bound tries len = read_call_bound tries.for_each_part tries.count len

-- the largest number of calls at a point of a reading, which is that of its record, or of an
-- inventory
abbrev pub calls_for_point : Tries → Store → ReadPoint → ℕ
calls_for_point tries store (AtRecord n) = tries.count + 1
calls_for_point tries store (AtInventory id) = inventory_call_bound tries (inventory_len id store)

abbrev pub calls_for_points : Tries → Store → List ReadPoint → ℕ
calls_for_points tries store [] = 0
calls_for_points tries store (point ∷ points) =
    calls_for_point tries store point + calls_for_points tries store points

-- for each row: the bound of a step, plus the largest number of calls for the reading or inventory
-- that the row requires
abbrev pub calls_for : Form → Store → Tries → List Row → ℕ
calls_for form store tries [] = 0
calls_for form store tries (row ∷ rows) =
    step_call_bound tries.count (length row.bytes) + calls_for_points tries store (points_because_of form row)
    + calls_for form store tries rows

-- for a cursor along these rows: also the calls of a step that finds no row, and one for each
-- reduction of the part size; a part size has at most eight binary digits and each reduction
-- removes one, so there are at most seven
abbrev pub walk_call_bound : Form → Store → Tries → List Row → ℕ
walk_call_bound form store tries rows =
    calls_for form store tries rows + step_call_bound tries.count 0 + 7

-- for the inventories of the devices that these records locate, once the records are in memory
abbrev pub calls_for_devices : Tries → Store → List Row → ℕ
calls_for_devices tries store [] = 0
calls_for_devices tries store (row ∷ rows) =
    calls_for_points tries store (locator_points (sdr_view_of row.bytes)) + calls_for_devices tries store rows

-- over any controller: for the reading or inventory that a record requires
abbrev pub most_after : Form → Tries → ℕ
most_after (Form.Record detail selection) tries = tries.count + 1
most_after (Form.Block name) tries = tries.count + 1
most_after Form.Device tries = inventory_call_bound tries 65535
most_after _ tries = 0

-- over any controller: for a record, and for what it requires
abbrev pub most_for_one : Form → Tries → ℕ
most_for_one form tries =
    step_call_bound tries.count (largest_len (shelf_of form)) + most_after form tries

-- for a cursor over any controller: it requests at most 65,536 records
abbrev pub most_on_walk : Form → Tries → ℕ
most_on_walk form tries = 65536 * most_for_one form tries + 7
