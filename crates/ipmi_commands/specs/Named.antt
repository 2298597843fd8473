-- The walk of the sensor data records that reads names.
use Rattle.std.specs.Prelude.{◌≡◌, ℕ, ◌+◌, ◌≤◌, IsTrue, None, Result, Ok, Err, List}
use Rattle.ipmi_commands.specs.Below.{device_name, Ending, Failure, First, IsHonest, Keeps, Place, Row, sdr_view_of, Store, WalkEnd}
use Rattle.ipmi_commands.specs.declared.limits.Tries.{Tries}
use Rattle.ipmi_bus.specs.declared.step.Ended.{Ended}
use Rattle.ipmi_commands.specs.declared.job.Form.{Form}
use Rattle.ipmi_commands.specs.declared.named.RecordsEnd.{RecordsEnd}
use Rattle.ipmi_commands.specs.Format.{Texts}
use Rattle.ipmi_commands.specs.Allowed.{cause_of, Change, EndsFor, ending_of, IsAllowed}
use Rattle.ipmi_commands.specs.Calls.{calls_for_devices, calls_for_point, calls_for_points, most_on_walk}
use Rattle.ipmi_commands.specs.Listing.{WritesWhole}
use Rattle.ipmi_commands.specs.Meanwhile.{IsTextWhile}
use Rattle.ipmi_commands.specs.Pages.{IsPage}
use Rattle.ipmi_commands.specs.Plan.{AtInventory, bytes_of_rows, inventories_plan, locator_points, Plan, ReadPoint, row_items, rows_end, text_plan}
use Rattle.ipmi_commands.specs.Run.{EndsListing}
use Rattle.ipmi_commands.specs.Texts.{OfRow}

-- how the walk ended, from the result of listing the records into memory; a write fault means out
-- of memory
abbrev pub walk_of : Result Place Failure → Result RecordsEnd Failure
walk_of (Ok place) = Ok RecordsEnd.Whole
walk_of (Err (Failure.Ended (Ended.Cycle n))) = Ok (RecordsEnd.Cycle n)
walk_of (Err (Failure.Ended (Ended.Missing n))) = Ok (RecordsEnd.Missing n)
walk_of (Err Failure.WriteFault) = Err Failure.OutOfMemory
walk_of (Err failure) = Err failure

-- the end of a finished listing after this walk
abbrev pub end_after : RecordsEnd → Ending
end_after RecordsEnd.Whole = Ok tt
end_after (RecordsEnd.Cycle n) = Err (Failure.NamesCycle n)
end_after (RecordsEnd.Missing n) = Err (Failure.NamesMissing n)

-- the end of a listing of these records themselves
abbrev pub listed_end : RecordsEnd → Ending
listed_end RecordsEnd.Whole = Ok tt
listed_end (RecordsEnd.Cycle n) = Err (Failure.Ended (Ended.Cycle n))
listed_end (RecordsEnd.Missing n) = Err (Failure.Ended (Ended.Missing n))

-- the sensor data records were listed into memory, as bytes, which are alike in each form of output: how their walk ended, or why it failed
pub record ReadsRecords (x : Texts) (tries : Tries) (c : Change) (result : Result RecordsEnd Failure) : Type 0 where
  pub listed : Result Place Failure
  pub is : result ≡ walk_of listed
  pub whole : WritesWhole Form.Bytes c.old.bytes c.new.bytes (ending_of listed)
  pub calls : c.seen'.calls ≤ c.seen.calls + most_on_walk Form.Bytes tries
  pub ends : EndsListing Form.Bytes c.seen' (ending_of listed)
  pub page : IsHonest c.seen → IsPage x Form.Bytes First tries None c listed

-- the end of a listing with names, by the end of the listing itself and of the walk before it
abbrev pub ending_then : Ending → RecordsEnd → Ending
ending_then (Ok done) walked = end_after walked
ending_then (Err failure) walked = Err failure

-- ---- devices

-- The plan was printed, if no inventory changed, each text over a store that the controller held
-- meanwhile. If no store was added, the number of calls is within the bound.
pub record PrintsPlan (x : Texts) (tries : Tries) (plan : Plan) (calls : Store → ℕ) (c : Change) (ending : Ending) : Type 0 where
  pub ends : EndsFor tries (IsTrue c.seen.plain) c.seen c.seen' (cause_of ending)
  pub prints : Keeps (λ store. store.inventories) c.seen c.seen'
      → IsAllowed (IsTextWhile x c.seen c.seen') plan c.old c.new ending
  pub calls_are : c.seen'.stores_added ≡ c.seen.stores_added
      → c.seen'.calls ≤ c.seen.calls + calls c.seen.store

-- the device of a record was printed
abbrev pub PrintsLocator : Texts → Tries → List ℕ → Change → Ending → Type 0
PrintsLocator x tries bytes c ending = (row : Row) → row.bytes ≡ bytes
    → PrintsPlan x tries (text_plan (OfRow Form.Device row) (locator_points (sdr_view_of bytes)))
    (λ store. calls_for_points tries store (locator_points (sdr_view_of bytes))) c ending

-- the devices of these records were printed, and then the run ended as their walk did
abbrev pub PrintsLocated : Texts → RecordsEnd → Tries → List (List ℕ) → Change → Ending → Type 0
PrintsLocated x walked tries records c ending = (rows : List Row) (start : Place) (points : List ReadPoint)
    → bytes_of_rows rows ≡ records
    → PrintsPlan x tries (record {
      items = row_items Form.Device start rows;
      end = listed_end walked;
      end_points = points;
    }) (λ store. calls_for_devices tries store rows) c ending

-- the same after device 0, which has its name from these records
abbrev pub PrintsDevices : Texts → RecordsEnd → Tries → List (List ℕ) → Change → Ending → Type 0
PrintsDevices x walked tries records c ending = (rows : List Row) (end : WalkEnd)
    → bytes_of_rows rows ≡ records → listed_end walked ≡ rows_end Form.Device rows end
    → PrintsPlan x tries (inventories_plan (device_name 0 records) rows end)
    (λ store. calls_for_point tries store (AtInventory 0) + calls_for_devices tries store rows) c ending
