-- The job of each command.
use Rattle.std.specs.Prelude.{ℕ, ◌<◌, ◌≤◌, ◌&&◌, not, Bool, true, false, is_none, Option, None, Some, List}
use Rattle.std.specs.Option.{ForSome}
use Rattle.ipmi_commands.specs.Below.{Place, First, Id, End, start_of, Shelf, Sdr, Sel, Count, IsCount, Task}
use Rattle.ipmi_command_line.specs.declared.filters.Filters.{Filters}
use Rattle.ipmi_selection.specs.Selection.{in_detail, of_kind, SelectedEntries, with_entry_filters, with_filters}
use Rattle.ipmi_selection.specs.declared.detail.Detail.{Detail}
use Rattle.ipmi_commands.specs.declared.job.EntryText.{EntryText}
use Rattle.ipmi_commands.specs.declared.job.Form.{Form}
use Rattle.ipmi_commands.specs.declared.job.Job.{Job}
use Rattle.ipmi_commands.specs.declared.job.Listing.{Listing}
use Rattle.ipmi_commands.specs.declared.job.NameLookup.{NameLookup}

-- the shelf of the records that are printed in this form
abbrev pub shelf_of : Form → Shelf
shelf_of (Form.Entry entries) = Sel
shelf_of Form.Skipped = Sel
shelf_of _ = Sdr

-- a listing that starts at a place, with at most `most` records if that is Some
abbrev pub listing : Form → Place → Option ℕ → Listing
listing form start most = record { form = form; start = start; most = most }

-- entries with the names of these sensors
abbrev pub named_entries : SelectedEntries → List (List ℕ) → EntryText
named_entries selection sensors = record { selection = selection; sensors = Some sensors }

-- the job of listing the entries that `count` selects, each as such a text
abbrev pub entries_job : EntryText → Count → Option ℕ → Job
entries_job entries Count.All from =
    Job.Records (listing (Form.Entry entries) (start_of from) None)
entries_job entries (Count.First n) from =
    Job.Records (listing (Form.Entry entries) (start_of from) (Some n))
entries_job entries (Count.Last n) from = Job.Last entries n from
entries_job entries (Count.Tail n) from = Job.Tail entries n

-- the same, after the sensor data records were read for the names of sensors, if the form has names there
abbrev pub events_job : Bool → Detail → Count → Option ℕ → Job
events_job true detail count from = Job.NameLookup (NameLookup.Events (in_detail detail) count from)
events_job false detail count from = entries_job (record { selection = in_detail detail; sensors = None }) count from

-- all devices, that of id 0 with its name if the form has names
abbrev pub devices_job : Bool → Job
devices_job true = Job.NameLookup NameLookup.Devices
devices_job false = Job.AllInventories None

-- the same job, but the last entries of the log are kept in memory along one walk, and not counted on a first one
abbrev pub keeping_last : Job → Job
keeping_last (Job.Last entries n from) = Job.LastKept entries n from
keeping_last job = job

-- The job of a task, in a form of output that has names in these details. A listing starts at the id `from`, or at the
-- first record if there is none. `image rewrite` has no job, since only an image can do it.
abbrev pub job_of : (Detail → Bool) → Task → Option ℕ → Option Job
job_of has_names Task.Hex from = Some (Job.Records (listing Form.Hex (start_of from) None))
job_of has_names (Task.List kind) from =
    Some (Job.Records (listing (Form.Record Detail.Line (of_kind kind)) (start_of from) None))
job_of has_names (Task.Elist kind) from =
    Some (Job.Records (listing (Form.Record Detail.Long (of_kind kind)) (start_of from) None))
job_of has_names (Task.Get name) from = Some (Job.Records (listing (Form.Block name) (start_of from) None))
job_of has_names (Task.SelList count) from = Some (events_job (has_names Detail.Line) Detail.Line count from)
job_of has_names (Task.SelGet id) from =
    Some (events_job (has_names Detail.Block) Detail.Block (Count.First 1) (Some id))
job_of has_names (Task.Info shelf) from = Some (Job.Info shelf)
job_of has_names (Task.Fru None) from = Some (devices_job (has_names Detail.Line))
job_of has_names (Task.Fru (Some id)) from = Some (Job.Inventory Detail.Block id None)
job_of has_names Task.Rewrite from = None

-- ---- filters

abbrev pub choosing_entries : Filters → EntryText → EntryText
choosing_entries filters entries = record { selection = with_entry_filters filters entries.selection; sensors = entries.sensors }

abbrev pub choosing_form : Filters → Form → Form
choosing_form filters (Form.Record detail selection) = Form.Record detail (with_filters filters selection)
choosing_form filters (Form.Entry entries) = Form.Entry (choosing_entries filters entries)
choosing_form filters form = form

-- the same job, but a listing prints only the records or entries that pass the filters
abbrev pub choosing : Filters → Job → Job
choosing filters (Job.Records l) = Job.Records (listing (choosing_form filters l.form) l.start l.most)
choosing filters (Job.Last entries n from) = Job.Last (choosing_entries filters entries) n from
choosing filters (Job.LastKept entries n from) = Job.LastKept (choosing_entries filters entries) n from
choosing filters (Job.Tail entries n) = Job.Tail (choosing_entries filters entries) n
choosing filters (Job.NameLookup (NameLookup.Events selection count from)) =
    Job.NameLookup (NameLookup.Events (with_entry_filters filters selection) count from)
choosing filters job = job

-- ---- listings of a whole shelf

-- the form searches for a name
abbrev pub searches : Form → Bool
searches (Form.Block name) = true
searches _ = false

-- the job lists all records of a shelf, and searches for no name, so it can be done in pages
abbrev pub lists_all : Job → Bool
lists_all (Job.Records l) = is_none l.most && not (searches l.form)
lists_all (Job.NameLookup (NameLookup.Events selection Count.All from)) = true
lists_all _ = false

-- ---- for the contracts of private functions

-- a listing can start at this place; a page starts where the page before it stopped, which may be
-- the end, or id 0000h
abbrev pub IsPlace : Place → Type 0
IsPlace First = Unit {0}
IsPlace (Id n) = n < 65535
IsPlace End = Unit {0}

-- a cursor can start at this id, or there is none
abbrev pub IsFrom : Option ℕ → Type 0
IsFrom from = ForSome from (λ id. (0 < id) × (id < 65535))

-- the same of what is listed with names
abbrev pub IsNamed : NameLookup → Type 0
IsNamed (NameLookup.Events selection count from) = IsCount count × IsFrom from
IsNamed NameLookup.Devices = Unit {0}

-- the job starts at such a place or id, and a number of first or last entries is at least 1
abbrev pub IsJob : Job → Type 0
IsJob (Job.Records l) = IsPlace l.start
IsJob (Job.Last entries n from) = (1 ≤ n) × IsFrom from
IsJob (Job.LastKept entries n from) = (1 ≤ n) × IsFrom from
IsJob (Job.Tail entries n) = 1 ≤ n
IsJob (Job.NameLookup named) = IsNamed named
IsJob _ = Unit {0}

-- the listing, if the job is `Job.Records`
abbrev pub listing_in : Job → Option Listing
listing_in (Job.Records l) = Some l
listing_in _ = None
