-- A command prints the same over a capture as over the controller's store.
use Rattle.std.specs.Prelude.{◌≡◌, ℕ, Bool, true, false, IsTrue, Option, None, Some, option_map, List, [], ◌∷◌, All}
use Rattle.std.specs.List.{Contains, filter}
use Rattle.ipmi_capture.specs.Below.{EndsBy, First, has_id, Id, info_of, IsStore, IsWalk, Place, Row, rows_of, Sdr, sdr_view_of, Sel, Shelf, start_of, Store, WalkEnd}
use Rattle.ipmi_capture.specs.Capture.{devices_of, IsCaptureBut, IsCaptureOf, sensors_of}
use Rattle.ipmi_capture.specs.Left.{LacksInfo, LacksInventory, LacksReading, LacksRecords}
use Rattle.ipmi_capture.specs.declared.left.Left.{Left}
use Rattle.ipmi_commands.specs.Format.{Texts}
use Rattle.ipmi_command_line.specs.declared.filters.Filters.{Filters}
use Rattle.ipmi_commands.specs.Job.{choosing, job_of, keeping_last}
use Rattle.ipmi_commands.specs.declared.job.Job.{Job}
use Rattle.ipmi_selection.specs.declared.detail.Detail.{Detail}
use Rattle.ipmi_commands.specs.declared.limits.Tries.{Tries}
use Rattle.ipmi_commands.specs.Plan.{Item, view_has_name}
use Rattle.ipmi_commands.specs.Run.{FollowsPlan}
use Rattle.ipmi_commands.specs.Tail.{tail_from}
use Rattle.ipmi_selection.specs.Selection.{row_is_of_kind}
use Rattle.ipmi_commands.specs.Texts.{IsTextOver}
use Rattle.ipmi_command_line.specs.declared.task.Count.{Count}
use Rattle.ipmi_command_line.specs.declared.task.Task.{Task}

-- the id of a row on the walk of the shelf from its first record
abbrev pub IsOnWalk : Shelf → Store → ℕ → Type 0
IsOnWalk shelf store id = (walk : List Row) (end : WalkEnd)
    → IsWalk (rows_of shelf store) First walk → EndsBy (rows_of shelf store) First walk end
    → IsTrue (has_id walk id)

-- the first record, the end, or the id of such a row
abbrev pub IsKnownPlace : Shelf → Store → Place → Type 0
IsKnownPlace shelf store (Id id) = IsOnWalk shelf store id
IsKnownPlace shelf store _ = Unit {0}

-- such a place is where the entries begin that are listed: `sel tail` begins where the image's info suggests
abbrev pub AreOfCapture : Store → Count → Option ℕ → Type 0
AreOfCapture image (Count.Tail n) from = IsKnownPlace Sel image (start_of (tail_from n (info_of Sel image)))
AreOfCapture image count from = IsKnownPlace Sel image (start_of from)

-- the command asks only for ids on the image's walks, for device 0, and for devices that its records name; `image rewrite` is
-- left out, as it is no job
abbrev pub IsOfCapture : Store → Task → Option ℕ → Type 0
IsOfCapture image (Task.SelList count) from = AreOfCapture image count from
IsOfCapture image (Task.SelGet id) from = IsKnownPlace Sel image (Id id)
IsOfCapture image (Task.Fru (Some id)) from = Contains (0 ∷ devices_of image.sdr) id
IsOfCapture image (Task.Fru None) from = Unit {0}
IsOfCapture image (Task.Info shelf) from = Unit {0}
IsOfCapture image Task.Rewrite from = ⊥
IsOfCapture image task from = IsKnownPlace Sdr image (start_of from)

-- the texts of the item over one store are its texts over the other
abbrev pub SameText : Texts → Store → Store → Item → Type 0
SameText x image store item = (text : List ℕ)
    → (IsTextOver x image item.subject text → IsTextOver x store item.subject text)
    × (IsTextOver x store item.subject text → IsTextOver x image item.subject text)

-- There is a job, which has the same plan over both stores, and each item has the same texts. So runs that stop at the same item
-- print the same. The tries may differ, as they affect only the number of calls.
abbrev pub SamePlan : Texts → Option Job → Store → Store → Type 0
SamePlan x (Some job) image store = (tries tries' : Tries)
    → FollowsPlan job tries store (λ plan calls. FollowsPlan job tries' image (λ plan' calls'.
    (plan' ≡ plan) × All (SameText x image store) plan.items))
SamePlan x None image store = ⊥

-- the same job, with these filters if there are any
abbrev pub choosing_any : Option Filters → Job → Job
choosing_any None job = job
choosing_any (Some filters) job = choosing filters job

-- so does the job of a command, in a form of output with these texts, whether the last entries are counted or kept in memory
abbrev pub PrintsTheSame : Texts → Store → Store → Task → Option ℕ → Option Filters → Type 0
PrintsTheSame x image store task from filters =
    SamePlan x (option_map (choosing_any filters) (job_of x.has_names task from)) image store
    × SamePlan x (option_map keeping_last (option_map (choosing_any filters) (job_of x.has_names task from))) image store

abbrev pub CapturesPrintTheSame : Texts → Type 0
CapturesPrintTheSame x = (image store : Store) (task : Task) (from : Option ℕ) (filters : Option Filters)
    → IsStore image → IsStore store → IsCaptureOf image store → IsOfCapture image task from
    → PrintsTheSame x image store task from filters

-- ---- a capture that lacks something

-- whether a command walks the shelf: to list records or entries, to list all inventories, or for names, if the form of output has
-- names in these details
abbrev pub is_walked : Shelf → (Detail → Bool) → Task → Bool
is_walked Sel has_names (Task.SelList count) = true
is_walked Sel has_names (Task.SelGet id) = true
is_walked Sel has_names task = false
is_walked Sdr has_names (Task.SelList count) = has_names Detail.Line
is_walked Sdr has_names (Task.SelGet id) = has_names Detail.Block
is_walked Sdr has_names (Task.Info shelf) = false
is_walked Sdr has_names (Task.Fru (Some id)) = false
is_walked Sdr has_names task = true

-- whether a command asks for the info of the shelf
abbrev pub is_info_asked : Shelf → Task → Bool
is_info_asked Sdr (Task.Info Sdr) = true
is_info_asked Sel (Task.Info Sel) = true
is_info_asked Sel (Task.SelList (Count.Tail n)) = true
is_info_asked shelf task = false

-- the sensors whose readings the command requests: those named by records of its kind, or with its name
abbrev pub sensors_asked : Task → List Row → List (ℕ × ℕ)
sensors_asked (Task.List kind) rows = sensors_of (filter (row_is_of_kind kind) rows)
sensors_asked (Task.Elist kind) rows = sensors_of (filter (row_is_of_kind kind) rows)
sensors_asked (Task.Get name) rows =
    sensors_of (filter (λ row. view_has_name name (sdr_view_of row.bytes)) rows)
sensors_asked task rows = []

-- the devices whose inventories the command requests
abbrev pub devices_asked : Task → List Row → List ℕ
devices_asked (Task.Fru None) rows = 0 ∷ devices_of rows
devices_asked (Task.Fru (Some id)) rows = id ∷ []
devices_asked task rows = []

-- a command does not need the item left out
pub record IsUnneeded (has_names : Detail → Bool) (image : Store) (task : Task) (left : Left) : Type 0 where
  pub records : (shelf : Shelf) → LacksRecords shelf left → is_walked shelf has_names task ≡ false
  pub info : (shelf : Shelf) → LacksInfo shelf left → is_info_asked shelf task ≡ false
  pub reading : (lun number : ℕ) → LacksReading lun number left
      → ¬ Contains (sensors_asked task image.sdr) (lun, number)
  pub inventory : (id : ℕ) → LacksInventory id left → ¬ Contains (devices_asked task image.sdr) id

-- the same over a capture that lacks only items that the command does not need
abbrev pub CapturesPrintWhatTheyHave : Texts → Type 0
CapturesPrintWhatTheyHave x =
    (left : List Left) (image store : Store) (task : Task) (from : Option ℕ) (filters : Option Filters)
    → IsStore image → IsStore store → IsCaptureBut left image store
    → All (IsUnneeded x.has_names image task) left → IsOfCapture image task from
    → PrintsTheSame x image store task from filters
