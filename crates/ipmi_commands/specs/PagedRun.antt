-- The contract of a run in pages of a command that lists all records of a shelf.
use Rattle.std.specs.Prelude.{◌≡◌, ℕ, ◌+◌, ◌*◌, ◌≤◌, IsTrue, Option, None, Result, Ok, Err, List}
use Rattle.ipmi_commands.specs.Below.{Count, Ending, Failure, First, IsHonest, records_in, Sdr, Seen, start_of}
use Rattle.ipmi_commands.specs.declared.limits.Tries.{Tries}
use Rattle.ipmi_commands.specs.declared.job.Form.{Form}
use Rattle.ipmi_commands.specs.declared.job.Job.{Job}
use Rattle.ipmi_commands.specs.declared.job.NameLookup.{NameLookup}
use Rattle.ipmi_selection.specs.Selection.{SelectedEntries}
use Rattle.ipmi_commands.specs.Format.{Texts}
use Rattle.ipmi_commands.specs.declared.named.RecordsEnd.{RecordsEnd}
use Rattle.ipmi_commands.specs.Allowed.{cause_of, Change, change, EndsFor}
use Rattle.ipmi_commands.specs.Calls.{most_on_walk, walk_call_bound}
use Rattle.ipmi_commands.specs.Job.{named_entries}
use Rattle.ipmi_commands.specs.Named.{ending_then, ReadsRecords}
use Rattle.ipmi_commands.specs.Output.{no_output, Output}
use Rattle.ipmi_commands.specs.Pages.{ArePages, IsOneListingAfter, pages_made}
use Rattle.ipmi_commands.specs.Plan.{after_names, bytes_of_rows, OnWalk}
use Rattle.ipmi_commands.specs.Run.{EndsNamed, RunsInPages}

-- entries with the names in these sensor data records
abbrev pub entries_with : SelectedEntries → List (List ℕ) → Form
entries_with selection records = Form.Entry (named_entries selection records)

-- after the walk that reads names: the pages, or nothing if that walk failed
abbrev pub PagesAfter : Texts → Result RecordsEnd Failure → Seen → Form → Option ℕ → Tries → List ℕ → Change → Ending
    → Type 0
PagesAfter x (Ok walked) now form from tries sizes c ending =
    (listed : Ending) × (ending ≡ ending_then listed walked)
    × ArePages x form tries (start_of from) sizes (change now c.seen' c.old c.new) listed
PagesAfter x (Err failure) now form from tries sizes c ending =
    (ending ≡ Err failure) × (c.seen' ≡ now) × (c.new ≡ c.old)

-- the sensor data records are read into memory, and then come the pages with their names
pub record ReadsThenPages (x : Texts) (selection : SelectedEntries) (from : Option ℕ) (tries : Tries) (sizes : List ℕ)
    (c : Change) (ending : Ending) : Type 0 where
  pub now : Seen
  pub kept : Output
  pub walked : Result RecordsEnd Failure
  pub reads : ReadsRecords x tries (change c.seen now no_output kept) walked
  pub pages : PagesAfter x walked now (entries_with selection (records_in kept.bytes)) from tries sizes c ending

-- Like `RunsInPages`, for all entries of the log, after the walk that reads the names of their
-- sensors.
pub record RunsNamedInPages (x : Texts) (selection : SelectedEntries) (from : Option ℕ) (tries : Tries) (sizes : List ℕ)
    (c : Change) (ending : Ending) : Type 0 where
  pub calls : c.seen'.calls ≤ c.seen.calls
      + (most_on_walk Form.Bytes tries + pages_made sizes * most_on_walk Form.Skipped tries)
  pub ends : EndsNamed (NameLookup.Events selection Count.All from) c.seen' ending
  pub why : IsHonest c.seen → EndsFor tries (IsTrue c.seen.plain) c.seen c.seen' (cause_of ending)
  pub pages : IsHonest c.seen → ReadsThenPages x selection from tries sizes c ending
  pub prints : IsHonest c.seen → c.seen'.stores_added ≡ c.seen.stores_added
      → OnWalk Sdr First c.seen.store (λ records end. IsOneListingAfter x
      (λ plan. after_names records end plan) (walk_call_bound Form.Bytes c.seen.store tries records)
      (entries_with selection (bytes_of_rows records)) (start_of from) tries sizes c ending)

-- the job of listing all records of a shelf, in pages
abbrev pub RunsPaged : Texts → Job → Tries → List ℕ → Change → Ending → Type 0
RunsPaged x (Job.Records l) tries sizes c ending =
    (l.most ≡ None) × RunsInPages x l.form l.start tries sizes c ending
RunsPaged x (Job.NameLookup (NameLookup.Events selection Count.All from)) tries sizes c ending =
    RunsNamedInPages x selection from tries sizes c ending
RunsPaged x _ tries sizes c ending = ⊥
