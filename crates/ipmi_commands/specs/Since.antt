-- The entries of the event log that a run finds after those of the runs before it.
use Rattle.std.specs.Prelude.{◌≡◌, ◌≢◌, ℕ, ◌==◌, ◌&&◌, not, Bool, true, false, bytes_eq, IsTrue, None, Option, Some, IsSome, IfOk, MatchBool, MatchOption, Result, Ok, Err, List, [], ◌∷◌, length}
use Rattle.ipmi_records.specs.Info.{info_in}
use Rattle.ipmi_commands.specs.Below.{Done, Ending, Failure, First, Id, info_of, Missing, OnGrowing, Place, records_in, Row, Seen, Sel, StaysHonest}
use Rattle.ipmi_commands.specs.declared.kept.KeptEntry.{KeptEntry}
use Rattle.ipmi_commands.specs.declared.kept.LastEntries.{LastEntries}
use Rattle.ipmi_commands.specs.declared.limits.Tries.{Tries}
use Rattle.ipmi_commands.specs.declared.mark.Mark.{Mark}
use Rattle.ipmi_commands.specs.declared.since.Continuity.{Continuity}
use Rattle.ipmi_commands.specs.declared.since.Found.{Found}
use Rattle.ipmi_commands.specs.declared.since.NewEntries.{NewEntries}
use Rattle.ipmi_commands.specs.declared.named.RecordsEnd.{RecordsEnd}
use Rattle.ipmi_commands.specs.Allowed.{cause_of, Change, change, ending_of, EndsFor}
use Rattle.ipmi_commands.specs.Format.{Texts}
use Rattle.ipmi_commands.specs.Job.{named_entries}
use Rattle.ipmi_commands.specs.Kept.{kept_row, kept_rows, PrintsKept}
use Rattle.ipmi_commands.specs.Named.{ending_then, ReadsRecords}
use Rattle.ipmi_commands.specs.Output.{no_output, Output}
use Rattle.ipmi_commands.specs.Plan.{OnWalk}
use Rattle.ipmi_commands.specs.Traced.{EndsPrinting}
use Rattle.ipmi_selection.specs.Selection.{SelectedEntries}

-- ---- entries of a walk

-- These are all entries of the walk from this place: of the log as it was meanwhile, if entries were only appended; and if no store was
-- added, of the walk, which ends with FFFFh.
pub record AreAll (start : Place) (entries : List KeptEntry) (s s' : Seen) : Type 0 where
  pub grows : OnGrowing Sel start s s' (λ log. kept_rows log ≡ entries)
  pub along : s'.stores_added ≡ s.stores_added
      → OnWalk Sel start s.store (λ walk end. (end ≡ Done) × (kept_rows walk ≡ entries))

-- the walk does not begin with this entry
abbrev pub BeginsElsewhere : KeptEntry → List Row → Type 0
BeginsElsewhere entry [] = Unit {0}
BeginsElsewhere entry (row ∷ rows) = kept_row row ≢ entry

-- the log lacks the entry: the walk from its id does not begin with it
pub record Lacks (entry : KeptEntry) (s s' : Seen) : Type 0 where
  pub grows : OnGrowing Sel (Id entry.id) s s' (λ log. BeginsElsewhere entry log)
  pub along : s'.stores_added ≡ s.stores_added
      → OnWalk Sel (Id entry.id) s.store (λ walk end. BeginsElsewhere entry walk)

-- ---- how they follow those of earlier runs

-- those after the entry of the mark; all, if the log was empty
abbrev pub AreAfter : Option KeptEntry → List KeptEntry → Seen → Seen → Type 0
AreAfter None entries s s' = AreAll First entries s s'
AreAfter (Some entry) entries s s' = AreAll (Id entry.id) (entry ∷ entries) s s'

-- the log lacks that entry, so these are all its entries
abbrev pub AreOfAnother : Option KeptEntry → List KeptEntry → Seen → Seen → Type 0
AreOfAnother None entries s s' = ⊥
AreOfAnother (Some entry) entries s s' =
    (m : Seen) × StaysHonest s m × StaysHonest m s' × Lacks entry s m × AreAll First entries m s'

-- the info is there and is that of the mark, so nothing else was requested
pub record IsUnchanged (mark : Mark) (entries : List KeptEntry) (s s' : Seen) : Type 0 where
  pub some : IsSome mark.info
  pub same : mark.info ≡ info_of Sel s.store
  pub nothing : s' ≡ s
  pub none : entries ≡ []

-- from the state after the request for the log's info
abbrev pub Follow : Continuity → Option Mark → List KeptEntry → Seen → Seen → Type 0
Follow Continuity.Started None entries s s' = AreAll First entries s s'
Follow Continuity.Continued (Some mark) entries s s' = AreAfter mark.entry entries s s'
Follow Continuity.Restarted (Some mark) entries s s' = AreOfAnother mark.entry entries s s'
Follow Continuity.Unchanged (Some mark) entries s s' = IsUnchanged mark entries s s'
Follow _ mark entries s s' = ⊥

-- the entry before them: that of the mark, unless the log is another one
abbrev pub entry_before : Continuity → Option Mark → Option KeptEntry
entry_before Continuity.Continued (Some mark) = mark.entry
entry_before Continuity.Unchanged (Some mark) = mark.entry
entry_before _ mark = None

-- ---- a run

-- the info says when an entry was last added; FFFFFFFFh is no time
abbrev pub has_addition : List ℕ → Bool
has_addition info = not ((info_in info).last_addition == 0xffff_ffff)

-- Both are there, they are the same, and they say when an entry was last added. Without a time, an entry that overwrites another might
-- leave the info as it is.
abbrev pub are_same : Option (List ℕ) → Option (List ℕ) → Bool
are_same (Some old) (Some info) = bytes_eq old info && has_addition info
are_same old info = false

-- whether nothing but the info needs to be read: it is there, has a time, and is that of the mark
abbrev pub is_unchanged : Option Mark → Option (List ℕ) → Bool
is_unchanged (Some mark) info = are_same mark.info info
is_unchanged None info = false

-- the info was read first, and then the entries; the mark has that info
pub record FindsThem (mark : Option Mark) (new : NewEntries) (s s' : Seen) : Type 0 where
  pub asked : Seen
  pub stays : StaysHonest s asked
  pub later : StaysHonest asked s'
  pub info : new.mark.info ≡ info_of Sel asked.store
  pub follow : Follow new.found.continuity mark new.found.entries.entries.items asked s'
  pub at_once : is_unchanged mark new.mark.info ≡ true → s' ≡ asked

pub record FindsNew (mark : Option Mark) (tries : Tries) (s s' : Seen) (result : Result NewEntries Failure) : Type 0 where
  pub ends : EndsFor tries (IsTrue s.plain) s s' (cause_of (ending_of result))
  pub finds : IfOk result (λ new. FindsThem mark new s s')

-- ---- their texts

-- the texts of these entries, if the walk of the sensor data records that reads names did not fail
abbrev pub PrintsWith : Texts → Result RecordsEnd Failure → SelectedEntries → List ℕ → List KeptEntry → Change → Ending → Type 0
PrintsWith x (Ok walked) selection records entries c ending = (listed : Ending) × (ending ≡ ending_then listed walked) × EndsPrinting listed
    × PrintsKept x (named_entries selection (records_in records)) entries c.old c.new listed
PrintsWith x (Err failure) selection records entries c ending = (ending ≡ Err failure) × (c.new ≡ c.old)

-- that walk, and then the texts
pub record ReadsThenPrints (x : Texts) (selection : SelectedEntries) (entries : List KeptEntry) (tries : Tries) (c : Change) (ending : Ending) : Type 0 where
  pub records : Output
  pub walked : Result RecordsEnd Failure
  pub reads : ReadsRecords x tries (change c.seen c.seen' no_output records) walked
  pub prints : PrintsWith x walked selection records.bytes entries c ending

-- names are read if there are any entries, and the form has names
abbrev pub reads_names : Texts → SelectedEntries → List KeptEntry → Bool
reads_names x selection entries = not (length entries == 0) && x.has_names selection.detail

-- the texts of the entries of this selection
abbrev pub PrintsNew : Texts → SelectedEntries → List KeptEntry → Tries → Change → Ending → Type 0
PrintsNew x selection entries tries c ending = MatchBool (reads_names x selection entries)
    (ReadsThenPrints x selection entries tries c ending)
    ((c.seen' ≡ c.seen) × EndsPrinting ending
    × PrintsKept x (record { selection = selection; sensors = None }) entries c.old c.new ending)

-- ---- for the contracts of private functions

-- a walk from this place, with all its entries; or none if no row has the id at which it starts
pub record FindsAll (start : Place) (tries : Tries) (s s' : Seen) (result : Result LastEntries Failure) : Type 0 where
  pub ends : EndsFor tries (IsTrue s.plain) s s' (cause_of (ending_of result))
  pub all : IfOk result (λ kept. AreAll start kept.entries.items s s')
  pub lacks : (entry : KeptEntry) → start ≡ Id entry.id → result ≡ Err (Failure.Ended (Missing entry.id)) → Lacks entry s s'

-- the entries after this one; or the log lacks it
pub record FindsAfter (entry : KeptEntry) (tries : Tries) (s s' : Seen) (result : Result (Option LastEntries) Failure) : Type 0 where
  pub ends : EndsFor tries (IsTrue s.plain) s s' (cause_of (ending_of result))
  pub after : IfOk result (λ kept. MatchOption kept (Lacks entry s s') (λ kept. AreAfter (Some entry) kept.entries.items s s'))

-- the entries after those of earlier runs, if this is the log's info
pub record FindsSince (mark : Option Mark) (info : Option (List ℕ)) (tries : Tries) (s s' : Seen) (result : Result Found Failure) : Type 0 where
  pub ends : EndsFor tries (IsTrue s.plain) s s' (cause_of (ending_of result))
  pub follow : info ≡ info_of Sel s.store → IfOk result (λ found. Follow found.continuity mark found.entries.entries.items s s')

-- the whole log; or nothing, if the walk failed
pub record FindsWhole (continuity : Continuity) (tries : Tries) (s s' : Seen) (result : Result Found Failure) : Type 0 where
  pub ends : EndsFor tries (IsTrue s.plain) s s' (cause_of (ending_of result))
  pub continuity_is : IfOk result (λ found. found.continuity ≡ continuity)
  pub all : IfOk result (λ found. AreAll First found.entries.entries.items s s')
