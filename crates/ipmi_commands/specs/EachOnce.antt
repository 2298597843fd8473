-- Runs one after another over a log that only grows: together they find each entry once.
use Rattle.std.specs.Prelude.{◌≡◌, ◌≢◌, ℕ, None, Option, Some, List, ◌++◌, length}
use Rattle.std.specs.Option.{option_or}
use Rattle.ipmi_commands.specs.Below.{First, info_of, IsLog, OnlyGrew, Place, Row, Seen, Sel, StaysHonest, WasLog}
use Rattle.ipmi_commands.specs.declared.kept.KeptEntry.{KeptEntry}
use Rattle.ipmi_commands.specs.declared.mark.Mark.{Mark}
use Rattle.ipmi_commands.specs.declared.since.NewEntries.{NewEntries}
use Rattle.ipmi_commands.specs.Kept.{kept_rows, last_entry}
use Rattle.ipmi_commands.specs.Since.{entry_before, FindsThem}

-- ---- premises

-- entries were only appended, so the walk from each place only grew
abbrev pub LogOnlyGrew : Seen → Seen → Type 0
LogOnlyGrew s s' = (start : Place) → OnlyGrew Sel start s s'

-- of a log that only grows: an equal info means that there is no new entry
abbrev pub InfoTellsGrowth : Seen → Seen → Type 0
InfoTellsGrowth s s' = (info : List ℕ) (first now : List Row) → info_of Sel s.store ≡ Some info → info_of Sel s'.store ≡ Some info
    → IsLog Sel First s.store first → IsLog Sel First s'.store now → length now ≡ length first

-- the same between all states of these runs
abbrev pub InfoAlwaysTells : Seen → Seen → Type 0
InfoAlwaysTells s s' = (a b : Seen) → StaysHonest s a → StaysHonest a b → StaysHonest b s' → InfoTellsGrowth a b

-- the entry can be asked for by its id
abbrev pub HasAnId : Option KeptEntry → Type 0
HasAnId None = Unit {0}
HasAnId (Some entry) = entry.id ≢ 0

-- ---- what runs found together

-- Runs from `s` to `s'` found these entries together, and the last of them left this mark. They are those of the log as it was from the
-- request for the info of the last run on: each once, in order, and all that the log had at that request.
pub record FoundTogether (s s' : Seen) (entries : List KeptEntry) (mark : Mark) : Type 0 where
  pub asked : Seen
  pub stays : StaysHonest s asked
  pub later : StaysHonest asked s'
  pub first : List Row
  pub log : List Row
  pub begun : IsLog Sel First asked.store first
  pub was : WasLog Sel First asked s' first log
  pub are : kept_rows log ≡ entries
  pub last : mark.entry ≡ last_entry entries
  pub info : mark.info ≡ info_of Sel asked.store

-- the mark after a run has its last entry, or else that of the mark before
abbrev pub LeavesMark : Option Mark → NewEntries → Type 0
LeavesMark mark new = new.mark.entry ≡ option_or (last_entry new.found.entries.entries.items) (entry_before new.found.continuity mark)

-- ---- the law

-- the first run finds each entry once
abbrev pub FirstFindsEach : Type 0
FirstFindsEach = (new : NewEntries) (s s' : Seen) (first : List Row) → FindsThem None new s s' → LeavesMark None new
    → IsLog Sel First s.store first → LogOnlyGrew s s' → FoundTogether s s' new.found.entries.entries.items new.mark

-- and so do the next one and those before it, together: none is lost, and none is found twice
abbrev pub NextFindsEach : Type 0
NextFindsEach = (entries : List KeptEntry) (mark : Mark) (new : NewEntries) (s s1 s2 s' : Seen)
    → FoundTogether s s1 entries mark → StaysHonest s1 s2 → FindsThem (Some mark) new s2 s' → LeavesMark (Some mark) new
    → HasAnId mark.entry → LogOnlyGrew s s' → InfoAlwaysTells s s'
    → FoundTogether s s' (entries ++ new.found.entries.entries.items) new.mark
