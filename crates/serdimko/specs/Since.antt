-- What a run prints of the entries that earlier runs did not print, and which mark it leaves.
use Rattle.std.specs.Prelude.{◌≡◌, ℕ, Bool, true, false, codes, if◌then◌else◌, IfOk, List, [], Option, Some, None, Result, Ok, Err, String}
use Rattle.std.specs.declared.alloc.AllocError.{AllocError}
use Rattle.std.specs.declared.alloc.Global.{Global}
use Rattle.ipmi_bus.specs.Seen.{AsksAtMost, IsHonest}
use Rattle.ipmi_command_line.specs.declared.filters.Filters.{Filters}
use Rattle.ipmi_commands.specs.Prelude.{change}
use Rattle.ipmi_commands.specs.EachOnce.{LeavesMark}
use Rattle.ipmi_commands.specs.Since.{FindsNew, PrintsNew}
use Rattle.ipmi_commands.specs.declared.limits.RequestLimits.{RequestLimits}
use Rattle.ipmi_commands.specs.declared.mark.Mark.{Mark}
use Rattle.ipmi_commands.specs.declared.since.Continuity.{Continuity}
use Rattle.ipmi_commands.specs.declared.since.NewEntries.{NewEntries}
use Rattle.ipmi_output.specs.Failure.{line_text}
use Rattle.ipmi_output.specs.Received.{Received, ReceivesText}
use Rattle.ipmi_output.specs.declared.failure.Failure.{Failure}
use Rattle.ipmi_raw.specs.LastWords.{IsLastLine}
use Rattle.ipmi_selection.specs.Selection.{in_detail, SelectedEntries, with_entry_filters}
use Rattle.ipmi_selection.specs.declared.detail.Detail.{Detail}
use Rattle.serdimko.specs.Out.{State}
use Rattle.serdimko.specs.Printing.{RunsThenEnds}
use Rattle.serdimko.specs.RunError.{marked, outcome_of, said_of_error}
use Rattle.serdimko.specs.Settings.{texts_for}
use Rattle.serdimko.specs.declared.outcome.Outcome.{Outcome}
use Rattle.serdimko.specs.declared.report.Report.{Report}
use Rattle.serdimko.specs.declared.run_error.RunError.{RunError}

-- all texts were printed and flushed; at most names are missing in them
abbrev pub is_printed : Option RunError → Bool
is_printed None = true
is_printed (Some (RunError.Failed (Failure.NamesCycle id))) = true
is_printed (Some (RunError.Failed (Failure.NamesMissing id))) = true
is_printed error = false

-- the mark is left only then
abbrev pub mark_left : Option RunError → Mark → Option Mark
mark_left error mark = if is_printed error then Some mark else None

-- such entries, each in a line
abbrev pub selection_of : Filters → SelectedEntries
selection_of filters = with_entry_filters filters (in_detail Detail.Line)

-- the message after a run that found another log
abbrev pub said_of : Continuity → List ℕ
said_of Continuity.Restarted = line_text (codes "the event log was cleared or overwritten: all its entries are printed")
said_of how = []

-- The new entries are printed. No part requested is too long. If the connection was lost, its tool's last words are told.
pub record PrintsEntries (limits : RequestLimits) (filters : Filters) (new : NewEntries) (report : Report) (old now : State) (last : Option RunError) : Type 0 where
  pub said : Result (Option (String Global)) AllocError
  pub last_line : IsLastLine now.lost said
  pub asked : AsksAtMost limits.part old.seen now.seen
  pub runs : RunsThenEnds report (λ before after. PrintsNew (texts_for report) (selection_of filters) new.found.entries.entries.items limits.tries
      (change old.seen now.seen before after)) said old.out now.out last

-- nothing is printed, since they were not found
pub record PrintsFailure (failure : Failure) (report : Report) (old now : State) (last : Option RunError) : Type 0 where
  pub said : Result (Option (String Global)) AllocError
  pub last_line : IsLastLine now.lost said
  pub same : now.seen ≡ old.seen
  pub runs : RunsThenEnds report (λ before after ending. (ending ≡ Err failure) × (after ≡ before)) said old.out now.out last

-- The mark of the new entries is left only if all of them were printed and flushed.
abbrev pub PrintsFound : RequestLimits → Filters → Report → State → State → Received → Received → Outcome → Result NewEntries Failure → Type 0
PrintsFound limits filters report old now said said' result (Ok new) = (last : Option RunError) × (told : Received)
    × PrintsEntries limits filters new report old now last × ReceivesText said told (said_of new.found.continuity)
    × ReceivesText told said' (said_of_error report.name.now report.is_only_input last)
    × (result ≡ marked (mark_left last new.mark) (outcome_of last))
PrintsFound limits filters report old now said said' result (Err failure) = (last : Option RunError)
    × PrintsFailure failure report old now last × ReceivesText said said' (said_of_error report.name.now report.is_only_input last)
    × (result ≡ outcome_of last)

-- the entries that earlier runs did not print are found, and then printed
pub record PrintsSince (limits : RequestLimits) (filters : Filters) (mark : Option Mark) (report : Report) (old now : State)
    (said said' : Received) (result : Outcome) : Type 0 where
  pub found : Result NewEntries Failure
  pub middle : State
  pub asked : AsksAtMost limits.part old.seen middle.seen
  pub finds : IsHonest old.seen → FindsNew mark limits.tries old.seen middle.seen found
  pub leaves : IfOk found (λ new. LeavesMark mark new)
  pub out_is : middle.out ≡ old.out
  pub prints : PrintsFound limits filters report middle now said said' result found
