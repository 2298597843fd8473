-- What a run prints of the sensors and of the event log as metrics.
use Rattle.std.specs.Prelude.{◌≡◌, ◌+◌, ◌≤◌, ℕ, true, false, List, [], is_ok, Option, None, Result, Ok, Err, String}
use Rattle.std.specs.Borrow.{Bor}
use Rattle.std.specs.declared.alloc.AllocError.{AllocError}
use Rattle.std.specs.declared.alloc.Global.{Global}
use Rattle.ipmi_bus.specs.CursorState.{start_of}
use Rattle.ipmi_bus.specs.Readers.{ReadsValue}
use Rattle.ipmi_bus.specs.Seen.{AsksAtMost, IsHonest, Seen}
use Rattle.ipmi_bus.specs.Store.{info_of}
use Rattle.ipmi_bus.specs.declared.controller.Shelf.TheVariants.{Sel}
use Rattle.ipmi_bus.specs.declared.step.Ended.{Ended}
use Rattle.ipmi_command_line.specs.declared.filters.Filters.{Filters}
use Rattle.ipmi_commands.specs.Prelude.{most_on_walk}
use Rattle.ipmi_commands.specs.declared.limits.RequestLimits.{RequestLimits}
use Rattle.ipmi_metrics.specs.Metrics.{IsMetricsText}
use Rattle.ipmi_metrics.specs.declared.text.Dialect.{Dialect}
use Rattle.ipmi_output.specs.Failure.{Ending}
use Rattle.ipmi_output.specs.Received.{Received}
use Rattle.ipmi_output.specs.declared.failure.Failure.{Failure}
use Rattle.ipmi_raw.specs.LastWords.{IsLastLine}
use Rattle.ipmi_sensors.specs.Sensors.{AddsSought, EndsSearch, Found, Searches, with_readings}
use Rattle.ipmi_sensors.specs.declared.sensors.Sought.{Sought}
use Rattle.serdimko.specs.Out.{State}
use Rattle.serdimko.specs.Printing.{PrintsEnd, Reports}
use Rattle.serdimko.specs.RunError.{error_of, lost_error}
use Rattle.serdimko.specs.declared.metrics.LogRead.{LogRead}
use Rattle.serdimko.specs.declared.outcome.Outcome.{Outcome}
use Rattle.serdimko.specs.declared.report.Report.{Report}
use Rattle.serdimko.specs.declared.run_error.RunError.{RunError}

-- ---- the info of the event log

abbrev pub log_read : Result (Option (List ℕ)) Ended → LogRead
log_read (Ok info) = record { info = info; ending = Ok tt }
log_read (Err ended) = record { info = None; ending = Err (Failure.Ended ended) }

-- an honest controller's answer is its info at that moment
pub record AsksLog (tries : ℕ) (s s' : Seen) (read : LogRead) : Type 0 where
  pub answer : Result (Option (List ℕ)) Ended
  pub asked : AsksAtMost 0 s s'
  pub calls : s'.calls ≤ s.calls + (tries + 1)
  pub honest : IsHonest s → ReadsValue (info_of Sel) tries s s' answer
  pub read_is : read ≡ log_read answer

-- after a search that failed nothing is asked
abbrev pub ReadsLog : Ending → ℕ → Seen → Seen → LogRead → Type 0
ReadsLog (Err failure) tries s s' read = (s' ≡ s) × (read ≡ record { info = None; ending = Err failure })
ReadsLog (Ok done) tries s s' read = AsksLog tries s s' read

-- ---- a run

-- One walk finds the sensors that pass the filters, with their readings, and records with a fault; then the log's info is asked for. The
-- metrics of what was found and read are printed, and whether the search finished.
pub record Measures (limits : RequestLimits) (filters : Filters) (dialect : Dialect) (report : Report) (old new : State)
    (said said' : Received) (result : Outcome) : Type 0 where
  pub found : List Found
  pub searched : Ending
  pub middle : Seen
  pub read : LogRead
  pub line : Result (Option (String Global)) AllocError
  pub last : Option RunError
  pub asked : AsksAtMost limits.part old.seen middle
  pub calls : middle.calls ≤ old.seen.calls + most_on_walk with_readings limits.tries
  pub may_end : EndsSearch middle searched
  pub sought : Bor Filters
  pub filters_are : sought.now ≡ filters
  pub are_sought : AddsSought (Sought.Sensors sought) [] found
  pub searches : IsHonest old.seen
      → Searches (Sought.Sensors sought) (start_of None) limits.tries old.seen middle [] found searched
  pub log : ReadsLog searched limits.tries.count middle new.seen read
  pub last_line : IsLastLine new.lost line
  pub prints : PrintsEnd true (IsMetricsText found read.info (is_ok searched) dialect) old.out new.out
      (lost_error line (error_of read.ending false false)) last
  pub reports : Reports report last said said' result
