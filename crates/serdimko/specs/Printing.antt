-- What a run prints, how it ends, and what is reported.
use Rattle.std.specs.Prelude.{◌≡◌, ◌⊎◌, ◌+◌, ◌-◌, ◌^◌, ◌≤◌, ◌==◌, ◌&&◌, not, if◌then◌else◌, ℕ, Bool, true, false, List, [], ◌++◌, ◌∷◌, min, is_some, Option, Some, None, Result, Ok, Err, String, option_map}
use Rattle.std.specs.Borrow.{Bor}
use Rattle.std.specs.Str.Lossy.{utf8_lossy}
use Rattle.std.specs.declared.alloc.AllocError.{AllocError}
use Rattle.std.specs.declared.alloc.Global.{Global}
use Rattle.ipmi_bus.specs.CursorState.{start_of}
use Rattle.ipmi_bus.specs.Seen.{AsksAtMost, IsHonest}
use Rattle.ipmi_command_line.specs.declared.filters.Filters.{Filters}
use Rattle.ipmi_command_line.specs.declared.task.Task.{Task}
use Rattle.ipmi_commands.specs.Format.{Texts}
use Rattle.ipmi_commands.specs.declared.job.Job.{Job}
use Rattle.ipmi_command_line.specs.Filters.{are_given, no_filters}
use Rattle.ipmi_commands.specs.Prelude.{change, choosing, job_of, keeping_last, most_on_walk, Output, RunsCommand}
use Rattle.ipmi_sensors.specs.Sensors.{AddsSought, EndsSearch, Found, PrintsFound, Searches, with_readings}
use Rattle.ipmi_sensors.specs.declared.sensors.Sought.{Sought}
use Rattle.ipmi_commands.specs.declared.limits.RequestLimits.{RequestLimits}
use Rattle.ipmi_output.specs.Failure.{Ending}
use Rattle.ipmi_output.specs.Received.{Received}
use Rattle.ipmi_output.specs.Sink.{TakesPart}
use Rattle.ipmi_output.specs.declared.failure.Failure.{Failure}
use Rattle.ipmi_program.specs.Printing.{IsFlushed}
use Rattle.ipmi_program.specs.Wording.{frame_in}
use Rattle.ipmi_check.specs.Laws.{AllFine}
use Rattle.ipmi_check.specs.Text.{IsCheckText, short_text}
use Rattle.ipmi_check.specs.Verdict.{status_of, verdict_of}
use Rattle.ipmi_check.specs.declared.performance.Detail.{Detail}
use Rattle.ipmi_check.specs.declared.verdict.Verdict.{Verdict}
use Rattle.serdimko.specs.declared.outcome.Outcome.{Outcome}
use Rattle.serdimko.specs.declared.report.Report.{Report}
use Rattle.serdimko.specs.declared.run_error.RunError.{RunError}
use Rattle.ipmi_raw.specs.LastWords.{IsLastLine}
use Rattle.serdimko.specs.Out.{Out, State}
use Rattle.serdimko.specs.Reason.{reason_of}
use Rattle.serdimko.specs.Settings.{texts_for}
use Rattle.serdimko.specs.RunError.{and, error_of, error_text, faults_of_error, is_output_open, is_recoverable, lost_error, outcome_of, outcome_of_verdict, output_error, status_of_error, Tells}

-- ---- the line at the end of a run

-- the message of an error; it is UTF-8, so nothing in it is replaced
abbrev pub message_of : Report → Option RunError → Option (List ℕ)
message_of report None = None
message_of report (Some error) = Some (utf8_lossy (error_text report.name.now report.is_only_input error))

-- the line with the status of a run, why it ended, its message, and the number of its texts
abbrev pub IsEndLine : Report → ℕ → Option RunError → List ℕ → Type 0
IsEndLine report count error line =
    (frame_in report.format.format).IsEnd (status_of_error error) (reason_of error) (message_of report error) count line

-- the whole line was written, or only a part
abbrev pub WritesLine : List ℕ → Out → Out → Option RunError → Option RunError → Type 0
WritesLine line old new error last =
    ((new.taken ≡ old.taken ++ line) × (new.held ≡ []) × (last ≡ error))
    ⊎ (TakesPart old.taken new.taken line × (last ≡ Some (output_error new.closed)))

-- `error` is that of the run, and `last` that of the run and its end line. Nothing is printed if none is to be. Otherwise a line with `IsEnd` is printed, or memory for it runs out.
abbrev pub PrintsEnd : Bool → (List ℕ → Type 0) → Out → Out → Option RunError → Option RunError → Type 0
PrintsEnd false IsEnd old new error last = (new ≡ old) × (last ≡ error)
PrintsEnd true IsEnd old new error last =
    ((new ≡ old) × (last ≡ Some (RunError.Failed Failure.OutOfMemory)))
    ⊎ ((line : List ℕ) × IsEnd line × WritesLine line old new error last)

-- if the form of output has such a line, and the output accepts more
abbrev pub EndsIn : Report → ℕ → Out → Out → Option RunError → Option RunError → Type 0
EndsIn report pieces old new error last =
    PrintsEnd ((frame_in report.format.format).has_end && is_output_open error) (IsEndLine report pieces error) old new error last

-- ---- the end of a run

-- a number as a `u64` shows it
abbrev pub shown : ℕ → ℕ
shown n = min n (2 ^ 64 - 1)

-- an item with a fault makes the run fail
abbrev pub is_faulty : Report → ℕ → Bool
is_faulty report faults = report.strict && not (faults == 0)

-- the output of a run with this ending was flushed, which may have failed, and the end line follows; so many pieces were printed, and
-- so many of them have a fault
pub record EndsRun (report : Report) (pieces faults : ℕ) (said : Result (Option (String Global)) AllocError) (printed : Ending) (old new : Out)
    (last : Option RunError) : Type 0 where
  pub flushed : Out
  pub ending : Ending
  pub taken : flushed.taken ≡ old.taken
  pub same_end : (ending ≡ printed) ⊎ (ending ≡ Err Failure.WriteFault)
  pub empty : IsFlushed flushed.held ending
  pub ends : EndsIn report (shown pieces) flushed new
      (lost_error said (error_of ending (is_faulty report faults) flushed.closed)) last

-- A run whose output and ending `Prints` relates, and its end. `Prints` sees the bytes before and after, and what the run counted.
pub record RunsThenEnds (report : Report) (Prints : Output → Output → Ending → Type 0) (said : Result (Option (String Global)) AllocError) (old new : Out)
    (last : Option RunError) : Type 0 where
  pub after : Out
  pub printed : Ending
  pub pieces : ℕ
  pub faults : ℕ
  pub prints : Prints (record { bytes = old.taken; pieces = 0; faults = 0 })
      (record { bytes = after.taken; pieces = pieces; faults = faults }) printed
  pub ends : EndsRun report pieces faults said printed after new last
  pub counts : new.faults ≡ old.faults + faults_of_error last

-- ---- a task

-- the job of a task, for the records that pass the filters, if any are given
abbrev pub chosen_job : Texts → Task → Option ℕ → Filters → Option Job
chosen_job x task from filters =
    if are_given filters then option_map (choosing filters) (job_of x.has_names task from) else job_of x.has_names task from

-- What a task prints of a controller. No part requested is too long. If the connection was lost, its tool's last words are told.
pub record PrintsTask (limits : RequestLimits) (task : Task) (from : Option ℕ) (filters : Filters) (report : Report) (old new : State)
    (last : Option RunError) : Type 0 where
  pub said : Result (Option (String Global)) AllocError
  pub last_line : IsLastLine new.lost said
  pub asked : AsksAtMost limits.part old.seen new.seen
  pub runs : RunsThenEnds report
      (λ before after. RunsCommand (texts_for report) (option_map keeping_last (chosen_job (texts_for report) task from filters)) limits.tries (change old.seen new.seen before after))
      said old.out new.out last

-- the outcome of a run with this error
abbrev pub Reports : Report → Option RunError → Received → Received → Outcome → Type 0
Reports report error said said' result = Tells report.name.now report.is_only_input error said said' result

-- ---- one after another

-- Each item is printed and reported (`One` relates what is before and after it, its result, and whether the next one follows), up to
-- one after which none follows.
abbrev pub Each : {A S : Type 0} → (A → S → S → Received → Received → Outcome → Bool → Type 0) → List A → S → S → Received → Received
    → Outcome → Type 0
Each One [] old new said said' result = (new ≡ old) × (said' ≡ said) × (result ≡ outcome_of None)
Each {S = S} One (item ∷ items) old new said said'' result =
    (now : S) × (said' : Received) × (one : Outcome) × (follows : Bool) × One item old now said said' one follows
    × (((follows ≡ true) × ((rest : Outcome) × Each One items now new said' said'' rest × (result ≡ and one rest)))
    ⊎ ((follows ≡ false) × (new ≡ now) × (said'' ≡ said') × (result ≡ one)))

-- ---- tasks one after another

-- a run for one task; the next one follows, unless the error would stop it too
abbrev pub RunsTask : RequestLimits → Report → Task → State → State → Received → Received → Outcome → Bool → Type 0
RunsTask limits report task old new said said' result follows =
    (error : Option RunError) × PrintsTask limits task None no_filters report old new error
    × Reports report error said said' result × (follows ≡ is_recoverable error)

-- ---- sensors by their names

-- the end of a run that printed so many blocks: there has to be one
abbrev pub named_end : List ℕ → ℕ → Ending → Ending
named_end name pieces (Ok done) = if pieces == 0 then Err (Failure.NoName name) else Ok done
named_end name pieces (Err failure) = Err failure

-- the blocks of what was found with this name
pub record PrintsName (report : Report) (found : List Found) (name : List ℕ) (before after : Output) (ending : Ending) : Type 0 where
  pub printed : Ending
  pub prints : PrintsFound (texts_for report) name found before after printed
  pub ends : ending ≡ named_end name after.pieces printed

-- the blocks of each name
abbrev pub PrintsNames : Report → List Found → List (List ℕ) → Output → Output → Ending → Type 0
PrintsNames report found [] before after printed = (after ≡ before) × (printed ≡ Ok tt)
PrintsNames report found (name ∷ names) before after printed =
    ((now : Output) × PrintsFound (texts_for report) name found before now (Ok tt) × PrintsNames report found names now after printed)
    ⊎ ((failure : Failure) × PrintsFound (texts_for report) name found before after (Err failure) × (printed ≡ Err failure))

-- the end of a run after a search that broke: its failure, unless printing failed
abbrev pub broken_end : Failure → Ending → Ending
broken_end failure (Ok done) = Err failure
broken_end failure (Err other) = Err other

pub record PrintsBroken (report : Report) (found : List Found) (names : List (List ℕ)) (failure : Failure) (before after : Output)
    (ending : Ending) : Type 0 where
  pub printed : Ending
  pub prints : PrintsNames report found names before after printed
  pub ends : ending ≡ broken_end failure printed

-- a run for one name; the next one follows, unless the error would stop it too
abbrev pub RunsName : Report → List Found → List ℕ → Out → Out → Received → Received → Outcome → Bool → Type 0
RunsName report found name old new said said' result follows =
    (error : Option RunError) × RunsThenEnds report (PrintsName report found name) (Ok None) old new error
    × Reports report error said said' result × (follows ≡ is_recoverable error)

-- After a whole search each name has a run of its own, in the order of the names. After one that broke, what was found is printed, and
-- one end follows.
abbrev pub PrintsSearched : Ending → Report → List Found → List (List ℕ) → State → State → Received → Received → Outcome → Type 0
PrintsSearched (Ok done) report found names old new said said' result =
    Each (RunsName report found) names old.out new.out said said' result
PrintsSearched (Err failure) report found names old new said said' result =
    (line : Result (Option (String Global)) AllocError) × (last : Option RunError) × IsLastLine new.lost line
    × RunsThenEnds report (PrintsBroken report found names failure) line old.out new.out last × Reports report last said said' result

-- one walk finds the sensors with these names, and then they are printed
pub record PrintsSensors (limits : RequestLimits) (names : List (List ℕ)) (from : Option ℕ) (report : Report) (old new : State)
    (said said' : Received) (result : Outcome) : Type 0 where
  pub found : List Found
  pub searched : Ending
  pub asked : AsksAtMost limits.part old.seen new.seen
  pub calls : new.seen.calls ≤ old.seen.calls + most_on_walk with_readings limits.tries
  pub may_end : EndsSearch new.seen searched
  pub sought : Bor (List (List ℕ))
  pub names_are : sought.now ≡ names
  pub named : AddsSought (Sought.Named sought) [] found
  pub searches : IsHonest old.seen
      → Searches (Sought.Named sought) (start_of from) limits.tries old.seen new.seen [] found searched
  pub prints : PrintsSearched searched report found names old new said said' result

-- ---- a check

-- the whole text was printed, and the status is that of the verdict; or the output failed, and nothing is known
abbrev pub SaysVerdict : Verdict → List ℕ → Out → Out → ℕ → Type 0
SaysVerdict verdict text old new status =
    ((new.taken ≡ old.taken ++ text) × (new.held ≡ []) × (new.faults ≡ old.faults) × (status ≡ status_of verdict))
    ⊎ (TakesPart old.taken new.taken text × (new.faults ≡ old.faults + 1) × (status ≡ status_of Verdict.Unknown))

-- the verdict on what was found, and why the search failed, if it did; or memory for the text ran out
abbrev pub PrintsVerdict : Report → List Found → Option RunError → Detail → Out → Out → ℕ → Type 0
PrintsVerdict report found error detail old new status =
    ((text : List ℕ) × IsCheckText report.format.lacks.now found (message_of report error) detail text
    × SaysVerdict (verdict_of report.format.lacks.now found (is_some error)) text old new status)
    ⊎ SaysVerdict (verdict_of report.format.lacks.now found true) (short_text (verdict_of report.format.lacks.now found true)) old new status

-- One walk finds the sensors that pass the filters, with their readings, and records with a fault; then the verdict is printed. Over an
-- honest controller status 0 means that all of them are fine.
pub record Checks (limits : RequestLimits) (filters : Filters) (detail : Detail) (report : Report) (old new : State) (result : Outcome) : Type 0 where
  pub found : List Found
  pub searched : Ending
  pub line : Result (Option (String Global)) AllocError
  pub asked : AsksAtMost limits.part old.seen new.seen
  pub calls : new.seen.calls ≤ old.seen.calls + most_on_walk with_readings limits.tries
  pub may_end : EndsSearch new.seen searched
  pub sought : Bor Filters
  pub filters_are : sought.now ≡ filters
  pub are_sought : AddsSought (Sought.Sensors sought) [] found
  pub searches : IsHonest old.seen
      → Searches (Sought.Sensors sought) (start_of None) limits.tries old.seen new.seen [] found searched
  pub last_line : IsLastLine new.lost line
  pub status : ℕ
  pub prints : PrintsVerdict report found (lost_error line (error_of searched false false)) detail old.out new.out status
  pub result_is : result ≡ outcome_of_verdict status
  pub fine : IsHonest old.seen → status ≡ 0
      → AllFine report.format.lacks.now (Sought.Sensors sought) (start_of None) old.seen new.seen
