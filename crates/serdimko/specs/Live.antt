-- What is printed of a live controller, and its tools.
use Rattle.std.specs.Prelude.{◌≡◌, ◌⊎◌, ◌++◌, ℕ, codes, decimal, is_none, List, None, Option, Some, unwrap_or}
use Rattle.ipmi_command_line.specs.declared.request.LiveTool.{LiveTool}
use Rattle.ipmi_commands.specs.Calls.{for_each_part}
use Rattle.ipmi_commands.specs.declared.limits.RequestLimits.{RequestLimits}
use Rattle.ipmi_output.specs.Received.{Received}
use Rattle.ipmi_output.specs.declared.failure.Failure.{Failure}
use Rattle.ipmi_raw.specs.declared.tool.Tool.{Tool}
use Rattle.serdimko.specs.Images.{IsReport}
use Rattle.serdimko.specs.Columns.{PrintsColumns, Then}
use Rattle.serdimko.specs.Out.{Out, State}
use Rattle.serdimko.specs.Printing.{Reports}
use Rattle.serdimko.specs.Query.{PrintsQuery}
use Rattle.serdimko.specs.RunError.{Tells}
use Rattle.serdimko.specs.declared.driver.Query.{Query}
use Rattle.serdimko.specs.declared.outcome.Outcome.{Outcome}
use Rattle.serdimko.specs.declared.report.Report.{Report}
use Rattle.serdimko.specs.declared.report.Settings.{Settings}
use Rattle.serdimko.specs.declared.run_error.RunError.{RunError}

abbrev pub tool_of : LiveTool → Tool
tool_of LiveTool.Ipmitool = Tool.Ipmitool
tool_of LiveTool.FreeIpmi = Tool.FreeIpmi

abbrev pub pipe_name : List ℕ → List ℕ → ℕ → List ℕ
pipe_name folder stream lun = folder ++ (codes "/" ++ (stream ++ (codes "." ++ decimal lun)))

-- the name in messages of the controller of this host, if that is known
abbrev pub name_of : Option (List ℕ) → List ℕ
name_of host = unwrap_or host (codes "the controller")

-- memory for the labels ran out; or the names of columns are printed, if the output is CSV, and the query runs over the controller, whatever that holds, with tries for each part of an inventory
abbrev pub PrintsLive : Settings → Option (List ℕ) → Query → State → State → Received → Received → Outcome → Type 0
PrintsLive settings host query old new said said' result =
    ((new ≡ old) × Tells (name_of host) (is_none host) (Some (RunError.Failed Failure.OutOfMemory)) said said' result)
    ⊎ ((report : Report) × IsReport settings None (name_of host) (is_none host) report
    × ((limits : RequestLimits) × (limits.part ≡ settings.limits.part) × (limits.tries ≡ for_each_part settings.limits.tries.count)
    × (now : Out) × (last : Option RunError) × PrintsColumns settings.format query None old.out now last
    × Then last (PrintsQuery limits query report (record old { out = now }) new said said' result)
    (λ error. (new ≡ record old { out = now }) × Reports report (Some error) said said' result)))
