-- What a query prints of a controller.
use Rattle.std.specs.Prelude.{◌≡◌, Option}
use Rattle.ipmi_commands.specs.declared.limits.RequestLimits.{RequestLimits}
use Rattle.ipmi_output.specs.Received.{Received}
use Rattle.serdimko.specs.Metrics.{Measures}
use Rattle.serdimko.specs.Out.{State}
use Rattle.serdimko.specs.Printing.{Checks, Each, PrintsSensors, PrintsTask, Reports, RunsTask}
use Rattle.serdimko.specs.Since.{PrintsSince}
use Rattle.serdimko.specs.declared.driver.Query.{Query}
use Rattle.serdimko.specs.declared.outcome.Outcome.{Outcome}
use Rattle.serdimko.specs.declared.report.Report.{Report}
use Rattle.serdimko.specs.declared.run_error.RunError.{RunError}

abbrev pub PrintsQuery : RequestLimits → Query → Report → State → State → Received → Received → Outcome → Type 0
PrintsQuery limits (Query.Print task from filters) report old new said said' result =
    (last : Option RunError) × PrintsTask limits task from filters report old new last × Reports report last said said' result
PrintsQuery limits (Query.Each tasks) report old new said said' result =
    Each (RunsTask limits report) tasks old new said said' result
PrintsQuery limits (Query.Sensors names from) report old new said said' result =
    PrintsSensors limits names from report old new said said' result
PrintsQuery limits (Query.Check filters detail) report old new said said' result =
    Checks limits filters detail report old new result × (said' ≡ said)
PrintsQuery limits (Query.Metrics filters dialect) report old new said said' result =
    Measures limits filters dialect report old new said said' result
PrintsQuery limits (Query.New filters mark) report old new said said' result =
    PrintsSince limits filters mark report old new said said' result
