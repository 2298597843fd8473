-- What the settings of a request ask for.
use Rattle.std.specs.Prelude.{ℕ, All, Bool, false, not, List, [], ⊤}
use Rattle.ipmi_command_line.specs.Command.{IsTask}
use Rattle.ipmi_command_line.specs.declared.request.Format.{Format}
use Rattle.ipmi_commands.specs.Job.{IsFrom}
use Rattle.serdimko.specs.declared.driver.Query.{Query}
use Rattle.ipmi_commands.specs.Format.{Texts}
use Rattle.ipmi_program.specs.WithLacks.{with_lacks}
use Rattle.ipmi_program.specs.Wording.{texts_in}
use Rattle.serdimko.specs.declared.report.Report.{Report}

-- the numbers of a query are in their ranges
abbrev pub IsQuery : Query → Type 0
IsQuery (Query.Print task from filters) = IsTask task × IsFrom from
IsQuery (Query.Each tasks) = All IsTask tasks
IsQuery (Query.Sensors names from) = IsFrom from
IsQuery (Query.Check filters detail) = ⊤
IsQuery (Query.Metrics filters dialect) = ⊤
IsQuery (Query.New filters mark) = ⊤

-- texts of one of several images follow its name
abbrev pub is_headed : Format → Bool → Bool
is_headed (Format.Labelled form separator texts) is_only_input = false
is_headed format is_only_input = not is_only_input

-- the labels of objects and rows, as they were given
abbrev pub texts_of : Format → List (List ℕ)
texts_of (Format.Labelled form separator texts) = texts
texts_of format = []

-- the texts of runs over an input
abbrev pub texts_for : Report → Texts
texts_for report = with_lacks report.format.lacks.now (texts_in report.format.format)
