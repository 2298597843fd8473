-- What comes before the texts of all inputs, as the names of columns of CSV.
use Rattle.std.specs.Prelude.{◌≡◌, ◌⊎◌, ◌+◌, ℕ, Bool, true, false, List, [], ◌∷◌, map, Option, None, Some}
use Rattle.std.specs.Borrow.{Bor}
use Rattle.ipmi_command_line.specs.declared.request.Format.{Format}
use Rattle.ipmi_command_line.specs.declared.task.Task.{Task}
use Rattle.ipmi_commands.specs.declared.format.Table.{Table}
use Rattle.ipmi_json.specs.declared.object.Label.{Label}
use Rattle.ipmi_output.specs.declared.failure.Failure.{Failure}
use Rattle.ipmi_program.specs.Labels.{key_value, labels_of}
use Rattle.ipmi_program.specs.Wording.{frame_in, table_of, wording_of}
use Rattle.serdimko.specs.Settings.{texts_of}
use Rattle.serdimko.specs.declared.driver.Query.{Query}
use Rattle.serdimko.specs.declared.run_error.RunError.{RunError}
use Rattle.serdimko.specs.Out.{Out}
use Rattle.serdimko.specs.Printing.{WritesLine}
use Rattle.serdimko.specs.RunError.{faults_of_error}

-- all of them print rows of one table
abbrev pub table_of_tasks : List Task → Table
table_of_tasks [] = Table.Records
table_of_tasks (task ∷ tasks) = table_of task

abbrev pub table_of_query : Query → Table
table_of_query (Query.Print task from filters) = table_of task
table_of_query (Query.Each tasks) = table_of_tasks tasks
table_of_query (Query.Sensors names from) = Table.Records
table_of_query (Query.Check filters detail) = Table.Records
table_of_query (Query.Metrics filters dialect) = Table.Records
table_of_query (Query.New filters mark) = Table.Entries

-- the text that names what is printed, with these labels
pub record IsHeader (format : Format) (texts : List (List ℕ)) (image : Option (List ℕ)) (table : Table) (line : List ℕ) : Type 0 where
  pub labels : Bor (List Label)
  pub labels_are : map key_value labels.now ≡ labels_of image texts
  pub is_line : (frame_in (wording_of format labels)).IsHeader table line

-- whether it is printed, nothing, or the whole text; memory may run out
abbrev pub PrintsHeader : Bool → (List ℕ → Type 0) → Out → Out → Option RunError → Type 0
PrintsHeader false IsLine old new last = (new ≡ old) × (last ≡ None)
PrintsHeader true IsLine old new last =
    ((new ≡ old) × (last ≡ Some (RunError.Failed Failure.OutOfMemory)))
    ⊎ ((line : List ℕ) × IsLine line × WritesLine line old new None last × (new.faults ≡ old.faults + faults_of_error last))

-- if the form of output has one, whatever the labels
pub record PrintsColumns (format : Format) (query : Query) (image : Option (List ℕ)) (old new : Out) (last : Option RunError) : Type 0 where
  pub labels : Bor (List Label)
  pub prints : PrintsHeader (frame_in (wording_of format labels)).has_header (IsHeader format (texts_of format) image (table_of_query query))
      old new last

-- what follows the columns, or their failure
abbrev pub Then : Option RunError → Type 0 → (RunError → Type 0) → Type 0
Then None Follows Fails = Follows
Then (Some error) Follows Fails = Fails error
