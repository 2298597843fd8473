-- The statement of the law that rows read back.
use Rattle.std.specs.Prelude.{◌≡◌, ℕ, Some, List, [], ◌∷◌, ◌++◌}
use Rattle.csv.specs.Machine.{next_record}
use Rattle.csv.specs.Reading.{default_config}
use Rattle.csv.specs.declared.parser.State.TheVariants.{StartRecord}
use Rattle.ipmi_csv.specs.Cells.{csv_row}
use Rattle.ipmi_command_line.specs.declared.request.Separator.{Separator}

-- The reader of the crate `csv` gets the texts of a row with commas, and its next read begins after the row. Each table has more than one
-- column: a row of one empty text would be an empty line, which readers pass over.
abbrev pub RowsReadBack : Type 0
RowsReadBack = (first next : List ℕ) (texts : List (List ℕ)) (after : List ℕ)
    → next_record default_config StartRecord [] [] (csv_row Separator.Comma (first ∷ next ∷ texts) ++ after)
    ≡ Some (first ∷ next ∷ texts, StartRecord, after)
