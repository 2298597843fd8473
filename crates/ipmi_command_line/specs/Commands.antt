-- The table of commands.
use Rattle.std.specs.Prelude.{List, [], ◌∷◌, ◌&&◌, Bool, true, false, Option, bytes_eq, codes, map}
use Rattle.std.specs.Borrow.{Bor}
use Rattle.std.specs.List.{find}
use Rattle.clap.specs.Words.{Text}
use Rattle.ipmi_command_line.specs.declared.commands.Operand.{Operand}
use Rattle.ipmi_command_line.specs.declared.commands.Verb.{Verb}
use Rattle.ipmi_command_line.specs.declared.commands.TheConstants.{COMMANDS}

-- a command: its words, what it does, and the options that go with it
pub record RowState : Type 0 where
  pub words : List Text
  pub verb : Verb
  pub options : List Text

-- the texts of a list
abbrev pub texts : List (Bor Text) → List Text
texts words = map (λ word. word.now) words

-- a row of the table in the program
abbrev pub Row : Type 0
Row = Bor (List (Bor Text)) × Verb × Operand × Bor (List (Bor Text)) × Bor Text

abbrev pub row_state : Row → RowState
row_state row = record { words = texts row.0.now; verb = row.1; options = texts row.3.now }

-- the table
unfoldable pub commands : List RowState
commands = map (λ row. record {
  words = map (λ word. word.now) row.0.now;
  verb = row.1;
  options = map (λ word. word.now) row.3.now;
}) COMMANDS

-- the words begin with these
abbrev pub begins_with : List Text → List Text → Bool
begins_with words [] = true
begins_with [] (first ∷ more) = false
begins_with (word ∷ words) (first ∷ more) = bytes_eq first word && begins_with words more

-- the first command of a table that the words begin with
abbrev pub row_among : List RowState → List Text → Option RowState
row_among table words = find (λ row. begins_with words row.words) table

-- no words mean `sdr hex`
abbrev pub or_default : List Text → List Text
or_default [] = codes "sdr" ∷ codes "hex" ∷ []
or_default (word ∷ words) = word ∷ words

-- the command that the words begin with
unfoldable pub row_of : List Text → Option RowState
row_of words = row_among commands (or_default words)
