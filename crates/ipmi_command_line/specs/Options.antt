-- The table of options.
use Rattle.std.specs.Prelude.{◌&&◌, ◌||◌, Bool, true, false, ℕ, List, Option, Some, None, bytes_eq, map, if◌then◌else◌}
use Rattle.std.specs.Borrow.{Bor}
use Rattle.std.specs.List.{filter_map, list_any}
use Rattle.clap.specs.Words.{App, Row as Found, Rule, Text, new_rule, with_rule}
use Rattle.clap.specs.declared.builder.ArgAction.{ArgAction}
use Rattle.clap.specs.declared.builder.ArgAction.TheVariants.{Append, Count}
use Rattle.ipmi_command_line.specs.Values.{has_value, is_given}
use Rattle.ipmi_command_line.specs.declared.options.Form.{Form}
use Rattle.ipmi_command_line.specs.declared.options.Given.{Given}
use Rattle.ipmi_command_line.specs.declared.options.TheConstants.{ANYWHERE, OPTIONS, REFERENCE}

-- an option: its name, its letter if it has one, and how it is given
pub record OptionState : Type 0 where
  pub name : Text
  pub letter : Option ℕ
  pub given : Given

-- a row of a table in the program
abbrev pub OptionRow : Type 0
OptionRow = Bor Text × Option ℕ × Given

abbrev pub option_state : OptionRow → OptionState
option_state row = record { name = row.0.now; letter = row.1; given = row.2 }

-- the tables
unfoldable pub options : List OptionState
options = map (λ row. record { name = row.0.now; letter = row.1; given = row.2 }) OPTIONS

unfoldable pub reference_options : List OptionState
reference_options = map (λ row. record { name = row.0.now; letter = row.1; given = row.2 }) REFERENCE

unfoldable pub options_anywhere : List OptionState
options_anywhere = map (λ row. record { name = row.0.now; letter = row.1; given = row.2 }) ANYWHERE

-- one value unless it says otherwise; without a value it may come several times
abbrev pub action_of : Given → Option ArgAction
action_of Given.Value = None
action_of Given.Values = Some Append
action_of Given.Flag = Some Count
action_of (Given.Form form) = Some Count

abbrev pub option_rule : OptionState → Rule
option_rule option = record (new_rule option.name) { long = Some option.name; short = option.letter; action = action_of option.given }

abbrev pub with_option : App → OptionState → App
with_option app option = with_rule app (option_rule option)

abbrev pub has_values : Given → Bool
has_values Given.Value = true
has_values Given.Values = true
has_values given = false

abbrev pub is_present : List Found → OptionState → Bool
is_present rows option = if has_values option.given then has_value option.name rows else is_given option.name rows

abbrev pub form_given : Given → Option Form
form_given (Given.Form form) = Some form
form_given given = None

-- the form of output that the option asks for, if it is given
abbrev pub form_in : List Found → OptionState → Option Form
form_in rows option = if is_present rows option then form_given option.given else None

-- all forms of output that are asked for
abbrev pub forms_of : List Found → List Form
forms_of rows = filter_map (form_in rows) options

abbrev pub is_named : Text → OptionState → Bool
is_named name option = bytes_eq option.name name && has_values option.given

-- an option of this name takes a value
abbrev pub takes_value : Text → Bool
takes_value name = list_any (is_named name) reference_options || list_any (is_named name) options
