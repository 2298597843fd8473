-- How `clap` parses a command line: options at any place, and a list of words.
use Rattle.std.specs.Prelude.{◌&&◌, ◌||◌, nat_le, length, not, List, Some, Bool, true, codes, fold}
use Rattle.std.specs.List.{list_any}
use Rattle.clap.specs.Simple.{on_top}
use Rattle.clap.specs.Walk.{is_empty}
use Rattle.clap.specs.Words.{App, Row, Rule, Text, fault_of, matches_of, new_app, new_rule, with_rule}
use Rattle.clap.specs.declared.builder.ArgAction.TheVariants.{Append}
use Rattle.ipmi_command_line.specs.Options.{is_present, options, options_anywhere, reference_options, with_option}
use Rattle.ipmi_command_line.specs.Values.{is_given, values_of}

-- any number of words that belong to no option
abbrev pub words_rule : Rule
words_rule = record (new_rule (codes "words")) { action = Some Append }

-- a program whose `--help` is an option like the others
abbrev pub base : App
base = on_top (λ s. record s { disable_help_flag = true }) (new_app (codes "serdimko"))

-- the options of the tables, and the words
abbrev pub command_line : App
command_line = with_rule (fold with_option (fold with_option (fold with_option base reference_options) options) options_anywhere) words_rule

-- `clap` accepts the words; the first is the program's name
unfoldable pub is_taken : List Text → Bool
is_taken words = is_empty (fault_of command_line words)

-- the result of `clap`: the options and words given, each with its values
unfoldable pub rows_of_words : List Text → List Row
rows_of_words words = matches_of command_line words

-- an option that the reference program lacks
unfoldable pub has_other : List Row → Bool
has_other rows = list_any (is_present rows) options || (is_given (codes "version") rows || is_given (codes "help") rows)

-- only options of the reference program are given, and at most one image
abbrev pub is_reference : List Row → Bool
is_reference rows = not (has_other rows) && nat_le (length (values_of (codes "image") rows)) 1
