-- So far the program has the options before this one.
use Rattle.std.proofs.Common.{◌≡◌, fold, map, take}
use Rattle.clap.specs.Words.{app_of}
use Rattle.ipmi_command_line.specs.Options.{option_state, with_option}
use Rattle.ipmi_command_line.proofs.arguments.with_options.Given as goal

abbrev pub invariant-loop-row : goal.invariant-loop-row
invariant-loop-row l = app_of l.program ≡ fold with_option (app_of l.initial.program) (map option_state (take l.row-index l.table))
