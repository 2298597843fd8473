-- Each command of the reference program is the same request.
use Rattle.std.specs.Prelude.{◌≡◌, ℕ, false, List, [], ◌∷◌, Option, Some, None, Ok, unwrap_or}
use Rattle.clap.specs.Words.{Text}
use Rattle.ipmi_command_line.specs.Command.{CommandState, meaning_of}
use Rattle.ipmi_command_line.specs.Filters.{no_filters}
use Rattle.ipmi_command_line.specs.Request.{request_of}
use Rattle.ipmi_command_line.specs.declared.request.Action.{Action}
use Rattle.ipmi_command_line.specs.declared.request.Format.{Format}
use Rattle.ipmi_command_line.specs.declared.request.Request.{Request}
use Rattle.ipmi_command_line.specs.declared.request.Source.{Source}
use Rattle.ipmi_command_line.specs.declared.task.Task.{Task}

abbrev pub action_of_task : Task → Option ℕ → Action
action_of_task Task.Rewrite from = Action.Rewrite
action_of_task task from = Action.Print task from

abbrev pub images_of : Option Text → List Text
images_of None = []
images_of (Some image) = image ∷ []

-- what a command asks for, with this number of bytes per request, if one was given
abbrev pub same_request : Option ℕ → CommandState → Request
same_request part command = record {
  action = action_of_task command.task command.from;
  filters = no_filters;
  source = Source.Images (images_of command.image);
  records = None;
  limits = record { part = part; tries = command.tries };
  format = Format.Plain;
  strict = false;
}

-- a line that the reference program takes is the same request
abbrev pub CommandsAreRequests : Type 0
CommandsAreRequests = (clock : ℕ) (words : List Text) (command : CommandState) → meaning_of words ≡ Ok command
    → (part : Option ℕ) × (unwrap_or part 32 ≡ command.part) × (request_of clock words ≡ Some (same_request part command))
