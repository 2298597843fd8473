-- The program's output, messages and exit status.
use Rattle.std.specs.Prelude.{◌≡◌, ℕ, List, Result, Ok, Err}
use Rattle.ipmi_command_line.specs.Command.{CommandState}
use Rattle.ipmi_command_line.specs.declared.command.UsageFault.{UsageFault}
use Rattle.ipmi_output.specs.Failure.{Ending, failure_of_usage, line_text, unreadable_text}
use Rattle.ipmi_output.specs.Received.{Received, ReceivesText}
use Rattle.ipmi_output.specs.declared.failure.Failure.{Failure}
use Rattle.ipmi_commands.specs.Run.{Says}
use Rattle.ipmi_program.specs.Input.{input_name}
use Rattle.ipmi_program.specs.declared.input.InputFault.{InputFault}

-- the message and the exit status if the image was not read
abbrev pub SaysUnread : InputFault → List ℕ → Received → Received → ℕ → Type 0
SaysUnread InputFault.Memory name said said' status =
    Says said said' status (λ ending. ending ≡ Err Failure.OutOfMemory)
SaysUnread fault name said said' status =
    (status ≡ 3) × ReceivesText said said' (line_text (unreadable_text name))

-- by the command line and the input: `Prints` says what is printed of an image, `Idle` that nothing
-- is printed
abbrev pub Answers : {Image : Type 0} → (CommandState → Image → Ending → Type 0) → Type 0
    → Result CommandState UsageFault → Result Image InputFault → Received → Received → ℕ → Type 0
Answers Prints Idle (Err fault) input said said' status =
    Idle × Says said said' status (λ ending. ending ≡ Err (failure_of_usage fault))
Answers Prints Idle (Ok command) (Err fault) said said' status =
    Idle × SaysUnread fault (input_name command.image) said said' status
Answers Prints Idle (Ok command) (Ok image) said said' status =
    Says said said' status (λ ending. Prints command image ending)
