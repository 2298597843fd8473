-- The runs of the reference program: over a controller, in pages, and over an image. They print in codes.
use Rattle.std.specs.Prelude.{◌≡◌, ◌⊎◌, ℕ, Option, None, Some, Result, Ok, Err, List}
use Rattle.ipmi_bus.specs.Store.{Store}
use Rattle.ipmi_image.specs.declared.image.ImageFault.{ImageFault}
use Rattle.ipmi_command_line.specs.Command.{CommandState}
use Rattle.ipmi_command_line.specs.declared.command.UsageFault.{UsageFault}
use Rattle.ipmi_output.specs.Failure.{Ending, failure_of_usage}
use Rattle.ipmi_output.specs.declared.failure.Failure.{Failure}
use Rattle.ipmi_commands.specs.declared.job.Job.{Job}
use Rattle.ipmi_commands.specs.declared.limits.Tries.{Tries}
use Rattle.ipmi_commands.specs.Allowed.{cause_of, Change, IsAllowed, IsFine}
use Rattle.ipmi_commands.specs.Calls.{for_inventory}
use Rattle.ipmi_commands.specs.Format.{Texts}
use Rattle.ipmi_commands.specs.Job.{job_of}
use Rattle.ipmi_commands.specs.Output.{Output}
use Rattle.ipmi_commands.specs.PagedRun.{RunsPaged}
use Rattle.ipmi_commands.specs.Run.{FollowsPlan, IsRewriting}
use Rattle.ipmi_commands.specs.Texts.{IsPieceOver}
use Rattle.ipmi_plain.specs.Plain.{plain_texts}

-- the job of a command, in codes
abbrev pub job_of_command : CommandState → Option Job
job_of_command command = job_of plain_texts.has_names command.task command.from

-- the run in pages of a command that lists all records of a shelf
abbrev pub RunsPagedCommand : Texts → Option Job → Tries → List ℕ → Change → Ending → Type 0
RunsPagedCommand x (Some job) tries sizes c ending = RunsPaged x job tries sizes c ending
RunsPagedCommand x None tries sizes c ending = ⊥

-- ---- over an image

-- the run fails with this fault of the image, or is out of memory before it finds the fault;
-- nothing is written
abbrev pub FailsToRead : ImageFault → Output → Output → Ending → Type 0
FailsToRead fault old new ending =
    (new ≡ old) × ((ending ≡ Err (Failure.Image fault)) ⊎ (ending ≡ Err Failure.OutOfMemory))

-- a run over the store of an image: of a job, which never gives up and is never refused, or `image
-- rewrite`
abbrev pub RunsOver : Texts → Option Job → Store → Output → Output → Ending → Type 0
RunsOver x None store old new ending = IsRewriting store old new ending
RunsOver x (Some job) store old new ending =
    FollowsPlan job (for_inventory 0) store (λ plan calls. IsAllowed (IsPieceOver x store) plan old new ending)
    × IsFine (cause_of ending)

-- a job or `image rewrite` over an image, which has a store or a fault
abbrev pub AnswersJob : Option Job → Result Store ImageFault → Output → Output → Ending → Type 0
AnswersJob job (Ok store) old new ending = RunsOver plain_texts job store old new ending
AnswersJob job (Err fault) old new ending = FailsToRead fault old new ending

abbrev pub AnswersCommand : CommandState → Result Store ImageFault → Output → Output → Ending → Type 0
AnswersCommand command image old new ending = AnswersJob (job_of_command command) image old new ending

-- the result of a command line over an image
abbrev pub AnswersLine : Result CommandState UsageFault → Result Store ImageFault → Output → Output
    → Ending → Type 0
AnswersLine (Ok command) image old new ending = AnswersCommand command image old new ending
AnswersLine (Err fault) image old new ending =
    (ending ≡ Err (failure_of_usage fault)) × (new ≡ old)
