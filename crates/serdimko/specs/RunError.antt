-- Why a run over an image or a controller did not finish: when, with which message, and with which status.
use Rattle.std.specs.Prelude.{◌≡◌, ◌==◌, ◌&&◌, ◌||◌, max, ℕ, Bool, true, false, List, [], ◌++◌, codes, decimal, Option, Some, None, Result, Ok, Err, String, string_bytes}
use Rattle.std.specs.Option.{option_or}
use Rattle.std.specs.declared.alloc.Global.{Global}
use Rattle.std.specs.declared.alloc.AllocError.{AllocError}
use Rattle.ipmi_bus.specs.declared.inventory_reader.FruEnded.{FruEnded}
use Rattle.ipmi_bus.specs.declared.step.Ended.{Ended}
use Rattle.ipmi_commands.specs.declared.mark.Mark.{Mark}
use Rattle.ipmi_image.specs.declared.image.ImageFault.{ImageFault}
use Rattle.ipmi_output.specs.Failure.{Ending, escaped_name, failure_text, fault_line, fault_words, line_text, status_of_failure, write_faults}
use Rattle.ipmi_output.specs.Received.{Received, ReceivesText}
use Rattle.ipmi_output.specs.declared.failure.Failure.{Failure}
use Rattle.ipmi_program.specs.Input.{input_fault_words}
use Rattle.ipmi_image.specs.declared.cause.FaultCause.{FaultCause}
use Rattle.ipmi_program.specs.declared.input.InputFault.{InputFault}
use Rattle.ipmi_program.specs.Causes.{cause_words}
use Rattle.serdimko.specs.declared.outcome.Outcome.{Outcome}
use Rattle.serdimko.specs.declared.run_error.RunError.{RunError}

-- ---- when

-- the output accepted no more: its reader has closed it, or there is a fault
abbrev pub output_error : Bool → RunError
output_error true = RunError.Closed
output_error false = RunError.Failed Failure.WriteFault

-- the error of a run, from its ending, whether it printed faults that matter, and whether the output was closed
abbrev pub error_of : Ending → Bool → Bool → Option RunError
error_of (Err Failure.WriteFault) faulty closed = Some (output_error closed)
error_of (Err failure) faulty closed = Some (RunError.Failed failure)
error_of (Ok done) true closed = Some RunError.Faulty
error_of (Ok done) false closed = None

-- the error of input that is not an image, given the rule that it breaks
abbrev pub no_image : ImageFault → Option FaultCause → RunError
no_image ImageFault.Memory cause = RunError.Failed Failure.OutOfMemory
no_image fault cause = RunError.NoImage fault cause

-- input that was not read
abbrev pub unread : InputFault → RunError
unread InputFault.Memory = RunError.Failed Failure.OutOfMemory
unread fault = RunError.Unread fault

-- a refusal after a lost connection is `Lost`, with the tool's last words, if there is memory for them
abbrev pub refusal_or_lost : Result (Option (String Global)) AllocError → RunError → RunError
refusal_or_lost (Ok None) error = error
refusal_or_lost (Ok (Some said)) error = RunError.Lost said
refusal_or_lost (Err memory) error = RunError.Failed Failure.OutOfMemory

-- the error of a run over a controller, given the tool's last words if the connection was lost
abbrev pub lost_error : Result (Option (String Global)) AllocError → Option RunError → Option RunError
lost_error said (Some (RunError.Failed (Failure.Ended (Ended.Refused id code)))) =
    Some (refusal_or_lost said (RunError.Failed (Failure.Ended (Ended.Refused id code))))
lost_error said (Some (RunError.Failed (Failure.Inventory id (FruEnded.Refused code)))) =
    Some (refusal_or_lost said (RunError.Failed (Failure.Inventory id (FruEnded.Refused code))))
lost_error said error = error

-- ---- messages

-- the fault of an image: in a line, or in the whole image
abbrev pub image_text : List ℕ → Option ℕ → List ℕ → List ℕ
image_text name (Some line) words =
    escaped_name name ++ (codes ":" ++ (decimal line ++ (codes ": " ++ words)))
image_text name None words = escaped_name name ++ (codes ": " ++ words)

-- the message about one image, or, with its name, about one of several
abbrev pub named_text : Bool → List ℕ → List ℕ → List ℕ
named_text true name text = text
named_text false name text = escaped_name name ++ (codes ": " ++ text)

-- input with this name was not read; no file has an empty name
abbrev pub unread_text : List ℕ → InputFault → List ℕ
unread_text [] fault = codes "cannot read '': the file name is empty"
unread_text name fault =
    codes "cannot read " ++ (escaped_name name ++ (codes ": " ++ input_fault_words fault))

-- the controller with this name was lost, and its tool said this
abbrev pub no_reply_text : List ℕ → List ℕ → List ℕ
no_reply_text name said = codes "no reply from " ++ (escaped_name name ++ (codes ": " ++ escaped_name said))

abbrev pub error_text : List ℕ → Bool → RunError → List ℕ
error_text name is_only_input (RunError.Unread fault) = unread_text name fault
error_text name is_only_input (RunError.NoImage fault cause) =
    image_text name (fault_line fault) (fault_words fault ++ cause_words cause)
error_text name is_only_input (RunError.Failed Failure.WriteFault) = failure_text Failure.WriteFault
error_text name is_only_input (RunError.Failed failure) = named_text is_only_input name (failure_text failure)
error_text name is_only_input (RunError.Lost said) = no_reply_text name (string_bytes said)
error_text name is_only_input RunError.Closed = []
error_text name is_only_input RunError.Faulty =
    named_text is_only_input name (codes "a fault or a missing device was printed (--strict)")

-- ---- the exit status and the message

abbrev pub status_of_error : Option RunError → ℕ
status_of_error None = 0
status_of_error (Some (RunError.Unread fault)) = 3
status_of_error (Some (RunError.NoImage fault cause)) = 3
status_of_error (Some (RunError.Failed failure)) = status_of_failure failure
status_of_error (Some (RunError.Lost said)) = 1
status_of_error (Some RunError.Faulty) = 1
status_of_error (Some RunError.Closed) = 141

abbrev pub said_of_error : List ℕ → Bool → Option RunError → List ℕ
said_of_error name is_only_input None = []
said_of_error name is_only_input (Some RunError.Closed) = []
said_of_error name is_only_input (Some error) = line_text (error_text name is_only_input error)

-- a write fault is one fault of the output, and so is a closed output; nothing else is
abbrev pub faults_of_error : Option RunError → ℕ
faults_of_error (Some (RunError.Failed failure)) = write_faults (Err failure)
faults_of_error (Some RunError.Closed) = 1
faults_of_error _ = 0

-- ---- what may follow

-- another run may succeed over the same input
abbrev pub is_recoverable : Option RunError → Bool
is_recoverable None = true
is_recoverable (Some (RunError.Failed failure)) = status_of_failure failure == 1
is_recoverable (Some RunError.Faulty) = true
is_recoverable error = false

-- more can be printed
abbrev pub is_output_open : Option RunError → Bool
is_output_open (Some RunError.Closed) = false
is_output_open (Some (RunError.Failed Failure.WriteFault)) = false
is_output_open error = true

-- nothing has the name that was given
abbrev pub lacks_name : Option RunError → Bool
lacks_name (Some (RunError.Failed (Failure.NoName name))) = true
lacks_name error = false

-- ---- the outcome

abbrev pub outcome_of : Option RunError → Outcome
outcome_of error = record {
  status = status_of_error error;
  is_output_open = is_output_open error;
  lacks_name = lacks_name error;
  has_verdict = false;
  mark = None;
}

-- that of a check with this status, whose verdict was printed
abbrev pub outcome_of_verdict : ℕ → Outcome
outcome_of_verdict status = record {
  status = status;
  is_output_open = true;
  lacks_name = false;
  has_verdict = true;
  mark = None;
}

-- that of a run that left this mark, or none
abbrev pub marked : Option Mark → Outcome → Outcome
marked mark outcome = record outcome { mark = mark }

-- that of runs one after another
abbrev pub and : Outcome → Outcome → Outcome
and first next = record {
  status = max first.status next.status;
  is_output_open = first.is_output_open && next.is_output_open;
  lacks_name = first.lacks_name || next.lacks_name;
  has_verdict = first.has_verdict || next.has_verdict;
  mark = option_or first.mark next.mark;
}

-- the message of the error is written, or nothing if there is no error
abbrev pub Tells : List ℕ → Bool → Option RunError → Received → Received → Outcome → Type 0
Tells name is_only_input error said said' outcome =
    (outcome ≡ outcome_of error) × ReceivesText said said' (said_of_error name is_only_input error)
