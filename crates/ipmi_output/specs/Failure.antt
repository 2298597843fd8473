-- The message and the exit status of each failure.
use Rattle.std.specs.Prelude.{ℕ, List, [], ◌∷◌, ◌++◌, flat_map, codes, if◌then◌else◌, decimal, Option, Some, None, Result, Ok, Err}
use Rattle.std.specs.Char.{is_ascii_control}
use Rattle.ipmi_bus.specs.declared.inventory_reader.FruEnded.{FruEnded}
use Rattle.ipmi_bus.specs.declared.step.Ended.{Ended}
use Rattle.ipmi_command_line.specs.declared.command.UsageFault.{UsageFault}
use Rattle.ipmi_image.specs.declared.image.ImageFault.{ImageFault}
use Rattle.ipmi_text.specs.Hex.{byte_h, upper_byte, word_h}
use Rattle.ipmi_output.specs.declared.failure.Failure.{Failure}
use Rattle.ipmi_output.specs.declared.message.Message.{Message}
use Rattle.ipmi_output.specs.declared.message.Part.{Part}
use Rattle.ipmi_output.specs.declared.message.MessagePiece.{MessagePiece}

-- why a record, a reading or an info was not read, with its id
abbrev pub ended_text : Ended → List ℕ
ended_text (Ended.Cycle id) = codes "cycle at " ++ word_h id
ended_text (Ended.Missing id) = codes "record " ++ (word_h id ++ codes " not present")
ended_text (Ended.Refused id code) =
    codes "record " ++ (word_h id ++ (codes " refused with code " ++ byte_h code.0))
ended_text (Ended.GaveUp id) = codes "gave up at " ++ word_h id
ended_text (Ended.Stalled id) = codes "stalled at " ++ word_h id
ended_text (Ended.Malformed id) = codes "malformed record " ++ word_h id

-- why an inventory was not read, with the id of its FRU device
abbrev pub inventory_text : ℕ → FruEnded → List ℕ
inventory_text id (FruEnded.Refused code) =
    codes "fru " ++ (decimal id ++ (codes " refused with code " ++ byte_h code.0))
inventory_text id FruEnded.GaveUp = codes "fru " ++ (decimal id ++ codes " gave up")
inventory_text id FruEnded.Stalled = codes "fru " ++ (decimal id ++ codes " stalled")
inventory_text id FruEnded.Words = codes "fru " ++ (decimal id ++ codes " uses words")
inventory_text id FruEnded.Memory = codes "out of memory"

-- the faulty line of an image
abbrev pub fault_line : ImageFault → Option ℕ
fault_line (ImageFault.Line line) = Some line
fault_line (ImageFault.Hex line) = Some line
fault_line (ImageFault.Id line) = Some line
fault_line (ImageFault.Twice line) = Some line
fault_line (ImageFault.Length line) = Some line
fault_line (ImageFault.FirstId line) = Some line
fault_line (ImageFault.AfterEnd line) = Some line
fault_line (ImageFault.TooMany line) = Some line
fault_line _ = None

-- the fault of an image in words
abbrev pub fault_words : ImageFault → List ℕ
fault_words ImageFault.Memory = codes "out of memory"
fault_words ImageFault.Header = codes "header"
fault_words (ImageFault.Line line) = codes "not a line"
fault_words (ImageFault.Hex line) = codes "hex"
fault_words (ImageFault.Id line) = codes "id"
fault_words (ImageFault.Twice line) = codes "twice"
fault_words (ImageFault.Length line) = codes "length"
fault_words (ImageFault.FirstId line) = codes "first id"
fault_words ImageFault.NoEnd = codes "no end"
fault_words (ImageFault.AfterEnd line) = codes "after end"
fault_words (ImageFault.TooMany line) = codes "too many bytes"

-- why the input is not an image
abbrev pub image_fault_words : Option ℕ → List ℕ → List ℕ
image_fault_words (Some line) words = codes "image line " ++ (decimal line ++ (codes ": " ++ words))
image_fault_words None words = codes "image: " ++ words

abbrev pub image_fault_text : ImageFault → List ℕ
image_fault_text ImageFault.Memory = fault_words ImageFault.Memory
image_fault_text fault = image_fault_words (fault_line fault) (fault_words fault)

abbrev pub failure_text : Failure → List ℕ
failure_text Failure.Usage =
    codes "usage: ipmitool [--image FILE] [--from HEX4] [--part N] [--tries N] fru|sdr|sel WORDS"
failure_text (Failure.Image fault) = image_fault_text fault
failure_text (Failure.Ended ended) = ended_text ended
failure_text (Failure.Inventory id ended) = inventory_text id ended
failure_text (Failure.NamesCycle id) = codes "names of sensors may be missing: sensor data records have a cycle at " ++ word_h id
failure_text (Failure.NamesMissing id) =
    codes "names of sensors may be missing: sensor data record " ++ (word_h id ++ codes " not present")
failure_text (Failure.NoName name) = codes "no record named " ++ name
failure_text Failure.NoInfo = codes "info not present"
failure_text Failure.WriteFault = codes "write fault"
failure_text Failure.OutOfMemory = codes "out of memory"

abbrev pub status_of_failure : Failure → ℕ
status_of_failure Failure.OutOfMemory = 5
status_of_failure (Failure.Image ImageFault.Memory) = 5
status_of_failure (Failure.Inventory id FruEnded.Memory) = 5
status_of_failure Failure.WriteFault = 4
status_of_failure (Failure.Image fault) = 3
status_of_failure Failure.Usage = 2
status_of_failure _ = 1

-- the failure for an invalid command line
abbrev pub failure_of_usage : UsageFault → Failure
failure_of_usage UsageFault.Memory = Failure.OutOfMemory
failure_of_usage _ = Failure.Usage

-- the failure for bytes that are not an image
abbrev pub failure_of_image : ImageFault → Failure
failure_of_image ImageFault.Memory = Failure.OutOfMemory
failure_of_image fault = Failure.Image fault

-- ---- a run

-- how a run ended: in full, or with a failure
abbrev pub Ending : Type 0
Ending = Result (Unit {0}) Failure

-- the exit status
abbrev pub status_of : Ending → ℕ
status_of (Ok done) = 0
status_of (Err failure) = status_of_failure failure

-- a text as a line
abbrev pub line_text : List ℕ → List ℕ
line_text text = text ++ codes "\n"

-- the message: that of the failure as a line; nothing after a full run
abbrev pub said_of : Ending → List ℕ
said_of (Ok done) = []
said_of (Err failure) = line_text (failure_text failure)

-- the number of faults of the output: one for a write fault, otherwise none
abbrev pub write_faults : Ending → ℕ
write_faults (Err Failure.WriteFault) = 1
write_faults _ = 0

-- ---- the pieces of messages

abbrev pub piece_text : MessagePiece → List ℕ
piece_text (MessagePiece.Text text) = text.now
piece_text (MessagePiece.Number number) = decimal number
piece_text (MessagePiece.Word word) = word_h word
piece_text (MessagePiece.Byte byte) = byte_h byte

abbrev pub joined_pieces : List MessagePiece → List ℕ
joined_pieces pieces = flat_map piece_text pieces

abbrev pub message_text : Message → List ℕ
message_text message =
    message.0.now ++ (piece_text message.1 ++ (message.2.now ++ piece_text message.3))

-- ---- a file that can't be read

-- a byte of a file's name as printed: a control byte, below 20h or 7Fh, as `\x` and two upper-case
-- hex digits; any other byte as it is, including a backslash
abbrev pub escaped_byte : ℕ → List ℕ
escaped_byte byte = if is_ascii_control byte then codes "\\x" ++ upper_byte byte else byte ∷ []

-- a file's name as printed, without line feeds, so that its message is one line
abbrev pub escaped_name : List ℕ → List ℕ
escaped_name name = flat_map escaped_byte name

abbrev pub unreadable_text : List ℕ → List ℕ
unreadable_text name = codes "cannot read " ++ escaped_name name

-- ---- the parts of a message line

abbrev pub part_text : Part → List ℕ
part_text (Part.Text text) = text.now
part_text (Part.Escaped name) = escaped_name name.now
part_text (Part.Number number) = decimal number
part_text (Part.Failure failure) = failure_text failure.now

abbrev pub joined_parts : List Part → List ℕ
joined_parts parts = flat_map part_text parts
