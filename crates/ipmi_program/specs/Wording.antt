-- The texts of the form of output that a user chose.
use Rattle.std.specs.Prelude.{List}
use Rattle.std.specs.Borrow.{Bor}
use Rattle.ipmi_command_line.specs.declared.options.Form.{Form}
use Rattle.ipmi_command_line.specs.declared.request.Format.{Format}
use Rattle.ipmi_command_line.specs.declared.request.Separator.{Separator}
use Rattle.ipmi_commands.specs.Format.{Frame, Texts, no_frame}
use Rattle.ipmi_plain.specs.Plain.{descriptive_texts, plain_texts}
use Rattle.ipmi_json.specs.Format.{json_frame, json_texts}
use Rattle.ipmi_csv.specs.Format.{csv_frame, csv_texts}
use Rattle.ipmi_commands.specs.declared.format.Table.{Table}
use Rattle.ipmi_command_line.specs.declared.task.Task.{Task}
use Rattle.ipmi_json.specs.declared.object.Label.{Label}
use Rattle.ipmi_program.specs.declared.wording.Wording.{Wording}

abbrev pub texts_in : Wording → Texts
texts_in Wording.Plain = plain_texts
texts_in Wording.Descriptive = descriptive_texts
texts_in (Wording.Json labels) = json_texts labels.now
texts_in (Wording.Csv csv) = csv_texts csv.separator csv.labels.now

-- what comes before and after them
abbrev pub frame_in : Wording → Frame
frame_in Wording.Plain = no_frame
frame_in Wording.Descriptive = no_frame
frame_in (Wording.Json labels) = json_frame labels.now
frame_in (Wording.Csv csv) = csv_frame csv.separator csv.labels.now

-- the form of output that a command line asks for, with these labels
abbrev pub wording_in : Form → Separator → Bor (List Label) → Wording
wording_in Form.Json separator labels = Wording.Json labels
wording_in Form.Csv separator labels = Wording.Csv (record { separator = separator; labels = labels })

abbrev pub wording_of : Format → Bor (List Label) → Wording
wording_of Format.Plain labels = Wording.Plain
wording_of Format.Descriptive labels = Wording.Descriptive
wording_of (Format.Labelled form separator texts) labels = wording_in form separator labels

-- the table of what a task prints
abbrev pub table_of : Task → Table
table_of Task.Hex = Table.RawRecords
table_of Task.Rewrite = Table.RawRecords
table_of (Task.List kind) = Table.Records
table_of (Task.Elist kind) = Table.Records
table_of (Task.Get name) = Table.Records
table_of (Task.Info shelf) = Table.Infos
table_of (Task.SelList count) = Table.Entries
table_of (Task.SelGet id) = Table.Entries
table_of (Task.Fru id) = Table.Devices
