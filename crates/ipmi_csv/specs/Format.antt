-- CSV as a form of output: each thing has one row, whatever the detail.
use Rattle.std.specs.Prelude.{◌≡◌, true, ℕ, List, ◌++◌, map, Some}
use Rattle.ipmi_fru.specs.Fault.{has_fault}
use Rattle.ipmi_commands.specs.Format.{Frame, Texts, no_frame}
use Rattle.ipmi_json.specs.Format.{info_object}
use Rattle.ipmi_json.specs.Fru.{AreFruMembers, elsewhere_members}
use Rattle.ipmi_json.specs.Info.{AreInfoMembers}
use Rattle.ipmi_json.specs.Sdr.{AreRecordMembers, bytes_members, fault_members}
use Rattle.ipmi_json.specs.Sel.{AreEntryMembers}
use Rattle.ipmi_json.specs.declared.object.Label.{Label}
use Rattle.ipmi_csv.specs.Cells.{csv_row}
use Rattle.ipmi_csv.specs.Columns.{columns_of}
use Rattle.ipmi_csv.specs.Values.{IsRowOf, IsRowOfSome}
use Rattle.ipmi_command_line.specs.declared.request.Separator.{Separator}
use Rattle.ipmi_commands.specs.declared.format.Table.{Table}

-- the line before the rows of a table: the keys of its columns, and of the labels
abbrev pub header : Separator → List Label → Table → List ℕ
header separator labels table = csv_row separator (columns_of table ++ map (λ label. label.key.now) labels)

abbrev pub csv_texts : Separator → List Label → Texts
csv_texts separator labels = record {
  IsRecord = λ detail id view reading text. IsRowOfSome separator labels (columns_of Table.Records) (AreRecordMembers id view reading) text;
  IsFault = λ id fault bytes text. IsRowOf separator labels (columns_of Table.Records) (fault_members id fault bytes) text;
  IsHex = λ row text. IsRowOf separator labels (columns_of Table.RawRecords) (bytes_members row.id row.next row.bytes) text;
  IsEntry = λ detail id view sensors text. IsRowOfSome separator labels (columns_of Table.Entries) (AreEntryMembers id view sensors) text;
  IsInfo = λ shelf info text. IsRowOfSome separator labels (columns_of Table.Infos) (AreInfoMembers (info_object shelf) info) text;
  IsDevice = λ detail id name inventory text. IsRowOfSome separator labels (columns_of Table.Devices) (AreFruMembers id name inventory) text;
  IsElsewhere = λ name text. IsRowOf separator labels (columns_of Table.Devices) (elsewhere_members (Some name)) text;
  names_fault = λ detail bytes. has_fault bytes;
  has_names = λ detail. true;
}

-- the names of columns come before all rows
abbrev pub csv_frame : Separator → List Label → Frame
csv_frame separator labels = record no_frame {
  has_header = true;
  IsHeader = λ table text. text ≡ header separator labels table;
}
