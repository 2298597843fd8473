-- JSON as a form of output: each thing has one object, whatever the detail, and labels are its last members.
use Rattle.std.specs.Prelude.{ℕ, true, Some, List, codes}
use Rattle.ipmi_bus.specs.Shelf.{Row}
use Rattle.ipmi_bus.specs.declared.controller.Shelf.{Shelf}
use Rattle.ipmi_bus.specs.declared.controller.Shelf.TheVariants.{Sdr, Sel}
use Rattle.ipmi_fru.specs.Fault.{has_fault}
use Rattle.ipmi_commands.specs.Format.{Frame, Texts, no_frame}
use Rattle.ipmi_json.specs.declared.object.Label.{Label}
use Rattle.ipmi_json.specs.Fru.{elsewhere_members, IsFruLine}
use Rattle.ipmi_json.specs.Info.{IsInfoLine, end_members}
use Rattle.ipmi_json.specs.Object.{IsLineOf}
use Rattle.ipmi_json.specs.Sdr.{bytes_members, fault_members, IsSdrLine}
use Rattle.ipmi_json.specs.Sel.{IsSelLine}

-- the name of the object of an info
abbrev pub info_object : Shelf → List ℕ
info_object Sdr = codes "sdr_info"
info_object Sel = codes "sel_info"

abbrev pub json_texts : List Label → Texts
json_texts labels = record {
  IsRecord = λ detail id view reading text. IsSdrLine id view reading labels text;
  IsFault = λ id fault bytes text. IsLineOf (fault_members id fault bytes) labels text;
  IsHex = λ row text. IsLineOf (bytes_members row.id row.next row.bytes) labels text;
  IsEntry = λ detail id view sensors text. IsSelLine id view sensors labels text;
  IsInfo = λ shelf info text. IsInfoLine (info_object shelf) info labels text;
  IsDevice = λ detail id name inventory text. IsFruLine id name inventory labels text;
  IsElsewhere = λ name text. IsLineOf (elsewhere_members (Some name)) labels text;
  names_fault = λ detail bytes. has_fault bytes;
  has_names = λ detail. true;
}

-- the object `end` follows the objects of a run
abbrev pub json_frame : List Label → Frame
json_frame labels = record no_frame {
  has_end = true;
  IsEnd = λ status reason message count text. IsLineOf (end_members status reason message count) labels text;
}
