use Rattle.std.specs.Prelude.{Some}
use Rattle.ipmi_json.specs.Format.{info_object}
use Rattle.ipmi_json.specs.Fru.{elsewhere_members}
use Rattle.ipmi_json.specs.Sdr.{bytes_members, fault_members}
use Rattle.ipmi_json.proofs.format.JsonFormat.one_text.Goals as goal

pub returns : goal.returns
returns c =
    let labels = c.args.self.now.labels.now in
    record {
      record_is = λ detail id view reading a b. c.one_record_line.ensures id view reading labels a b;
      fault_is = λ id fault bytes a b. c.one_object_line.ensures (fault_members id fault bytes) labels a b;
      hex_is = λ row a b. c.one_object_line.ensures (bytes_members row.id row.next row.bytes) labels a b;
      entry_is = λ detail id view sensors a b. c.one_entry_line.ensures id view sensors labels a b;
      info_is = λ shelf info a b. c.one_info_line.ensures (info_object shelf) info labels a b;
      device_is = λ detail id name inventory a b. c.one_fru_line.ensures id name inventory labels a b;
      elsewhere_is = λ name a b. c.one_object_line.ensures (elsewhere_members (Some name)) labels a b;
    }
