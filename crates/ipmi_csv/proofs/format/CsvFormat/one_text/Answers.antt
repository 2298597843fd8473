use Rattle.std.proofs.Common.{◌∙◌, sym}
use Rattle.ipmi_json.specs.Format.{info_object}
use Rattle.ipmi_csv.proofs.RowLemmas.{one_row}
use Rattle.ipmi_csv.proofs.format.CsvFormat.one_text.Goals as goal

pub returns : goal.returns
returns c =
    let members = c.one_list_of_members.ensures in
    record {
      record_is = λ detail id view reading a b. one_row _ _ _ _ a b (members.record_is id view reading);
      fault_is = λ id fault bytes a b h k. h ∙ sym k;
      hex_is = λ row a b h k. h ∙ sym k;
      entry_is = λ detail id view sensors a b are. one_row _ _ _ _ a b (members.entry_is id view sensors are);
      info_is = λ shelf info a b are. one_row _ _ _ _ a b (members.info_is (info_object shelf) info are);
      device_is = λ detail id name inventory a b. one_row _ _ _ _ a b (members.device_is id name inventory);
      elsewhere_is = λ name a b h k. h ∙ sym k;
    }
