use Rattle.std.proofs.Common.{Some, []}
use Rattle.ipmi_json.specs.Members.{Top}
use Rattle.ipmi_json.specs.Fru.{elsewhere_members}
use Rattle.ipmi_commands.specs.declared.format.Table.{Table}
use Rattle.ipmi_csv.specs.Columns.{columns_of}
use Rattle.ipmi_csv.proofs.RowLemmas.{row_is_some}
use Rattle.ipmi_csv.proofs.format.CsvFormat.elsewhere.Goals as goal

pub returns : goal.returns
returns c = record {
  text = c.line.ensures (elsewhere_members (Some c.args.name.now)) (c.in_ok-tell_device_elsewhere.ensures.more Top [] c.in_ok-row.ensures);
  some = row_is_some c.args.self.now.separator c.args.self.now.labels.now (columns_of Table.Devices) (elsewhere_members (Some c.args.name.now)) c.line.result (c.line.ensures (elsewhere_members (Some c.args.name.now)) (c.in_ok-tell_device_elsewhere.ensures.more Top [] c.in_ok-row.ensures));
}
