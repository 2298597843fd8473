use Rattle.ipmi_commands.specs.declared.format.Table.{Table}
use Rattle.ipmi_csv.specs.Columns.{columns_of}
use Rattle.ipmi_csv.proofs.RowLemmas.{row_told, told_is_some}
use Rattle.ipmi_csv.proofs.format.CsvFormat.device.Goals as goal

pub returns : goal.returns
returns c = record {
  text = row_told c.args.self.now.separator c.args.self.now.labels.now (columns_of Table.Devices) c.line.result c.in_ok-row.ensures c.in_ok-tell_device.ensures c.line.ensures;
  some = told_is_some c.args.self.now.separator c.args.self.now.labels.now (columns_of Table.Devices) c.line.result c.in_ok-row.ensures c.in_ok-tell_device.ensures c.line.ensures;
}
