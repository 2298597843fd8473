use Rattle.ipmi_commands.specs.declared.format.Table.{Table}
use Rattle.ipmi_csv.specs.Columns.{columns_of}
use Rattle.ipmi_csv.proofs.RowLemmas.{record_told}
use Rattle.ipmi_csv.proofs.format.CsvFormat.record.Goals as goal

pub returns : goal.returns
returns c =
    record_told c.args.self.now.separator c.args.self.now.labels.now (columns_of Table.Records) c.line.result c.in_ok-row.ensures c.in_ok-tell_record.ensures c.line.ensures
