use Rattle.std.proofs.Common.{[]}
use Rattle.ipmi_json.specs.Members.{Top}
use Rattle.ipmi_json.specs.Sdr.{fault_members}
use Rattle.ipmi_commands.specs.declared.format.Table.{Table}
use Rattle.ipmi_csv.specs.Columns.{columns_of}
use Rattle.ipmi_csv.proofs.RowLemmas.{row_is_some}
use Rattle.ipmi_csv.proofs.format.CsvFormat.fault.Goals as goal

pub returns : goal.returns
returns c = record {
  text = c.line.ensures (fault_members c.args.id c.args.fault c.args.bytes.now) (c.in_ok-tell_faulty_record.ensures.more Top [] c.in_ok-row.ensures);
  some = row_is_some c.args.self.now.separator c.args.self.now.labels.now (columns_of Table.Records) (fault_members c.args.id c.args.fault c.args.bytes.now) c.line.result (c.line.ensures (fault_members c.args.id c.args.fault c.args.bytes.now) (c.in_ok-tell_faulty_record.ensures.more Top [] c.in_ok-row.ensures));
}
