use Rattle.std.proofs.Common.{[]}
use Rattle.ipmi_json.specs.Members.{Top}
use Rattle.ipmi_json.specs.Sdr.{bytes_members}
use Rattle.ipmi_csv.proofs.format.CsvFormat.hex.Goals as goal

pub returns : goal.returns
returns c = c.in_ok-line.ensures (bytes_members c.args.lent.now.id c.args.lent.now.next c.args.lent.now.bytes.now) (c.in_ok-tell_raw_record.ensures.more Top [] c.in_ok-row.ensures)
