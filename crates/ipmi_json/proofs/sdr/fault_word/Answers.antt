use Rattle.std.proofs.Common.{rules}
use Rattle.ipmi_json.proofs.sdr.fault_word.Goals as goal

pub returns-in-Length : goal.returns-in-Length
returns-in-Length c = search rules
