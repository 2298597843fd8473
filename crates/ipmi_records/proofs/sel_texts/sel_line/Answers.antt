use Rattle.std.proofs.Common.{rules}
use Rattle.ipmi_records.proofs.sel_texts.sel_line.Goals as goal

pub returns-in_ok-write-in-OemPlain : goal.returns-in_ok-write-in-OemPlain
returns-in_ok-write-in-OemPlain c = search rules
