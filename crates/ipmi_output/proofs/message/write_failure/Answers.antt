use Rattle.std.proofs.Common.{rules}
use Rattle.ipmi_output.proofs.message.write_failure.Goals as goal

pub returns : goal.returns
returns g c = search rules
