use Rattle.std.proofs.Common.{rules}
use Rattle.ipmi_raw.proofs.piped.PipedPeer.tool.Goals as goal

pub returns : goal.returns
returns g c = search rules
