use Rattle.std.proofs.Common.{rules}
use Rattle.ipmi_raw.proofs.tool.Tool.request_text.Goals as goal

pub returns-in-FreeIpmi : goal.returns-in-FreeIpmi
returns-in-FreeIpmi c = search rules
