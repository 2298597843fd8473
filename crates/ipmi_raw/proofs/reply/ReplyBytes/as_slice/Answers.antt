use Rattle.std.proofs.Common.{rules}
use Rattle.ipmi_raw.proofs.reply.ReplyBytes.as_slice.Goals as goal

pub returns : goal.returns
returns c = search rules
